use mathlib.Core.List.{append_assoc}
use Rattle.list_text.specs.ListText.{entry_text}
use Rattle.fields.proofs.WrittenLaws.{written_more, written_as}
use native.Mathlib.Omega.{arith}
use Rattle.list_text.proofs.put_entry.Goals as goal

pub returns : goal.returns
unfolding entry_text
returns c =
    written_as
    (written_more
    (written_more (written_more c.put_field-b.ensures c.put_field-f.ensures (omega arith)) c.put_field-end.ensures (omega arith))
    c.put_fate.ensures (omega arith))
    (simp append_assoc) (omega arith)
