use mathlib.Core.List.{append_assoc}
use Rattle.fields.proofs.WrittenLaws.{written_more, written_as}
use Rattle.load_text.specs.LoadText.{load_text}
use native.Mathlib.Omega.{arith}
use Rattle.load_text.proofs.put_load.Goals as goal

pub returns : goal.returns
unfolding load_text
returns c =
    let size = c.requires in
    written_as
    (written_more
    (written_more (written_more c.put_field-d.ensures c.put_field-r.ensures (omega (arith, size)))
    c.put_field-e.ensures (omega (arith, size)))
    c.put_field.ensures (omega (arith, size)))
    (simp append_assoc) (omega arith)
