use mathlib.Core.List.{append_assoc}
use Rattle.layout.specs.LabelPage.{layout_line}
use Rattle.list_text.specs.ListText.{head_text}
use Rattle.fields.proofs.WrittenLaws.{written-text, written_more, written_as}
use native.Mathlib.Omega.{arith}
use Rattle.list_text.proofs.put_head.Goals as goal

pub returns : goal.returns
unfolding head_text
returns c =
    let size = c.requires in
    let h = written-text _ _ 0 layout_line c.put_text.ensures in
    written_as
    (written_more
    (written_more (written_more (written_more h c.put_field-b.ensures (omega (arith, size))) c.put_field-n.ensures (omega (arith, size)))
    c.put_field-o.ensures (omega (arith, size)))
    c.put_field.ensures (omega (arith, size)))
    (simp append_assoc) (omega arith)
