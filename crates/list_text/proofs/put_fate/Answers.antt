use mathlib.Core.Path.{refl}
use Rattle.fields.proofs.WrittenLaws.{written-text, written_as}
use native.Mathlib.Omega.{arith}
use Rattle.list_text.proofs.put_fate.Goals as goal

pub returns-then-fate : goal.returns-then-fate
returns-then-fate c = rw c.if-fate.true (written-text _ _ _ _ c.put_text.ensures)

pub returns-else-fate : goal.returns-else-fate
returns-else-fate c = rw c.if-fate.false (written_as (written-text _ _ _ _ c.put_text-else-fate.ensures) refl (omega arith))
