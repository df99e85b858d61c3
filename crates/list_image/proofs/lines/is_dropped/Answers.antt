use mathlib.Core.Path.{sym, ◌∙◌}
use borrow.Author.Tests.{eq-eqb, ne_eqb}
use Rattle.record.proofs.WindowLaws.{listed-any}
use Rattle.list_image.specs.Listing.{dropped}
use Rattle.list_image.proofs.lines.is_dropped.Goals as goal

pub returns-then-flags-eq1 : goal.returns-then-flags-eq1
unfolding dropped
returns-then-flags-eq1 c = rw (eq-eqb _ _ c.if-flags-eq1.true) (c.contains.ensures.value ∙ listed-any _ _)

pub returns-else-flags-eq1 : goal.returns-else-flags-eq1
unfolding dropped
returns-else-flags-eq1 c = rw (ne_eqb _ _ c.if-flags-eq1.false)
