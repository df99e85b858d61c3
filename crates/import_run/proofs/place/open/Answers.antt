use mathlib.Core.Path.{sym, ◌∙◌}
use native.Mathlib.Omega.{arith}
use borrow.Author.Tests.{leb-false}
use Rattle.layout.proofs.StampLaws.{stamp_fits}
use Rattle.import_run.proofs.place.open.Goals as goal

pub overflow_add-run : goal.overflow_add-run
overflow_add-run c =
    let a = c.args in
    omega (arith, stamp_fits a.l, leb-false _ a.run.now.newest (sym c.is_spent.ensures ∙ c.if-is_spent.false))
