use mathlib.Core.Path.{sym, ap, ◌∙◌}
use Rattle.text.specs.Numbers.{number_read}
use Rattle.load_input.proofs.InputLaws.{first_none, seed_zero, second_none, input_is}
use borrow.Author.Tests.{eq-eqb}
use Rattle.load_input.proofs.read_input.Goals as goal
use Rattle.load_input.proofs.read_input.Goals.{then-seed-ne0, else-seed-ne0}

pub returns-in_err-seed : goal.returns-in_err-seed
returns-in_err-seed c =
    c.from_residual.ensures ∙ first_none _ (sym c.read_line.ensures ∙ ap number_read c.in_err-seed.was)

pub returns-in_err-draws : goal.returns-in_err-draws
returns-in_err-draws c =
    let e = sym c.read_line.ensures ∙ ap number_read c.in_ok-seed.was in
    c.from_residual-in_err-draws.ensures ∙ second_none _ _ _ e (sym c.read_line-2.ensures ∙ ap number_read c.in_err-draws.was)

pub returns : goal.returns
returns c =
    let e = sym c.read_line.ensures ∙ ap number_read c.in_ok-seed.was in
    let f = sym c.read_line-2.ensures ∙ ap number_read c.in_ok-draws.was in
    elim c.if-seed-ne0.branch [
      | then-seed-ne0 w ↦ rw (c.then_some.ensures, w.then_some-is) (input_is _ _ _ e w.if-seed-ne0.true _ _ f _ w.is_empty.ensures)
      | else-seed-ne0 w ↦ rw (c.then_some.ensures, w.then_some-is, eq-eqb _ 0 w.if-seed-ne0.false) (seed_zero _ _ _ e w.if-seed-ne0.false)
    ]
