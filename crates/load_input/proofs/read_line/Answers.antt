use mathlib.Core.Path.{sym, ap, ◌∙◌}
use Rattle.load_input.specs.LoadInput.{line}
use Rattle.load_input.proofs.InputLaws.{line_none, line_zero, line_digit, line_low, line_high}
use native.Mathlib.Omega.{arith}
use Rattle.load_input.proofs.read_line.Goals as goal
use Rattle.load_input.proofs.read_line.Goals.{in_default-via-then-first-lt48, in_default-via-else-first-lt48+else-first-lt58}

pub returns-in_err-first : goal.returns-in_err-first
returns-in_err-first c = rw (c.from_residual.ensures, line_none c.args.bytes.now c.in_err-first.ensures.cases)

pub returns-in-48 : goal.returns-in-48
returns-in-48 c = c.read_digits.ensures ∙ sym (ap line c.in_ok-first.ensures.cases.0 ∙ line_zero _ _ (omega arith))

pub returns-in-49-to-57 : goal.returns-in-49-to-57
returns-in-49-to-57 c =
    rw c.from.ensures at c.read_digits-in-49-to-57.ensures
    ∙ sym (ap line c.in_ok-first.ensures.cases.0 ∙ line_digit _ _ (omega arith) (omega arith))

pub returns-in_default : goal.returns-in_default
returns-in_default c =
    rw c.in_ok-first.ensures.cases.0 (
    elim c.in_default.branch [
      | in_default-via-then-first-lt48 w ↦ sym (line_low _ _ (omega arith))
      | in_default-via-else-first-lt48+else-first-lt58 w ↦ sym (line_high _ _ (omega arith))
    ]
    )
