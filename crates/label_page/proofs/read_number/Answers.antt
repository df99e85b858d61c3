use mathlib.Core.Path.{sym, ap, ◌∙◌}
use Rattle.layout.specs.LabelPage.{number}
use Rattle.layout.proofs.Decimal.{number_none, number-first, number-low, number_high}
use Rattle.text.specs.Numbers.{fitting}
use Rattle.label_page.proofs.LabelReads.{fitting_number, empty}
use native.Mathlib.Omega.{arith}
use Rattle.label_page.proofs.read_number.Goals as goal
use Rattle.label_page.proofs.read_number.Goals.{in_default-via-then-first-lt49, in_default-via-else-first-lt49+else-first-lt58}

pub returns-in_err-first : goal.returns-in_err-first
returns-in_err-first c =
    rw (c.from_residual.ensures, empty c.args.bytes.now c.in_err-first.ensures.cases, number_none)

pub returns-in-49-to-57 : goal.returns-in-49-to-57
returns-in-49-to-57 c =
    let bytes = c.args.bytes.now in
    let e = ap number c.in_ok-first.ensures.cases.0 ∙ number-first _ _ (omega arith) (omega arith) in
    rw c.from.ensures at c.read_digits.ensures ∙ ap fitting (sym e) ∙ fitting_number bytes

pub returns-in_default : goal.returns-in_default
returns-in_default c =
    rw c.in_ok-first.ensures.cases.0 (
    elim c.in_default.branch [
      | in_default-via-then-first-lt49 w ↦ sym (number-low _ _ (omega arith))
      | in_default-via-else-first-lt49+else-first-lt58 w ↦ sym (number_high _ _ (omega arith))
    ]
    )
