use mathlib.Core.Path.{sym, ap, ◌∙◌}
use Rattle.layout.specs.Places.{within_limits}
use Rattle.layout.proofs.ZeroLaws.{zero_to_end}
use Rattle.label_page.proofs.LabelReads.{kept_if_legal}
use Rattle.label_page.proofs.legal.Goals as goal
use Rattle.label_page.proofs.legal.Goals.{then-within_limits, else-within_limits}

pub returns : goal.returns
returns c =
    let a = c.args in
    let k = c.label-l.ensures in
    let limits = ap within_limits (sym k) ∙ sym c.within_limits.ensures in
    elim c.if-within_limits.branch [
      | then-within_limits w ↦
          rw (c.then_some.ensures, w.then_some-is, w.all_zero.ensures, zero_to_end a.bytes.now 0, k, limits ∙ w.if-within_limits.true)
          (kept_if_legal _ _)
      | else-within_limits w ↦
          rw (c.then_some.ensures, w.then_some-is, w.if-within_limits.false, limits ∙ w.if-within_limits.false)
    ]
