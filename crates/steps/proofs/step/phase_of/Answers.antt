use native.Mathlib.Omega.{arith}
use Rattle.steps.proofs.MendLaws.{phase_some}
use Rattle.steps.proofs.step.phase_of.Goals as goal

pub returns-else-count-eq0 : goal.returns-else-count-eq0
returns-else-count-eq0 c = phase_some _ (λ q. omega (arith, c.if-count-eq0.false, q))
