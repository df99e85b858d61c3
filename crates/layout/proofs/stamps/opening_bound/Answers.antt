use native.Mathlib.Omega.{arith}
use Rattle.layout.proofs.StampLaws.{stamps_enough}
use Rattle.layout.proofs.stamps.opening_bound.Goals as goal

pub overflow_sub-result : goal.overflow_sub-result
overflow_sub-result c = omega (arith, stamps_enough c.args.l)
