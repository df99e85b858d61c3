use native.Mathlib.Omega.{arith}
use Rattle.layout.proofs.PlaceLaws.{data_few}
use Rattle.c_answers.proofs.seen.in_ssd.Goals as goal

pub overflow_mul-result : goal.overflow_mul-result
overflow_mul-result c = omega (arith, c.data_place.ensures, data_few c.args.l c.args.s)

pub returns : goal.returns
returns c = rw c.data_place.ensures
