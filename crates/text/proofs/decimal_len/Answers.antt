use mathlib.Core.Path.{ap}
use lib.ListN.{length}
use Rattle.layout.proofs.Decimal.{decimal-size, decimal-one, length_more}
use native.Mathlib.Omega.{arith}
use Rattle.text.proofs.decimal_len.Goals as goal

pub overflow_add-count : goal.overflow_add-count
overflow_add-count c = omega (arith, decimal-size c.args.n, decimal-size c.loop-rest.rest)

pub loop-rest-preserved : goal.loop-rest-preserved
loop-rest-preserved c = omega (arith, length_more c.loop-rest.rest (omega arith) (omega arith))

pub returns : goal.returns
returns c = omega (arith, ap length (decimal-one c.loop-rest.rest (omega arith)))
