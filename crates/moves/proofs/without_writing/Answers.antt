use native.Mathlib.Omega.{arith}
use Rattle.layout.proofs.PlaceLaws.{tests}
use Rattle.moves.proofs.without_writing.Goals as goal

pub returns-then-flags-eq1 : goal.returns-then-flags-eq1
returns-then-flags-eq1 c = (search tests, omega arith)

pub returns : goal.returns
returns c = (search tests, omega arith)
