use Rattle.std.proofs.lemmas.Grind.{common_steps}
use Rattle.std.proofs.Common.{arith}
use Rattle.layout.specs.Places.{within_limits}
use Rattle.layout.proofs.places.within_limits.Goals as goal

pub returns-then-l-ge1-2 : goal.returns-then-l-ge1-2
unfolding within_limits
returns-then-l-ge1-2 c = grind (arith, common_steps)

pub returns-else-l-ge1-2 : goal.returns-else-l-ge1-2
unfolding within_limits
returns-else-l-ge1-2 c = grind (arith, common_steps)
