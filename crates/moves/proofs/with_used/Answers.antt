use Rattle.layout.proofs.PlaceLaws.{tests}
use Rattle.moves.proofs.with_used.Goals as goal

pub returns-then-flags-eq1 : goal.returns-then-flags-eq1
returns-then-flags-eq1 c = search tests

pub returns : goal.returns
returns c = search tests
