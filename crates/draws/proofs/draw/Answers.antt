use mathlib.Core.Path.{refl}
use Rattle.draws.specs.Draws.{drawn}
use Rattle.draws.proofs.draw.Goals as goal

-- src/lib.rt:16:1
pub returns : goal.returns
unfolding drawn
returns c = refl
