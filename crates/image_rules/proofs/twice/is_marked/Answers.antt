use mathlib.Core.Path.{refl}
use Rattle.image_rules.specs.Twice.{bit_of}
use Rattle.image_rules.proofs.twice.is_marked.Goals as goal

pub returns : goal.returns
unfolding bit_of
returns c = refl
