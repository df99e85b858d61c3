use Rattle.layout.specs.Window.{array_of}
use mathlib.Core.Path.{refl}
use Rattle.record.proofs.window.empty.Goals as goal

pub returns : goal.returns
unfolding array_of
returns c = refl
