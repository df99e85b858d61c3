use mathlib.Core.Path.{◌≡◌}
use lib.ListN.{take}
use Rattle.layout.specs.Window.{window_from}
use Rattle.protocol.specs.Recovery.{off_page}
use Rattle.steps.proofs.step.off_page.Given as goal

abbrev pub invariant-loop-s : goal.invariant-loop-s
invariant-loop-s l = l.left ≡ window_from (off_page l.p (take l.s-index l.slots))
