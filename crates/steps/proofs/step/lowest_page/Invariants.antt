use mathlib.Core.Path.{◌≡◌}
use lib.ListN.{drop}
use Rattle.protocol.specs.Plan.{lowest_from, lowest_page}
use Rattle.steps.proofs.step.lowest_page.Given as goal

abbrev pub invariant-loop-i : goal.invariant-loop-i
invariant-loop-i l = lowest_from l.p (drop l.i l.slots) ≡ lowest_page l.slots
