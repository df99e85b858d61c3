use lib.ListN.{get_or}
use Rattle.locating.specs.Places.{noted_as}
use Rattle.locating.proofs.WordLaws.{Renewed}
use Rattle.locating.proofs.pass.note.Given as goal

abbrev pub invariant-loop-j : goal.invariant-loop-j
invariant-loop-j l = Renewed (λ i w. noted_as w (get_or l.blocks i 0) l.block l.here) l.initial.words l.words l.j
