use mathlib.Core.Path.{◌≡◌}
use Rattle.locating.specs.Places.{condition_there, slots_there}
use lib.ListN.{drop}
use Rattle.protocol.specs.Condition.{word_of}
use Rattle.protocol.specs.Perform.{used_all}
use Rattle.locating.proofs.WordLaws.{Renewed}
use Rattle.locating.proofs.PlaceLaws.{Still}
use Rattle.locating.proofs.places.use_places.Given as goal

abbrev pub invariant-loop-word : goal.invariant-loop-word
invariant-loop-word l = Renewed (λ i w. word_of (condition_there l.initial.table w)) l.initial.words l.words l.word-index × Still l.initial.table l.table
    × (used_all (slots_there l.initial.table (drop l.word-index l.initial.words)) l.table ≡ used_all (slots_there l.initial.table l.initial.words) l.initial.table)
