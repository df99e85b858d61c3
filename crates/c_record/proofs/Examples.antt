-- Computed cases of a record's words: each field by its place.
use mathlib.Core.Path.{◌≡◌, refl}
use mathlib.Core.Bool.{true}
use mathlib.Core.List.{[], ◌∷◌}
use lib.ListN.{take, drop, replicate}
use Rattle.layout.specs.Places.{label_of}
use Rattle.layout.specs.Window.{array_of}
use Rattle.record.specs.declared.Record.{Record}
use Rattle.record.specs.declared.Phase.TheVariants.{Ready}
use Rattle.record.specs.Callers.{caller_array}
use Rattle.record.specs.Record.{record_of, with_callers}
use Rattle.c_record.specs.Words.{numbers_of, words_of}

-- 4 slots and 8 blocks, hand 3, newest stamp 7, ready and unsettled, slots 2 and 1 open: 2 by people, 1 by the import
abbrev example : Record
example = with_callers (record_of (label_of 4 8) (record { 0 = 3 }) 7 Ready true (record { 0 = 2 } ∷ record { 0 = 1 } ∷ [])) (0 ∷ 1 ∷ [])

-- words 0 to 70: eight numbers, then the window's 63 places
first-words : take 71 (words_of example) ≡ 4 ∷ 8 ∷ 3 ∷ 7 ∷ 2 ∷ 0 ∷ 1 ∷ 2 ∷ 2 ∷ 1 ∷ replicate 61 0
unfolding words_of numbers_of array_of caller_array
first-words = refl

-- words 71 to 133: the callers of those places
last_words : drop 71 (words_of example) ≡ 0 ∷ 1 ∷ replicate 61 0
unfolding words_of numbers_of array_of caller_array
last_words = refl
