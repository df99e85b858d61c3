-- Inputs of a load, computed: those that are taken, and those that document 02 refuses.
use Prim.Native.Nat.{ℕ}
use mathlib.Core.Path.{◌≡◌, refl}
use mathlib.Core.List.{List, [], ◌∷◌, map}
use lib.ListN.{replicate}
use Rattle.layout.specs.LabelPage.{number_from}
use Rattle.std.specs.Prelude.{None}
use Rattle.load_input.specs.LoadInput.{line, input_of, taken}

taken_1 : input_of (49 ∷ 10 ∷ 49 ∷ 48 ∷ 10 ∷ []) ≡ taken 1 10
unfolding input_of line number_from
taken_1 = refl

taken_2 : input_of (52 ∷ 50 ∷ 57 ∷ 52 ∷ 57 ∷ 54 ∷ 55 ∷ 50 ∷ 57 ∷ 53 ∷ 10 ∷ 48 ∷ 10 ∷ []) ≡ taken 4294967295 0
unfolding input_of line number_from
taken_2 = refl

taken_3 : input_of (49 ∷ 10 ∷ 52 ∷ 50 ∷ 57 ∷ 52 ∷ 57 ∷ 54 ∷ 55 ∷ 50 ∷ 57 ∷ 53 ∷ 10 ∷ []) ≡ taken 1 4294967295
unfolding input_of line number_from
taken_3 = refl

-- in order: empty, seed `0`, a leading zero, one of the draws, a sign, no last byte 10, byte 13, a third line, 4,294,967,296, so many
-- draws, eleven digits, a NUL, one line
refusals : List (List ℕ)
refusals =
    ([])
    ∷ (48 ∷ 10 ∷ 49 ∷ 10 ∷ [])
    ∷ (48 ∷ 49 ∷ 10 ∷ 49 ∷ 10 ∷ [])
    ∷ (49 ∷ 10 ∷ 48 ∷ 48 ∷ 10 ∷ [])
    ∷ (43 ∷ 49 ∷ 10 ∷ 49 ∷ 10 ∷ [])
    ∷ (49 ∷ 10 ∷ 49 ∷ [])
    ∷ (49 ∷ 13 ∷ 10 ∷ 49 ∷ 10 ∷ [])
    ∷ (49 ∷ 10 ∷ 49 ∷ 10 ∷ 49 ∷ 10 ∷ [])
    ∷ (52 ∷ 50 ∷ 57 ∷ 52 ∷ 57 ∷ 54 ∷ 55 ∷ 50 ∷ 57 ∷ 54 ∷ 10 ∷ 49 ∷ 10 ∷ [])
    ∷ (49 ∷ 10 ∷ 52 ∷ 50 ∷ 57 ∷ 52 ∷ 57 ∷ 54 ∷ 55 ∷ 50 ∷ 57 ∷ 54 ∷ 10 ∷ [])
    ∷ (49 ∷ 48 ∷ 48 ∷ 48 ∷ 48 ∷ 48 ∷ 48 ∷ 48 ∷ 48 ∷ 48 ∷ 48 ∷ 10 ∷ 49 ∷ 10 ∷ [])
    ∷ (49 ∷ 10 ∷ 49 ∷ 10 ∷ 0 ∷ [])
    ∷ (49 ∷ 10 ∷ [])
    ∷ []

all_illegal : map input_of refusals ≡ replicate 13 None
unfolding refusals input_of line number_from
all_illegal = refl
