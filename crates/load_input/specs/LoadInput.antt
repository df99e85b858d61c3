-- The input of a load (document 02, N10: "Seed and number of draws are the whole input: two decimal lines without leading zeros, each
-- ended by byte 10").
use Rattle.std.specs.Prelude.{ℕ, ◌-◌, Bool, true, false, ◌&&◌, List, [], ◌∷◌, eqb, leb}
use Rattle.std.specs.Prelude.{Option, Some, None}
use Rattle.layout.specs.LabelPage.{Number, number_from}
use Rattle.text.specs.Numbers.{fitting}
use Rattle.load_input.specs.declared.Input.{Input}

-- `0`, or a digit from 1 to 9 and up to 9 more, then byte 10
unfoldable pub line : List ℕ → Option Number
line [] = None
line (b ∷ bytes) =
    elim (eqb b 48) [
      | true ↦ fitting (number_from 0 0 bytes)
      | false ↦ elim (leb 49 b && leb b 57) [ true ↦ fitting (number_from 9 (b - 48) bytes) | false ↦ None ]
    ]

abbrev pub then_line : Option Number → (ℕ → List ℕ → Option Input) → Option Input
then_line None f = None
then_line (Some n) f = f n.value n.rest

-- nothing after the two lines
abbrev pub ended : List ℕ → Option Input → Option Input
ended [] i = i
ended (b ∷ bytes) i = None

-- "a seed of 0" is refused
abbrev pub illegal_if : Bool → Option Input → Option Input
illegal_if true i = None
illegal_if false i = i

abbrev pub taken : ℕ → ℕ → Option Input
taken seed draws = Some (record { seed = seed; draws = draws })

-- seed and draws, or no legal input
unfoldable pub input_of : List ℕ → Option Input
input_of bytes =
    then_line (line bytes) λ seed rest.
    illegal_if (eqb seed 0) (then_line (line rest) λ draws rest.
    ended rest (taken seed draws))
