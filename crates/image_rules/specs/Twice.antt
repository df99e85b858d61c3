-- A block in two entries, found by a bit for each block of a range of 524,288.
use Rattle.std.specs.Prelude.{ℕ, ◌+◌, ◌-◌, ◌/◌, ◌%◌, ◌^◌, min, Bool, true, false, ◌&&◌, List, [], ◌∷◌, get_or, set, eqb, leb, ltb}
use Rattle.std.specs.Int.Bits.{bit_or}
use Rattle.protocol.specs.Rows.{valid}

-- bit b of a map of 32-bit words; the map with it set
unfoldable pub bit_of : List ℕ → ℕ → Bool
bit_of map b = eqb (get_or map (b / 32) 0 / 2 ^ (b % 32) % 2) 1

unfoldable pub marked : List ℕ → ℕ → List ℕ
marked map b = set map (b / 32) (bit_or (get_or map (b / 32) 0) (2 ^ (b % 32)))

-- a block lies in the range that begins at `start`
abbrev pub in_span : ℕ → ℕ → Bool
in_span start block = leb start block && ltb (block - start) 524288

-- whether a row's block is new, and the map after it
pub record Visit : Type 0 where
  pub fresh : Bool
  pub map : List ℕ

abbrev pub visited_at : Bool → List ℕ → ℕ → Visit
visited_at true map b = record { fresh = false; map = map }
visited_at false map b = record { fresh = true; map = marked map b }

abbrev pub visited_if : Bool → List ℕ → ℕ → Visit
visited_if true map b = visited_at (bit_of map b) map b
visited_if false map b = record { fresh = true; map = map }

-- only a valid row's block in the range counts
abbrev pub visited : ℕ → List ℕ → ℕ → ℕ → Visit
visited start map block flags = visited_if (valid flags && in_span start block) map (block - start)

-- the slot after the last one of the page that begins with slot s
abbrev pub page_end : ℕ → ℕ → ℕ
page_end s slots = min (s + 240) slots

unfoldable pub all_fresh : ℕ → List ℕ → List ℕ → Bool
all_fresh start map [] = true
all_fresh start map (block ∷ []) = true
all_fresh start map (block ∷ flags ∷ rows) =
    (visited start map block flags).fresh && all_fresh start (visited start map block flags).map rows
