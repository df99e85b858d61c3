-- The input of a load in document 02's words: the decimal lines of two numbers, and nothing else.
use Rattle.std.specs.Prelude.{ℕ, ◌≤◌, ◌<◌, ◌≡◌, ◌≢◌, List, [], ◌∷◌, ◌++◌, length}
use Rattle.layout.specs.LabelPage.{decimal}
use Rattle.load_input.specs.LoadInput.{input_of, taken}

-- "two decimal lines without leading zeros, each ended by byte 10"
abbrev pub input_text : ℕ → ℕ → List ℕ
input_text seed draws = decimal seed ++ (10 ∷ (decimal draws ++ (10 ∷ [])))

-- "numbers below 4,294,967,296", and no "seed of 0"
pub record Legal (seed draws : ℕ) : Type 0 where
  pub seed_some : seed ≢ 0
  pub seed_low : seed < 4294967296
  pub draws_low : draws < 4294967296

-- an input is taken exactly if it is the text of two such numbers; then it has at most 22 bytes
pub record TakenExactly (bytes : List ℕ) : Type 0 where
  pub if_text : (seed draws : ℕ) → Legal seed draws → bytes ≡ input_text seed draws → input_of bytes ≡ taken seed draws
  pub if_taken : (seed draws : ℕ) → input_of bytes ≡ taken seed draws
      → Legal seed draws × (bytes ≡ input_text seed draws) × (length bytes ≤ 22)
