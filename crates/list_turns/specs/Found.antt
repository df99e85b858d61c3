-- Where the one pass found a block, while rows are taken by other blocks.
use Rattle.std.specs.Prelude.{ℕ, zero, suc, ◌+◌, ◌*◌, ◌≤◌, ◌<◌, ◌≡◌, ◌≢◌, true, List, get_or}
use Rattle.protocol.specs.Rows.{valid}

-- no row below n holds the block
abbrev pub Unheld : ℕ → List ℕ → ℕ → Type 0
Unheld n table b = (s : ℕ) → s < n → valid (get_or table (2 * s + 1) 0) ≡ true → get_or table (2 * s) 0 ≢ b

-- the rows below the slot that a word names, or all rows where it names none
abbrev pub bound : ℕ → ℕ → ℕ
bound slots zero = slots
bound slots (suc s) = s

-- a block's lowest slot, found before: no row below it holds the block
abbrev pub Found : ℕ → List ℕ → ℕ → ℕ → Type 0
Found slots table b word = (word ≤ slots) × Unheld (bound slots word) table b
