-- The table's rows and their flags (document 01, "Table in memory").
use Rattle.std.specs.Prelude.{ℕ, suc, ◌+◌, ◌-◌, ◌*◌, ◌/◌, ◌%◌, Bool, true, false, cond, ◌&&◌, List, [], ◌∷◌, get_or, set, eqb}
use Rattle.layout.specs.declared.Slot.{Slot}
use Rattle.layout.specs.declared.Block.{Block}

-- "lent 32-bit words, two for each slot: block and flags"
abbrev pub row_block : List ℕ → Slot → Block
row_block table s = record { 0 = get_or table (2 * s.0) 0 }

abbrev pub row_flags : List ℕ → Slot → ℕ
row_flags table s = get_or table (2 * s.0 + 1) 0

abbrev pub set_flags : List ℕ → Slot → ℕ → List ℕ
set_flags table s flags = set table (2 * s.0 + 1) flags

abbrev pub set_row : List ℕ → Slot → Block → ℕ → List ℕ
set_row table s b flags = set_flags (set table (2 * s.0) b.0) s flags

-- "Flags as stored, plus 8 for used": 1 valid, 2 dirty, 4 writing, 8 used
abbrev pub valid : ℕ → Bool
valid flags = eqb (flags % 2) 1

abbrev pub dirty : ℕ → Bool
dirty flags = eqb (flags / 2 % 2) 1

abbrev pub writing : ℕ → Bool
writing flags = eqb (flags / 4 % 2) 1

abbrev pub used : ℕ → Bool
used flags = eqb (flags / 8 % 2) 1

-- "a change to one flag leaves the others": flags without one of them, and with used
abbrev pub without_dirty : ℕ → ℕ
without_dirty flags = cond (dirty flags) (flags - 2) flags

abbrev pub without_writing : ℕ → ℕ
without_writing flags = cond (writing flags) (flags - 4) flags

abbrev pub without_used : ℕ → ℕ
without_used flags = cond (used flags) (flags - 8) flags

abbrev pub with_used : ℕ → ℕ
with_used flags = cond (used flags) flags (flags + 8)

-- a clean row's flags as it is opened for writing: dirty and writing, too
abbrev pub with_writing : ℕ → ℕ
with_writing flags = flags + 6

-- a test at every row, with its slot
unfoldable pub each_row : (ℕ → ℕ → ℕ → Bool) → ℕ → List ℕ → Bool
each_row test s [] = true
each_row test s (block ∷ []) = true
each_row test s (block ∷ flags ∷ rows) = test s block flags && each_row test (suc s) rows

-- how many rows are writing, and whether all are (11: "while 63 are open", 12: "all are open")
unfoldable pub open_rows : List ℕ → ℕ
open_rows [] = 0
open_rows (block ∷ []) = 0
open_rows (block ∷ flags ∷ rows) = elim (writing flags) [ true ↦ suc (open_rows rows) | false ↦ open_rows rows ]

abbrev pub all_writing : List ℕ → Bool
all_writing table = each_row (λ s block flags. writing flags) 0 table
