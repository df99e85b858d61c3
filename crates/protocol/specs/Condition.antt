-- A block's condition, on which every call rests: not cached, clean, dirty, open for writing, open for fetch.
use Rattle.std.specs.Prelude.{ℕ, suc, ◌+◌, Bool, true, false, ◌&&◌, List, [], ◌∷◌, ◌++◌, map, eqb}
use Rattle.std.specs.Prelude.{Option, Some, None}
use Rattle.layout.specs.declared.Slot.{Slot}
use Rattle.layout.specs.declared.Block.{Block}
use Rattle.protocol.specs.declared.Condition.{Condition}
use Rattle.protocol.specs.declared.Condition.TheVariants.{NotCached, Clean, Dirty, Writing, Fetching}
use Rattle.protocol.specs.Rows.{row_flags, valid, dirty, writing}

-- the lowest slot from s on whose row is valid and for the block, in the rows from s on ("a block in two rows .. its
-- lowest slot counts")
unfoldable pub slot_from : ℕ → List ℕ → Block → Option Slot
slot_from s [] b = None
slot_from s (block ∷ []) b = None
slot_from s (block ∷ flags ∷ rows) b =
    elim (valid flags && eqb block b.0) [ true ↦ Some (record { 0 = s }) | false ↦ slot_from (suc s) rows b ]

abbrev pub slot_of : List ℕ → Block → Option Slot
slot_of table b = slot_from 0 table b

-- what a valid row's flags make of it: 7 and 15 are open for writing, 5 and 13 open for fetch, 3 and 11 dirty, 1 and 9 clean
abbrev pub open_as : Bool → Slot → Condition
open_as true s = Writing s
open_as false s = Fetching s

abbrev pub closed_as : Bool → Slot → Condition
closed_as true s = Dirty s
closed_as false s = Clean s

abbrev pub condition_at : List ℕ → Option Slot → Condition
condition_at table None = NotCached
condition_at table (Some s) =
    elim (writing (row_flags table s)) [ true ↦ open_as (dirty (row_flags table s)) s | false ↦ closed_as (dirty (row_flags table s)) s ]

unfoldable pub condition_of : List ℕ → Block → Condition
condition_of table b = condition_at table (slot_of table b)

-- document 02, N6: "a word is the slot plus 1, or 0 where the block is open or not cached"
abbrev pub word_of : Condition → ℕ
word_of NotCached = 0
word_of (Clean s) = s.0 + 1
word_of (Dirty s) = s.0 + 1
word_of (Writing s) = 0
word_of (Fetching s) = 0

-- the words of a list of blocks, in its order
abbrev pub words_of : List ℕ → List ℕ → List ℕ
words_of table blocks = map (λ b. word_of (condition_of table (record { 0 = b }))) blocks

-- the slot of a clean or a dirty block: those slots of a list's blocks, in its order
abbrev pub closed_slot : Condition → List Slot
closed_slot NotCached = []
closed_slot (Clean s) = s ∷ []
closed_slot (Dirty s) = s ∷ []
closed_slot (Writing s) = []
closed_slot (Fetching s) = []

unfoldable pub closed_slots : List ℕ → List ℕ → List Slot
closed_slots table [] = []
closed_slots table (b ∷ blocks) = closed_slot (condition_of table (record { 0 = b })) ++ closed_slots table blocks

-- what 8 to 12 ask of a condition: open; cached
abbrev pub is_open : Condition → Bool
is_open NotCached = false
is_open (Clean s) = false
is_open (Dirty s) = false
is_open (Writing s) = true
is_open (Fetching s) = true

abbrev pub is_cached : Condition → Bool
is_cached NotCached = false
is_cached (Clean s) = true
is_cached (Dirty s) = true
is_cached (Writing s) = true
is_cached (Fetching s) = true

-- a fetch's 8: open for writing
abbrev pub is_writing : Condition → Bool
is_writing NotCached = false
is_writing (Clean s) = false
is_writing (Dirty s) = false
is_writing (Writing s) = true
is_writing (Fetching s) = false

-- 10: "open for fetch or cached and not open" (document 02, N9)
abbrev pub has_other : Condition → Bool
has_other NotCached = false
has_other (Clean s) = true
has_other (Dirty s) = true
has_other (Writing s) = false
has_other (Fetching s) = true

-- "open for writing, or dirty and not open"
abbrev pub takes_write : Condition → Bool
takes_write NotCached = false
takes_write (Clean s) = false
takes_write (Dirty s) = true
takes_write (Writing s) = true
takes_write (Fetching s) = false

-- "open for fetch"
abbrev pub takes_fetch : Condition → Bool
takes_fetch NotCached = false
takes_fetch (Clean s) = false
takes_fetch (Dirty s) = false
takes_fetch (Writing s) = false
takes_fetch (Fetching s) = true
