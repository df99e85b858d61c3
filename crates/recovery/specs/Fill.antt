-- The table of a reopened box in two passes: every valid entry is kept, then the pending slots' rows are zeroed.
use Rattle.std.specs.Prelude.{ℕ, ◌%◌, Bool, true, false, List, [], ◌∷◌}
use Rattle.layout.specs.declared.Slot.{Slot}
use Rattle.layout.specs.declared.Entry.{Entry}
use Rattle.protocol.specs.Rows.{valid, set_row}
use Rattle.protocol.specs.Recovery.{free_entry}

abbrev pub kept_if : Bool → Entry → Entry
kept_if true e = record { block = e.block; flags = e.flags % 4 }
kept_if false e = free_entry

-- an entry that is not dropped
abbrev pub kept_entry : Entry → Entry
kept_entry e = kept_if (valid e.flags) e

-- the rows of a window's slots are zeroed
unfoldable pub freed : List Slot → List ℕ → List ℕ
freed [] table = table
freed (s ∷ w) table = freed w (set_row table s (record { 0 = 0 }) 0)
