-- The sweep of the CLOCK hand (document 01, "Sweep").
use Rattle.std.specs.Prelude.{ℕ, zero, suc, ◌*◌, true, false, List, ltb}
use Rattle.std.specs.Prelude.{Option, Some, None}
use Rattle.layout.specs.declared.Slot.{Slot}
use Rattle.layout.specs.declared.Label.{Label}
use Rattle.protocol.specs.Rows.{row_flags, set_flags, writing, used, without_used}

-- "one past it (wrapping)"
abbrev pub next_slot : Label → Slot → Slot
next_slot l s = elim (ltb (suc s.0) l.slots) [ true ↦ record { 0 = suc s.0 } | false ↦ record { 0 = 0 } ]

-- the slot that a sweep takes, and the table with the used flags cleared on the way
pub record Victim : Type 0 where
  pub slot : Slot
  pub table : List ℕ

-- "from the hand, wrapping: pass open slots; take a free slot or one without the used flag; clear a used flag and pass":
-- k slots at most (a free row has no used flag)
unfoldable pub sweep_from : ℕ → Label → List ℕ → Slot → Option Victim
sweep_from zero l table s = None
sweep_from (suc k) l table s =
    elim (writing (row_flags table s)) [
      | true ↦ sweep_from k l table (next_slot l s)
      | false ↦
          elim (used (row_flags table s)) [
            | true ↦ sweep_from k l (set_flags table s (without_used (row_flags table s))) (next_slot l s)
            | false ↦ Some (record { slot = s; table = table })
          ]
    ]

-- two rounds are enough: the first clears every used flag that it meets
abbrev pub sweep : Label → List ℕ → Slot → Option Victim
sweep l table hand = sweep_from (2 * l.slots) l table hand
