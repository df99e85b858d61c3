-- The sweep: the slot that it takes, found with nothing changed, and the used flags that it clears on its way.
use Rattle.std.specs.Prelude.{ℕ, zero, suc, ◌+◌, ◌-◌, Bool, true, false, not, ◌&&◌, cond, List, ltb}
use Rattle.std.specs.Prelude.{Option, Some, None}
use Rattle.layout.specs.declared.Slot.{Slot}
use Rattle.layout.specs.declared.Label.{Label}
use Rattle.protocol.specs.Rows.{row_flags, set_flags, writing, used, without_used}
use Rattle.protocol.specs.Sweep.{next_slot, Victim}
use Rattle.sweeping.specs.declared.Swept.{Swept}

-- a slot that a sweep may take: not open; and in its first round not used
abbrev pub closed : ℕ → Bool
closed flags = not (writing flags)

abbrev pub unused : ℕ → Bool
unused flags = closed flags && not (used flags)

-- the slot k past s, wrapping once
abbrev pub slot_past : ℕ → Label → Slot → Slot
slot_past k l s = cond (ltb (s.0 + k) l.slots) (record { 0 = s.0 + k }) (record { 0 = s.0 + k - l.slots })

-- a slot, after k were passed
abbrev pub swept_after : Slot → ℕ → Option Swept
swept_after s k = Some (record { slot = s; passed = k })

-- the slot found before, or else this one where it is closed
abbrev pub first_closed : Option Slot → Slot → Bool → Option Slot
first_closed (Some s) here it = Some s
first_closed None here true = Some here
first_closed None here false = None

-- what a round ends in that met no unused slot: the first closed one, if any, after all slots were passed
abbrev pub lap_end : ℕ → Option Slot → Option Swept
lap_end slots (Some s) = swept_after s slots
lap_end slots None = None

-- n slots more, from s on, k being passed: the first unused one, or the end of the round
unfoldable pub lap_from : ℕ → ℕ → Label → List ℕ → Slot → Option Slot → Option Swept
lap_from zero k l table s first = lap_end l.slots first
lap_from (suc n) k l table s first =
    elim (unused (row_flags table s)) [
      | true ↦ swept_after s k
      | false ↦ lap_from n (suc k) l table (next_slot l s) (first_closed first s (closed (row_flags table s)))
    ]

-- the sweep from the hand
abbrev pub swept_of : Label → List ℕ → Slot → Option Swept
swept_of l table hand = lap_from l.slots 0 l table hand None

-- "pass open slots .. clear a used flag and pass": at n slots from s on
abbrev pub passed : ℕ → ℕ
passed flags = cond (writing flags) flags (without_used flags)

unfoldable pub cleared_from : ℕ → Label → List ℕ → Slot → List ℕ
cleared_from zero l table s = table
cleared_from (suc n) l table s = cleared_from n l (set_flags table s (passed (row_flags table s))) (next_slot l s)

-- slot and table as protocol's sweep has them
abbrev pub victim_of : Label → List ℕ → Slot → Option Swept → Option Victim
victim_of l table hand (Some w) = Some (record { slot = w.slot; table = cleared_from w.passed l table hand })
victim_of l table hand None = None
