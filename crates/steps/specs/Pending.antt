-- Mending: the pending slots off a page, and the phase with so many slots pending.
use Rattle.std.specs.Prelude.{ℕ, zero, suc, Bool, true, false, List, [], ◌∷◌, ◌++◌, eqb}
use Rattle.layout.specs.declared.Slot.{Slot}
use Rattle.layout.specs.Places.{meta_of}
use Rattle.record.specs.declared.Phase.{Phase}
use Rattle.record.specs.declared.Phase.TheVariants.{Recovering, Ready}

-- a slot more, unless it is on page p
abbrev pub more_if : Bool → List Slot → Slot → List Slot
more_if true w s = w
more_if false w s = w ++ (s ∷ [])

abbrev pub more_off : ℕ → List Slot → Slot → List Slot
more_off p w s = more_if (eqb (meta_of s) p) w s

-- the phase with so many pending slots
abbrev pub phase_at : ℕ → Phase
phase_at zero = Ready
phase_at (suc n) = Recovering
