-- What the passes keep of the lowest slot: its number, and how a row changes it.
use Rattle.std.specs.Prelude.{ℕ, Bool, ltb}
use Rattle.std.specs.Prelude.{Option, Some, None}
use Rattle.layout.specs.Numbers.{choose, least}
use Rattle.layout.specs.declared.Slot.{Slot}

-- a slot's number, or n for none
abbrev pub number_or : ℕ → Option Slot → ℕ
number_or n None = n
number_or n (Some s) = s.0

-- what was found before (below n), or this row where it is it, or n
abbrev pub lowest_of : ℕ → ℕ → ℕ → Bool → ℕ
lowest_of at n here it = choose (ltb at n) at (choose it here n)

-- the lower of what was found before and this row where it is it
abbrev pub lower_of : ℕ → ℕ → ℕ → Bool → ℕ
lower_of at n here it = least at (choose it here n)
