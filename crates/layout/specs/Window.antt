-- A window: "slot numbers .., zero past the length", as a metadata page and the record have it.
use Rattle.std.specs.Prelude.{ℕ, ◌-◌, ◌≡◌, List, ◌++◌, length, take, replicate}
use Rattle.layout.specs.declared.Slot.{Slot}
use Rattle.layout.specs.declared.Window.{Window}

-- "window length, 0 to 63"
abbrev pub window_most : ℕ
window_most = 63

-- a window's slots, up to its length
abbrev pub slots_in : Window → List Slot
slots_in w = take w.count w.slots

-- slots as the array of a window, "zero past its length"
unfoldable pub array_of : List Slot → List Slot
array_of w = w ++ replicate (window_most - length w) (record { 0 = 0 })

-- slots as a window
abbrev pub window_from : List Slot → Window
window_from w = record { slots = array_of w; count = length w }

-- a window that is zero past its length
abbrev pub ZeroPast : Window → Type 0
ZeroPast w = w ≡ window_from (slots_in w)
