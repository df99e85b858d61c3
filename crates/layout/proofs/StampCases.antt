-- The two bounds of 13, computed.
use Prim.Native.Nat.{ℕ}
use mathlib.Core.Path.{◌≡◌, refl}
use Rattle.layout.specs.Places.{label_of}
use Rattle.layout.specs.Stamps.{largest_stamp, opening_bound}

-- "4,294,967,295, or for an offer or fetch 4,294,967,232"
bounds : (largest_stamp (label_of 4 8) ≡ 4294967295) × (opening_bound (label_of 4 8) ≡ 4294967232)
unfolding largest_stamp
bounds = (refl, refl)
