-- What proofs need of the largest stamp: they cite this, and compute no stamp themselves, but for the cases and 13 in words (Why).
use Prim.Native.Nat.{ℕ, ◌*◌, ◌≤◌, ◌<◌}
use native.Mathlib.Omega.{arith}
use Rattle.layout.specs.declared.Label.{Label}
use Rattle.layout.specs.Window.{window_most}
use Rattle.layout.specs.Stamps.{largest_stamp}
use Rattle.layout.proofs.StampCases as computed-first

-- a stamp fits in its field, 4 bytes
pub stamp_fits : (l : Label) → largest_stamp l ≤ 4294967295
unfolding largest_stamp
stamp_fits l = omega arith

-- there are more stamps than two windows take
pub stamps_enough : (l : Label) → 2 * window_most < largest_stamp l
unfolding largest_stamp
stamps_enough l = omega arith
