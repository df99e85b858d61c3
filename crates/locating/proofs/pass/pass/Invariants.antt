use Prim.Native.Nat.{ℕ, ◌*◌, ◌<◌}
use mathlib.Core.Path.{◌≡◌}
use lib.ListN.{length, get_or, drop}
use Rattle.protocol.specs.Condition.{slot_from, slot_of}
use Rattle.locating.specs.Places.{place_word, or_found}
use Rattle.locating.proofs.pass.pass.Given as goal

abbrev pub invariant-loop-i : goal.invariant-loop-i
invariant-loop-i l = (length l.words ≡ length l.blocks)
    × ((j : ℕ) → j < length l.blocks → or_found (get_or l.words j 0) (place_word (slot_from l.i (drop (2 * l.i) l.table) (record { 0 = get_or l.blocks j 0 })))
    ≡ place_word (slot_of l.table (record { 0 = get_or l.blocks j 0 })))
