use Prim.Native.Nat.{ℕ, ◌+◌, ◌<◌}
use mathlib.Core.Path.{◌≡◌}
use lib.ListN.{length, get_or}
use Rattle.protocol.specs.SlotMap.{letter_at}
use Rattle.slot_map.proofs.text.put_letters.Given as goal

abbrev pub invariant-loop-i : goal.invariant-loop-i
invariant-loop-i l = (length l.part ≡ 60) × ((j : ℕ) → j < l.i → get_or l.part j 0 ≡ letter_at l.fn.l l.table (l.first + j))

abbrev pub invariant-loop-i-2 : goal.invariant-loop-i-2
invariant-loop-i-2 l = (length l.part ≡ 60) × ((j : ℕ) → j < l.i → get_or l.part j 0 ≡ letter_at l.fn.l l.table (l.first + j))
