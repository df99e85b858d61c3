use Prim.Native.Nat.{◌≤◌}
use mathlib.Core.Path.{◌≡◌}
use Rattle.layout.specs.MetaPage.{count_of, slot_at, firsts}
use Rattle.layout.specs.Window.{array_of}
use Rattle.stored.proofs.image.window_of.Given as goal

abbrev pub invariant-loop-k : goal.invariant-loop-k
invariant-loop-k l = (l.count ≡ count_of l.page) × (l.k ≤ l.count) × (l.slots ≡ array_of (firsts l.k (slot_at l.page)))
