use Prim.Native.Nat.{◌-◌}
use mathlib.Core.Path.{◌≡◌}
use Rattle.std.specs.Prelude.{None}
use Rattle.sweeping.specs.Sweeps.{lap_from, slot_past}
use Rattle.sweeping.proofs.sweep.sweep.Given as goal

abbrev pub invariant-loop-k : goal.invariant-loop-k
invariant-loop-k l = lap_from (l.slots - l.k) l.k l.l l.table (slot_past l.k l.l l.hand) l.first ≡ lap_from l.slots 0 l.l l.table l.hand None
