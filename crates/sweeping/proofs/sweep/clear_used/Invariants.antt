use Prim.Native.Nat.{◌-◌, ◌<◌}
use mathlib.Core.Path.{◌≡◌}
use lib.ListN.{length}
use Rattle.layout.specs.Places.{table_length}
use Rattle.sweeping.specs.Sweeps.{cleared_from}
use Rattle.sweeping.proofs.sweep.clear_used.Given as goal

abbrev pub invariant-loop : goal.invariant-loop
invariant-loop l = (length l.table ≡ table_length l.l) × (l.s.0 < l.l.slots) × (cleared_from (l.n - l.counter) l.l l.table l.s ≡ cleared_from l.n l.l l.initial.table l.initial.s)
