use Prim.Native.Nat.{◌≤◌}
use mathlib.Core.Path.{◌≡◌}
use Rattle.protocol.specs.Calls.{box_of}
use Rattle.load_run.specs.Runs.{equal_to}
use Rattle.load_run.proofs.count_equal.Given as goal

abbrev pub invariant-loop-b : goal.invariant-loop-b
invariant-loop-b l = (l.n ≤ l.b) × (l.n ≡ equal_to l.b (box_of l.ssd l.hdd l.table l.state) l.plain)
