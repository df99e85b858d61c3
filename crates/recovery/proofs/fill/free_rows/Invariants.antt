use mathlib.Core.Path.{◌≡◌}
use lib.ListN.{length, drop}
use Rattle.recovery.specs.Fill.{freed}
use Rattle.recovery.proofs.fill.free_rows.Given as goal

abbrev pub invariant-loop-s : goal.invariant-loop-s
invariant-loop-s l = (length l.table ≡ length l.initial.table) × (freed (drop l.s-index l.slots) l.table ≡ freed l.slots l.initial.table)
