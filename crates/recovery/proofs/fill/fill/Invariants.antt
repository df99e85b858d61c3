use lib.ListN.{length, take}
use Prim.Native.Nat.{◌*◌, ◌≤◌}
use mathlib.Core.Path.{◌≡◌}
use Rattle.layout.specs.Places.{table_length}
use Rattle.layout.specs.MetaPage.{rows_from}
use Rattle.protocol.specs.Recovery.{metas_of, entry_in}
use Rattle.recovery.specs.Fill.{kept_entry}
use Rattle.recovery.proofs.fill.fill.Given as goal

abbrev pub invariant-loop-s : goal.invariant-loop-s
invariant-loop-s l = (l.slots ≡ l.l.slots) × (l.s ≤ l.slots) × (length l.table ≡ table_length l.l) ×
    (take (2 * l.s) l.table ≡ rows_from l.s (λ k. kept_entry (entry_in (metas_of l.l l.ssd) (record { 0 = k }))))
