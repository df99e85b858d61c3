use Prim.Native.Nat.{◌+◌}
use lib.ListN.{take}
use Rattle.record.proofs.LeaveLaws.{Leaving, Moved}
use Rattle.record.proofs.window.leave.Given as goal

abbrev pub invariant-loop-i : goal.invariant-loop-i
invariant-loop-i l = Leaving l.s (take (l.last + 1) l.w.slots) l.gone l.i
    × Moved (record { 0 = 0 }) l.s (take (l.last + 1) l.w.slots) (take (l.last + 1) l.w.slots) l.slots l.i
    × Moved 0 l.s (take (l.last + 1) l.w.slots) (take (l.last + 1) l.callers) l.named l.i
