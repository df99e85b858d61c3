use Prim.Native.Nat.{◌*◌}
use mathlib.Core.Path.{◌≡◌}
use mathlib.Core.List.{◌++◌}
use lib.ListN.{drop}
use Rattle.protocol.specs.SlotMap.{lines_of}
use Rattle.slot_map.proofs.text.put_map.Given as goal

abbrev pub invariant-loop-k : goal.invariant-loop-k
invariant-loop-k l = l.sheet ≡ lines_of l.l l.table l.k ++ drop (67 * l.k) l.initial.sheet
