use Prim.Native.Nat.{max}
use mathlib.Core.Path.{◌≡◌}
use lib.ListN.{drop}
use Rattle.protocol.specs.Kinds.{highest}
use Rattle.locating.proofs.list.highest.Given as goal

abbrev pub invariant-loop-b : goal.invariant-loop-b
invariant-loop-b l = max l.most (highest (drop l.b-index l.blocks)) ≡ highest l.blocks
