use Prim.Native.Nat.{◌*◌}
use Rattle.image_rules.proofs.TwiceLaws.{OnceBelow}
use Rattle.protocol.specs.Recovery.{metas_of, stored_rows}
use Rattle.image_rules.proofs.twice.none_twice.Given as goal

abbrev pub invariant-loop-k : goal.invariant-loop-k
invariant-loop-k l = OnceBelow (524288 * l.k) (stored_rows l.l (metas_of l.l l.ssd))
