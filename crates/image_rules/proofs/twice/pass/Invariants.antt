use Prim.Native.Nat.{◌*◌}
use mathlib.Core.Path.{◌≡◌}
use lib.ListN.{length, drop}
use Rattle.protocol.specs.Recovery.{metas_of, stored_rows}
use Rattle.image_rules.specs.Twice.{all_fresh}
use Rattle.image_rules.proofs.twice.pass.Given as goal

abbrev pub invariant-loop-p : goal.invariant-loop-p
invariant-loop-p l = (length l.map ≡ 16384) ×
    (all_fresh l.start l.map (drop (2 * (240 * l.p)) (stored_rows l.l (metas_of l.l l.ssd))) ≡ all_fresh l.start l.initial.map (stored_rows l.l (metas_of l.l l.ssd)))

abbrev pub invariant-loop-s : goal.invariant-loop-s
invariant-loop-s l = (length l.map ≡ 16384) ×
    (all_fresh l.start l.map (drop (2 * l.s) (stored_rows l.l (metas_of l.l l.ssd))) ≡ all_fresh l.start l.initial.map (drop (2 * l.first) (stored_rows l.l (metas_of l.l l.ssd))))
