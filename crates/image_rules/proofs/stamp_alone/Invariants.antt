use Prim.Native.Nat.{◌≤◌}
use mathlib.Core.Path.{◌≡◌}
use lib.ListN.{drop}
use Rattle.layout.specs.Places.{meta_pages}
use Rattle.protocol.specs.Recovery.{metas_of, stamp_in}
use Rattle.image_rules.proofs.stamp_alone.Given as goal

abbrev pub invariant-loop-q : goal.invariant-loop-q
invariant-loop-q l = (l.m ≡ meta_pages l.l) × (l.q ≤ meta_pages l.l) ×
    (stamp_in l.stamp (drop l.q (metas_of l.l l.ssd)) ≡ stamp_in l.stamp (drop l.k (metas_of l.l l.ssd)))
