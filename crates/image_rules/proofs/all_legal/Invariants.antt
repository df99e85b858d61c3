use Prim.Native.Nat.{◌≤◌}
use mathlib.Core.Path.{◌≡◌}
use lib.ListN.{drop}
use Rattle.layout.specs.Places.{meta_pages}
use Rattle.protocol.specs.Recovery.{metas_of, each_legal}
use Rattle.image_rules.proofs.all_legal.Given as goal

abbrev pub invariant-loop-p : goal.invariant-loop-p
invariant-loop-p l = (l.m ≡ meta_pages l.l) × (l.p ≤ meta_pages l.l) × (each_legal l.l l.p (drop l.p (metas_of l.l l.ssd)) ≡ each_legal l.l 0 (metas_of l.l l.ssd))
