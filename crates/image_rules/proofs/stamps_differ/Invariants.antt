use Rattle.protocol.specs.Recovery.{metas_of, stamps_differ}
use Prim.Native.Nat.{◌≤◌}
use mathlib.Core.Path.{◌≡◌}
use lib.ListN.{drop}
use Rattle.layout.specs.Places.{meta_pages}
use Rattle.image_rules.proofs.stamps_differ.Given as goal

abbrev pub invariant-loop-p : goal.invariant-loop-p
invariant-loop-p l = (l.m ≡ meta_pages l.l) × (l.p ≤ meta_pages l.l) × (stamps_differ (drop l.p (metas_of l.l l.ssd)) ≡ stamps_differ (metas_of l.l l.ssd))
