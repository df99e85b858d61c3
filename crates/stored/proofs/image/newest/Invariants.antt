use Prim.Native.Nat.{◌≤◌}
use mathlib.Core.Path.{◌≡◌}
use lib.ListN.{drop}
use Rattle.layout.specs.Places.{meta_pages}
use Rattle.protocol.specs.Recovery.{metas_of}
use Rattle.stored.specs.Stored.{numbered_from, numbered_of}
use Rattle.stored.proofs.image.newest.Given as goal

abbrev pub invariant-loop-p : goal.invariant-loop-p
invariant-loop-p l = (l.m ≡ meta_pages l.l) × (l.p ≤ meta_pages l.l) × (numbered_from l.n l.p (drop l.p (metas_of l.l l.ssd)) ≡ numbered_of (metas_of l.l l.ssd))
