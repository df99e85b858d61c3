use borrow.Author.Tests.{eq-eqb, ne_eqb}
use mathlib.Core.List.{[]}
use lib.Dec.{eqb}
use Rattle.layout.specs.MetaPage.{stamp_of}
use Rattle.record.proofs.WindowLaws.{hit, miss}
use Rattle.stored.proofs.RuleLaws.{stamp-left, stamp_end}
use Prim.Native.Nat.{◌<◌}
use mathlib.Core.Path.{sym, ◌∙◌}
use lib.ListN.{get_or}
use Rattle.layout.specs.Places.{meta_pages}
use Rattle.protocol.specs.Recovery.{metas_of}
use native.Mathlib.Omega.{arith}
use Rattle.image_rules.proofs.stamp_alone.Goals as goal

pub returns-then-stamp-eq0 : goal.returns-then-stamp-eq0
returns-then-stamp-eq0 c = rw (eq-eqb _ _ c.if-stamp-eq0.true)

pub returns-then-stamp-stamp_at : goal.returns-then-stamp-stamp_at
returns-then-stamp-stamp_at c =
    let l = c.loop-q in
    let h : l.q < meta_pages c.args.l = omega (arith, l.invariant.0) in
    let e = hit (eqb c.args.stamp (stamp_of (get_or (metas_of c.args.l c.args.ssd.now) l.q []))) _ l.invariant.2
    (stamp-left c.args.l c.args.ssd.now l.q h c.args.stamp) (eq-eqb _ _ (c.if-stamp-stamp_at.true ∙ c.stamp_at.ensures)) in
    rw (ne_eqb _ _ c.if-stamp-eq0.false, ← e)

pub loop-q-preserved : goal.loop-q-preserved
loop-q-preserved c =
    let l = c.loop-q in
    let h : l.q < meta_pages c.args.l = omega (arith, l.invariant.0) in (
      l.invariant.0,
      omega arith,
      miss (eqb c.args.stamp (stamp_of (get_or (metas_of c.args.l c.args.ssd.now) l.q []))) _ l.invariant.2
          (stamp-left c.args.l c.args.ssd.now l.q h c.args.stamp)
          (ne_eqb _ _ (λ z. c.if-stamp-stamp_at.false (z ∙ sym c.stamp_at.ensures))),
    )

pub returns : goal.returns
returns c =
    let l = c.loop-q in
    let e = sym (stamp_end c.args.l c.args.ssd.now l.q (omega (arith, l.invariant.0)) c.args.stamp) ∙ l.invariant.2 in
    rw (ne_eqb _ _ c.if-stamp-eq0.false, ← e)
