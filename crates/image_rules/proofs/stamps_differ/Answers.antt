use mathlib.Core.Bool.{not, ◌||◌}
use mathlib.Core.List.{[]}
use lib.Dec.{eqb}
use Rattle.layout.specs.MetaPage.{stamp_of}
use Rattle.layout.proofs.Loops.{go_on, stop}
use Rattle.protocol.specs.Recovery.{stamp_in, metas_of}
use Rattle.stored.proofs.RuleLaws.{differ_left, differ_end}
use Prim.Native.Nat.{ℕ, ◌+◌, ◌<◌}
use mathlib.Core.Path.{sym, ap, ◌∙◌}
use lib.ListN.{get_or, drop}
use Rattle.layout.specs.Places.{meta_pages}
use native.Mathlib.Omega.{arith}
use Rattle.image_rules.proofs.stamps_differ.Goals as goal

pub returns-then-not-stamp_alone : goal.returns-then-not-stamp_alone
returns-then-not-stamp_alone c =
    let l = c.loop-p in
    let h : l.p < meta_pages c.args.l = omega (arith, l.invariant.0) in
    stop (eqb (stamp_of (get_or (metas_of c.args.l c.args.ssd.now) l.p [])) 0 || not
    (stamp_in (stamp_of (get_or (metas_of c.args.l c.args.ssd.now) l.p []))
    (drop (l.p + 1) (metas_of c.args.l c.args.ssd.now)))) _ l.invariant.2 (differ_left c.args.l c.args.ssd.now l.p h)
    (ap (λ (t : ℕ). eqb t 0 || not (stamp_in t (drop (l.p + 1) (metas_of c.args.l c.args.ssd.now))))
    (sym c.stamp_at-stamp.ensures) ∙ sym c.stamp_alone.ensures ∙ c.if-not-stamp_alone.true)

pub loop-p-preserved : goal.loop-p-preserved
loop-p-preserved c =
    let l = c.loop-p in
    let h : l.p < meta_pages c.args.l = omega (arith, l.invariant.0) in (
      l.invariant.0,
      omega arith,
      go_on (eqb (stamp_of (get_or (metas_of c.args.l c.args.ssd.now) l.p [])) 0 || not
          (stamp_in (stamp_of (get_or (metas_of c.args.l c.args.ssd.now) l.p []))
          (drop (l.p + 1) (metas_of c.args.l c.args.ssd.now)))) _ l.invariant.2 (differ_left c.args.l c.args.ssd.now l.p h)
          (ap (λ (t : ℕ). eqb t 0 || not (stamp_in t (drop (l.p + 1) (metas_of c.args.l c.args.ssd.now))))
          (sym c.stamp_at-stamp.ensures) ∙ sym c.stamp_alone.ensures ∙ c.if-not-stamp_alone.false),
    )

pub returns : goal.returns
returns c =
    let l = c.loop-p in
    sym (differ_end c.args.l c.args.ssd.now l.p (omega (arith, l.invariant.0))) ∙ l.invariant.2
