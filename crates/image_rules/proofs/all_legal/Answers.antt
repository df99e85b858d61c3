use mathlib.Core.List.{[]}
use Rattle.layout.specs.PageRule.{page_test}
use Rattle.layout.proofs.Loops.{go_on, stop}
use Rattle.stored.proofs.StoredLaws.{page-read, pages-most}
use Rattle.stored.proofs.RuleLaws.{legal-left, legal_end}
use Prim.Native.Nat.{◌<◌}
use mathlib.Core.Path.{sym, ap, ◌∙◌}
use lib.ListN.{get_or}
use Rattle.layout.specs.Places.{meta_pages}
use Rattle.protocol.specs.Recovery.{metas_of}
use native.Mathlib.Omega.{arith}
use Rattle.image_rules.proofs.all_legal.Goals as goal

pub legal_page-requires : goal.legal_page-requires
legal_page-requires c =
    let l = c.loop-p in
    let h : l.p < meta_pages c.args.l = omega (arith, l.invariant.0) in
    record {
      page_len = (page-read c.args.l _ _ _ c.requires.ssd_len h c.meta_page.ensures).1;
      p_bound = omega (arith, pages-most c.args.l c.requires.limits, c.loop-p.invariant.0);
    }

pub returns-then-not-legal_page : goal.returns-then-not-legal_page
returns-then-not-legal_page c =
    let l = c.loop-p in
    let h : l.p < meta_pages c.args.l = omega (arith, l.invariant.0) in
    stop (page_test c.args.l l.p (get_or (metas_of c.args.l c.args.ssd.now) l.p [])) _ l.invariant.2
    (legal-left c.args.l c.args.ssd.now l.p h)
    (ap (page_test c.args.l l.p) (sym (page-read c.args.l _ _ _ c.requires.ssd_len h c.meta_page.ensures).0) ∙ sym c.legal_page.ensures
    ∙ c.if-not-legal_page.true)

pub loop-p-preserved : goal.loop-p-preserved
loop-p-preserved c =
    let l = c.loop-p in
    let h : l.p < meta_pages c.args.l = omega (arith, l.invariant.0) in (
      l.invariant.0,
      omega arith,
      go_on (page_test c.args.l l.p (get_or (metas_of c.args.l c.args.ssd.now) l.p [])) _ l.invariant.2
          (legal-left c.args.l c.args.ssd.now l.p h)
          (ap (page_test c.args.l l.p) (sym (page-read c.args.l _ _ _ c.requires.ssd_len h c.meta_page.ensures).0) ∙ sym c.legal_page.ensures
          ∙ c.if-not-legal_page.false),
    )

pub returns : goal.returns
returns c =
    let l = c.loop-p in
    sym (legal_end c.args.l c.args.ssd.now l.p (omega (arith, l.invariant.0))) ∙ l.invariant.2
