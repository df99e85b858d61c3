use mathlib.Core.Path.{sym, ap, ◌∙◌}
use native.Mathlib.Omega.{arith}
use Prim.Native.Nat.{◌<◌}
use Rattle.std.specs.Prelude.{Option}
use Rattle.protocol.specs.Recovery.{metas_of}
use Rattle.laws.proofs.refine.Metas.{length_metas}
use Rattle.layout.specs.Places.{meta_pages}
use Rattle.layout.specs.Window.{window_from}
use Rattle.stored.specs.Stored.{newest_at}
use Rattle.stored.proofs.StoredLaws.{page-read, legal_at, count_low}
use Rattle.stored.proofs.image.pending.Goals as goal

pub window_of-requires : goal.window_of-requires
window_of-requires c =
    let z = length_metas c.args.l c.args.ssd.now in
    let p = c.in-Some.p in
    let h : p < meta_pages c.args.l = c.requires.at_bound p c.in-Some.is in
    let e = page-read c.args.l _ _ _ c.requires.ssd_len h c.meta_page.ensures in record {
      page_len = e.1;
      page_bound = rw e.0 (count_low c.args.l p _ (legal_at c.args.l (metas_of c.args.l c.args.ssd.now) c.requires.ssd_value p (omega arith)));
    }

pub returns-in-None : goal.returns-in-None
returns-in-None c = c.empty.ensures ∙ ap (λ (at : Option _). window_from (newest_at (metas_of c.args.l c.args.ssd.now) at).window) (sym c.in-None.is)

pub returns-in-Some : goal.returns-in-Some
returns-in-Some c =
    let p = c.in-Some.p in
    let h : p < meta_pages c.args.l = c.requires.at_bound p c.in-Some.is in
    rw (c.window_of.ensures, (page-read c.args.l _ _ _ c.requires.ssd_len h c.meta_page.ensures).0, c.in-Some.is)
