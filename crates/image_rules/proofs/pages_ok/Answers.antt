use mathlib.Core.Path.{◌≡◌, sym, ap, ◌∙◌}
use lib.ListN.{take}
use Rattle.protocol.specs.Recovery.{metas_of, Newest, newest_of, all_open_in}
use Rattle.record.proofs.WindowLaws.{take-array}
use Rattle.laws.proofs.refine.Metas.{length_metas}
use Rattle.layout.specs.declared.Window.{Window}
use Rattle.stored.proofs.StoredLaws.{found, newest_bounded, pending_bounded}
use Rattle.stored.proofs.RuleLaws.{page_bad, stamps_bad, blocks_bad, by_open}
use Rattle.image_rules.proofs.pages_ok.Goals as goal

pub returns-then-not-all_legal : goal.returns-then-not-all_legal
returns-then-not-all_legal c = page_bad _ _ (sym c.all_legal.ensures ∙ c.if-not-all_legal.true)

pub returns-then-not-stamps_differ : goal.returns-then-not-stamps_differ
returns-then-not-stamps_differ c = stamps_bad _ _ (sym c.all_legal.ensures ∙ c.if-not-all_legal.false)
    (sym c.stamps_differ.ensures ∙ c.if-not-stamps_differ.true)

pub none_twice-requires : goal.none_twice-requires
none_twice-requires c =
    record { ssd_len = c.requires.ssd_len; limits = c.requires.limits; ssd_value = sym c.all_legal.ensures ∙ c.if-not-all_legal.false }

pub returns-then-not-none_twice : goal.returns-then-not-none_twice
returns-then-not-none_twice c = blocks_bad _ _
    (sym c.all_legal.ensures ∙ c.if-not-all_legal.false)
    (sym c.stamps_differ.ensures ∙ c.if-not-stamps_differ.false)
    (sym c.none_twice.ensures ∙ c.if-not-none_twice.true)

pub pending-requires : goal.pending-requires
pending-requires c =
    record {
      ssd_len = c.requires.ssd_len;
      ssd_value = sym c.all_legal.ensures ∙ c.if-not-all_legal.false;
      at_bound = rw (← length_metas c.args.l c.args.ssd.now)
          (found _ _ c.newest-found.ensures).on_page_is;
    }

pub all_open-requires : goal.all_open-requires
all_open-requires c =
    let w = newest_bounded c.args.l (metas_of c.args.l c.args.ssd.now) _
    (sym c.all_legal.ensures ∙ c.if-not-all_legal.false) (found _ _ c.newest-found.ensures).on_page_is in
    let z = pending_bounded c.args.l _ _ c.pending.ensures w in
    record { ssd_len = c.requires.ssd_len; w_value = z.1 }

pub returns : goal.returns
returns c =
    let pages = metas_of c.args.l c.args.ssd.now in
    let n = found _ _ c.newest-found.ensures in
    let w : take c.pending.result.count c.pending.result.slots ≡ (newest_of pages).window =
    ap (λ (v : Window). take v.count v.slots) c.pending.ensures ∙ take-array _ ∙ ap
    (λ (m : Newest). m.window) n.newest_is in
    c.all_open.ensures ∙ ap (all_open_in pages) w
    ∙ by_open _ _ (sym c.all_legal.ensures ∙ c.if-not-all_legal.false)
    (sym c.stamps_differ.ensures ∙ c.if-not-stamps_differ.false)
    (sym c.none_twice.ensures ∙ c.if-not-none_twice.false)
