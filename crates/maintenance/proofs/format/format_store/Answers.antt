use borrow.Author.Rules.{rules}
use mathlib.Core.Path.{◌∙◌}
use Rattle.layout.proofs.PlaceLaws.{label_within}
use Rattle.maintenance.proofs.FormatLaws.{label-stored, place-page, meta_step_stored}
use Rattle.maintenance.proofs.format.format_store.Goals as goal

pub clear_page-requires : goal.clear_page-requires
clear_page-requires c = rw c.requires.fits_record.ssd-size (label_within c.args.state.label)

pub returns-then-done-eq0 : goal.returns-then-done-eq0
returns-then-done-eq0 c =
    let z = c.if-done-eq0.true in
    (rw z, c.clear_page.ensures.stored ∙ rw z)

pub encode_label-page-requires : goal.encode_label-page-requires
encode_label-page-requires c = c.requires.state_value

pub store-requires : goal.store-requires
store-requires c =
    record { holds = rw c.requires.fits_record.ssd-size (label_within c.args.state.label); page_len = search rules }

pub returns-then-meta_span-p : goal.returns-then-meta_span-p
returns-then-meta_span-p c =
    label-stored c.args.ssd.now c.args.table.now _ _ c.args.state _ c.args.done c.if-done-eq0.false
    c.meta_span.ensures c.if-meta_span-p.true
    c.encode_label-page.ensures c.store.ensures

pub store_meta-requires : goal.store_meta-requires
store_meta-requires c =
    record {
      fits_record = c.requires.fits_record;
      p_bound = place-page c.args.state.label _ (rw (← c.meta_span.ensures) c.if-meta_span-p.false);
    }

pub returns : goal.returns
returns c =
    let t = c.store_meta.ensures in
    meta_step_stored c.args.ssd.now c.args.table.now _ _ c.args.state c.args.done c.if-done-eq0.false
    (rw (← c.meta_span.ensures) c.if-meta_span-p.false) t.0 t.1
