use Rattle.protocol.specs.Recovery.{metas_of}
use Rattle.laws.proofs.refine.Metas.{length_metas}
use Rattle.stored.specs.Stored.{newest_at}
use Rattle.stored.proofs.StoredLaws.{found, newest_bounded, pending_bounded}
use Rattle.stored.proofs.RuleLaws.{passed}
use Rattle.fields.proofs.WrittenLaws.{written_more, written_as}
use Rattle.list_image.proofs.ImageLaws.{few_slots, image_is}
use native.Mathlib.Omega.{arith}
use Rattle.list_image.proofs.image.put_image.Goals as goal

pub pending-pending-requires : goal.pending-pending-requires
pending-pending-requires c =
    let k = passed c.args.l (metas_of c.args.l c.args.ssd.now) c.requires.ssd_value in
    record {
      ssd_len = c.requires.ssd_len.0;
      ssd_value = k.legal;
      at_bound = rw (← length_metas c.args.l c.args.ssd.now) (found _ _ c.newest-found.ensures).on_page_is;
    }

pub put_lines-requires : goal.put_lines-requires
put_lines-requires c =
    let k = passed c.args.l (metas_of c.args.l c.args.ssd.now) c.requires.ssd_value in
    let w = newest_bounded c.args.l (metas_of c.args.l c.args.ssd.now) _ k.legal (found _ _ c.newest-found.ensures).on_page_is in
    let z = pending_bounded c.args.l _ _ c.pending-pending.ensures w in
    let f = few_slots c.args.l _ c.requires.ssd_len.0 c.requires.ssd_len.1 in
    record {
      slots_in_bounds = omega (arith, c.put_head-at.ensures.end_is, c.put_head-at.ensures.short, c.told-page);
      ssd_len = c.requires.ssd_len.0;
    }

pub returns : goal.returns
returns c =
    let pages = metas_of c.args.l c.args.ssd.now in
    let n = c.newest-found in
    let g = found pages n.result n.ensures in
    let p = c.pending-pending in
    let f = few_slots c.args.l _ c.requires.ssd_len.0 c.requires.ssd_len.1 in
    written_as (written_more c.put_head-at.ensures (rw c.slots.ensures at c.put_lines.ensures) (omega (arith, c.told-page)))
    (image_is c.args.l pages (newest_at pages n.result.at) _ p.result g.newest_is g.stamp_is p.ensures)
    (omega arith)
