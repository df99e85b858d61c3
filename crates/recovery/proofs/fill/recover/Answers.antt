use lib.ListN.{length}
use Rattle.protocol.specs.Recovery.{metas_of}
use Rattle.laws.proofs.refine.Metas.{length_metas}
use Rattle.laws.proofs.refine.Entries.{length-rows}
use Rattle.stored.specs.Stored.{newest_at}
use Rattle.stored.proofs.StoredLaws.{found, newest_bounded, pending_bounded}
use Rattle.stored.proofs.RuleLaws.{passed}
use Rattle.recovery.specs.Fill.{freed}
use Rattle.recovery.proofs.FillLaws.{recovered_is}
use mathlib.Core.Path.{ap, ◌∙◌}
use Rattle.recovery.proofs.fill.recover.Goals as goal

pub pending-pending-requires : goal.pending-pending-requires
pending-pending-requires c =
    let k = passed c.args.l (metas_of c.args.l c.args.ssd.now) c.requires.ssd_value in
    record {
      ssd_len = c.requires.ssd_len;
      ssd_value = k.legal;
      at_bound = rw (← length_metas c.args.l c.args.ssd.now) (found _ _ c.newest-found.ensures).on_page_is;
    }

pub free_rows-requires : goal.free_rows-requires
free_rows-requires c =
    let k = passed c.args.l (metas_of c.args.l c.args.ssd.now) c.requires.ssd_value in
    let w = newest_bounded c.args.l (metas_of c.args.l c.args.ssd.now) _ k.legal
    (found _ _ c.newest-found.ensures).on_page_is in
    let z = pending_bounded c.args.l _ _ c.pending-pending.ensures w in
    record { table_len = ap length c.fill.ensures ∙ length-rows _ _; w_value = z.1 }

pub returns : goal.returns
returns c =
    let n = c.newest-found in
    let pages = metas_of c.args.l c.args.ssd.now in
    let k = passed c.args.l pages c.requires.ssd_value in
    let g = found pages n.result n.ensures in
    let w = newest_bounded c.args.l pages _ k.legal g.on_page_is in
    rw (← c.spent_stamp-spent.ensures)
    (recovered_is c.args.l pages (newest_at pages n.result.at) c.spent_stamp-spent.result c.pending-pending.result _ _ _
    g.newest_is c.pending-pending.ensures w.ranged (rw g.newest_is k.opened)
    (c.free_rows.ensures ∙ ap (freed _) c.fill.ensures) c.phase_of.ensures
    c.fresh.ensures)
