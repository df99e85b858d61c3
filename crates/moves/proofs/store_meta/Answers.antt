use borrow.Author.Rules.{rules}
use native.Mathlib.Omega.{arith}
use lib.ListN.{length-take, length-drop}
use Rattle.protocol.specs.Metadata.{store_place}
use Rattle.record.specs.Record.{label_in}
use Rattle.moves.proofs.MoveLaws.{meta_fits, meta_holds, meta_low, meta_stored}
use Rattle.moves.proofs.store_meta.Goals as goal

pub rows_end-end-requires : goal.rows_end-end-requires
rows_end-end-requires c =
    let F = c.requires.fits_record in
    let h = meta_low (label_in c.args.state) c.args.p c.requires.p_bound in
    (omega (arith, F.table-size), omega (arith, F.table-size, F.slots-most), omega arith, omega (arith, F.table-size))

pub encode_meta-page-requires : goal.encode_meta-page-requires
encode_meta-page-requires c =
    let e = c.rows_end-end.ensures in
    record {
      count_le_window_most = rw c.window_of.ensures c.requires.fits_record.window_most_is;
      rows_len_bound = simp (length-take, length-drop) (omega (arith, e.3));
      rows_len = simp (length-take, length-drop) (omega (arith, e));
    }

pub store-requires : goal.store-requires
store-requires c =
    let a = c.args in record {
      holds = meta_holds a.ssd.now a.state.label a.p _ c.requires.fits_record.ssd-size c.requires.p_bound c.meta_place-place.ensures;
      page_len = search rules;
    }

pub overflow_cast-number : goal.overflow_cast-number
overflow_cast-number c =
    let F = c.requires.fits_record in
    omega (
      arith,
      meta_fits c.args.state.label c.args.p _ F.slots-most c.requires.p_bound
          c.meta_place-place.ensures,
    )

pub returns : goal.returns
unfolding store_place
returns c =
    let a = c.args in
    let e = c.rows_end-end.ensures in
    let place = c.meta_place-place.ensures in (
      rw place,
      meta_stored a.ssd.now a.table.now _ _ a.state a.stamp a.p _ _ (omega (arith, e)) e.0
          place
          (rw c.window_of.ensures at
          c.encode_meta-page.ensures)
          c.store.ensures,
    )
