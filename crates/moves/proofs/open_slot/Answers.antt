use mathlib.Core.Path.{◌∙◌}
use lib.ListN.{length}
use Rattle.record.specs.Record.{label_in}
use Rattle.layout.proofs.PlaceLaws.{meta_of-low}
use Rattle.moves.proofs.MoveLaws.{joined_fits}
use Rattle.moves.proofs.open_slot.Goals as goal

pub confirm-requires : goal.confirm-requires
confirm-requires c =
    let a = c.args in
    let j = c.joined-next.ensures in record {
      fits_record = joined_fits (length a.ssd.now) a.table.now _ a.state _ a.s a.hand a.b a.caller a.flags c.requires.fits_record
          c.requires.state_value c.requires.count_lt_window_most
          c.set_row.ensures j;
      p_bound = rw (c.meta_of.ensures, j) (meta_of-low (label_in a.state) a.s c.requires.s_lt_slots);
      newest_bound = rw j c.requires.newest_bound;
    }

pub returns : goal.returns
returns c =
    let j = c.joined-next.ensures in
    let r = c.set_row.ensures in
    let e = c.confirm.ensures in
    (e.0 ∙ rw (j, c.meta_of.ensures), r, e.1 ∙ rw (j, c.meta_of.ensures, r))
