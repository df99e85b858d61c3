use mathlib.Core.Path.{◌∙◌}
use native.Mathlib.Omega.{arith}
use Rattle.moves.proofs.MoveLaws.{data_holds, data_fits, block_holds}
use Rattle.moves.proofs.copy_in.Goals as goal

pub copy_page-requires : goal.copy_page-requires
copy_page-requires c =
    let a = c.args in record {
      holds = data_holds a.ssd.now a.state.label a.s _ c.requires.ssd_len c.requires.s_lt_slots c.data_place-place.ensures;
      holds_2 = block_holds a.hdd.now a.state.label a.b _ c.requires.hdd_len c.requires.b_lt_blocks c.block_place.ensures;
    }

pub overflow_cast-number : goal.overflow_cast-number
overflow_cast-number c =
    omega (arith, data_fits c.args.state.label c.args.s _ c.requires.slots_bound c.requires.s_lt_slots c.data_place-place.ensures)

pub returns : goal.returns
returns c = (
  rw c.data_place-place.ensures,
  c.copy_page.ensures ∙ rw (c.block_place.ensures, c.data_place-place.ensures),
)
