use mathlib.Core.Path.{◌∙◌}
use native.Mathlib.Omega.{arith}
use Rattle.moves.proofs.MoveLaws.{data_holds, data_fits}
use Rattle.moves.proofs.store_page.Goals as goal

pub store-requires : goal.store-requires
store-requires c =
    let a = c.args in record {
      holds = data_holds a.ssd.now a.state.label a.s _ c.requires.ssd_len c.requires.s_lt_slots c.data_place-place.ensures;
      page_len = c.requires.page_len;
    }

pub overflow_cast-number : goal.overflow_cast-number
overflow_cast-number c =
    omega (arith, data_fits c.args.state.label c.args.s _ c.requires.slots_bound c.requires.s_lt_slots c.data_place-place.ensures)

pub returns : goal.returns
returns c =
    (rw c.data_place-place.ensures, c.store.ensures ∙ rw c.data_place-place.ensures)
