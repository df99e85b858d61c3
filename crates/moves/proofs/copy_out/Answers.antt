use Prim.Native.Nat.{◌/◌, ◌%◌}
use mathlib.Core.Path.{◌∙◌}
use native.Mathlib.Omega.{arith}
use borrow.Author.Tests.{eqb-true}
use Rattle.protocol.specs.Rows.{row_block, row_flags}
use Rattle.moves.proofs.MoveLaws.{data_holds, block_holds}
use Rattle.moves.proofs.copy_out.Goals as goal

pub copy_page-requires : goal.copy_page-requires
copy_page-requires c =
    let a = c.args in record {
      holds = block_holds a.hdd.now a.state.label (row_block a.table.now a.s) _ c.requires.hdd_len c.requires.s_bound
          c.block_place-place.ensures;
      holds_2 = data_holds a.ssd.now a.state.label a.s _ c.requires.fits_record.ssd-size c.requires.s_lt_slots
          c.data_place.ensures;
    }

pub overflow_sub-table : goal.overflow_sub-table
overflow_sub-table c =
    omega (arith, eqb-true (row_flags c.args.table.now c.args.s / 2 % 2) 1 c.requires.s_value)

pub overflow_cast-number : goal.overflow_cast-number
overflow_cast-number c =
    rw c.block_place-place.ensures (omega (arith, c.requires.blocks_bound, c.requires.s_bound))

pub returns : goal.returns
returns c = (
  rw c.block_place-place.ensures,
  c.copy_page.ensures ∙ rw (c.block_place-place.ensures, c.data_place.ensures),
  rw c.requires.s_value,
)
