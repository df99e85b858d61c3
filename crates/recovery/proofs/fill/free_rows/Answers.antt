use Prim.Native.Nat.{◌+◌, ◌*◌, ◌<◌}
use mathlib.Core.Path.{◌≡◌, refl, sym, ap, ◌∙◌}
use mathlib.Core.Bool.{true}
use mathlib.Core.List.{List}
use lib.ListN.{length, get_or, length-set}
use Rattle.layout.specs.declared.Slot.{Slot}
use Rattle.layout.specs.PageRule.{in_range}
use Rattle.recovery.specs.Fill.{freed}
use Rattle.recovery.proofs.FillLaws.{freed-left, freed_end}
use Rattle.record.proofs.WindowLaws.{range_at}
use native.Mathlib.Omega.{arith}
use Rattle.recovery.proofs.fill.free_rows.Goals as goal
use Rattle.recovery.proofs.fill.free_rows.Goals.{In-loop-s}

-- the slot at hand is in the table
row : (c : In-loop-s) → 2 * (get_or c.slots-slots.result.now c.loop-s.s-index (record { 0 = 0 })).0 + 1 < length c.loop-s.table
row c =
    let e : in_range c.args.l c.slots-slots.result.now ≡ true = ap (in_range c.args.l) c.slots-slots.ensures ∙ c.requires.w_value in
    let low = range_at c.args.l c.slots-slots.result.now c.loop-s.s-index (record { 0 = 0 }) e c.loop-s-test.true in
    omega (arith, low, c.loop-s.invariant.0, c.requires.table_len)

pub loop-s-init : goal.loop-s-init
loop-s-init c = (refl, refl)

pub bounds-table-k : goal.bounds-table-k
bounds-table-k c = omega (arith, row (goal.at.bounds-table-k c).In-loop-s)

pub bounds-table-k-in-loop-s : goal.bounds-table-k-in-loop-s
bounds-table-k-in-loop-s c = simp length-set (row (goal.at.bounds-table-k-in-loop-s c).In-loop-s)

pub loop-s-preserved : goal.loop-s-preserved
loop-s-preserved c =
    let l = c.loop-s in (
      simp length-set l.invariant.0,
      sym (freed-left c.slots-slots.result.now l.s-index _ l.table c.loop-s-test.true) ∙ l.invariant.1,
    )

pub returns : goal.returns
returns c =
    let l = c.loop-s in
    sym (freed_end c.slots-slots.result.now l.s-index l.table c.loop-s-test.false) ∙ l.invariant.1
    ∙ ap (λ (w : List Slot). freed w c.args.table.now) c.slots-slots.ensures
