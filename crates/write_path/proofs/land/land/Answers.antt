use mathlib.Core.Path.{◌≡◌, refl, sym, ◌∙◌}
use mathlib.Core.Bool.{true, false}
use Prim.Native.Nat.{◌<◌}
use lib.ListN.{length}
use Rattle.layout.specs.declared.Slot.{Slot}
use Rattle.protocol.specs.declared.Condition.{Condition}
use Rattle.protocol.specs.Rows.{row_flags}
use Rattle.protocol.specs.Box.{left, refusing}
use Rattle.protocol.specs.Plan.{land, landing}
use Rattle.protocol.specs.Perform.{perform}
use Rattle.protocol.specs.Condition.{takes_write}
use Rattle.protocol.specs.Calls.{box_of, land_of}
use Rattle.judging.proofs.JudgingLaws.{is_refused, refused_on}
use Rattle.judging.proofs.ServeLaws.{refused_by, land_judges}
use Rattle.judging.proofs.ReadyLaws.{open_listed}
use Rattle.judging.proofs.SlotLaws.{flags_low}
use Rattle.judging.proofs.ServedLaws.{Served, served}
use Rattle.judging.proofs.CallLaws.{land_wrong, land_is}
use Rattle.write_path.proofs.land.land.Goals as goal
use Rattle.write_path.proofs.land.land.Goals.{In_ok-seen, Start}

-- 3 to 7 are passed
abbrev start : In_ok-seen → Start
start c = (goal.at.In_ok-seen c).Start

known : (c : In_ok-seen) → let a = (start c).args in
    Served a.ssd.now a.hdd.now (length a.page.now) a.table.now a.state a.block 0 c.in_ok-seen.seen
known c = let a = (start c).args in
    served a.ssd.now a.hdd.now (length a.page.now) a.table.now a.state a.block 0 (sym c.in_ok-seen.was ∙ c.judge_block.ensures)

wrong : (c : In_ok-seen) (k : Condition) → c.in_ok-seen.seen.condition ≡ k → takes_write k ≡ false → let a = (start c).args in
    let x = box_of a.ssd.now a.hdd.now a.table.now a.state in
    left (refusing 9 x) x.images ≡ land_of a.ssd.now a.hdd.now a.table.now a.state a.block a.page.now
wrong c k e o = let a = (start c).args in
    land_wrong a.ssd.now a.hdd.now a.table.now a.state a.block k ((known c).is k e) a.page.now (known c).none o

done : (c : In_ok-seen) (k : Condition) → c.in_ok-seen.seen.condition ≡ k → takes_write k ≡ true → let a = (start c).args in
    let x = box_of a.ssd.now a.hdd.now a.table.now a.state in
    left (perform (landing a.page.now k) x) x.images ≡ land_of a.ssd.now a.hdd.now a.table.now a.state a.block a.page.now
done c k e o = let a = (start c).args in
    land_is a.ssd.now a.hdd.now a.table.now a.state a.block k ((known c).is k e) a.page.now (known c).none o

-- the flags of a slot's row
low-flags : (c : In_ok-seen) (s : Slot) → s.0 < (start c).args.state.label.slots → row_flags (start c).args.table.now s < 16
low-flags c = let a = (start c).args in
    flags_low a.state a.table.now (known c).box.box.sound.table-size (known c).box.box.rows

pub returns-in_err-seen : goal.returns-in_err-seen
returns-in_err-seen c =
    let a = c.args in
    rw (refused_on c.from_residual.ensures.1)
    (refused_by (land a.block a.page.now) (box_of a.ssd.now a.hdd.now a.table.now a.state) _ _ (land_judges a.ssd.now a.hdd.now a.table.now a.state a.block a.page.now) c.in_err-seen.field-0.0
    (is_refused _ _ _ (sym c.in_err-seen.was ∙ c.judge_block.ensures)))

pub store_page-stored-requires : goal.store_page-stored-requires
store_page-stored-requires c =
    let R = (known (goal.at.store_page-stored-requires c).In_ok-seen).row _ c.in-Dirty.is in
    record {
      ssd_len = (known (goal.at.store_page-stored-requires c).In_ok-seen).box.box.sound.ssd-size;
      page_len = (known (goal.at.store_page-stored-requires c).In_ok-seen).box.box.page-size;
      slots_bound = (known (goal.at.store_page-stored-requires c).In_ok-seen).box.box.fits.slots-most;
      s_lt_slots = R.low;
    }

pub land_row-requires : goal.land_row-requires
land_row-requires c =
    let R = (known (goal.at.land_row-requires c).In_ok-seen).row _ c.in-Dirty.is in
    record { s_in_bounds = R.within; s_bound = low-flags (goal.at.land_row-requires c).In_ok-seen _ R.low }

pub store_page-stored-requires-in-Writing : goal.store_page-stored-requires-in-Writing
store_page-stored-requires-in-Writing c =
    let R = (known (goal.at.store_page-stored-requires-in-Writing c).In_ok-seen).row _ c.in-Writing.is in
    record {
      ssd_len = (known (goal.at.store_page-stored-requires-in-Writing c).In_ok-seen).box.box.sound.ssd-size;
      page_len = (known (goal.at.store_page-stored-requires-in-Writing c).In_ok-seen).box.box.page-size;
      slots_bound = (known (goal.at.store_page-stored-requires-in-Writing c).In_ok-seen).box.box.fits.slots-most;
      s_lt_slots = R.low;
    }

pub close_slot-next-requires : goal.close_slot-next-requires
close_slot-next-requires c =
    let R = (known (goal.at.close_slot-next-requires c).In_ok-seen).row _ c.in-Writing.is in
    record {
      state_value = (known (goal.at.close_slot-next-requires c).In_ok-seen).box.box.record_kept;
      state_value_2 = open_listed _ _ _ _ _ (known (goal.at.close_slot-next-requires c).In_ok-seen).box _ R.low R.writing_is;
      s_in_bounds = R.within;
      s_bound = low-flags (goal.at.close_slot-next-requires c).In_ok-seen _ R.low;
    }

pub returns-in-NotCached : goal.returns-in-NotCached
returns-in-NotCached c =
    wrong (goal.at.returns-in-NotCached c).In_ok-seen _ c.in-NotCached.is refl

pub returns-in-Clean : goal.returns-in-Clean
returns-in-Clean c =
    wrong (goal.at.returns-in-Clean c).In_ok-seen _ c.in-Clean.is refl

pub returns-in-Dirty : goal.returns-in-Dirty
unfolding perform
returns-in-Dirty c =
    let k = c.in-Dirty.is in
    let z = c.land_row.ensures in
    let d = c.store_page-stored.ensures in
    rw (c.stored.ensures, d.0, d.1, z, ((known (goal.at.returns-in-Dirty c).In_ok-seen).row _ k).writing_is)
    (rw (perform, ((known (goal.at.returns-in-Dirty c).In_ok-seen).row _ k).writing_is) at (done (goal.at.returns-in-Dirty c).In_ok-seen _ k refl))

pub returns-in-Writing : goal.returns-in-Writing
unfolding perform
returns-in-Writing c =
    let k = c.in-Writing.is in
    let z = c.close_slot-next.ensures in
    let d = c.store_page-stored-in-Writing.ensures in
    rw (c.stored-in-Writing.ensures, d.0, d.1, z.0, z.1, ((known (goal.at.returns-in-Writing c).In_ok-seen).row _ k).writing_is)
    (rw (perform, ((known (goal.at.returns-in-Writing c).In_ok-seen).row _ k).writing_is) at (done (goal.at.returns-in-Writing c).In_ok-seen _ k refl))

pub returns-in-Fetching : goal.returns-in-Fetching
returns-in-Fetching c =
    wrong (goal.at.returns-in-Fetching c).In_ok-seen _ c.in-Fetching.is refl
