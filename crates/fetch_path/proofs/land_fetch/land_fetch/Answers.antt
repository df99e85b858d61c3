use mathlib.Core.Path.{◌≡◌, refl, sym, ◌∙◌}
use mathlib.Core.Bool.{true, false}
use Rattle.protocol.specs.declared.Condition.{Condition}
use Rattle.protocol.specs.Box.{left, refusing}
use Rattle.protocol.specs.Plan.{land_fetch, landing_fetch}
use Rattle.protocol.specs.Perform.{perform}
use Rattle.protocol.specs.Condition.{takes_fetch}
use Rattle.protocol.specs.Calls.{box_of, land_fetch_of}
use Rattle.judging.proofs.JudgingLaws.{is_refused, refused_on}
use Rattle.judging.proofs.ServeLaws.{refused_by, land_fetch_judges}
use Rattle.judging.proofs.ReadyLaws.{open_listed}
use Rattle.judging.proofs.SlotLaws.{flags_low}
use Rattle.judging.proofs.ServedLaws.{Served, served}
use Rattle.judging.proofs.CallLaws.{land_fetch_wrong, land_fetch_is}
use Rattle.fetch_path.proofs.land_fetch.land_fetch.Goals as goal
use Rattle.fetch_path.proofs.land_fetch.land_fetch.Goals.{In_ok-seen, Start}

-- 3 to 7 are passed
abbrev start : In_ok-seen → Start
start c = (goal.at.In_ok-seen c).Start

known : (c : In_ok-seen) → let a = (start c).args in
    Served a.ssd.now a.hdd.now 4096 a.table.now a.state a.block 0 c.in_ok-seen.seen
known c = let a = (start c).args in
    served a.ssd.now a.hdd.now 4096 a.table.now a.state a.block 0 (sym c.in_ok-seen.was ∙ c.judge_block.ensures)

wrong : (c : In_ok-seen) (k : Condition) → c.in_ok-seen.seen.condition ≡ k → takes_fetch k ≡ false → let a = (start c).args in
    let x = box_of a.ssd.now a.hdd.now a.table.now a.state in
    left (refusing 9 x) x.images ≡ land_fetch_of a.ssd.now a.hdd.now a.table.now a.state a.block
wrong c k e o = let a = (start c).args in
    land_fetch_wrong a.ssd.now a.hdd.now a.table.now a.state a.block k ((known c).is k e) (known c).none o

done : (c : In_ok-seen) (k : Condition) → c.in_ok-seen.seen.condition ≡ k → takes_fetch k ≡ true → let a = (start c).args in
    let x = box_of a.ssd.now a.hdd.now a.table.now a.state in
    left (perform (landing_fetch x a.block k) x) x.images ≡ land_fetch_of a.ssd.now a.hdd.now a.table.now a.state a.block
done c k e o = let a = (start c).args in
    land_fetch_is a.ssd.now a.hdd.now a.table.now a.state a.block k ((known c).is k e) (known c).none o

pub returns-in_err-seen : goal.returns-in_err-seen
returns-in_err-seen c =
    let a = c.args in
    rw (refused_on c.from_residual.ensures.1)
    (refused_by (land_fetch a.block) (box_of a.ssd.now a.hdd.now a.table.now a.state) _ _ (land_fetch_judges a.ssd.now a.hdd.now a.table.now a.state a.block) c.in_err-seen.field-0.0
    (is_refused _ _ _ (sym c.in_err-seen.was ∙ c.judge_block.ensures)))

pub copy_in-stored-requires : goal.copy_in-stored-requires
copy_in-stored-requires c =
    let R = (known (goal.at.copy_in-stored-requires c).In_ok-seen).row _ c.in-Fetching.is in
    record {
      ssd_len = (known (goal.at.copy_in-stored-requires c).In_ok-seen).box.box.sound.ssd-size;
      hdd_len = (known (goal.at.copy_in-stored-requires c).In_ok-seen).box.box.sound.hdd-size;
      slots_bound = (known (goal.at.copy_in-stored-requires c).In_ok-seen).box.box.fits.slots-most;
      s_lt_slots = R.low;
      b_lt_blocks = (known (goal.at.copy_in-stored-requires c).In_ok-seen).low;
    }

pub close_slot-next-requires : goal.close_slot-next-requires
close_slot-next-requires c =
    let a = (start (goal.at.close_slot-next-requires c).In_ok-seen).args in
    let R = (known (goal.at.close_slot-next-requires c).In_ok-seen).row _ c.in-Fetching.is in record {
      state_value = (known (goal.at.close_slot-next-requires c).In_ok-seen).box.box.record_kept;
      state_value_2 = open_listed _ _ _ _ _ (known (goal.at.close_slot-next-requires c).In_ok-seen).box _ R.low R.writing_is;
      s_in_bounds = R.within;
      s_bound = flags_low a.state a.table.now (known (goal.at.close_slot-next-requires c).In_ok-seen).box.box.sound.table-size (known (goal.at.close_slot-next-requires c).In_ok-seen).box.box.rows _ R.low;
    }

pub returns-in-NotCached : goal.returns-in-NotCached
returns-in-NotCached c =
    wrong (goal.at.returns-in-NotCached c).In_ok-seen _ c.in-NotCached.is refl

pub returns-in-Clean : goal.returns-in-Clean
returns-in-Clean c =
    wrong (goal.at.returns-in-Clean c).In_ok-seen _ c.in-Clean.is refl

pub returns-in-Dirty : goal.returns-in-Dirty
returns-in-Dirty c =
    wrong (goal.at.returns-in-Dirty c).In_ok-seen _ c.in-Dirty.is refl

pub returns-in-Writing : goal.returns-in-Writing
returns-in-Writing c =
    wrong (goal.at.returns-in-Writing c).In_ok-seen _ c.in-Writing.is refl

pub returns-in-Fetching : goal.returns-in-Fetching
unfolding perform
returns-in-Fetching c =
    let k = c.in-Fetching.is in
    let z = c.close_slot-next.ensures in
    let d = c.copy_in-stored.ensures in
    rw (c.stored.ensures, d.0, d.1, z.0, z.1, ((known (goal.at.returns-in-Fetching c).In_ok-seen).row _ k).writing_is)
    (rw (perform, ((known (goal.at.returns-in-Fetching c).In_ok-seen).row _ k).writing_is) at (done (goal.at.returns-in-Fetching c).In_ok-seen _ k refl))
