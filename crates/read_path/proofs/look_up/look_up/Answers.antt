use mathlib.Core.Path.{◌≡◌, sym, ◌∙◌}
use Rattle.protocol.specs.declared.Condition.{Condition}
use Rattle.protocol.specs.Box.{left}
use Rattle.protocol.specs.Plan.{look_up, looking_up}
use Rattle.protocol.specs.Perform.{perform}
use Rattle.protocol.specs.Calls.{box_of, look_up_of}
use Rattle.judging.proofs.JudgingLaws.{is_refused, refused_on}
use Rattle.judging.proofs.ServeLaws.{refused_by, look_up_judges}
use Rattle.judging.proofs.SlotLaws.{flags_low}
use Rattle.judging.proofs.ServedLaws.{Served, served}
use Rattle.judging.proofs.CallLaws.{look_up_is}
use Rattle.read_path.proofs.look_up.look_up.Goals as goal
use Rattle.read_path.proofs.look_up.look_up.Goals.{In_ok-seen, Start}

pub returns-in_err-seen : goal.returns-in_err-seen
returns-in_err-seen c =
    let a = c.args in
    rw (refused_on c.from_residual.ensures.1)
    (refused_by (look_up a.block) (box_of a.ssd.now a.hdd.now a.table.now a.state) _ _
    (look_up_judges a.ssd.now a.hdd.now a.table.now a.state a.block)
    c.in_err-seen.field-0.0
    (is_refused _ _ _ (sym c.in_err-seen.was ∙ c.judge_block.ensures)))

-- 3 to 7 are passed
abbrev start : In_ok-seen → Start
start c = (goal.at.In_ok-seen c).Start

known : (c : In_ok-seen) → let a = (start c).args in
    Served a.ssd.now a.hdd.now 4096 a.table.now a.state a.block 0 c.in_ok-seen.seen
known c = let a = (start c).args in
    served a.ssd.now a.hdd.now 4096 a.table.now a.state a.block 0 (sym c.in_ok-seen.was ∙ c.judge_block.ensures)

-- what the call leaves, by the block's condition
done : (c : In_ok-seen) (k : Condition) → c.in_ok-seen.seen.condition ≡ k → let a = (start c).args in
    let x = box_of a.ssd.now a.hdd.now a.table.now a.state in
    left (perform (looking_up k) x) x.images ≡ look_up_of a.ssd.now a.hdd.now a.table.now a.state a.block
done c k e = let a = (start c).args in
    look_up_is a.ssd.now a.hdd.now a.table.now a.state a.block k ((known c).is k e) (known c).none

pub use_slot-requires : goal.use_slot-requires
use_slot-requires c =
    let a = (start (goal.at.use_slot-requires c).In_ok-seen).args in
    let R = (known (goal.at.use_slot-requires c).In_ok-seen).row _ c.in-Clean.is in
    record {
      s_in_bounds = R.within;
      s_bound = flags_low a.state a.table.now (known (goal.at.use_slot-requires c).In_ok-seen).box.box.sound.table-size (known (goal.at.use_slot-requires c).In_ok-seen).box.box.rows _ R.low;
    }

pub use_slot-requires-in-Dirty : goal.use_slot-requires-in-Dirty
use_slot-requires-in-Dirty c =
    let a = (start (goal.at.use_slot-requires-in-Dirty c).In_ok-seen).args in
    let R = (known (goal.at.use_slot-requires-in-Dirty c).In_ok-seen).row _ c.in-Dirty.is in
    record {
      s_in_bounds = R.within;
      s_bound = flags_low a.state a.table.now (known (goal.at.use_slot-requires-in-Dirty c).In_ok-seen).box.box.sound.table-size (known (goal.at.use_slot-requires-in-Dirty c).In_ok-seen).box.box.rows _ R.low;
    }

pub returns-in-NotCached : goal.returns-in-NotCached
unfolding perform
returns-in-NotCached c =
    let k = c.in-NotCached.is in
    rw (c.answered.ensures, k) (done (goal.at.returns-in-NotCached c).In_ok-seen _ k)

pub returns-in-Clean : goal.returns-in-Clean
unfolding perform
returns-in-Clean c =
    rw (c.answered-in-Clean.ensures, c.use_slot.ensures) (done (goal.at.returns-in-Clean c).In_ok-seen _ c.in-Clean.is)

pub returns-in-Dirty : goal.returns-in-Dirty
unfolding perform
returns-in-Dirty c =
    rw (c.answered-in-Dirty.ensures, c.use_slot-in-Dirty.ensures) (done (goal.at.returns-in-Dirty c).In_ok-seen _ c.in-Dirty.is)

pub returns-in-Writing : goal.returns-in-Writing
unfolding perform
returns-in-Writing c =
    let k = c.in-Writing.is in
    rw (c.answered-in-Writing.ensures, k) (done (goal.at.returns-in-Writing c).In_ok-seen _ k)

pub returns-in-Fetching : goal.returns-in-Fetching
unfolding perform
returns-in-Fetching c =
    let k = c.in-Fetching.is in
    rw (c.answered-in-Fetching.ensures, k) (done (goal.at.returns-in-Fetching c).In_ok-seen _ k)
