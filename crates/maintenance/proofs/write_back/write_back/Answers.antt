use mathlib.Core.Path.{◌≡◌, refl, sym, ◌∙◌}
use mathlib.Core.Bool.{true, false}
use Rattle.protocol.specs.declared.Condition.{Condition}
use Rattle.protocol.specs.Box.{left, refusing}
use Rattle.protocol.specs.Plan.{write_back, writing_back}
use Rattle.protocol.specs.Perform.{perform}
use Rattle.protocol.specs.Condition.{is_open}
use Rattle.protocol.specs.Calls.{box_of, write_back_of}
use Rattle.judging.proofs.JudgingLaws.{is_refused, refused_on}
use Rattle.judging.proofs.ServeLaws.{refused_by, write_back_judges}
use Rattle.judging.proofs.ServedLaws.{Served, served}
use Rattle.judging.proofs.CallLaws.{write_back_open, write_back_is}
use Rattle.maintenance.proofs.write_back.write_back.Goals as goal
use Rattle.maintenance.proofs.write_back.write_back.Goals.{In_ok-seen, Start}

-- 3 to 7 are passed
abbrev start : In_ok-seen → Start
start c = (goal.at.In_ok-seen c).Start

known : (c : In_ok-seen) → let a = (start c).args in
    Served a.ssd.now a.hdd.now 4096 a.table.now a.state a.block 0 c.in_ok-seen.seen
known c = let a = (start c).args in
    served a.ssd.now a.hdd.now 4096 a.table.now a.state a.block 0 (sym c.in_ok-seen.was ∙ c.judge_block.ensures)

shut : (c : In_ok-seen) (k : Condition) → c.in_ok-seen.seen.condition ≡ k → is_open k ≡ true → let a = (start c).args in
    let x = box_of a.ssd.now a.hdd.now a.table.now a.state in
    left (refusing 8 x) x.images ≡ write_back_of a.ssd.now a.hdd.now a.table.now a.state a.block
shut c k e o = let a = (start c).args in
    write_back_open a.ssd.now a.hdd.now a.table.now a.state a.block k ((known c).is k e) (known c).none o

done : (c : In_ok-seen) (k : Condition) → c.in_ok-seen.seen.condition ≡ k → is_open k ≡ false → let a = (start c).args in
    let x = box_of a.ssd.now a.hdd.now a.table.now a.state in
    left (perform (writing_back x k) x) x.images ≡ write_back_of a.ssd.now a.hdd.now a.table.now a.state a.block
done c k e o = let a = (start c).args in
    write_back_is a.ssd.now a.hdd.now a.table.now a.state a.block k ((known c).is k e) (known c).none o

pub returns-in_err-seen : goal.returns-in_err-seen
returns-in_err-seen c =
    let a = c.args in
    rw (refused_on c.from_residual.ensures.1)
    (refused_by (write_back a.block) (box_of a.ssd.now a.hdd.now a.table.now a.state) _ _ (write_back_judges a.ssd.now a.hdd.now a.table.now a.state a.block) c.in_err-seen.field-0.0
    (is_refused _ _ _ (sym c.in_err-seen.was ∙ c.judge_block.ensures)))

pub copy_out-stored-requires : goal.copy_out-stored-requires
copy_out-stored-requires c =
    let R = (known (goal.at.copy_out-stored-requires c).In_ok-seen).row _ c.in-Dirty.is in
    let L = (known (goal.at.copy_out-stored-requires c).In_ok-seen).box.box.sound in
    record {
      fits_record = (known (goal.at.copy_out-stored-requires c).In_ok-seen).box.box.fits;
      hdd_len = L.hdd-size;
      blocks_bound = L.limits.blocks-most;
      s_lt_slots = R.low;
      s_bound = rw R.block_is (known (goal.at.copy_out-stored-requires c).In_ok-seen).low;
      s_value = R.dirty_is;
    }

pub returns-in-NotCached : goal.returns-in-NotCached
unfolding perform
returns-in-NotCached c =
    rw c.answered.ensures
    (done (goal.at.returns-in-NotCached c).In_ok-seen _ c.in-NotCached.is refl)

pub returns-in-Clean : goal.returns-in-Clean
unfolding perform
returns-in-Clean c =
    rw c.answered-in-Clean.ensures
    (done (goal.at.returns-in-Clean c).In_ok-seen _ c.in-Clean.is refl)

pub returns-in-Dirty : goal.returns-in-Dirty
unfolding perform
returns-in-Dirty c =
    let z = c.copy_out-stored.ensures in
    rw (c.stored.ensures, z.0, z.1, z.2)
    (done (goal.at.returns-in-Dirty c).In_ok-seen _ c.in-Dirty.is refl)

pub returns-in-Writing : goal.returns-in-Writing
returns-in-Writing c =
    shut (goal.at.returns-in-Writing c).In_ok-seen _ c.in-Writing.is refl

pub returns-in-Fetching : goal.returns-in-Fetching
returns-in-Fetching c =
    shut (goal.at.returns-in-Fetching c).In_ok-seen _ c.in-Fetching.is refl
