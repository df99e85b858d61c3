use mathlib.Core.Path.{◌≡◌, sym, ◌∙◌}
use Rattle.pages.specs.Parts.{part}
use Rattle.protocol.specs.declared.Condition.{Condition}
use Rattle.record.specs.Record.{label_in}
use Rattle.protocol.specs.Calls.{view_part, view_of}
use Rattle.judging.proofs.JudgingLaws.{is_refused, refused_on}
use Rattle.judging.proofs.ServedLaws.{Served, served}
use Rattle.moves.proofs.MoveLaws.{data_holds, block_holds}
use Rattle.judging.proofs.CallLaws.{view_refused, view_is}
use Rattle.read_path.proofs.view.view.Goals as goal
use Rattle.read_path.proofs.view.view.Goals.{In_ok-seen, Start}

-- 3 to 7 are passed
abbrev start : In_ok-seen → Start
start c = (goal.at.In_ok-seen c).Start

known : (c : In_ok-seen) → let a = (start c).args in
    Served a.ssd.now a.hdd.now 4096 a.table.now a.state a.block 0 c.in_ok-seen.seen
known c = let a = (start c).args in
    served a.ssd.now a.hdd.now 4096 a.table.now a.state a.block 0 (sym c.in_ok-seen.was ∙ c.judge_block.ensures)

-- the page that is handed back, by the block's condition
seen : (c : In_ok-seen) (k : Condition) → c.in_ok-seen.seen.condition ≡ k → let a = (start c).args in
    record { number = 0; handed = view_part (part a.ssd) (part a.hdd) (label_in a.state) a.block k }
    ≡ view_of (part a.ssd) (part a.hdd) a.table.now a.state a.block
seen c k e = let a = (start c).args in
    view_is (part a.ssd) (part a.hdd) a.table.now a.state a.block k ((known c).is k e) (known c).none

pub returns-in_err-seen : goal.returns-in_err-seen
returns-in_err-seen c =
    let a = c.args in
    rw (refused_on c.from_residual.ensures.1)
    (view_refused (part a.ssd) (part a.hdd) a.table.now a.state a.block c.in_err-seen.field-0.0
    (is_refused _ _ _ (sym c.in_err-seen.was ∙ c.judge_block.ensures)))

pub page_at-requires : goal.page_at-requires
page_at-requires c =
    let a = (start (goal.at.page_at-requires c).In_ok-seen).args in
    block_holds a.hdd.now a.state.label a.block _ (known (goal.at.page_at-requires c).In_ok-seen).box.box.sound.hdd-size (known (goal.at.page_at-requires c).In_ok-seen).low c.block_place.ensures

pub page_at-requires-in-Clean : goal.page_at-requires-in-Clean
page_at-requires-in-Clean c =
    let a = (start (goal.at.page_at-requires-in-Clean c).In_ok-seen).args in
    let R = (known (goal.at.page_at-requires-in-Clean c).In_ok-seen).row _ c.in-Clean.is in
    data_holds a.ssd.now a.state.label _ _ (known (goal.at.page_at-requires-in-Clean c).In_ok-seen).box.box.sound.ssd-size R.low c.data_place.ensures

pub page_at-requires-in-Dirty : goal.page_at-requires-in-Dirty
page_at-requires-in-Dirty c =
    let a = (start (goal.at.page_at-requires-in-Dirty c).In_ok-seen).args in
    let R = (known (goal.at.page_at-requires-in-Dirty c).In_ok-seen).row _ c.in-Dirty.is in
    data_holds a.ssd.now a.state.label _ _ (known (goal.at.page_at-requires-in-Dirty c).In_ok-seen).box.box.sound.ssd-size R.low c.data_place-in-Dirty.ensures

pub page_at-requires-in-Writing : goal.page_at-requires-in-Writing
page_at-requires-in-Writing c =
    let a = (start (goal.at.page_at-requires-in-Writing c).In_ok-seen).args in
    block_holds a.hdd.now a.state.label a.block _ (known (goal.at.page_at-requires-in-Writing c).In_ok-seen).box.box.sound.hdd-size (known (goal.at.page_at-requires-in-Writing c).In_ok-seen).low c.block_place-in-Writing.ensures

pub page_at-requires-in-Fetching : goal.page_at-requires-in-Fetching
page_at-requires-in-Fetching c =
    let a = (start (goal.at.page_at-requires-in-Fetching c).In_ok-seen).args in
    block_holds a.hdd.now a.state.label a.block _ (known (goal.at.page_at-requires-in-Fetching c).In_ok-seen).box.box.sound.hdd-size (known (goal.at.page_at-requires-in-Fetching c).In_ok-seen).low c.block_place-in-Fetching.ensures

pub returns-in-NotCached : goal.returns-in-NotCached
returns-in-NotCached c =
    rw (c.page_at.ensures, c.block_place.ensures)
    (seen (goal.at.returns-in-NotCached c).In_ok-seen _ c.in-NotCached.is)

pub returns-in-Clean : goal.returns-in-Clean
returns-in-Clean c =
    rw (c.page_at-in-Clean.ensures, c.data_place.ensures)
    (seen (goal.at.returns-in-Clean c).In_ok-seen _ c.in-Clean.is)

pub returns-in-Dirty : goal.returns-in-Dirty
returns-in-Dirty c =
    rw (c.page_at-in-Dirty.ensures, c.data_place-in-Dirty.ensures)
    (seen (goal.at.returns-in-Dirty c).In_ok-seen _ c.in-Dirty.is)

pub returns-in-Writing : goal.returns-in-Writing
returns-in-Writing c =
    rw (c.page_at-in-Writing.ensures, c.block_place-in-Writing.ensures)
    (seen (goal.at.returns-in-Writing c).In_ok-seen _ c.in-Writing.is)

pub returns-in-Fetching : goal.returns-in-Fetching
returns-in-Fetching c =
    rw (c.page_at-in-Fetching.ensures, c.block_place-in-Fetching.ensures)
    (seen (goal.at.returns-in-Fetching c).In_ok-seen _ c.in-Fetching.is)
