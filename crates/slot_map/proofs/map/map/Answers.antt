use mathlib.Core.Path.{◌≡◌, sym, ◌∙◌}
use Rattle.std.specs.Prelude.{None}
use lib.ListN.{length}
use borrow.Author.Tests.{lt-ltb, le-ltb}
use Rattle.record.specs.Record.{label_in}
use Rattle.protocol.specs.SlotMap.{map_bytes}
use Rattle.judging.specs.Judging.{ready_then}
use Rattle.judging.proofs.JudgingLaws.{looked, is_refused, refused_on}
use Rattle.judging.proofs.ReadyLaws.{ready}
use Rattle.judging.proofs.CallLaws.{map-refused, map-short, map_is}
use Rattle.slot_map.proofs.map.map.Goals as goal
use Rattle.slot_map.proofs.map.map.Goals.{In_ok-judge_ready, Start}

pub returns-in_err-judge_ready : goal.returns-in_err-judge_ready
returns-in_err-judge_ready c =
    let a = c.args in
    rw (refused_on c.from_residual.ensures.1)
    (map-refused a.ssd.now a.hdd.now a.table.now a.state a.sheet.now c.in_err-judge_ready.field-0.0
    (is_refused _ _ _ (sym c.in_err-judge_ready.was ∙ c.judge_ready.ensures)))

-- 3 to 6 are passed
abbrev start : In_ok-judge_ready → Start
start c = (goal.at.In_ok-judge_ready c).Start

passed : (c : In_ok-judge_ready) → let a = (start c).args in
    ready_then (length a.ssd.now) (length a.hdd.now) 4096 a.table.now a.state None ≡ None
passed c = let a = (start c).args in
    (looked _ a.table.now (record { 0 = 0 }) (sym c.in_ok-judge_ready.was ∙ c.judge_ready.ensures)).none

pub returns-then-sheet-map_bytes : goal.returns-then-sheet-map_bytes
returns-then-sheet-map_bytes c =
    let a = (start (goal.at.returns-then-sheet-map_bytes c).In_ok-judge_ready).args in
    map-short a.ssd.now a.hdd.now a.table.now a.state a.sheet.now (passed (goal.at.returns-then-sheet-map_bytes c).In_ok-judge_ready)
    (lt-ltb (length a.sheet.now) (map_bytes (label_in a.state)) (rw c.map_bytes.ensures at c.if-sheet-map_bytes.true))

pub put_map-requires : goal.put_map-requires
put_map-requires c =
    let a = (start (goal.at.put_map-requires c).In_ok-judge_ready).args in
    let R = ready a.ssd.now a.hdd.now 4096 a.table.now a.state (passed (goal.at.put_map-requires c).In_ok-judge_ready) in
    record {
      table_len = R.box.fits.table-size;
      slots_bound = R.box.fits.slots-most;
      l_in_bounds = rw c.map_bytes.ensures at c.if-sheet-map_bytes.false;
    }

pub returns : goal.returns
returns c =
    let a = (start (goal.at.returns c).In_ok-judge_ready).args in
    rw c.put_map.ensures
    (map_is a.ssd.now a.hdd.now a.table.now a.state a.sheet.now (passed (goal.at.returns c).In_ok-judge_ready)
    (le-ltb (length a.sheet.now) (map_bytes (label_in a.state)) (rw c.map_bytes.ensures at c.if-sheet-map_bytes.false)))
