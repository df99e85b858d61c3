use mathlib.Core.Path.{◌≡◌, sym, ◌∙◌}
use Rattle.std.specs.Prelude.{None}
use native.Mathlib.Omega.{arith}
use lib.ListN.{length}
use borrow.Author.Tests.{not-true, not-false, le-leb, lt-leb}
use Rattle.layout.specs.Stamps.{largest_stamp}
use Rattle.record.specs.Record.{label_in}
use Rattle.protocol.specs.Plan.{flush}
use Rattle.protocol.specs.Perform.{confirmed, perform}
use Rattle.protocol.specs.Calls.{box_of}
use Rattle.judging.specs.Judging.{ready_then}
use Rattle.judging.proofs.JudgingLaws.{looked, is_refused, refused_on}
use Rattle.judging.proofs.ServeLaws.{refused_by, flush_judges}
use Rattle.judging.proofs.ReadyLaws.{ready}
use Rattle.layout.proofs.PlaceLaws.{meta_of-low}
use Rattle.judging.proofs.CallLaws.{flush_idle, flush_spent, flush_done}
use Rattle.maintenance.proofs.flush.flush.Goals as goal
use Rattle.maintenance.proofs.flush.flush.Goals.{In_ok-judge_ready, Start}

-- what is found where 3 to 6 are passed
abbrev start : In_ok-judge_ready → Start
start c = (goal.at.In_ok-judge_ready c).Start

passed : (c : In_ok-judge_ready) → let a = (start c).args in
    ready_then (length a.ssd.now) (length a.hdd.now) 4096 a.table.now a.state None ≡ None
passed c = let a = (start c).args in
    (looked _ a.table.now (record { 0 = 0 }) (sym c.in_ok-judge_ready.was ∙ c.judge_ready.ensures)).none

pub returns-in_err-judge_ready : goal.returns-in_err-judge_ready
returns-in_err-judge_ready c =
    let a = c.args in
    rw (refused_on c.from_residual.ensures.1)
    (refused_by flush (box_of a.ssd.now a.hdd.now a.table.now a.state) _ _ (flush_judges a.ssd.now a.hdd.now a.table.now a.state) c.in_err-judge_ready.field-0.0
    (is_refused _ _ _ (sym c.in_err-judge_ready.was ∙ c.judge_ready.ensures)))

pub returns-then-not-state : goal.returns-then-not-state
unfolding confirmed perform
returns-then-not-state c =
    let a = (start (goal.at.returns-then-not-state c).In_ok-judge_ready).args in
    rw c.answered.ensures (flush_idle a.ssd.now a.hdd.now a.table.now a.state (passed (goal.at.returns-then-not-state c).In_ok-judge_ready) (not-true _ c.if-not-state.true))

pub returns-then-top-state : goal.returns-then-top-state
returns-then-top-state c =
    let a = (start (goal.at.returns-then-top-state c).In_ok-judge_ready).args in
    flush_spent a.ssd.now a.hdd.now a.table.now a.state (passed (goal.at.returns-then-top-state c).In_ok-judge_ready) (not-false _ c.if-not-state.false)
    (le-leb (largest_stamp (label_in a.state)) _ (omega (arith, c.largest_stamp-top.ensures, c.if-top-state.true)))

pub confirm-requires : goal.confirm-requires
confirm-requires c =
    let a = (start (goal.at.confirm-requires c).In_ok-judge_ready).args in
    let B = ready a.ssd.now a.hdd.now 4096 a.table.now a.state (passed (goal.at.confirm-requires c).In_ok-judge_ready) in record {
      fits_record = B.box.fits;
      p_bound = meta_of-low (label_in a.state) (record { 0 = 0 }) B.box.sound.limits.some_slot;
      newest_bound = omega (arith, c.largest_stamp-top.ensures, c.if-top-state.false);
    }

pub returns : goal.returns
unfolding confirmed perform
returns c =
    let a = (start (goal.at.returns c).In_ok-judge_ready).args in
    let z = c.confirm.ensures in
    rw (z.0, z.1)
    (flush_done a.ssd.now a.hdd.now a.table.now a.state (passed (goal.at.returns c).In_ok-judge_ready) (not-false _ c.if-not-state.false)
    (lt-leb (largest_stamp (label_in a.state)) _ (omega (arith, c.largest_stamp-top.ensures, c.if-top-state.false))))
