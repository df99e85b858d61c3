use mathlib.Core.Path.{◌≡◌, sym, ◌∙◌}
use Rattle.std.specs.Prelude.{None}
use native.Mathlib.Omega.{arith}
use lib.ListN.{length}
use borrow.Author.Tests.{le-leb, lt-leb}
use Rattle.layout.specs.Stamps.{largest_stamp}
use Rattle.layout.proofs.PlaceLaws.{within}
use Rattle.record.specs.Record.{label_in}
use Rattle.protocol.specs.Plan.{step}
use Rattle.protocol.specs.Perform.{confirmed, perform}
use Rattle.protocol.specs.Calls.{box_of}
use Rattle.judging.specs.Judging.{sound_then}
use Rattle.judging.proofs.JudgingLaws.{looked, is_refused, refused_on}
use Rattle.judging.proofs.ServeLaws.{refused_by}
use Rattle.judging.proofs.ReadyLaws.{SoundBox, sound}
use Rattle.steps.proofs.StepLaws.{step_judges, step_ready, step_formats, step_spent, step_mends, steps_low, some_pending}
use Rattle.steps.proofs.step.step.Goals as goal
use Rattle.steps.proofs.step.step.Goals.{In_ok-judge_box, Start}

-- what is found where 3 to 5 are passed
abbrev start : In_ok-judge_box → Start
start c = (goal.at.In_ok-judge_box c).Start

passed : (c : In_ok-judge_box) → let a = (start c).args in
    sound_then (length a.ssd.now) (length a.hdd.now) 4096 a.table.now a.state None ≡ None
passed c = let a = (start c).args in
    (looked _ a.table.now (record { 0 = 0 }) (sym c.in_ok-judge_box.was ∙ c.judge_box.ensures)).none

box : (c : In_ok-judge_box) → let a = (start c).args in SoundBox a.ssd.now a.hdd.now 4096 a.table.now a.state
box c = let a = (start c).args in sound a.ssd.now a.hdd.now 4096 a.table.now a.state (passed c)

pub returns-in_err-judge_box : goal.returns-in_err-judge_box
returns-in_err-judge_box c =
    let a = c.args in
    rw (refused_on c.from_residual.ensures.1)
    (refused_by step (box_of a.ssd.now a.hdd.now a.table.now a.state) _ _
    (step_judges a.ssd.now a.hdd.now a.table.now a.state) c.in_err-judge_box.field-0.0
    (is_refused _ _ _ (sym c.in_err-judge_box.was ∙ c.judge_box.ensures)))

pub format_step-requires : goal.format_step-requires
format_step-requires c =
    let S = box (goal.at.format_step-requires c).In_ok-judge_box in
    record { fits_record = S.fits; state_value = (within _).1 S.sound.limits; done_bound = steps_low _ _ _ _ S _ c.in-Formatting.is }

pub returns-then-top-state : goal.returns-then-top-state
returns-then-top-state c =
    let a = (start (goal.at.returns-then-top-state c).In_ok-judge_box).args in
    step_spent a.ssd.now a.hdd.now a.table.now a.state (passed (goal.at.returns-then-top-state c).In_ok-judge_box) c.in-Recovering.is
    (le-leb (largest_stamp (label_in a.state)) _ (omega (arith, c.largest_stamp-top.ensures, c.if-top-state.true)))

pub mend-requires : goal.mend-requires
mend-requires c =
    let S = box (goal.at.mend-requires c).In_ok-judge_box in record {
      fits_record = S.fits;
      state_value = S.record_kept;
      le_count = some_pending _ _ _ _ S c.in-Recovering.is;
      newest_bound = omega (arith, c.largest_stamp-top.ensures, c.if-top-state.false);
    }

pub returns-in-Ready : goal.returns-in-Ready
returns-in-Ready c =
    let a = (start (goal.at.returns-in-Ready c).In_ok-judge_box).args in
    step_ready a.ssd.now a.hdd.now a.table.now a.state (passed (goal.at.returns-in-Ready c).In_ok-judge_box) c.in-Ready.is

pub returns-in-Formatting : goal.returns-in-Formatting
returns-in-Formatting c =
    let a = (start (goal.at.returns-in-Formatting c).In_ok-judge_box).args in
    let z = c.format_step.ensures in
    rw (z.0, z.1)
    (step_formats a.ssd.now a.hdd.now a.table.now a.state (passed (goal.at.returns-in-Formatting c).In_ok-judge_box) _
    c.in-Formatting.is)

pub returns-else-top-state : goal.returns-else-top-state
unfolding confirmed perform
returns-else-top-state c =
    let a = (start (goal.at.returns-else-top-state c).In_ok-judge_box).args in
    let z = c.mend.ensures in
    rw (z.0, z.1)
    (step_mends a.ssd.now a.hdd.now a.table.now a.state (passed (goal.at.returns-else-top-state c).In_ok-judge_box) c.in-Recovering.is
    (lt-leb (largest_stamp (label_in a.state)) _ (omega (arith, c.largest_stamp-top.ensures, c.if-top-state.false))))
