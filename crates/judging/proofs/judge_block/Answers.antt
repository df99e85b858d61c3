use Rattle.std.proofs.Common.{ap, ◌∙◌, leb, arith}
use Rattle.std.specs.Prelude.{Bool, None}
use borrow.Author.Tests.{lt-ltb, le-ltb, le-leb}
use Rattle.protocol.specs.declared.Refusal.TheVariants.{BlockTooHigh, UnknownCaller}
use Rattle.judging.specs.Judging.{refuse_if}
use Rattle.judging.proofs.JudgingLaws.{ready_asks, went_on, stopped_at, refused_on, unless_some}
use Rattle.judging.proofs.judge_block.Goals as goal

pub returns-in_err-judged : goal.returns-in_err-judged
returns-in_err-judged c =
    let a = c.args in
    refused_on c.from_residual.ensures.1
    ∙ unless_some _ (stopped_at (ready_asks a.ssd a.hdd a.page a.table.now a.state) _ _ c.in_err-judged.was c.judge_ready.ensures _)

pub returns-then-caller-gt-IMPORT : goal.returns-then-caller-gt-IMPORT
returns-then-caller-gt-IMPORT c =
    let a = c.args in
    unless_some _
    (went_on (ready_asks a.ssd a.hdd a.page a.table.now a.state) _ _ c.in_ok-judged.was c.judge_ready.ensures _
    ∙ ap (λ (b : Bool). refuse_if b UnknownCaller (refuse_if (leb a.state.label.blocks a.b.0) BlockTooHigh None))
    (lt-ltb _ _ c.if-caller-gt-IMPORT.true))

pub returns-then-state-b : goal.returns-then-state-b
returns-then-state-b c =
    let a = c.args in
    unless_some _
    (went_on (ready_asks a.ssd a.hdd a.page a.table.now a.state) _ _ c.in_ok-judged.was c.judge_ready.ensures _
    ∙ ap (λ (b : Bool). refuse_if b UnknownCaller (refuse_if (leb a.state.label.blocks a.b.0) BlockTooHigh None))
    (le-ltb _ _ c.if-caller-gt-IMPORT.false)
    ∙ ap (λ (b : Bool). refuse_if b BlockTooHigh None) (le-leb a.state.label.blocks a.b.0 (omega arith)))
