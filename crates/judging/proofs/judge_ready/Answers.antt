use Rattle.std.proofs.Common.{◌≡◌, ap, ◌∙◌, inl, inr}
use Rattle.std.specs.Prelude.{ℕ, Bool, false, not, ◌⊎◌, None}
use Rattle.record.specs.declared.Phase.TheVariants.{Formatting, Recovering}
use Rattle.record.specs.declared.Phase.{Phase}
use Rattle.protocol.specs.declared.Refusal.TheVariants.{WrongPhase}
use Rattle.protocol.specs.Judge.{is_ready}
use Rattle.judging.specs.Judging.{refuse_if}
use Rattle.judging.proofs.JudgingLaws.{sound_asks, went_on, stopped_at, refused_on, unless_some}
use Rattle.judging.proofs.judge_ready.Goals as goal

pub returns-in_err-judged : goal.returns-in_err-judged
returns-in_err-judged c =
    let a = c.args in
    refused_on c.from_residual.ensures.1
    ∙ unless_some _ (stopped_at (sound_asks a.ssd a.hdd a.page a.table.now a.state) _ _ c.in_err-judged.was c.judge_box.ensures _)

unready : (p : Phase) → (p ≡ Recovering) ⊎ ((d : ℕ) × (p ≡ Formatting d)) → is_ready p ≡ false
unready p (inl e) = ap is_ready e
unready p (inr k) = ap is_ready k.1

pub returns-in-Recovering : goal.returns-in-Recovering
returns-in-Recovering c =
    let a = c.args in
    unless_some _
    (went_on (sound_asks a.ssd a.hdd a.page a.table.now a.state) _ _ c.in_ok-judged.was c.judge_box.ensures _
    ∙ ap (λ (b : Bool). refuse_if (not b) WrongPhase None) (unready _ c.in-Recovering.is))
