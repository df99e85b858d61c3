use mathlib.Core.Path.{◌≡◌, refl, sym, ap, ◌∙◌}
use Rattle.std.specs.Prelude.{Result as OrRefused}
use Rattle.protocol.specs.declared.Outcome.{Outcome}
use Rattle.protocol.specs.declared.Refusal.{Refusal}
use Rattle.protocol.specs.Plan.{land_fetch}
use Rattle.protocol.specs.Calls.{ends, result_of, box_of}
use Rattle.judging.proofs.JudgingLaws.{refused_on}
use Rattle.load_calls.proofs.OpeningLaws.{no_refusal}
use Rattle.load_turns.proofs.TurnLaws.{fetch_landed}
use Rattle.load_turns.proofs.land_fetched.Goals as goal
use Rattle.load_turns.proofs.land_fetched.Goals.{After-land_fetch}

-- what the landing leaves, where its value is known
landing : (c : After-land_fetch) (q : OrRefused Outcome Refusal) → c.land_fetch.result ≡ q → let a = c.args in
    ends a.state.now q c.land_fetch.new.ssd a.hdd.now c.land_fetch.new.table
    ≡ result_of (land_fetch a.block) (box_of a.ssd.now a.hdd.now a.table.now a.state.now)
landing c q e =
    let a = c.args in
    ap (λ (m : OrRefused Outcome Refusal). ends a.state.now m c.land_fetch.new.ssd a.hdd.now c.land_fetch.new.table) (sym e)
    ∙ c.land_fetch.ensures

pub returns-in_err-state : goal.returns-in_err-state
returns-in_err-state c =
    λ page plain. rw (refused_on c.from_residual.ensures.1)
    (fetch_landed _ page _ plain _ _ refl (landing (goal.at.returns-in_err-state c).After-land_fetch _ c.in_err-state.was))

pub returns : goal.returns
returns c =
    λ page plain. fetch_landed _ page _ plain _ _ (sym (no_refusal c.in_ok-state.field-0.answer))
    (landing (goal.at.returns c).After-land_fetch _ c.in_ok-state.was)
