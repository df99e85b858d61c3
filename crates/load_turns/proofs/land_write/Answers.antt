use mathlib.Core.Path.{◌≡◌, refl, sym, ap, ◌∙◌}
use mathlib.Core.List.{List}
use Prim.Native.Nat.{ℕ}
use Rattle.std.specs.Prelude.{Result as OrRefused}
use Rattle.pages.specs.Pages.{put_page}
use Rattle.protocol.specs.declared.Outcome.{Outcome}
use Rattle.protocol.specs.declared.Refusal.{Refusal}
use Rattle.protocol.specs.Plan.{land}
use Rattle.protocol.specs.Calls.{ends, result_of, box_of}
use Rattle.judging.proofs.JudgingLaws.{refused_on}
use Rattle.load_calls.proofs.OpeningLaws.{no_refusal}
use Rattle.draws.specs.Draws.{draw_page}
use Rattle.load_turns.proofs.TurnLaws.{write_landed, write_stored}
use Rattle.load_turns.proofs.land_write.Goals as goal
use Rattle.load_turns.proofs.land_write.Goals.{After-land}

-- what the landing leaves, where its value is known
landing : (c : After-land) (q : OrRefused Outcome Refusal) → c.land.result ≡ q → let a = c.args in
    ends a.state.now q c.land.new.ssd a.hdd.now c.land.new.table
    ≡ result_of (land a.block (draw_page a.s)) (box_of a.ssd.now a.hdd.now a.table.now a.state.now)
landing c q e =
    let a = c.args in
    ap (λ (m : OrRefused Outcome Refusal). ends a.state.now m c.land.new.ssd a.hdd.now c.land.new.table) (sym e)
    ∙ c.land.ensures
    ∙ ap (λ (p : List ℕ). result_of (land a.block p) (box_of a.ssd.now a.hdd.now a.table.now a.state.now)) c.fill_page.ensures

pub returns-in_err-state : goal.returns-in_err-state
returns-in_err-state c =
    let a = c.args in
    rw (refused_on c.from_residual.ensures.1)
    (write_landed a.block (draw_page a.s) _ a.plain.now _ _ refl (landing (goal.at.returns-in_err-state c).After-land _ c.in_err-state.was))

pub returns : goal.returns
returns c =
    let a = c.args in
    write_stored a.block (draw_page a.s) _ a.plain.now _ _ (sym (no_refusal c.in_ok-state.field-0.answer)) _ refl
    (c.store.ensures ∙ ap (λ (p : List ℕ). put_page a.plain.now a.block.0 p) c.fill_page.ensures)
    (landing (goal.at.returns c).After-land _ c.in_ok-state.was)
