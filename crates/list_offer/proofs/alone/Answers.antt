use native.Mathlib.Omega.{arith}
use mathlib.Core.Path.{◌≡◌, sym, ap, subst, ◌∙◌}
use Rattle.std.specs.Prelude.{Result}
use Rattle.protocol.specs.declared.Refusal.{Refusal}
use Rattle.protocol.specs.Box.{Box, left}
use Rattle.protocol.specs.Calls.{box_of}
use Rattle.turns.specs.declared.turn.Turn.{Turn}
use Rattle.turns.specs.Turns.{offer_turn, turned, Performable}
use Rattle.judging.proofs.JudgingLaws.{refused_on}
use Rattle.judging.proofs.SlotLaws.{where_is}
use Rattle.turns.proofs.TurnLaws.{where_within}
use Rattle.list_run.specs.Runs.{place_turn}
use Rattle.list_run.proofs.FairLaws.{fair_seen, fair-legal}
use Rattle.list_turns.proofs.PlaceTurnLaws.{turn_high, turn_low}
use Rattle.list_run.proofs.PlacedLaws.{place_turn_is, placing_performs}
use Rattle.list_offer.proofs.alone.Goals as goal
use Rattle.list_offer.proofs.alone.Goals.{After-offer, Start}

abbrev box : Start → Box
box s = let a = s.args in box_of a.ssd.now a.hdd.now a.table.now a.state

pub returns-then-state-b : goal.returns-then-state-b
returns-then-state-b c =
    let a = c.args in
    let x = box (goal.at.returns-then-state-b c).Start in
    ap (λ (T : Result Turn Refusal). left (turned T a.b a.caller x) x.images)
    (turn_high a.state.label a.table.now a.state.hand _ a.b (omega arith))

-- the turn of a block that 7 does not refuse
by_turn : (c : After-offer) → let a = c.args in c.offer.result ≡ place_turn a.table.now a.state a.b a.caller
by_turn c =
    let a = c.args in
    c.offer.ensures ∙ ap (offer_turn a.table.now a.state a.caller) c.requires.condition_value
    ∙ turn_low a.state.label a.table.now a.state.hand _ a.b (omega arith)

-- what it leaves
leaves : (c : After-offer) {T : Result Turn Refusal} → c.offer.result ≡ T → let a = c.args in let x = box (goal.at.After-offer c).Start in
    left (turned T a.b a.caller x) x.images ≡ left (turned (place_turn a.table.now a.state a.b a.caller) a.b a.caller x) x.images
leaves c e = let a = c.args in let x = box (goal.at.After-offer c).Start in
    ap (λ (T : Result Turn Refusal). left (turned T a.b a.caller x) x.images) (sym e ∙ by_turn c)

pub offer-requires : goal.offer-requires
offer-requires c =
    let a = c.args in
    let F = c.requires.fair in record {
      seen = fair_seen F;
      within = where_within a.state a.table.now a.b a.condition
          (where_is a.state a.table.now a.b F.size a.condition (sym c.requires.condition_value));
    }

pub returns-in_err-turn : goal.returns-in_err-turn
returns-in_err-turn c =
    rw (refused_on c.from_residual.ensures.1) (leaves (goal.at.returns-in_err-turn c).After-offer c.in_err-turn.was)

pub perform-requires : goal.perform-requires
perform-requires c =
    let a = c.args in
    let F = c.requires.fair in
    let p = placing_performs a.table.now a.state a.b a.caller F (place_turn_is a.table.now a.state a.b a.caller F) in
    record {
      fits_record = c.requires.fits_record;
      hdd_len = c.requires.hdd_len;
      state_value = F.record_kept;
      table_value = fair-legal F;
      performable = subst (λ (T : Result Turn Refusal). Performable T a.table.now a.state)
          (sym (by_turn (goal.at.perform-requires c).After-offer) ∙ c.in_ok-turn.was) p;
    }

pub returns : goal.returns
returns c = c.perform.ensures ∙ leaves (goal.at.returns c).After-offer c.in_ok-turn.was
