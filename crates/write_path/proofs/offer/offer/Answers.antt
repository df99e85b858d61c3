use mathlib.Core.Path.{◌≡◌, refl, sym, ap, subst, ◌∙◌}
use Rattle.std.specs.Prelude.{Result, Ok}
use Rattle.protocol.specs.declared.Refusal.{Refusal}
use Rattle.protocol.specs.Box.{Effect, left}
use Rattle.protocol.specs.Plan.{offer}
use Rattle.protocol.specs.Perform.{confirmed, perform}
use Rattle.protocol.specs.Calls.{box_of, offer_of}
use Rattle.turns.specs.declared.turn.Turn.{Turn}
use Rattle.turns.specs.Turns.{Within, offer_turn, Performable, turned}
use Rattle.judging.proofs.JudgingLaws.{is_refused, refused_on}
use Rattle.judging.proofs.ServeLaws.{refused_by, offer_judges}
use Rattle.judging.proofs.ServedLaws.{Served, served}
use Rattle.turns.proofs.TurnLaws.{seen, where_within}
use Rattle.performing.proofs.PerformLaws.{offer_performs, offer_turned}
use Rattle.write_path.proofs.offer.offer.Goals as goal
use Rattle.write_path.proofs.offer.offer.Goals.{After-offer, In_ok-seen, Start}

-- 3 to 7 are passed
abbrev start : In_ok-seen → Start
start c = (goal.at.In_ok-seen c).Start

known : (c : In_ok-seen) → let a = (start c).args in
    Served a.ssd.now a.hdd.now 4096 a.table.now a.state a.block a.caller c.in_ok-seen.seen
known c = let a = (start c).args in
    served a.ssd.now a.hdd.now 4096 a.table.now a.state a.block a.caller (sym c.in_ok-seen.was ∙ c.judge_block.ensures)

-- the slot that the block's condition names
within : (c : In_ok-seen) → Within (start c).args.state.label.slots c.in_ok-seen.seen.condition
within c =
    let a = (start c).args in
    let k = c.in_ok-seen.seen.condition in
    where_within a.state a.table.now a.block k ((known c).row k refl)

pub returns-in_err-seen : goal.returns-in_err-seen
returns-in_err-seen c =
    let a = c.args in
    rw (refused_on c.from_residual.ensures.1)
    (refused_by (offer a.block a.caller) (box_of a.ssd.now a.hdd.now a.table.now a.state) _ _ (offer_judges a.ssd.now a.hdd.now a.table.now a.state a.block a.caller) c.in_err-seen.field-0.0
    (is_refused _ _ _ (sym c.in_err-seen.was ∙ c.judge_block.ensures)))

pub offer-requires : goal.offer-requires
offer-requires c =
    let a = (start c).args in record {
      seen = seen a.ssd.now a.hdd.now 4096 a.table.now a.state a.block a.caller _ (known c);
      within = within c;
    }

-- what its turn leaves is what the call does
turned_so : (d : After-offer) (T : Result Turn Refusal) → d.offer.result ≡ T → let a = (start (goal.at.After-offer d).In_ok-seen).args in
    let x = box_of a.ssd.now a.hdd.now a.table.now a.state in
    left (turned T a.block a.caller x) x.images ≡ offer_of a.ssd.now a.hdd.now a.table.now a.state a.block a.caller
turned_so d T e =
    let z = (goal.at.After-offer d).In_ok-seen in
    let a = (start z).args in
    let x = box_of a.ssd.now a.hdd.now a.table.now a.state in
    ap (λ (T : Result Turn Refusal). left (turned T a.block a.caller x) x.images)
    (sym e ∙ d.offer.ensures ∙ ap (offer_turn a.table.now a.state a.caller) (sym ((known z).is _ refl)))
    ∙ ap (λ (f : Effect). left f x.images) (sym (offer_turned a.ssd.now a.hdd.now a.table.now a.state a.block a.caller (known z).none))

pub returns-in_err-turn : goal.returns-in_err-turn
returns-in_err-turn c =
    rw (refused_on c.from_residual-in_err-turn.ensures.1) (turned_so (goal.at.returns-in_err-turn c).After-offer _ c.in_err-turn.was)

pub returns-in-Passes : goal.returns-in-Passes
unfolding confirmed perform
returns-in-Passes c =
    rw c.answered.ensures (turned_so (goal.at.returns-in-Passes c).After-offer _ (c.in_ok-turn.was ∙ ap Ok c.in-Passes.is))

pub perform-requires : goal.perform-requires
perform-requires c =
    let z = (goal.at.perform-requires c).In_ok-seen in
    let a = (start z).args in
    let B = (known z).box.box in
    record {
      fits_record = B.fits;
      hdd_len = B.sound.hdd-size;
      state_value = B.record_kept;
      table_value = B.rows;
      performable = subst (λ (T : Result Turn Refusal). Performable T a.table.now a.state) (sym c.offer.ensures ∙ c.in_ok-turn.was)
          (offer_performs a.ssd.now a.hdd.now a.table.now a.state a.block a.caller (known z).none c.in_ok-seen.seen.condition (within z));
    }

pub returns : goal.returns
returns c = c.perform.ensures ∙ turned_so (goal.at.returns c).After-offer _ c.in_ok-turn.was
