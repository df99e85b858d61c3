use mathlib.Core.Path.{◌≡◌, refl, sym, ap, subst, ◌∙◌}
use Rattle.std.specs.Prelude.{Result}
use Rattle.protocol.specs.declared.Refusal.{Refusal}
use Rattle.protocol.specs.Box.{Effect, left}
use Rattle.protocol.specs.Plan.{fetch}
use Rattle.protocol.specs.Calls.{box_of, fetch_of}
use Rattle.turns.specs.declared.turn.Turn.{Turn}
use Rattle.turns.specs.Turns.{fetch_turn, Performable, turned}
use Rattle.judging.proofs.JudgingLaws.{is_refused, refused_on}
use Rattle.judging.proofs.ServeLaws.{refused_by, fetch_judges}
use Rattle.judging.proofs.ServedLaws.{Served, served}
use Rattle.turns.proofs.TurnLaws.{seen}
use Rattle.performing.proofs.PerformLaws.{fetch_performs, fetch_turned}
use Rattle.fetch_path.proofs.fetch.fetch.Goals as goal
use Rattle.fetch_path.proofs.fetch.fetch.Goals.{After-fetch, In_ok-seen, Start}

-- 3 to 7 are passed
abbrev start : In_ok-seen → Start
start c = (goal.at.In_ok-seen c).Start

known : (c : In_ok-seen) → let a = (start c).args in
    Served a.ssd.now a.hdd.now 4096 a.table.now a.state a.block a.caller c.in_ok-seen.seen
known c = let a = (start c).args in
    served a.ssd.now a.hdd.now 4096 a.table.now a.state a.block a.caller (sym c.in_ok-seen.was ∙ c.judge_block.ensures)

pub returns-in_err-seen : goal.returns-in_err-seen
returns-in_err-seen c =
    let a = c.args in
    rw (refused_on c.from_residual.ensures.1)
    (refused_by (fetch a.block a.caller) (box_of a.ssd.now a.hdd.now a.table.now a.state) _ _ (fetch_judges a.ssd.now a.hdd.now a.table.now a.state a.block a.caller) c.in_err-seen.field-0.0
    (is_refused _ _ _ (sym c.in_err-seen.was ∙ c.judge_block.ensures)))

pub fetch-requires : goal.fetch-requires
fetch-requires c =
    let a = (start c).args in
    seen a.ssd.now a.hdd.now 4096 a.table.now a.state a.block a.caller _ (known c)

-- what its turn leaves is what the call does
turned_so : (d : After-fetch) (T : Result Turn Refusal) → d.fetch.result ≡ T → let a = (start (goal.at.After-fetch d).In_ok-seen).args in
    let x = box_of a.ssd.now a.hdd.now a.table.now a.state in
    left (turned T a.block a.caller x) x.images ≡ fetch_of a.ssd.now a.hdd.now a.table.now a.state a.block a.caller
turned_so d T e =
    let z = (goal.at.After-fetch d).In_ok-seen in
    let a = (start z).args in
    let x = box_of a.ssd.now a.hdd.now a.table.now a.state in
    ap (λ (T : Result Turn Refusal). left (turned T a.block a.caller x) x.images)
    (sym e ∙ d.fetch.ensures ∙ ap (fetch_turn a.table.now a.state a.caller) (sym ((known z).is _ refl)))
    ∙ ap (λ (f : Effect). left f x.images) (sym (fetch_turned a.ssd.now a.hdd.now a.table.now a.state a.block a.caller (known z).none))

pub returns-in_err-turn : goal.returns-in_err-turn
returns-in_err-turn c =
    rw (refused_on c.from_residual-in_err-turn.ensures.1) (turned_so (goal.at.returns-in_err-turn c).After-fetch _ c.in_err-turn.was)

pub perform-requires : goal.perform-requires
perform-requires c =
    let z = (goal.at.perform-requires c).In_ok-seen in
    let a = (start z).args in
    let B = (known z).box.box in
    record {
      fits_record = B.fits;
      hdd_len = B.sound.hdd-size;
      state_value = B.record_kept;
      table_value = B.rows;
      performable = subst (λ (T : Result Turn Refusal). Performable T a.table.now a.state) (sym c.fetch.ensures ∙ c.in_ok-turn.was)
          (fetch_performs a.ssd.now a.hdd.now a.table.now a.state a.block a.caller (known z).none c.in_ok-seen.seen.condition);
    }

pub returns : goal.returns
returns c = c.perform.ensures ∙ turned_so (goal.at.returns c).After-fetch _ c.in_ok-turn.was
