use mathlib.Core.Path.{◌≡◌, refl, sym, ap, ◌∙◌}
use mathlib.Core.Bool.{true}
use Rattle.std.specs.Prelude.{Result as OrRefused}
use Rattle.protocol.specs.declared.Answer.{Answer}
use Rattle.protocol.specs.declared.Outcome.{Outcome}
use Rattle.protocol.specs.declared.Refusal.{Refusal}
use Rattle.protocol.specs.Reply.{reply_of}
use Rattle.protocol.specs.Calls.{ends, result_of, box_of}
use Rattle.protocol.specs.Cost.{is_copied_out}
use Rattle.judging.proofs.JudgingLaws.{refused_on}
use Rattle.load_calls.specs.Openings.{opening, past, left_of}
use Rattle.load_calls.proofs.OpeningLaws.{not-again, made_again, other_answer, no_refusal}
use Rattle.load_calls.proofs.begin_past.Goals as goal
use Rattle.load_calls.proofs.begin_past.Goals.{After-begin, After-begin-in-CopiedOut}

-- what the first call leaves, where its value is known
once : (c : After-begin) (q : OrRefused Outcome Refusal) → c.begin.result ≡ q
    → ends c.args.state.now q c.begin.new.ssd c.begin.new.hdd c.begin.new.table
    ≡ result_of (opening c.args.kind c.args.block) (box_of c.args.ssd.now c.args.hdd.now c.args.table.now c.args.state.now)
once c q e = ap (λ (m : OrRefused Outcome Refusal). ends c.args.state.now m c.begin.new.ssd c.begin.new.hdd c.begin.new.table) (sym e) ∙ c.begin.ensures

pub returns-in_err-first : goal.returns-in_err-first
returns-in_err-first c =
    let p = not-again _ _ _ (once (goal.at.returns-in_err-first c).After-begin _ c.in_err-first.was) refl in
    rw (refused_on c.from_residual.ensures.1) record { whole = p; left = ap left_of p }

-- and the second, after a copy-out
twice : (c : After-begin-in-CopiedOut) (q : OrRefused Outcome Refusal) → is_copied_out (reply_of c.in_ok-first.first.answer) ≡ true
    → c.begin-in-CopiedOut.result ≡ q
    → ends c.in_ok-first.first.state q c.begin-in-CopiedOut.new.ssd c.begin-in-CopiedOut.new.hdd c.begin-in-CopiedOut.new.table
    ≡ past (opening c.args.kind c.args.block) (box_of c.args.ssd.now c.args.hdd.now c.args.table.now c.args.state.now)
twice c q k e =
    made_again _ _ _ (once (goal.at.After-begin-in-CopiedOut c).After-begin _ c.in_ok-first.was) _ k
    (ap (λ (m : OrRefused Outcome Refusal). ends c.in_ok-first.first.state m c.begin-in-CopiedOut.new.ssd c.begin-in-CopiedOut.new.hdd c.begin-in-CopiedOut.new.table) (sym e)
    ∙ c.begin-in-CopiedOut.ensures)

pub returns-in_err-again : goal.returns-in_err-again
returns-in_err-again c =
    let p = twice (goal.at.returns-in_err-again c).After-begin-in-CopiedOut _
    (ap (λ (a : Answer). is_copied_out (reply_of a)) c.in-CopiedOut.is) c.in_err-again.was in
    rw (refused_on c.from_residual-in_err-again.ensures.1) record { whole = p; left = ap left_of p }

pub returns-in-CopiedOut : goal.returns-in-CopiedOut
returns-in-CopiedOut c =
    let p = twice (goal.at.returns-in-CopiedOut c).After-begin-in-CopiedOut _
    (ap (λ (a : Answer). is_copied_out (reply_of a)) c.in-CopiedOut.is) c.in_ok-again.was in
    record { whole = p; left = rw (no_refusal c.in_ok-again.again.answer) at (ap left_of p) }

pub returns : goal.returns
returns c =
    let p = not-again _ _ _ (once (goal.at.returns c).After-begin _ c.in_ok-first.was)
    (other_answer c.in_ok-first.first.answer c.in_default.not-CopiedOut) in
    record { whole = p; left = rw (no_refusal c.in_ok-first.first.answer) at (ap left_of p) }
