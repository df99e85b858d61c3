use Prim.Native.Nat.{ℕ, ◌≤◌}
use mathlib.Core.Path.{◌≡◌, refl, sym, ◌∙◌}
use native.Mathlib.Omega.{arith}
use mathlib.Core.Bool.{Bool, true, false, ◌&&◌}
use lib.ListN.{length, drop}
use lib.Dec.{eqb, ltb, leb}
use borrow.Author.Tests.{lt-ltb, le-ltb, le-leb, lt-leb}
use Rattle.layout.specs.Places.{within_limits}
use Rattle.layout.specs.PageRule.{distinct, in_range}
use Rattle.record.specs.declared.Record.{Record}
use Rattle.record.specs.declared.Phase.{Phase}
use Rattle.record.specs.declared.Phase.TheVariants.{Formatting, Recovering, Ready}
use Rattle.record.specs.Window.{zero_slots}
use Rattle.record.specs.Callers.{named_places}
use Rattle.record.specs.Record.{window_in}
use Rattle.record.specs.Rule.{record_test, steps_test}
use Rattle.record_rule.proofs.record_ok.Goals as goal
use Rattle.record_rule.proofs.record_ok.Goals.{After-window_ok, Else-l-hand, Else-not-steps_ok, Else-not-within_limits}

limits : (c : Else-not-within_limits) → within_limits c.args.r.label ≡ true
limits c = sym c.within_limits.ensures ∙ c.if-not-within_limits.false

pub returns-then-not-within_limits : goal.returns-then-not-within_limits
unfolding record_test
returns-then-not-within_limits c = rw (sym c.within_limits.ensures ∙ c.if-not-within_limits.true)

-- what the first two tests leave
first_two : (c : Else-l-hand) (rest : Bool) → let r = c.args.r in
    (within_limits r.label && (ltb r.hand.0 r.label.slots && rest)) ≡ rest
first_two c rest = rw (limits (goal.at.Else-l-hand c).Else-not-within_limits, lt-ltb c.args.r.hand.0 c.args.r.label.slots (omega arith))

pub returns-then-l-hand : goal.returns-then-l-hand
unfolding record_test
returns-then-l-hand c = rw (limits (goal.at.returns-then-l-hand c).Else-not-within_limits, le-ltb _ _ c.if-l-hand.true)

pub returns-then-not-steps_ok : goal.returns-then-not-steps_ok
unfolding record_test
returns-then-not-steps_ok c = rw (first_two (goal.at.returns-then-not-steps_ok c).Else-l-hand _, sym c.steps_ok.ensures ∙ c.if-not-steps_ok.true)

-- what the first three tests leave
first_three : (c : Else-not-steps_ok) (rest : Bool)
    → let r = c.args.r in
    (within_limits r.label && (ltb r.hand.0 r.label.slots && (steps_test r.label r.phase && rest))) ≡ rest
first_three c rest = rw (first_two (goal.at.Else-not-steps_ok c).Else-l-hand _, sym c.steps_ok.ensures ∙ c.if-not-steps_ok.false)

pub returns-then-r : goal.returns-then-r
unfolding record_test
returns-then-r c = rw (first_three (goal.at.returns-then-r c).Else-not-steps_ok _, lt-leb _ _ c.if-r.true)

pub window_ok-requires : goal.window_ok-requires
window_ok-requires c = rw c.window_of.ensures c.if-r.false

-- the window's tests, and what comes after them
then_window : (r : Record) (ok rest : Bool)
    → ok ≡ (eqb (length r.window) 63 && (in_range r.label (window_in r) && (distinct (window_in r) && zero_slots (drop r.count r.window))))
    → (eqb (length r.window) 63
    && (in_range r.label (window_in r) && (distinct (window_in r) && (zero_slots (drop r.count r.window) && rest)))) ≡ (ok && rest)
then_window r ok rest e =
    rw e
    (grouped (eqb (length r.window) 63) (in_range r.label (window_in r)) (distinct (window_in r)) (zero_slots (drop r.count r.window))
    rest)
  where
    grouped : (a b d z rest : Bool) → (a && (b && (d && (z && rest)))) ≡ ((a && (b && (d && z))) && rest)
    grouped true true true z rest = refl
    grouped true true false z rest = refl
    grouped true false d z rest = refl
    grouped false b d z rest = refl

-- what the first four tests leave, once the window is judged
four : (c : After-window_ok) (rest : Bool)
    → let r = c.args.r in
    (within_limits r.label
    && (ltb r.hand.0 r.label.slots
    && (steps_test r.label r.phase
    && (leb r.count 63
    && (eqb (length r.window) 63
    && (in_range r.label (window_in r) && (distinct (window_in r) && (zero_slots (drop r.count r.window) && rest)))))))) ≡
    (c.window_ok.result && rest)
unfolding window_in
four c rest =
    let e = c in
    let r = e.args.r in
    rw (first_three (goal.at.After-window_ok e).Else-not-steps_ok _, le-leb _ _ e.if-r.false)
    (then_window r c.window_ok.result rest (rw c.window_of.ensures at c.window_ok.ensures))

pub returns-then-not-window_ok : goal.returns-then-not-window_ok
unfolding record_test
returns-then-not-window_ok c = sym (four (goal.at.returns-then-not-window_ok c).After-window_ok _ ∙ rw (c.if-not-window_ok.true))

pub callers_ok-requires : goal.callers_ok-requires
callers_ok-requires c =
    let r = c.args.r in
    rw c.named_places.ensures (few r.phase c.if-r.false)
  where
    few : (p : Phase) {n : ℕ} → n ≤ 63 → named_places p n ≤ 63
    few (Formatting d) h = h
    few Recovering h = omega arith
    few Ready h = h

pub returns : goal.returns
unfolding record_test
returns c =
    let t = rw c.named_places.ensures at c.callers_ok.ensures in
    sym (four (goal.at.returns c).After-window_ok _ ∙ rw (c.if-not-window_ok.false) (sym t))
