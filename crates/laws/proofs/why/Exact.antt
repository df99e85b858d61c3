-- Each refusal number is used exactly where document 01's condition holds and no earlier one of the call's does.
use Prim.Native.Nat.{ℕ}
use mathlib.Core.Path.{◌≡◌, refl, sym, ap, ◌∙◌}
use mathlib.Core.Logic.{◌≢◌, inl, inr, ◌↔◌}
use mathlib.Core.Bool.{Bool, true, false}
use mathlib.Core.List.{List, ◌∷◌}
use Rattle.std.specs.Prelude.{Option, Some, None}
use Rattle.std.proofs.lemmas.Option.{same_Some, none-some}
use borrow.Author.Tests.{not-true}
use Rattle.pages.specs.Parts.{Part}
use Rattle.layout.specs.declared.Block.{Block}
use Rattle.layout.proofs.Booleans.{Told, told, told_true, told_false, clash}
use Rattle.record.specs.declared.Record.{Record}
use Rattle.record.specs.Record.{label_in}
use Rattle.protocol.specs.Reply.{refusal, refused}
use Rattle.protocol.specs.Box.{Box, left, box_after}
use Rattle.protocol.specs.Condition.{condition_of}
use Rattle.protocol.specs.Plan.{Call, view}
use Rattle.protocol.specs.declared.Refusal.{Refusal}
use Rattle.protocol.specs.Judge.{number_of, test, chain, first_of, judged}
use Rattle.protocol.specs.Calls.{decided, effect_of, result_of, box_of, View, viewed, view_of}
use Rattle.protocol.specs.Why.{Why, FirstWhy, NoneWhy}
use Rattle.laws.proofs.Judged.{NoneHold, none_hold, first_none, first_yes, first_no}
use Rattle.laws.proofs.why.Basics.{none_same}
use Rattle.laws.proofs.why.Same.{Says, end, asks, same}
use Rattle.laws.proofs.why.Answers.{plan_answers}

-- a reason with this number
abbrev Numbered : Option Refusal → ℕ → Type 0
Numbered o n = (r : Refusal) × (o ≡ Some r) × (number_of r ≡ n)

-- the first test that holds has the number of the first condition that holds
first_why : {t : Refusal → Bool} {rs : List Refusal} {ws : List (ℕ × Type 0)} → Says t rs ws → (n : ℕ)
    → Numbered (first_of rs t) n ↔ FirstWhy ws n
first_why {t} end n = (λ h. absurd (none-some h.0 (unfold first_of in h.1)), λ h. absurd h)
first_why {t} (asks {r = q} {P = P} {rs = rs} {ws = ws} e says) n = go (told (t q)) (λ h. first_why (says h) n)
  where
    go : Told (t q) → (t q ≡ false → Numbered (first_of rs t) n ↔ FirstWhy ws n)
        → Numbered (first_of (q ∷ rs) t) n ↔ FirstWhy ((number_of q, P) ∷ ws) n
    go (told_true h) ih = (λ k. inl (given k, e.0 h), taken)
      where
        given : Numbered (first_of (q ∷ rs) t) n → number_of q ≡ n
        given k = ap number_of (same_Some q k.0 (sym (first_yes t q rs h) ∙ k.1)) ∙ k.2

        taken : FirstWhy ((number_of q, P) ∷ ws) n → Numbered (first_of (q ∷ rs) t) n
        taken (inl p) = (q, first_yes t q rs h, p.0)
        taken (inr p) = absurd (p.0 (e.0 h))
    go (told_false h) ih = (λ k. inr (λ w. clash (e.1 w) h, (ih h).0 (k.0, sym (first_no t q rs h) ∙ k.1, k.2)), passed)
      where
        passed : FirstWhy ((number_of q, P) ∷ ws) n → Numbered (first_of (q ∷ rs) t) n
        passed (inl p) = clash (e.1 p.1) h
        passed (inr p) = let k = (ih h).1 p.1 in (k.0, first_no t q rs h ∙ k.1, k.2)

judged-same : (c : Call) (x : Box) (n : ℕ) → Numbered (judged c x) n ↔ FirstWhy (Why c x) n
unfolding judged
judged-same c x n = first_why (same c x) n

-- a call says a number exactly if a reason with it is judged
said_same : (c : Call) (x : Box) (n : ℕ) → ((result_of c x).said ≡ refusal n) ↔ Numbered (judged c x) n
unfolding effect_of
said_same c x n = (to (judged c x) refl, λ k. ap (λ (o : Option Refusal). (decided o c x).said) k.1 ∙ ap refusal k.2)
  where
    to : (o : Option Refusal) → judged c x ≡ o → (decided o c x).said ≡ refusal n → Numbered o n
    to (Some q) j e = (q, refl, cc)
    to None j e = clash (ap refused e) (plan_answers c x j)

-- "A number is used if its condition holds for that call, and in no other case": any number, the call's or not
pub refuses : (c : Call) (x : Box) (n : ℕ) → ((result_of c x).said ≡ refusal n) ↔ FirstWhy (Why c x) n
refuses c x n = (λ h. (judged-same c x n).0 ((said_same c x n).0 h), λ h. (said_same c x n).1 ((judged-same c x n).1 h))

-- the same of the number that a view gives (0 where it is not refused)
pub view_refuses : (ssd hdd : Part) (table : List ℕ) (state : Record) (b : Block) (n : ℕ) → n ≢ 0
    → ((view_of ssd hdd table state b).number ≡ n) ↔ FirstWhy (Why (view b) (box_of ssd.bytes hdd.bytes table state)) n
unfolding view_of
view_refuses ssd hdd table state b n Some-number =
    let x : Box = box_of ssd.bytes hdd.bytes table state in
    (λ h. (judged-same (view b) x n).0 (to (judged (view b) x) h), λ h. from ((judged-same (view b) x n).1 h))
  where
    shown : Option Refusal → View
    shown o = viewed o ssd hdd (label_in state) b (condition_of table b)

    to : (o : Option Refusal) → (shown o).number ≡ n → Numbered o n
    to (Some q) e = (q, refl, e)
    to None e = absurd (Some-number (sym e))

    from : Numbered (judged (view b) (box_of ssd.bytes hdd.bytes table state)) n
        → (shown (judged (view b) (box_of ssd.bytes hdd.bytes table state))).number ≡ n
    from k = ap (λ (o : Option Refusal). (shown o).number) k.1 ∙ k.2

-- and a call that is not refused: none of its conditions holds
none_why : {t : Refusal → Bool} {rs : List Refusal} {ws : List (ℕ × Type 0)} → Says t rs ws → NoneHold rs t ↔ NoneWhy ws
none_why end = (λ h. tt, λ h. tt)
none_why {t} (asks {r = q} e says) = (
  λ h. (λ w. clash (e.1 w) h.0, (none_why (says h.0)).0 h.1),
  λ h. let z = not-true (t q) ((none_same e).1 h.0) in (z, (none_why (says z)).1 h.1),
)

pub accepts : (c : Call) (x : Box) → (refused (result_of c x).said ≡ false) ↔ NoneWhy (Why c x)
unfolding effect_of judged
accepts c x =
    let n = none_why (same c x) in (
      λ h. n.0 (none_hold (chain c) (λ q. test q c x) (to (judged c x) h)),
      λ h. let j = first_none (chain c) (λ q. test q c x) (n.1 h) in
          ap (λ (o : Option Refusal). refused (decided o c x).said) j ∙ plan_answers c x j,
    )
  where
    to : (o : Option Refusal) → refused (decided o c x).said ≡ false → o ≡ None
    to (Some q) h = clash refl h
    to None h = refl

-- "A refusal returns its number and the record handed in; every image, table and page is unchanged"
pub unchanged : (c : Call) (x : Box) → refused (result_of c x).said ≡ true → box_after (result_of c x) ≡ x
unfolding effect_of
unchanged c x = go (judged c x) refl
  where
    go : (o : Option Refusal) → judged c x ≡ o → refused (decided o c x).said ≡ true → box_after (left (decided o c x) x.images) ≡ x
    go (Some r) j h = refl
    go None j h = clash h (plan_answers c x j)
