-- A list of one block is the offer of it, the answer apart (document 02, N3).
use Prim.Native.Nat.{ℕ}
use mathlib.Core.Path.{◌≡◌, refl, ap, ◌∙◌}
use mathlib.Core.Bool.{Bool, true, false, not, ◌&&◌}
use mathlib.Core.List.{List, [], ◌∷◌, ◌++◌}
use Rattle.std.specs.Prelude.{Option, Some, None}
use lib.Dec.{leb}
use borrow.Author.Tests.{leb-false}
use Rattle.layout.specs.declared.Block.{Block}
use Rattle.layout.specs.Stamps.{opening_bound}
use Rattle.layout.proofs.Booleans.{Told, told, told_true, told_false, clash}
use Rattle.record.specs.declared.Record.{Record}
use Rattle.record.specs.Record.{label_in}
use Rattle.protocol.specs.Rows.{open_rows}
use Rattle.protocol.specs.declared.Condition.{Condition}
use Rattle.protocol.specs.Reply.{dealt, nothing_to_do, done, refused}
use Rattle.protocol.specs.Box.{Box, Effect, left, box_after, stored_of}
use Rattle.protocol.specs.Condition.{condition_of, takes_write}
use Rattle.protocol.specs.Plan.{offer, offer_list, Move, stay, import_open, offering, Offered, not_yet, offered_box, declines, dealt_with, placed_as, placed, offers_from, together, plan, stores_meta}
use Rattle.protocol.specs.Perform.{confirmed, perform}
use Rattle.protocol.specs.declared.Refusal.{Refusal}
use Rattle.protocol.specs.declared.Refusal.TheVariants.{BadRecord, WrongLength, BadRows, WrongPhase, UnknownCaller, BlockTooHigh, SlotOpen, ImportFull, WindowFull, AllOpen, StampsSpent, BadScan}
use Rattle.protocol.specs.Judge.{names, names_once, test, first_of, judged}
use Rattle.protocol.specs.Calls.{effect_of}
use Rattle.protocol.specs.Beside.{is_taken, ListOfOne}
use Rattle.laws.proofs.Judged.{NoneHold, none_hold, first_none, first_yes, first_no, does, refuses}
use Rattle.laws.proofs.Accepted.{Legal, legal-judged}
use Rattle.laws.proofs.Does.{still_overwrite, still_nothing, Taken, taken-stay, taken_open, taken_copy, fit, here, offers}
use Rattle.laws.proofs.OfferLists.{grown_self}
use Rattle.theorem.proofs.Answered.{answers}
use Rattle.theorem.proofs.ListOffers.{never, one_of}

-- two effects that differ in the answer alone, and where an offer is taken
record Alike (e f : Effect) : Type 0 where
  state : e.state ≡ f.state
  table : e.table ≡ f.table
  store : e.store ≡ f.store
  one-dealt : is_taken f.said ≡ true → e.said ≡ dealt 1
  else_same : is_taken f.said ≡ false → e.said ≡ f.said

-- a chain of reasons: one that does not hold is passed, and what refuses early refuses
skip : (qs : List Refusal) (q : Refusal) (rs : List Refusal) (t : Refusal → Bool) → t q ≡ false → first_of (qs ++ (q ∷ rs)) t ≡ first_of (qs ++ rs) t
unfolding first_of
skip [] q rs t e = rw (e, first_of)
skip (p ∷ qs) q rs t e = ap (λ (o : Option Refusal). elim (t p) [ true ↦ Some p | false ↦ o ]) (skip qs q rs t e)

abbrev Agree : List Refusal → (Refusal → Bool) → (Refusal → Bool) → Type 0
Agree [] t u = Unit {0}
Agree (r ∷ rs) t u = (t r ≡ u r) × Agree rs t u

agree-first : (rs : List Refusal) (t u : Refusal → Bool) → Agree rs t u → first_of rs t ≡ first_of rs u
unfolding first_of
agree-first [] t u a = refl
agree-first (r ∷ rs) t u a =
    ap (λ (d : Bool). elim d [ true ↦ Some r | false ↦ first_of rs t ]) a.0
    ∙ ap (λ (o : Option Refusal). elim (u r) [ true ↦ Some r | false ↦ o ]) (agree-first rs t u a.1)

abbrev or_else : Option Refusal → Option Refusal → Option Refusal
or_else None o = o
or_else (Some r) o = Some r

appended : (qs rs : List Refusal) (t : Refusal → Bool) → first_of (qs ++ rs) t ≡ or_else (first_of qs t) (first_of rs t)
unfolding first_of
appended [] rs t = refl
appended (q ∷ qs) rs t = go (t q) (appended qs rs t)
  where
    go : (d : Bool) → first_of (qs ++ rs) t ≡ or_else (first_of qs t) (first_of rs t)
        → ◌≡◌ {A = Option Refusal} (elim d [ true ↦ Some q | false ↦ first_of (qs ++ rs) t ])
        (or_else (elim d [ true ↦ Some q | false ↦ first_of qs t ]) (first_of rs t))
    go true ih = refl
    go false ih = ih

early : List Refusal
early = BadRecord ∷ WrongLength ∷ BadRows ∷ WrongPhase ∷ UnknownCaller ∷ BlockTooHigh ∷ SlotOpen ∷ ImportFull ∷ WindowFull ∷ AllOpen ∷ []

module _ (b : Block) (caller : ℕ) (x : Box) where
  abbrev t : Refusal → Bool
  t r = test r (offer b caller) x

  abbrev u : Refusal → Bool
  u r = test r (offer_list (b.0 ∷ []) caller) x

  first_asked : first_of early u ≡ first_of early t
  unfolding early test
  first_asked = agree-first early u t (refl, (refl, (refl, (refl, (refl, (refl, (refl, (refl, (refl, (refl, tt))))))))))

  offer_judged : judged (offer b caller) x ≡ first_of (early ++ (StampsSpent ∷ [])) t
  unfolding judged early
  offer_judged = refl

  list-judged : judged (offer_list (b.0 ∷ []) caller) x ≡ first_of (early ++ (StampsSpent ∷ [])) u
  unfolding judged early test names names_once
  list-judged = skip (BadRecord ∷ WrongLength ∷ BadRows ∷ WrongPhase ∷ []) BadScan _ u refl

  -- refused alike
  refused-alike : (r : Refusal) → judged (offer b caller) x ≡ Some r → judged (offer_list (b.0 ∷ []) caller) x ≡ Some r
      → Alike (effect_of (offer_list (b.0 ∷ []) caller) x) (effect_of (offer b caller) x)
  refused-alike r j i =
      rw (refuses (offer_list (b.0 ∷ []) caller) x r i, refuses (offer b caller) x r j)
      (record { state = refl; table = refl; store = refl; one-dealt = λ h. clash {b = false} h refl; else_same = λ h. refl })

  abbrev k : Condition
  k = condition_of x.table b

  -- where nothing refuses early
  module _ (N : NoneHold early t) where
    L : Legal x
    unfolding early test
    L = legal-judged x true N.0 N.1.0 N.1.1.0

    T : Taken x (offering x b caller k)
    unfolding early test
    T =
        let M = N.1.1.1.1 in
        offers x (fit L) b caller M.0 (leb-false _ _ M.1.0) (here x (fit L) b) M.1.1.0 M.1.1.1.0 M.1.1.1.1.0

    -- the one place is dealt with as the offer goes
    not_declined : declines x b caller k ≡ false
    unfolding early test
    not_declined =
        let M = N.1.1.1.1.1 in
        rw (M.0, M.1.0, one_of (not (takes_write k)) (import_open caller x.state) (leb 63 (open_rows x.table)) M.1.1.0 M.1.1.1.0)
        M.1.1.1.1.0

    abbrev dealt_or : Option Offered → Offered
    dealt_or None = not_yet x
    dealt_or (Some z) = z

    placed_is : placed (offered_box x (not_yet x)) caller (not_yet x) b ≡ dealt_with (not_yet x) (offering x b caller k)
    unfolding placed
    placed_is =
        ap (λ (r : Record). placed (record { images = x.images; table = x.table; state = r }) caller (not_yet x) b) (grown_self x L)
        ∙ ap (λ (d : Bool). placed_as d (not_yet x) (offering x b caller k)) not_declined

    run_is : offers_from x caller (not_yet x) (b.0 ∷ []) ≡ dealt_or (dealt_with (not_yet x) (offering x b caller k))
    unfolding offers_from
    run_is = ap dealt_or placed_is

    plan_is : {v : Move} → offering x b caller k ≡ v → let z = dealt_or (dealt_with (not_yet x) v) in
        plan (offer_list (b.0 ∷ []) caller) x ≡ together z.places v z
    unfolding plan
    plan_is e =
        ap (λ (z : Offered). together z.places (offering x b caller k) z) run_is
        ∙ ap (λ (v : Move). together (dealt_or (dealt_with (not_yet x) v)).places v (dealt_or (dealt_with (not_yet x) v))) e

    -- 13 is left to ask of both
    asked_last : judged (offer b caller) x ≡ first_of (StampsSpent ∷ []) t
    asked_last = offer_judged ∙ appended early (StampsSpent ∷ []) t ∙ ap (λ (o : Option Refusal). or_else o (first_of (StampsSpent ∷ []) t)) (first_none early t N)

    list_last : judged (offer_list (b.0 ∷ []) caller) x ≡ first_of (StampsSpent ∷ []) u
    list_last = list-judged ∙ appended early (StampsSpent ∷ []) u
        ∙ ap (λ (o : Option Refusal). or_else o (first_of (StampsSpent ∷ []) u)) (first_asked ∙ first_none early t N)

    -- by both moves
    moved : {v w : Move} → offering x b caller k ≡ v → plan (offer_list (b.0 ∷ []) caller) x ≡ w → stores_meta w ≡ stores_meta v
        → (judged (offer b caller) x ≡ None → Alike (perform w x) (perform v x))
        → Alike (effect_of (offer_list (b.0 ∷ []) caller) x) (effect_of (offer b caller) x)
    unfolding test plan first_of
    moved {v} {w} e f g h = go (told (stores_meta v && leb (opening_bound (label_in x.state)) x.state.newest))
      where
        t13 : test StampsSpent (offer b caller) x ≡ (stores_meta v && leb (opening_bound (label_in x.state)) x.state.newest)
        t13 = ap (λ (m : Move). stores_meta m && leb (opening_bound (label_in x.state)) x.state.newest) e

        u13 : test StampsSpent (offer_list (b.0 ∷ []) caller) x
            ≡ (stores_meta v && leb (opening_bound (label_in x.state)) x.state.newest)
        u13 = ap (λ (m : Move). stores_meta m && leb (opening_bound (label_in x.state)) x.state.newest) f
            ∙ ap (λ (m : Bool). m && leb (opening_bound (label_in x.state)) x.state.newest) g

        go : Told (stores_meta v && leb (opening_bound (label_in x.state)) x.state.newest)
            → Alike (effect_of (offer_list (b.0 ∷ []) caller) x) (effect_of (offer b caller) x)
        go (told_true d) = refused-alike StampsSpent (asked_last ∙ first_yes t StampsSpent [] (t13 ∙ d)) (list_last ∙ first_yes u StampsSpent [] (u13 ∙ d))
        go (told_false d) =
            let j = asked_last ∙ first_no t StampsSpent [] (t13 ∙ d) in
            let i = list_last ∙ first_no u StampsSpent [] (u13 ∙ d) in
            rw (does (offer_list (b.0 ∷ []) caller) x w i f, does (offer b caller) x v j e) (h j)

    nothing : judged (offer b caller) x ≡ None → offering x b caller k ≡ stay nothing_to_do → ⊥
    unfolding plan perform
    nothing j e =
        let said = ap (λ (f : Effect). f.said) (does (offer b caller) x (stay nothing_to_do) j e) in
        never ((answers b caller x).of_offer (ap refused said)) said

    by_turn : {v : Move} → Taken x v → offering x b caller k ≡ v
        → Alike (effect_of (offer_list (b.0 ∷ []) caller) x) (effect_of (offer b caller) x)
    unfolding perform confirmed
    by_turn (taken-stay still_overwrite) e = moved e (plan_is e) refl
        (λ j. record { state = refl; table = refl; store = refl; one-dealt = λ h. refl; else_same = λ h. clash {b = true} refl h })
    by_turn (taken-stay still_nothing) e = moved e (plan_is e) refl (λ j. absurd (nothing j e))
    by_turn (taken_open O) e = moved e (plan_is e) refl
        (λ j. record { state = refl; table = refl; store = refl; one-dealt = λ h. refl; else_same = λ h. clash {b = true} refl h })
    by_turn (taken_copy C) e = moved e (plan_is e) refl
        (λ j. record { state = refl; table = refl; store = refl; one-dealt = λ h. clash {b = false} h refl; else_same = λ h. refl })

  alike : Alike (effect_of (offer_list (b.0 ∷ []) caller) x) (effect_of (offer b caller) x)
  alike = go (first_of early t) refl
    where
      go : (o : Option Refusal) → first_of early t ≡ o → Alike (effect_of (offer_list (b.0 ∷ []) caller) x) (effect_of (offer b caller) x)
      go (Some r) e = refused-alike r
          (offer_judged ∙ appended early (StampsSpent ∷ []) t ∙ ap (λ (o : Option Refusal). or_else o (first_of (StampsSpent ∷ []) t)) e)
          (list-judged ∙ appended early (StampsSpent ∷ []) u ∙ ap (λ (o : Option Refusal). or_else o (first_of (StampsSpent ∷ []) u)) (first_asked ∙ e))
      go None e = let N = none_hold early t e in by_turn N (T N) refl

pub list_of_one : ListOfOne
list_of_one b caller x =
    let A = alike b caller x in
    record {
      same-box = λ i. box_after (left (record { said = done; state = A.state i; table = A.table i; store = A.store i }) x.images);
      same-page = ap stored_of A.store;
      one-dealt = A.one-dealt;
      else_same = A.else_same;
    }
