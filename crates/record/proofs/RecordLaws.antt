-- A record that keeps its rule: its parts, and its window as an array.
use Prim.Native.Nat.{ℕ, ◌+◌, ◌-◌, ◌≤◌, ◌<◌}
use mathlib.Core.Path.{◌≡◌, refl, sym, ap, ◌∙◌}
use mathlib.Core.Bool.{Bool, true}
use mathlib.Core.List.{List, [], ◌∷◌, ◌++◌}
use native.Mathlib.Omega.{arith}
use lib.ListN.{length, set, take, drop, replicate, length-take, length-drop, take-append-drop}
use lib.Dec.{eqb, ltb, leb}
use borrow.Author.Tests.{eqb-true, leb-true}
use Rattle.layout.specs.declared.Slot.{Slot}
use Rattle.layout.specs.declared.Label.{Label}
use Rattle.layout.specs.Places.{within_limits}
use Rattle.layout.specs.PageRule.{listed, distinct, in_range}
use Rattle.layout.specs.Window.{array_of, window_from, ZeroPast}
use Rattle.layout.proofs.Booleans.{and_parts}
use Rattle.record.specs.declared.Record.{Record}
use Rattle.record.specs.declared.Phase.{Phase}
use Rattle.record.specs.Window.{each_place, zero_slots, without}
use Rattle.record.specs.Callers.{caller_array, named_places, callers_test}
use Rattle.record.specs.Record.{window_of, window_in, callers_in, record_of, put_window, put_callers, with_hand, with_window, with_callers}
use Rattle.record.specs.Rule.{steps_test, record_test}
use Rattle.record.proofs.WindowLaws.{take-array, padded_more, window_more}
use Rattle.record.proofs.CallerLaws.{Named, named_of, callers-array, padded-callers}
use Rattle.record.proofs.LeaveLaws.{length_less}

-- the parts of 3
pub record Parts (r : Record) : Type 0 where
  pub in_limits : within_limits r.label ≡ true
  pub hand : ltb r.hand.0 r.label.slots ≡ true
  pub steps : steps_test r.label r.phase ≡ true
  pub most : r.count ≤ 63
  pub size : length r.window ≡ 63
  pub ranged : in_range r.label (window_in r) ≡ true
  pub apart : distinct (window_in r) ≡ true
  pub past : zero_slots (drop r.count r.window) ≡ true
  pub named : callers_test (named_places r.phase r.count) r.callers ≡ true

pub parts : (r : Record) → record_test r ≡ true → Parts r
unfolding record_test
parts r e =
    let p1 = and_parts _ _ e in
    let p2 = and_parts _ _ p1.1 in
    let p3 = and_parts _ _ p2.1 in
    let p4 = and_parts _ _ p3.1 in
    let p5 = and_parts _ _ p4.1 in
    let p6 = and_parts _ _ p5.1 in
    let p7 = and_parts _ _ p6.1 in
    let p8 = and_parts _ _ p7.1 in
    record {
      in_limits = p1.0;
      hand = p2.0;
      steps = p3.0;
      most = leb-true _ _ p4.0;
      size = eqb-true _ _ p5.0;
      ranged = p6.0;
      apart = p7.0;
      past = p8.0;
      named = p8.1;
    }

-- zero slots are as many zeros
zero_all : (w : List Slot) → zero_slots w ≡ true → w ≡ replicate (length w) (record { 0 = 0 })
unfolding zero_slots
zero_all [] h = refl
zero_all (s ∷ w) h =
    let p = and_parts (eqb s.0 0) (zero_slots w) h in
    let e : s.0 ≡ 0 = eqb-true _ _ p.0 in
    let f = zero_all w p.1 in
    (λ i. record { 0 = e i } ∷ f i)

pub window_is : (r : Record) → take r.count r.window ≡ window_in r
unfolding window_in
window_is r = refl

module _ (r : Record) (P : Parts r) where
  pub window-length : length (window_in r) ≡ r.count
  unfolding window_in
  window-length = length-take r.count r.window ∙ omega (arith, P.most, P.size)

  pub window-array : r.window ≡ array_of (window_in r)
  unfolding array_of window_in
  window-array =
      let n : length (drop r.count r.window) ≡ 63 - length (take r.count r.window) =
      omega (arith, length-drop r.count r.window, length-take r.count r.window, P.most, P.size) in
      sym (take-append-drop r.count r.window)
      ∙ ap (λ (z : List Slot). take r.count r.window ++ z) (zero_all (drop r.count r.window) P.past)
      ∙ ap (λ (m : ℕ). take r.count r.window ++ replicate m (record { 0 = 0 })) n

  pub window_from_is : window_of r ≡ window_from (window_in r)
  window_from_is = (λ i. record { slots = window-array i; count = sym window-length i })

  pub window_zero : ZeroPast (window_of r)
  window_zero = rw (window_is r) window_from_is

-- the window of a record that was made of one, whatever its callers
pub window_in_lem : (l : Label) (h : Slot) (n : ℕ) (ph : Phase) (u : Bool) (w : List Slot) (cs : List ℕ)
    → window_in (put_callers (record_of l h n ph u w) cs) ≡ w
unfolding window_in
window_in_lem l h n ph u w cs = take-array w

-- slots as a window are zero past their length
pub from_zero : (w : List Slot) → ZeroPast (window_from w)
from_zero w = rw (take-array w)

-- the callers of its places
pub callers_is : (r : Record) → take r.count r.callers ≡ callers_in r
unfolding callers_in
callers_is r = refl

module _ (r : Record) (P : Parts r) where
  pub callers_named : Named r.count r.callers
  callers_named = named_of r.phase r.count r.callers P.named

  pub callers-length : length (callers_in r) ≡ r.count
  unfolding callers_in
  callers-length = length-take r.count r.callers ∙ omega (arith, P.most, callers_named.size)

  pub callers-known : each_place (λ c. leb c 1) (callers_in r) ≡ true
  unfolding callers_in
  callers-known = callers_named.known

  -- one caller more
  pub callers_more : (caller : ℕ) → r.count < 63 → set r.callers r.count caller ≡ caller_array (callers_in r ++ (caller ∷ []))
  callers_more caller h =
      let a : r.callers ≡ caller_array (callers_in r) =
      callers-array r.count r.callers callers_named P.most ∙ ap caller_array (callers_is r) in
      ap (λ (l : List ℕ). set l r.count caller) a
      ∙ ap (λ (n : ℕ). set (caller_array (callers_in r)) n caller) (sym callers-length)
      ∙ rw (← padded-callers (callers_in r), ← padded-callers (callers_in r ++ (caller ∷ [])))
      (padded_more 0 (callers_in r) caller (omega (arith, callers-length)))

-- the record with a slot more in its window, its caller beside it, and another hand
pub joined_is : (r : Record) → Parts r → (s : Slot) (caller : ℕ) (hand : Slot) → r.count < 63
    → put_callers (put_window (with_hand r hand) r.unconfirmed (record { slots = set r.window r.count s; count = r.count + 1 }))
    (set r.callers r.count caller)
    ≡ with_callers (with_window (with_hand r hand) r.unconfirmed (window_in r ++ (s ∷ []))) (callers_in r ++ (caller ∷ []))
joined_is r P s caller hand h =
    (λ i. put_callers (put_window (with_hand r hand) r.unconfirmed (window_more (window_of r) s (window_zero r P) h i))
    (callers_more r P caller h i))
    ∙ ap (λ (w : List Slot). with_callers (with_window (with_hand r hand) r.unconfirmed (w ++ (s ∷ []))) (callers_in r ++ (caller ∷ []))) (window_is r)

-- its length without a slot
pub one_less : (r : Record) (s : Slot) → Parts r → listed s (window_in r) ≡ true → r.count - 1 ≡ length (without s (window_in r))
one_less r s P h = omega (arith, length_less s (window_in r) h, window-length r P)

-- made anew of its own hand, slots and callers it is the same
pub remade-same : (r : Record) → Parts r → with_callers (with_window (with_hand r r.hand) r.unconfirmed (window_in r)) (callers_in r) ≡ r
remade-same r P =
    let w = window-array r P in
    let n = window-length r P in
    let c : r.callers ≡ caller_array (callers_in r) =
    callers-array r.count r.callers (callers_named r P) P.most ∙ ap caller_array (callers_is r) in
    λ i. record {
      label = r.label;
      hand = r.hand;
      newest = r.newest;
      phase = r.phase;
      unconfirmed = r.unconfirmed;
      window = sym w i;
      count = n i;
      callers = sym c i;
    }
