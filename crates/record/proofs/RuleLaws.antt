-- The record's test says what its rule says.
use Prim.Native.Nat.{ℕ, ◌+◌, ◌-◌, ◌≤◌, ◌<◌}
use mathlib.Core.Path.{◌≡◌, refl, sym, ap, ◌∙◌}
use mathlib.Core.Logic.{◌≢◌}
use mathlib.Core.Bool.{true, ◌&&◌}
use mathlib.Core.List.{List}
use native.Mathlib.Omega.{arith}
use native.Mathlib.Decide.{dec_lt}
use lib.ListN.{length, get_or, take, drop, length-take, length-drop, get_or-eq_default}
use lib.Seq.{get_or-take, get_or-drop}
use lib.Dec.{eqb, ltb, leb}
use borrow.Author.Tests.{leb-true, ltb-true, eqb-true, le-leb, lt-ltb, eq-eqb}
use Rattle.layout.specs.declared.Slot.{Slot}
use Rattle.layout.specs.declared.Label.{Label}
use Rattle.layout.specs.Places.{within_limits, meta_span}
use Rattle.layout.specs.PageRule.{distinct, in_range}
use Rattle.layout.proofs.PlaceLaws.{within}
use Rattle.layout.proofs.Booleans.{and_of, and_parts}
use Rattle.layout.proofs.RuleLaws.{◌⇔◌}
use Rattle.record.specs.declared.Record.{Record}
use Rattle.record.specs.declared.Phase.{Phase}
use Rattle.record.specs.declared.Phase.TheVariants.{Formatting, Recovering, Ready}
use Rattle.record.specs.Window.{each_place, zero_slots}
use Rattle.record.specs.Callers.{named_places, callers_test}
use Rattle.record.specs.Record.{window_in}
use Rattle.record.specs.Rule.{steps_test, record_test, RecordRule}
use Rattle.record.proofs.Each.{at, place_get, place_of, range_each, zero_get, zero_of, distinct_get, distinct_of}

-- a phase's steps
steps-same : (l : Label) (p : Phase) → steps_test l p ⇔ ((d : ℕ) → p ≡ Formatting d → d ≤ meta_span l + 1)
steps-same l (Formatting e) = (λ h d q. let n : d ≡ e = cc in omega (arith, leb-true e (meta_span l + 1) h), λ h. le-leb _ _ (h e refl))
steps-same l Recovering = (λ h d q. let z : ◌≡◌ {A = ℕ} 0 1 = cc in absurd (omega arith), λ h. refl)
steps-same l Ready = (λ h d q. let z : ◌≡◌ {A = ℕ} 0 1 = cc in absurd (omega arith), λ h. refl)

-- the window's slots are those of the array before its length, and the rest of the array is zero
module _ (r : Record) (few : r.count ≤ 63) (size : length r.window ≡ 63) where
  length_in : length (window_in r) ≡ r.count
  unfolding window_in
  length_in = omega (arith, length-take r.count r.window)

  in_at : (k : ℕ) → k < r.count → at (window_in r) k ≡ at r.window k
  unfolding window_in
  in_at k h = get_or-take r.count r.window k (record { 0 = 0 }) h

  range_same : in_range r.label (window_in r) ⇔ ((k : ℕ) → k < r.count → (at r.window k).0 < r.label.slots)
  range_same = (
    λ h k q.
        let e = place_get (λ s. ltb s.0 r.label.slots) (window_in r) (record { 0 = 0 })
        (sym (range_each r.label (window_in r)) ∙ h) k (omega (arith, length_in)) in
        rw (in_at k q) at (ltb-true (at (window_in r) k).0 r.label.slots e),
    λ h.
        range_each r.label (window_in r)
        ∙ place_of (λ s. ltb s.0 r.label.slots) (window_in r) (record { 0 = 0 }) λ k q.
        let m : k < r.count = omega (arith, length_in) in rw (in_at k m) (lt-ltb _ _ (h k m)),
  )

  apart-same : distinct (window_in r) ⇔ ((k m : ℕ) → k < m → m < r.count → (at r.window k).0 ≢ (at r.window m).0)
  apart-same = (
    λ h k m p q. rw (in_at k (omega arith), in_at m q) at (distinct_get (window_in r) h k m p (omega (arith, length_in))),
    λ h. distinct_of (window_in r) λ k m p q. let n : m < r.count = omega (arith, length_in) in
        rw (in_at k (omega arith), in_at m n) (h k m p n),
  )

  past_same : zero_slots (drop r.count r.window) ⇔ ((k : ℕ) → r.count ≤ k → (at r.window k).0 ≡ 0)
  past_same = (
    λ h k q.
        let i : r.count + (k - r.count) ≡ k = omega arith in
        rw i at (ap (λ (s : Slot). s.0) (sym (get_or-drop r.count r.window (k - r.count) (record { 0 = 0 })))
        ∙ zero_get (drop r.count r.window) h (k - r.count)),
    λ h. zero_of (drop r.count r.window) λ k. rw (get_or-drop r.count r.window k (record { 0 = 0 }))
        (h (r.count + k) (omega arith)),
  )

-- callers, place by place
places_same : (n : ℕ) (cs : List ℕ) → length cs ≡ 63 → n ≤ 63
    → (each_place (λ c. leb c 1) (take n cs) && each_place (λ c. eqb c 0) (drop n cs))
    ⇔ (((k : ℕ) → k < n → get_or cs k 0 ≤ 1) × ((k : ℕ) → n ≤ k → get_or cs k 0 ≡ 0))
places_same n cs size few = (
  λ h.
      let p = and_parts (each_place (λ c. leb c 1) (take n cs)) _ h in
      let z = length-take n cs in (
        λ k q. leb-true _ _ (rw (get_or-take n cs k 0 q) at (place_get (λ c. leb c 1) (take n cs) 0 p.0 k (omega arith))),
        λ k q. past p.1 k q (dec_lt k 63),
      ),
  λ h.
      let z = length-take n cs in
      let y = length-drop n cs in
      and_of
      (place_of (λ c. leb c 1) (take n cs) 0 λ k q. let m : k < n = omega arith in rw (get_or-take n cs k 0 m) (le-leb _ _ (h.0 k m)))
      (place_of (λ c. eqb c 0) (drop n cs) 0 λ k q. rw (get_or-drop n cs k 0) (eq-eqb _ _ (h.1 (n + k) (omega arith)))),
)
  where
    past : each_place (λ c. eqb c 0) (drop n cs) ≡ true → (k : ℕ) → n ≤ k → Dec (k < 63) → get_or cs k 0 ≡ 0
    past h k q (yes m) =
        let i : n + (k - n) ≡ k = omega arith in
        let y = length-drop n cs in
        rw i at (sym (get_or-drop n cs (k - n) 0) ∙ eqb-true _ _ (place_get (λ c. eqb c 0) (drop n cs) 0 h (k - n) (omega arith)))
    past h k q (no m) = get_or-eq_default cs 0 {n = k} (omega arith)

-- what the rule says of callers, in a phase
pub record Callers (p : Phase) (n : ℕ) (cs : List ℕ) : Type 0 where
  pub size : length cs ≡ 63
  pub known : (k : ℕ) → k < n → get_or cs k 0 ≤ 1
  pub past : (k : ℕ) → n ≤ k → get_or cs k 0 ≡ 0
  pub pending : p ≡ Recovering → (k : ℕ) → get_or cs k 0 ≡ 0

callers_open : (p : Phase) → p ≢ Recovering → (n : ℕ) (cs : List ℕ) → n ≤ 63 → callers_test n cs ⇔ Callers p n cs
callers_open p other n cs few = (
  λ h.
      let q = and_parts (eqb (length cs) 63) _ h in
      let P = (places_same n cs (eqb-true _ _ q.0) few).0 q.1 in
      record { size = eqb-true _ _ q.0; known = P.0; past = P.1; pending = λ e. absurd (other e) },
  λ C. and_of (eq-eqb _ _ C.size) ((places_same n cs C.size few).1 (C.known, C.past)),
)

callers-same : (p : Phase) (n : ℕ) (cs : List ℕ) → n ≤ 63 → callers_test (named_places p n) cs ⇔ Callers p n cs
callers-same (Formatting d) n cs few = callers_open (Formatting d) (λ e. let z : ◌≡◌ {A = ℕ} 0 1 = cc in omega arith) n cs few
callers-same Ready n cs few = callers_open Ready (λ e. let z : ◌≡◌ {A = ℕ} 0 1 = cc in omega arith) n cs few
callers-same Recovering n cs few = (
  λ h.
      let q = and_parts (eqb (length cs) 63) _ h in
      let P = (places_same 0 cs (eqb-true _ _ q.0) (omega arith)).0 q.1 in
      record {
        size = eqb-true _ _ q.0;
        known = λ k m. omega (arith, P.1 k (omega arith));
        past = λ k m. P.1 k (omega arith);
        pending = λ e k. P.1 k (omega arith);
      },
  λ C. and_of (eq-eqb _ _ C.size)
      ((places_same 0 cs C.size (omega arith)).1 (λ k m. absurd (omega arith), λ k m. C.pending refl k)),
)

pub record_same : (r : Record) → record_test r ⇔ RecordRule r
unfolding record_test
record_same r = (
  λ h.
      let a = and_parts (within_limits r.label) _ h in
      let b = and_parts (ltb r.hand.0 r.label.slots) _ a.1 in
      let c = and_parts (steps_test r.label r.phase) _ b.1 in
      let d = and_parts (leb r.count 63) _ c.1 in
      let e = and_parts (eqb (length r.window) 63) _ d.1 in
      let f = and_parts (in_range r.label (window_in r)) _ e.1 in
      let g = and_parts (distinct (window_in r)) _ f.1 in
      let i = and_parts (zero_slots (drop r.count r.window)) _ g.1 in
      let few = leb-true _ _ d.0 in
      let size = eqb-true _ _ e.0 in
      let C = (callers-same r.phase r.count r.callers few).0 i.1 in
      record {
        limits = (within r.label).0 a.0;
        hand = ltb-true _ _ b.0;
        steps = (steps-same r.label r.phase).0 c.0;
        count = few;
        array = size;
        in_range_is = (range_same r few size).0 f.0;
        apart = (apart-same r few size).0 g.0;
        past = (past_same r few size).0 i.0;
        callers = C.size;
        known = C.known;
        nobody_past = C.past;
        nobody_pending = C.pending;
      },
  λ h.
      let few = h.count in
      let size = h.array in
      rw (
        (within r.label).1 h.limits,
        lt-ltb _ _ h.hand,
        (steps-same r.label r.phase).1 h.steps,
        le-leb _ _ few,
        eq-eqb _ _ size,
        (range_same r few size).1 h.in_range_is,
        (apart-same r few size).1 h.apart,
        (past_same r few size).1 h.past,
      )
      ((callers-same r.phase r.count r.callers few).1
      (record { size = h.callers; known = h.known; past = h.nobody_past; pending = h.nobody_pending })),
)
