-- A test at every place of a list, place by place, and at every slot of a window, by its slots.
use Prim.Native.Nat.{ℕ, zero, suc, ◌+◌, ◌<◌}
use mathlib.Core.Path.{◌≡◌, refl, sym, ap, ◌∙◌}
use mathlib.Core.Logic.{◌≢◌}
use mathlib.Core.Bool.{Bool, true, false, not, ◌&&◌, ◌||◌, or-true}
use mathlib.Core.List.{List, [], ◌∷◌}
use native.Mathlib.Omega.{arith}
use native.Mathlib.Numerals.{add-one}
use lib.ListN.{length, get_or, take}
use Rattle.std.specs.List.{list_all}
use lib.Dec.{eqb, ltb}
use borrow.Author.Tests.{eqb-true, eqb-false, not-true, eq-eqb, ne_eqb}
use Rattle.layout.specs.declared.Slot.{Slot}
use Rattle.layout.specs.declared.Label.{Label}
use Rattle.layout.specs.PageRule.{listed, distinct, in_range}
use Rattle.layout.proofs.Booleans.{Told, told, told_true, told_false, clash, and_of, and_parts, not_of, and_assoc}
use Rattle.layout.proofs.RuleLaws.{◌⇔◌}
use Rattle.record.specs.Window.{zero_slots, each_place, each_slot}
use Rattle.record.proofs.Examples as computed-first

-- the library's test of all
pub each-all : {A : Type 0} (t : A → Bool) (xs : List A) → list_all t xs ≡ each_place t xs
unfolding each_place
each-all t [] = refl
each-all t (x ∷ xs) = rw (each-all t xs)

pub zero-all : (w : List Slot) → list_all (λ (s : Slot). eqb s.0 0) w ≡ zero_slots w
unfolding zero_slots
zero-all [] = refl
zero-all (s ∷ w) = rw (zero-all w)

pub range-all : (l : Label) (w : List Slot) → list_all (λ (s : Slot). ltb s.0 l.slots) w ≡ in_range l w
unfolding in_range
range-all l [] = refl
range-all l (s ∷ w) = rw (range-all l w)

-- a test of one place more
pub each_more : {A : Type 0} (t : A → Bool) (xs : List A) (i : ℕ) (d : A) → i < length xs
    → each_place t (take (i + 1) xs) ≡ (each_place t (take i xs) && t (get_or xs i d))
unfolding each_place
each_more {A} t xs i d h = rw add-one (go i xs h)
  where
    one : (b : Bool) → (b && true) ≡ (true && b)
    one true = refl
    one false = refl

    go : (i : ℕ) (xs : List A) → i < length xs → each_place t (take (suc i) xs) ≡ (each_place t (take i xs) && t (get_or xs i d))
    go i [] h = absurd (omega arith)
    go zero (x ∷ xs) h = one (t x)
    go (suc i) (x ∷ xs) h = rw (go i xs (omega arith)) (sym (and_assoc (t x) (each_place t (take i xs)) (t (get_or xs i d))))

-- a test that fails at a place
pub each_fails : {A : Type 0} (t : A → Bool) (xs : List A) (i : ℕ) (d : A) → i < length xs → t (get_or xs i d) ≡ false
    → false ≡ each_place t xs
unfolding each_place
each_fails t [] i d h e = absurd (omega arith)
each_fails t (x ∷ xs) zero d h e = rw e
each_fails t (x ∷ xs) (suc i) d h e = go (t x) (each_fails t xs i d (omega arith) e)
  where
    go : (b : Bool) {r : Bool} → false ≡ r → false ≡ (b && r)
    go true q = q
    go false q = refl

-- a test at every place
pub place_get : {A : Type 0} (t : A → Bool) (xs : List A) (d : A) → each_place t xs ≡ true
    → (k : ℕ) → k < length xs → t (get_or xs k d) ≡ true
unfolding each_place
place_get t [] d e k h = absurd (omega arith)
place_get t (x ∷ xs) d e zero h = (and_parts (t x) (each_place t xs) e).0
place_get t (x ∷ xs) d e (suc k) h = place_get t xs d (and_parts (t x) (each_place t xs) e).1 k (omega arith)

pub place_of : {A : Type 0} (t : A → Bool) (xs : List A) (d : A) → ((k : ℕ) → k < length xs → t (get_or xs k d) ≡ true)
    → each_place t xs ≡ true
unfolding each_place
place_of t [] d h = refl
place_of t (x ∷ xs) d h = and_of (h 0 (omega arith)) (place_of t xs d (λ k q. h (suc k) (omega arith)))

-- the slot at a place of a window (0 past its end)
abbrev pub at : List Slot → ℕ → Slot
at w k = get_or w k (record { 0 = 0 })

-- a listed slot has a place, and a place's slot is listed
pub place-listed : (w : List Slot) (k : ℕ) → k < length w → listed (at w k) w ≡ true
unfolding listed
place-listed [] k h = absurd (omega arith)
place-listed (s ∷ w) zero h = rw (eq-eqb s.0 s.0 refl)
place-listed (s ∷ w) (suc k) h = rw (place-listed w k (omega arith)) (or-true (eqb (at w k).0 s.0))

pub listed-place : (s : Slot) (w : List Slot) → listed s w ≡ true → (k : ℕ) × (k < length w) × (at w k ≡ s)
unfolding listed
listed-place s [] e = clash e refl
listed-place s (u ∷ w) e = go (told (eqb s.0 u.0)) (listed-place s w)
  where
    go : Told (eqb s.0 u.0) → (listed s w ≡ true → (k : ℕ) × (k < length w) × (at w k ≡ s))
        → (k : ℕ) × (k < length (u ∷ w)) × (at (u ∷ w) k ≡ s)
    go (told_true q) ih = (0, omega arith, ap (λ (n : ℕ). record { 0 = n }) (sym (eqb-true _ _ q)))
    go (told_false q) ih = let r = ih (rw q at e) in (suc r.0, omega (arith, r.1), r.2)

pub listed_same : (t : Slot → Bool) (w : List Slot) → each_slot t w ⇔ ((s : Slot) → listed s w ≡ true → t s ≡ true)
listed_same t w = (
  λ e s h. let r = listed-place s w h in ap t (sym r.2) ∙ place_get t w (record { 0 = 0 }) e r.0 r.1,
  λ h. place_of t w (record { 0 = 0 }) (λ k q. h (at w k) (place-listed w k q)),
)

-- the tests of a window that are such tests
pub range_each : (l : Label) (w : List Slot) → in_range l w ≡ each_slot (λ s. ltb s.0 l.slots) w
unfolding in_range each_place
range_each l [] = refl
range_each l (s ∷ w) = rw (range_each l w)

pub zero_get : (w : List Slot) → zero_slots w ≡ true → (k : ℕ) → (at w k).0 ≡ 0
unfolding zero_slots
zero_get [] e k = refl
zero_get (s ∷ w) e zero = eqb-true _ _ (and_parts (eqb s.0 0) (zero_slots w) e).0
zero_get (s ∷ w) e (suc k) = zero_get w (and_parts (eqb s.0 0) (zero_slots w) e).1 k

pub zero_of : (w : List Slot) → ((k : ℕ) → (at w k).0 ≡ 0) → zero_slots w ≡ true
unfolding zero_slots
zero_of [] h = refl
zero_of (s ∷ w) h = and_of (eq-eqb _ _ (h 0)) (zero_of w (λ k. h (suc k)))

unlisted_each : (s : Slot) (w : List Slot) → not (listed s w) ≡ each_slot (λ u. not (eqb s.0 u.0)) w
unfolding listed each_place
unlisted_each s [] = refl
unlisted_each s (u ∷ w) = morgan (eqb s.0 u.0) (listed s w) ∙ rw (unlisted_each s w)
  where
    morgan : (a b : Bool) → not (a || b) ≡ (not a && not b)
    morgan true b = refl
    morgan false b = refl

pub distinct_get : (w : List Slot) → distinct w ≡ true → (k m : ℕ) → k < m → m < length w → (at w k).0 ≢ (at w m).0
unfolding distinct
distinct_get [] e k m h q = absurd (omega arith)
distinct_get (s ∷ w) e k zero h q = absurd (omega arith)
distinct_get (s ∷ w) e zero (suc m) h q =
    let p = and_parts (not (listed s w)) (distinct w) e in
    eqb-false _ _
    (not-true _ (place_get (λ u. not (eqb s.0 u.0)) w (record { 0 = 0 }) (sym (unlisted_each s w) ∙ p.0) m (omega arith)))
distinct_get (s ∷ w) e (suc k) (suc m) h q = distinct_get w (and_parts (not (listed s w)) (distinct w) e).1 k m (omega arith) (omega arith)

pub distinct_of : (w : List Slot) → ((k m : ℕ) → k < m → m < length w → (at w k).0 ≢ (at w m).0) → distinct w ≡ true
unfolding distinct
distinct_of [] h = refl
distinct_of (s ∷ w) h =
    and_of
    (unlisted_each s w
    ∙ place_of (λ u. not (eqb s.0 u.0)) w (record { 0 = 0 }) (λ k q. not_of _ (ne_eqb _ _ (h 0 (suc k) (omega arith) (omega arith)))))
    (distinct_of w (λ k m p q. h (suc k) (suc m) (omega arith) (omega arith)))
