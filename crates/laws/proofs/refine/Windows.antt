-- Windows of slots, as the model's lists of numbers.
use Prim.Native.Nat.{ℕ, suc, ◌/◌, ◌≤◌, ◌<◌}
use mathlib.Core.Path.{◌≡◌, refl, sym, ap, ◌∙◌}
use mathlib.Core.Bool.{Bool, true, false, cond, not}
use mathlib.Core.List.{List, [], ◌∷◌, ◌++◌}
use lib.ListN.{length}
use lib.Dec.{eqb}
use native.Mathlib.Omega.{arith}
use borrow.Author.Tests.{eqb-true, ne_eqb, not-true}
use Rattle.layout.specs.declared.Slot.{Slot}
use Rattle.layout.specs.declared.Label.{Label}
use Rattle.layout.specs.PageRule.{listed, distinct, in_range}
use Rattle.record.specs.Window.{without}
use Rattle.protocol.specs.Recovery.{off_page}
use Rattle.protocol.specs.Judge.{is_empty}
use Rattle.laws.proofs.model.Base as base
use Rattle.layout.proofs.Booleans.{Told, told, told_true, told_false, clash, and_parts}
use Rattle.laws.proofs.model.Base.{has, keep, off, meta_no, Window, eqb_same}

-- the numbers of a window
unfoldable pub nums : List Slot → List ℕ
nums [] = []
nums (s ∷ w) = s.0 ∷ nums w

pub length_nums : (w : List Slot) → length (nums w) ≡ length w
unfolding nums
length_nums [] = refl
length_nums (s ∷ w) = ap suc (length_nums w)

pub nums_append : (v w : List Slot) → nums (v ++ w) ≡ nums v ++ nums w
unfolding nums
nums_append [] w = refl
nums_append (s ∷ v) w = ap (λ (l : List ℕ). s.0 ∷ l) (nums_append v w)

pub nums_one : (s : Slot) → nums (s ∷ []) ≡ s.0 ∷ []
unfolding nums
nums_one s = refl

pub has_nums : (w : List Slot) (s : ℕ) → has (nums w) s ≡ listed (record { 0 = s }) w
unfolding nums has listed
has_nums [] s = refl
has_nums (t ∷ w) s = rw (has_nums w s)

pub distinct_nums : (w : List Slot) → base.distinct (nums w) ≡ distinct w
unfolding nums base.distinct distinct
distinct_nums [] = refl
distinct_nums (s ∷ w) = rw (has_nums w s.0, distinct_nums w)

pub below_nums : (l : Label) (w : List Slot) → base.below l.slots (nums w) ≡ in_range l w
unfolding nums base.below in_range
below_nums l [] = refl
below_nums l (s ∷ w) = rw (below_nums l w)

-- the slots on other metadata pages
pub nums_off : (p : ℕ) (w : List Slot) → nums (off_page p w) ≡ off p (nums w)
unfolding nums off_page keep meta_no
nums_off p [] = refl
nums_off p (s ∷ w) = go (eqb (s.0 / 240) p) (nums_off p w)
  where
    go : (b : Bool) → nums (off_page p w) ≡ off p (nums w)
        → nums (elim b [ true ↦ off_page p w | false ↦ s ∷ off_page p w ]) ≡ cond (not b) (s.0 ∷ off p (nums w)) (off p (nums w))
    go true e = e
    go false e = ap (λ (l : List ℕ). s.0 ∷ l) e

-- without a slot that is not there
pub keep_all : (w : List ℕ) (s : ℕ) → has w s ≡ false → base.without w s ≡ w
unfolding has keep
keep_all [] s h = refl
keep_all (t ∷ w) s h = go (told (eqb s t)) (λ k. keep_all w s k)
  where
    go : Told (eqb s t) → (has w s ≡ false → base.without w s ≡ w) → cond (not (eqb t s)) (t ∷ base.without w s) (base.without w s) ≡ t ∷ w
    go (told_true e) ih = clash refl (rw e at h)
    go (told_false e) ih =
        let d : eqb t s ≡ false = ne_eqb t s (λ q. clash (rw q (eqb_same s)) e) in
        rw d (ap (λ (l : List ℕ). t ∷ l) (ih (rw e at h)))

pub nums_without : (s : Slot) (w : List Slot) → distinct w ≡ true → nums (without s w) ≡ base.without (nums w) s.0
unfolding nums without keep distinct
nums_without s [] d = refl
nums_without s (t ∷ w) d = go (told (eqb t.0 s.0)) (nums_without s w (and_parts (not (listed t w)) (distinct w) d).1)
  where
    go : Told (eqb t.0 s.0) → nums (without s w) ≡ base.without (nums w) s.0
        → nums (elim (eqb t.0 s.0) [ true ↦ w | false ↦ t ∷ without s w ]) ≡ cond (not (eqb t.0 s.0))
        (t.0 ∷ base.without (nums w) s.0) (base.without (nums w) s.0)
    go (told_true e) ih =
        let q : t.0 ≡ s.0 = eqb-true _ _ e in
        let k : has (nums w) s.0 ≡ false = rw (← q)
        (has_nums w t.0 ∙ not-true (listed t w) (and_parts (not (listed t w)) (distinct w) d).0) in
        rw e (sym (keep_all (nums w) s.0 k))
    go (told_false e) ih = rw e (ap (λ (l : List ℕ). t.0 ∷ l) ih)

-- the model's window rule, from the tests
pub window_of_lem : (l : Label) (w : List Slot) → length w ≤ 63 → distinct w ≡ true → in_range l w ≡ true → Window l.slots (nums w)
window_of_lem l w h d r = record { fits = rw length_nums h; apart = distinct_nums w ∙ d; in_slots = below_nums l w ∙ r }

-- an empty window
pub empty_nums : (w : List Slot) → Rattle.laws.proofs.model.Model.empty (nums w) ≡ is_empty w
unfolding nums
empty_nums [] = refl
empty_nums (s ∷ w) = refl

pub some_length : (w : List Slot) → is_empty w ≡ false → 0 < length w
some_length [] e = clash {b = true} refl e
some_length (s ∷ w) e = omega arith
