-- Slots told apart by marks: a mark for each slot that was met, by its number modulo 256.
use Prim.Native.Nat.{ℕ, zero, suc, ◌+◌, ◌%◌, ◌≤◌, ◌<◌}
use mathlib.Core.Path.{◌≡◌, refl, sym, ap, ◌∙◌}
use mathlib.Core.Bool.{Bool, true, false, not, ◌&&◌, ◌||◌}
use mathlib.Core.List.{List, [], ◌∷◌}
use native.Mathlib.Omega.{arith}
use native.Mathlib.Numerals.{add-one}
use native.Mathlib.Decide.{ℕ_discrete}
use lib.ListN.{length, get_or, set, take, replicate, length-set, length-take}
use lib.Seq.{get_or-set_same, get_or-set_other, get_or-take}
use lib.Dec.{eqb}
use borrow.Author.Tests.{eqb-true}
use Rattle.layout.specs.declared.Slot.{Slot}
use Rattle.layout.specs.PageRule.{listed, distinct}
use Rattle.layout.proofs.Booleans.{Told, told, told_true, told_false, clash, and_parts}
use Rattle.record.proofs.WindowLaws.{eqb_swap}
use Rattle.record.proofs.LeaveLaws.{listed_more}
use Rattle.record.proofs.Each.{distinct_get, distinct_of}

-- one slot more is distinct from those before it
distinct_more : (w : List Slot) (i : ℕ) (d : Slot) → i < length w
    → distinct (take (suc i) w) ≡ (distinct (take i w) && not (listed (get_or w i d) (take i w)))
unfolding distinct listed
distinct_more [] i d h = absurd (omega arith)
distinct_more (t ∷ w) zero d h = refl
distinct_more (t ∷ w) (suc i) d h =
    let g = get_or w i d in
    rw (listed_more t w i d (omega arith), distinct_more w i d (omega arith), eqb_swap t.0 g.0)
    (go (listed t (take i w)) (eqb g.0 t.0) (distinct (take i w)) (listed g (take i w)))
  where
    go : (a e d l : Bool) → (not (a || e) && (d && not l)) ≡ ((not a && d) && not (e || l))
    go true e d l = refl
    go false true true l = refl
    go false true false l = refl
    go false false d l = refl

-- slots that are distinct are so as far as any place
distinct_before : (w : List Slot) (i : ℕ) → i ≤ length w → distinct w ≡ true → distinct (take i w) ≡ true
distinct_before w i h e =
    let n = length-take i w in
    distinct_of (take i w) λ k m p q.
    let a : k < i = omega arith in
    let b : m < i = omega arith in
    rw (get_or-take i w k (record { 0 = 0 }) a, get_or-take i w m (record { 0 = 0 }) b) (distinct_get w e k m p (omega arith))

-- slots are distinct, and each has its mark
pub record Marked (w : List Slot) (marks : List Bool) : Type 0 where
  pub size : length marks ≡ 256
  pub apart : distinct w ≡ true
  pub each : (s : Slot) → listed s w ≡ true → get_or marks (s.0 % 256) false ≡ true

pub marks_begin : (w : List Slot) → Marked (take 0 w) (replicate 256 false)
unfolding distinct listed
marks_begin w = record { size = refl; apart = refl; each = λ s h. clash h refl }

module _ (w : List Slot) (i : ℕ) (d : Slot) (h : i < length w) where
  pub twice : listed (get_or w i d) (take i w) ≡ true → false ≡ distinct w
  twice e = sym (go (told (distinct w)))
    where
      go : Told (distinct w) → distinct w ≡ false
      go (told_true q) =
          clash (and_parts (distinct (take i w)) _ (sym (distinct_more w i d h) ∙ distinct_before w (suc i) (omega arith) q)).1 (rw e)
      go (told_false q) = q

  -- a slot without a mark is not listed
  pub unmarked : (marks : List Bool) → Marked (take i w) marks → get_or marks ((get_or w i d).0 % 256) false ≡ false
      → listed (get_or w i d) (take i w) ≡ false
  unmarked marks M z = go (told (listed (get_or w i d) (take i w)))
    where
      go : Told (listed (get_or w i d) (take i w)) → listed (get_or w i d) (take i w) ≡ false
      go (told_true q) = clash (M.each (get_or w i d) q) z
      go (told_false q) = q

  -- one slot more, that is not listed yet
  pub mark_more : (marks : List Bool) → Marked (take i w) marks → listed (get_or w i d) (take i w) ≡ false
      → Marked (take (i + 1) w) (set marks ((get_or w i d).0 % 256) true)
  unfolding listed
  mark_more marks M e = let s = get_or w i d in record {
    size = length-set marks (s.0 % 256) true ∙ M.size;
    apart = rw (add-one, distinct_more w i d h, M.apart, e);
    each = λ t q.
        go t (sym (rw add-one (listed_more t w i d h)) ∙ q) (ℕ_discrete (t.0 % 256) (s.0 % 256));
  }
    where
      go : (t : Slot) → (listed t (take i w) || eqb t.0 (get_or w i d).0) ≡ true → Dec (t.0 % 256 ≡ (get_or w i d).0 % 256)
          → get_or (set marks ((get_or w i d).0 % 256) true) (t.0 % 256) false ≡ true
      go t q (yes n) = rw n (get_or-set_same marks ((get_or w i d).0 % 256) true false (omega (arith, M.size)))
      go t q (no n) = get_or-set_other marks ((get_or w i d).0 % 256) (t.0 % 256) true false n ∙ old (told (listed t (take i w)))
        where
          old : Told (listed t (take i w)) → get_or marks (t.0 % 256) false ≡ true
          old (told_true l) = M.each t l
          old (told_false l) = absurd (n (ap (λ (m : ℕ). m % 256) (eqb-true _ _ (rw l at q))))
