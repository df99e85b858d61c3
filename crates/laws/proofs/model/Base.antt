-- Functions changed at one place, tests of windows, and the five legal rows.
use Prim.Native.Nat.{ℕ, suc, ◌≤◌, ◌<◌, ◌/◌}
use mathlib.Core.Path.{◌≡◌, refl, ◌∙◌}
use mathlib.Core.Logic.{◌≢◌}
use mathlib.Core.Bool.{Bool, true, false, cond, not, ◌&&◌, ◌||◌, or-true}
use mathlib.Core.List.{List, [], ◌∷◌, ◌++◌}
use native.Mathlib.Omega.{arith}
use lib.ListN.{length, length-append}
use lib.Dec.{eqb, ltb}
use borrow.Author.Tests.{eqb-true, not-true, lt-ltb, eq-eqb, ne_eqb}
use Rattle.layout.proofs.Booleans.{Told, told, told_true, told_false, clash, and_parts, or_neither}

pub eqb_same : (n : ℕ) → eqb n n ≡ true
eqb_same n = eq-eqb n n refl

-- upd f s v: the function f with v at s
unfoldable pub upd : {A : Type 0} → (ℕ → A) → ℕ → A → ℕ → A
upd f s v t = cond (eqb t s) v (f t)

module _ {A : Type 0} (f : ℕ → A) (s : ℕ) (v : A) where
  pub upd_same : upd f s v s ≡ v
  unfolding upd
  upd_same = rw eqb_same

  pub upd_other : (t : ℕ) → t ≢ s → upd f s v t ≡ f t
  unfolding upd
  upd_other t h = rw ne_eqb

-- has w s: is the slot s in the window w
unfoldable pub has : List ℕ → ℕ → Bool
has [] s = false
has (t ∷ w) s = eqb s t || has w s

-- the slots of a window that pass a test
unfoldable pub keep : (ℕ → Bool) → List ℕ → List ℕ
keep f [] = []
keep f (s ∷ w) = cond (f s) (s ∷ keep f w) (keep f w)

-- the metadata page of a slot (240 to a page)
unfoldable pub meta_no : ℕ → ℕ
meta_no s = s / 240

-- the window without the slot t; the slots of the window that stand on other pages than p
abbrev pub without : List ℕ → ℕ → List ℕ
without w t = keep (λ s. not (eqb s t)) w

abbrev pub off : ℕ → List ℕ → List ℕ
off p w = keep (λ s. not (eqb (meta_no s) p)) w

pub has_nil : (s : ℕ) → has [] s ≡ false
unfolding has
has_nil s = refl

pub has_snoc : (w : List ℕ) (s : ℕ) → has (w ++ (s ∷ [])) s ≡ true
unfolding has
has_snoc [] s = rw eqb_same
has_snoc (t ∷ w) s = rw (has_snoc w s) (or-true (eqb s t))

pub has_snoc_other : (w : List ℕ) (s t : ℕ) → t ≢ s → has (w ++ (s ∷ [])) t ≡ has w t
unfolding has
has_snoc_other [] s t h = rw ne_eqb
has_snoc_other (u ∷ w) s t h = rw (has_snoc_other w s t h)

pub has_keep_in : (f : ℕ → Bool) (w : List ℕ) (s : ℕ) → f s ≡ true → has (keep f w) s ≡ has w s
unfolding has keep
has_keep_in f [] s h = refl
has_keep_in f (t ∷ w) s h = go (f t) refl (has_keep_in f w s h)
  where
    go : (b : Bool) → f t ≡ b → has (keep f w) s ≡ has w s → has (cond b (t ∷ keep f w) (keep f w)) s ≡ (eqb s t || has w s)
    go true e k = rw k
    go false e k = rw (k, ne_eqb s t (λ (q : s ≡ t). clash h (rw q e)))

pub has_keep_out : (f : ℕ → Bool) (w : List ℕ) (s : ℕ) → f s ≡ false → has (keep f w) s ≡ false
unfolding has keep
has_keep_out f [] s h = refl
has_keep_out f (t ∷ w) s h = go (f t) refl (has_keep_out f w s h)
  where
    go : (b : Bool) → f t ≡ b → has (keep f w) s ≡ false → has (cond b (t ∷ keep f w) (keep f w)) s ≡ false
    go true e k = rw (k, ne_eqb s t (λ (q : s ≡ t). clash e (rw (← q) h)))
    go false e k = k

pub length_keep : (f : ℕ → Bool) (w : List ℕ) → length (keep f w) ≤ length w
unfolding keep
length_keep f [] = omega arith
length_keep f (t ∷ w) = go (f t) (length_keep f w)
  where
    go : (b : Bool) → length (keep f w) ≤ length w → length (cond b (t ∷ keep f w) (keep f w)) ≤ suc (length w)
    go true k = omega arith
    go false k = omega arith

pub length_keep_lt : (f : ℕ → Bool) (w : List ℕ) (s : ℕ) → has w s ≡ true → f s ≡ false → length (keep f w) < length w
unfolding has keep
length_keep_lt f [] s h g = clash h refl
length_keep_lt f (t ∷ w) s h g = go (told (eqb s t)) (told (f t)) (λ (k : has w s ≡ true). length_keep_lt f w s k g)
  where
    go : Told (eqb s t) → Told (f t) → (has w s ≡ true → length (keep f w) < length w)
        → length (cond (f t) (t ∷ keep f w) (keep f w)) < suc (length w)
    go (told_true e) (told_true d) r = clash (rw (eqb-true s t e) d) g
    go (told_false e) (told_true d) r = let k : length (keep f w) < length w = r (rw e at h) in rw d (omega arith)
    go x (told_false d) r = rw d (omega (arith, length_keep f w))

pub not_same : (s : ℕ) → not (eqb s s) ≡ false
not_same s = rw eqb_same

pub not-other : (s t : ℕ) → s ≢ t → not (eqb s t) ≡ true
not-other s t h = rw ne_eqb

-- a window's rule: no slot twice, each slot in range, at most 63
unfoldable pub distinct : List ℕ → Bool
distinct [] = true
distinct (s ∷ w) = not (has w s) && distinct w

unfoldable pub below : ℕ → List ℕ → Bool
below n [] = true
below n (s ∷ w) = ltb s n && below n w

pub record Window (n : ℕ) (w : List ℕ) : Type 0 where
  pub fits : length w ≤ 63
  pub apart : distinct w ≡ true
  pub in_slots : below n w ≡ true

has_keep_no : (f : ℕ → Bool) (w : List ℕ) (s : ℕ) → has w s ≡ false → has (keep f w) s ≡ false
has_keep_no f w s h = go (told (f s))
  where
    go : Told (f s) → has (keep f w) s ≡ false
    go (told_true e) = has_keep_in f w s e ∙ h
    go (told_false e) = has_keep_out f w s e

keep_apart : (f : ℕ → Bool) (w : List ℕ) → distinct w ≡ true → distinct (keep f w) ≡ true
unfolding distinct keep
keep_apart f [] h = refl
keep_apart f (s ∷ w) h = go (f s) (keep_apart f w (and_parts (not (has w s)) (distinct w) h).1)
  where
    go : (b : Bool) → distinct (keep f w) ≡ true → distinct (cond b (s ∷ keep f w) (keep f w)) ≡ true
    go true k = rw (has_keep_no f w s (not-true (has w s) (and_parts (not (has w s)) (distinct w) h).0), k)
    go false k = k

keep_below : (f : ℕ → Bool) (n : ℕ) (w : List ℕ) → below n w ≡ true → below n (keep f w) ≡ true
unfolding below keep
keep_below f n [] h = refl
keep_below f n (s ∷ w) h = go (f s) (keep_below f n w (and_parts (ltb s n) (below n w) h).1)
  where
    go : (b : Bool) → below n (keep f w) ≡ true → below n (cond b (s ∷ keep f w) (keep f w)) ≡ true
    go true k = rw ((and_parts (ltb s n) (below n w) h).0, k)
    go false k = k

pub keep_window : (f : ℕ → Bool) (n : ℕ) (w : List ℕ) → Window n w → Window n (keep f w)
keep_window f n w W = record {
  fits = omega (arith, W.fits, length_keep f w);
  apart = keep_apart f w W.apart;
  in_slots =
      keep_below f n w W.in_slots;
}

snoc_apart : (w : List ℕ) (s : ℕ) → has w s ≡ false → distinct w ≡ true → distinct (w ++ (s ∷ [])) ≡ true
unfolding distinct has
snoc_apart [] s h d = refl
snoc_apart (t ∷ w) s h d = rw (
  has_snoc_other w s t (λ e. clash (rw e (eqb_same s)) (or_neither (eqb s t) (has w s) h).0),
  (and_parts (not (has w t)) (distinct w) d).0,
  snoc_apart w s (or_neither (eqb s t) (has w s) h).1 (and_parts (not (has w t)) (distinct w) d).1,
)

snoc_below : (n : ℕ) (w : List ℕ) (s : ℕ) → s < n → below n w ≡ true → below n (w ++ (s ∷ [])) ≡ true
unfolding below
snoc_below n [] s l h = rw (lt-ltb s n l)
snoc_below n (t ∷ w) s l h = rw ((and_parts (ltb t n) (below n w) h).0, snoc_below n w s l (and_parts (ltb t n) (below n w) h).1)

pub snoc_window : (n : ℕ) (w : List ℕ) (s : ℕ) → s < n → has w s ≡ false → length w < 63 → Window n w → Window n (w ++ (s ∷ []))
snoc_window n w s l h r W = record {
  fits = simp length-append (omega arith);
  apart = snoc_apart w s h W.apart;
  in_slots =
      snoc_below n w s l W.in_slots;
}

pub nil_window : (n : ℕ) → Window n []
unfolding distinct below
nil_window n = record { fits = omega arith; apart = refl; in_slots = refl }
