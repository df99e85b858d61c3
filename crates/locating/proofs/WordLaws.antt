-- A loop over a list of words that gives each anew from its place and from what it was.
use Prim.Native.Nat.{ℕ, zero, suc, ◌+◌, ◌≤◌, ◌<◌}
use mathlib.Core.Path.{◌≡◌, refl, ap, ◌∙◌}
use mathlib.Core.List.{List, [], ◌∷◌, map}
use native.Mathlib.Omega.{arith}
use native.Mathlib.Decide.{ℕ_discrete}
use lib.ListN.{length, get_or, set, length-set, length-map}
use lib.Seq.{get_or-set_same, get_or-set_other, ext_get_or}

-- the words up to j are new, the others as they were
pub record Renewed (f : ℕ → ℕ → ℕ) (before words : List ℕ) (j : ℕ) : Type 0 where
  pub size : length words ≡ length before
  pub new : (i : ℕ) → i < j → get_or words i 0 ≡ f i (get_or before i 0)
  pub old : (i : ℕ) → j ≤ i → get_or words i 0 ≡ get_or before i 0

pub renew_begin : (f : ℕ → ℕ → ℕ) (before : List ℕ) → Renewed f before before 0
renew_begin f before = record { size = refl; new = λ i h. absurd (omega arith); old = λ i h. refl }

pub renew_more : (f : ℕ → ℕ → ℕ) (before words : List ℕ) (j r : ℕ) → Renewed f before words j → j < length words → r ≡ f j (get_or words j 0)
    → Renewed f before (set words j r) (j + 1)
renew_more f before words j r R h e = record {
  size = length-set words j r ∙ R.size;
  new = λ i k. go i k (ℕ_discrete i j);
  old = λ i k. get_or-set_other words j i r 0 (omega arith) ∙ R.old i (omega arith);
}
  where
    go : (i : ℕ) → i < j + 1 → Dec (i ≡ j) → get_or (set words j r) i 0 ≡ f i (get_or before i 0)
    go i k (yes q) = rw (q, get_or-set_same words j r 0 h) (e ∙ ap (f j) (R.old j (omega arith)))
    go i k (no n) = get_or-set_other words j i r 0 n ∙ R.new i (omega arith)

-- words given for each element of a list
map_at : (f : ℕ → ℕ) (l : List ℕ) (i : ℕ) → i < length l → get_or (map f l) i 0 ≡ f (get_or l i 0)
map_at f [] i h = absurd (omega arith)
map_at f (x ∷ l) zero h = refl
map_at f (x ∷ l) (suc i) h = map_at f l i (omega arith)

pub as_map : (f : ℕ → ℕ) (l words : List ℕ) → length words ≡ length l → ((i : ℕ) → i < length l → get_or words i 0 ≡ f (get_or l i 0))
    → words ≡ map f l
as_map f l words size h =
    ext_get_or 0 words (map f l) (size ∙ rw (length-map l f)) (λ i k. h i (omega arith) ∙ rw (map_at f l i (omega arith)))
