-- Lists padded with zeros, and chunks stored into them.
use Prim.Native.Nat.{ℕ, ◌+◌, ◌-◌, ◌≤◌, ◌<◌}
use mathlib.Core.Path.{◌≡◌, sym, ap, ◌∙◌}
use mathlib.Core.List.{List, ◌++◌, append_assoc, append-nil}
use native.Mathlib.Omega.{arith}
use lib.ListN.{length, take, drop, replicate, length-append, length-take, length-drop, length-replicate, get_or-replicate, replicate-append-replicate}
use lib.Seq.{take_at, drop_at, drop-drop, ext_get_or, get_or-drop, get_or-take, take-append-add, drop-append-add}
use borrow.Rule.Slice.PartMut.{put_mid}
use Rattle.pages.specs.Pages.{padded}

-- a chunk stored into the middle of a list
module _ (xs ys : List ℕ) (at k : ℕ) (l : length ys ≡ k) (h : at + k ≤ length xs) where
  head_length : length (take at xs ++ ys) ≡ at + k
  head_length = simp (length-append, length-take, l) (omega arith)

  pub chunk_take : take (at + k) (put_mid at k xs ys) ≡ take at xs ++ ys
  chunk_take = ap (take (at + k)) (sym (append_assoc (take at xs) ys _)) ∙ take_at (take at xs ++ ys) _ (at + k) head_length

  pub chunk_drop : drop (at + k) (put_mid at k xs ys) ≡ drop (at + k) xs
  chunk_drop = ap (drop (at + k)) (sym (append_assoc (take at xs) ys _)) ∙ drop_at (take at xs ++ ys) _ (at + k) head_length ∙ drop-drop k at xs

  pub chunk_length : length (put_mid at k xs ys) ≡ length xs
  chunk_length = simp (length-append, length-take, length-drop, l) (omega arith)

-- a chunk stored right after a chunk: both at once
pub chunk_more : (xs ys zs : List ℕ) (at k m : ℕ) → length ys ≡ k → at + k + m ≤ length xs
    → put_mid (at + k) m (put_mid at k xs ys) zs ≡ put_mid at (k + m) xs (ys ++ zs)
chunk_more xs ys zs at k m l h =
    let n : at + k + m ≡ at + (k + m) = omega arith in
    let d : drop m (drop (at + k) xs) ≡ drop (k + m) (drop at xs) =
    drop-drop m (at + k) xs ∙ ap (λ (j : ℕ). drop j xs) n ∙ sym (drop-drop (k + m) at xs)
    in
    ap (λ (t : List ℕ). t ++ (zs ++ drop m (drop (at + k) (put_mid at k xs ys)))) (chunk_take xs ys at k l (omega arith))
    ∙ ap (λ (t : List ℕ). (take at xs ++ ys) ++ (zs ++ drop m t)) (chunk_drop xs ys at k l (omega arith))
    ∙ ap (λ (t : List ℕ). (take at xs ++ ys) ++ (zs ++ t)) d
    ∙ simp append_assoc

pub length-padded : (n : ℕ) (l : List ℕ) → length l ≤ n → length (padded n l) ≡ n
unfolding padded
length-padded n l h = simp (length-append, length-replicate) (omega arith)

drop_zeros : (n m : ℕ) → ◌≡◌ {A = List ℕ} (drop n (replicate m 0)) (replicate (m - n) 0)
drop_zeros n m = ext_get_or 0 _ _ (simp (length-drop, length-replicate)) (λ i h.
    let q : i < m - n = simp (length-drop, length-replicate) at h in
    get_or-drop n (replicate m 0) i 0 ∙ get_or-replicate m (n + i) 0 0 (omega arith) ∙ sym (get_or-replicate (m - n) i 0 0 q))

take_zeros : (n m : ℕ) → n ≤ m → ◌≡◌ {A = List ℕ} (take n (replicate m 0)) (replicate n 0)
take_zeros n m h = ext_get_or 0 _ _ (simp (length-take, length-replicate) (omega arith)) (λ i q.
    let r : i < n = omega (arith, simp (length-take, length-replicate) at q) in
    get_or-take n (replicate m 0) i 0 r ∙ get_or-replicate m i 0 0 (omega arith) ∙ sym (get_or-replicate n i 0 0 r))

-- a chunk stored past what a padded list holds
pub padded_put : (n at k : ℕ) (xs ys : List ℕ) → length xs ≤ at → length ys ≡ k → at + k ≤ n → put_mid at k (padded n xs) ys ≡ padded n (padded at xs ++ ys)
unfolding padded
padded_put n at k xs ys hx hy h =
    let z : ℕ = n - length xs in
    let e1 : at ≡ length xs + (at - length xs) = omega arith in
    let e2 : at + k ≡ length xs + (at + k - length xs) = omega arith in
    let e3 : z - (at + k - length xs) ≡ n - (at + k) = omega arith in
    let t : take at (xs ++ replicate z 0) ≡ xs ++ replicate (at - length xs) 0 =
    ap (λ (j : ℕ). take j (xs ++ replicate z 0)) e1 ∙ take-append-add xs (replicate z 0) (at - length xs) ∙ ap (λ (r : List ℕ). xs ++ r) (take_zeros (at - length xs) z (omega arith)) in
    let d : drop k (drop at (xs ++ replicate z 0)) ≡ replicate (n - (at + k)) 0 =
    drop-drop k at (xs ++ replicate z 0) ∙ ap (λ (j : ℕ). drop j (xs ++ replicate z 0)) e2 ∙ drop-append-add xs (replicate z 0) (at + k - length xs) ∙ drop_zeros (at + k - length xs) z ∙ ap (λ (j : ℕ). replicate j 0) e3 in
    let e : n - length ((xs ++ replicate (at - length xs) 0) ++ ys) ≡ n - (at + k) = simp (length-append, length-replicate, hy) (omega arith) in
    ap (λ (l : List ℕ). l ++ (ys ++ drop k (drop at (xs ++ replicate z 0)))) t
    ∙ ap (λ (l : List ℕ). (xs ++ replicate (at - length xs) 0) ++ (ys ++ l)) d
    ∙ sym (append_assoc (xs ++ replicate (at - length xs) 0) ys (replicate (n - (at + k)) 0))
    ∙ ap (λ (j : ℕ). ((xs ++ replicate (at - length xs) 0) ++ ys) ++ replicate j 0) (sym e)

-- nothing to pad
pub padded_full : (n : ℕ) (l : List ℕ) → length l ≡ n → padded n l ≡ l
unfolding padded
padded_full n l e = let z : n - length l ≡ 0 = omega arith in ap (λ (j : ℕ). l ++ replicate j 0) z ∙ append-nil l

-- zeros at the end that padding would give anyway
pub padded_zeros : (n k : ℕ) (l : List ℕ) → length l + k ≤ n → padded n (l ++ replicate k 0) ≡ padded n l
unfolding padded
padded_zeros n k l h =
    let e : n - length (l ++ replicate k 0) ≡ n - length l - k = simp (length-append, length-replicate) (omega arith) in
    let z : k + (n - length l - k) ≡ n - length l = omega arith in
    ap (λ (j : ℕ). (l ++ replicate k 0) ++ replicate j 0) e
    ∙ append_assoc l (replicate k 0) (replicate (n - length l - k) 0)
    ∙ ap (λ (t : List ℕ). l ++ t) (replicate-append-replicate k (n - length l - k) 0 ∙ ap (λ (j : ℕ). replicate j 0) z)
