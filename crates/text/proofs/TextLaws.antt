-- Bytes that are stored one after the other.
use Prim.Native.Nat.{ℕ, ◌+◌, ◌<◌}
use mathlib.Core.Path.{◌≡◌, sym, ap, ◌∙◌}
use mathlib.Core.List.{List, [], ◌∷◌, ◌++◌, append_assoc}
use native.Mathlib.Omega.{arith}
use lib.ListN.{length, take, drop, get_or, set, length-append, length-take, length-set}
use lib.Seq.{drop-drop, set_at, get_or-set_same, drop-set-lt}
use borrow.Rule.Slice.PartMut.{put_mid}
use Rattle.layout.proofs.Loops.{left}

-- a byte stored at i, and those after it
pub drop_put : (l : List ℕ) (i d : ℕ) → i < length l → drop i (set l i d) ≡ d ∷ drop (i + 1) l
drop_put l i d h =
    let k : i < length (set l i d) = simp length-set h in
    left (set l i d) i 0 k
    ∙ ap (λ (x : ℕ). x ∷ drop (i + 1) (set l i d)) (get_or-set_same l i d 0 h)
    ∙ ap (λ (t : List ℕ). d ∷ t) (drop-set-lt (i + 1) l i d (omega arith))

-- a byte stored after digits that were stored
pub line_put : (page d : List ℕ) (at k b : ℕ) → length d ≡ k → at + k < length page
    → set (put_mid at k page d) (at + k) b ≡ put_mid at (k + 1) page (d ++ (b ∷ []))
line_put page d at k b e h =
    let x : ℕ = get_or page (at + k) 0 in
    let r : List ℕ = drop (k + 1) (drop at page) in
    let n : at + k + 1 ≡ at + (k + 1) = omega arith in
    let q : drop k (drop at page) ≡ x ∷ r =
    drop-drop k at page ∙ left page (at + k) 0 h ∙ ap (λ (j : ℕ). x ∷ drop j page) n ∙ ap (λ (t : List ℕ). x ∷ t) (sym (drop-drop (k + 1) at page))
    in
    let l : length (take at page ++ d) ≡ at + k = simp (length-append, length-take, e) (omega arith) in
    ap (λ (t : List ℕ). set (take at page ++ (d ++ t)) (at + k) b) q
    ∙ ap (λ (t : List ℕ). set t (at + k) b) (sym (append_assoc (take at page) d (x ∷ r)))
    ∙ set_at (take at page ++ d) x r b (at + k) l
    ∙ simp append_assoc
