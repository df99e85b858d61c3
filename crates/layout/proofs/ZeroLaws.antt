-- Ranges of zero bytes.
use Prim.Native.Nat.{ℕ, zero, suc, ◌+◌, ◌-◌, ◌≤◌, ◌<◌, min}
use mathlib.Core.Path.{◌≡◌, refl, sym, ap, ◌∙◌}
use mathlib.Core.Bool.{Bool, true, ◌&&◌}
use mathlib.Core.List.{List, [], ◌∷◌}
use native.Mathlib.Omega.{arith}
use lib.ListN.{length, get_or, take, drop, replicate, length-drop}
use lib.Seq.{take_all}
use lib.Dec.{eqb, leb}
use borrow.Author.Tests.{eq-eqb, eqb-true, leb-true, leb-false}
use Rattle.std.specs.List.{list_all}
use Rattle.layout.specs.LabelPage.{all_zero}
use Rattle.layout.specs.PageRule.{zero_test}
use Rattle.layout.proofs.Booleans.{Told, told, told_true, told_false, and_of, and_parts}
use Rattle.layout.proofs.Loops.{left}

-- zeros are all zero, and nothing else is
pub zeros_zero : (n : ℕ) → all_zero (replicate n 0) ≡ true
unfolding all_zero
zeros_zero zero = refl
zeros_zero (suc n) = zeros_zero n

pub zero_only : (bytes : List ℕ) → all_zero bytes ≡ true → bytes ≡ replicate (length bytes) 0
unfolding all_zero
zero_only [] h = refl
zero_only (b ∷ bytes) h =
    let p = and_parts (eqb b 0) (all_zero bytes) h in
    let z : b ≡ 0 = eqb-true b 0 p.0 in
    rw z (ap (λ (l : List ℕ). 0 ∷ l) (zero_only bytes p.1))

-- all zero: each of them is
pub zeros_get : (l : List ℕ) → all_zero l ≡ true → (k : ℕ) → get_or l k 0 ≡ 0
unfolding all_zero
zeros_get [] e k = refl
zeros_get (b ∷ l) e zero = eqb-true b 0 (and_parts (eqb b 0) (all_zero l) e).0
zeros_get (b ∷ l) e (suc k) = zeros_get l (and_parts (eqb b 0) (all_zero l) e).1 k

pub zeros_of : (l : List ℕ) → ((k : ℕ) → k < length l → get_or l k 0 ≡ 0) → all_zero l ≡ true
unfolding all_zero
zeros_of [] h = refl
zeros_of (b ∷ l) h = and_of (eq-eqb _ _ (h 0 (omega arith))) (zeros_of l (λ k q. h (suc k) (omega arith)))

-- a range, byte by byte
pub zero_left : (l : List ℕ) (i to : ℕ) → i < to → to ≤ length l → zero_test i to l ≡ (eqb (get_or l i 0) 0 && zero_test (i + 1) to l)
unfolding zero_test all_zero
zero_left l i to h k =
    let e : to - i ≡ suc (to - (i + 1)) = omega arith in
    rw (e, left l i 0 (omega arith))

pub zero_done : (l : List ℕ) (i to : ℕ) → to ≤ i → zero_test i to l ≡ true
unfolding zero_test all_zero
zero_done l i to h = let e : to - i ≡ 0 = omega arith in rw e

-- a range up to the end
pub zero_to_end : (l : List ℕ) (at : ℕ) → zero_test at (length l) l ≡ all_zero (drop at l)
unfolding zero_test
zero_to_end l at = ap all_zero (take_all (length l - at) (drop at l) (simp length-drop (omega arith)))

-- the library's test of each element
pub zeros_all : (bytes : List ℕ) → all_zero bytes ≡ list_all (λ b. eqb b 0) bytes
unfolding all_zero
zeros_all [] = refl
zeros_all (b ∷ bytes) = ap (λ (t : Bool). eqb b 0 && t) (zeros_all bytes)

-- a range as the code takes it, which begins at `to` where `from` lies past it
pub zeros_in : (l : List ℕ) (from to m : ℕ) → m ≡ min from to → list_all (λ b. eqb b 0) (take (to - m) (drop m l)) ≡ zero_test from to l
unfolding zero_test
zeros_in l from to m e = sym (zeros_all (take (to - m) (drop m l))) ∙ go (told (leb from to))
  where
    go : Told (leb from to) → all_zero (take (to - m) (drop m l)) ≡ all_zero (take (to - from) (drop from l))
    go (told_true h) = let k : from ≤ to = leb-true _ _ h in let s : m ≡ from = omega arith in rw s
    go (told_false h) =
        let k : to < from = leb-false _ _ h in
        let s : to - m ≡ 0 = omega arith in
        let z : to - from ≡ 0 = omega arith in
        rw (s, z)
