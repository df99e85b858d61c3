-- What a number's next byte does: byte i of the bytes, with k digits more to come.
use Prim.Native.Nat.{ℕ, suc, ◌+◌, ◌-◌, ◌*◌, ◌^◌, ◌≤◌, ◌<◌}
use mathlib.Core.Path.{◌≡◌, sym, ap, ◌∙◌}
use mathlib.Core.Logic.{◌≢◌}
use mathlib.Core.List.{List, ◌∷◌}
use Rattle.std.specs.Prelude.{Option, Some, None}
use Rattle.std.specs.Prelude.{Result, Ok, Err}
use Rattle.std.specs.Result.{OkIff, result_ok}
use Rattle.std.proofs.lemmas.Option.{none-some, same_Some}
use native.Mathlib.Omega.{arith}
use native.Mathlib.Nat.{pow-suc, pow-le-pow_right}
use lib.ListN.{length, get_or, drop, drop_of_length-le}
use borrow.Author.Tests.{lt-ltb, le-ltb}
use Rattle.layout.specs.LabelPage.{Number, number_from}
use Rattle.layout.proofs.Loops.{left}
use Rattle.layout.proofs.Decimal.{from_line, from_digit, from_full, from_low, from_high, from_none}
use Rattle.text.specs.Numbers.{fitting}

pub next_none : (bytes : List ℕ) (i k n : ℕ) → length bytes ≤ i → number_from k n (drop i bytes) ≡ None
next_none bytes i k n h = ap (number_from k n) (drop_of_length-le bytes {i = i} h) ∙ from_none k n

module _ (bytes : List ℕ) (i k n : ℕ) (h : i < length bytes) where
  at_byte : number_from k n (drop i bytes) ≡ number_from k n (get_or bytes i 0 ∷ drop (i + 1) bytes)
  at_byte = ap (number_from k n) (left bytes i 0 h)

  pub next_line : get_or bytes i 0 ≡ 10 → number_from k n (drop i bytes) ≡ Some (record { value = n; rest = drop (i + 1) bytes })
  next_line e = at_byte ∙ ap (λ (b : ℕ). number_from k n (b ∷ drop (i + 1) bytes)) e ∙ from_line k n _

  pub next_low : get_or bytes i 0 ≢ 10 → get_or bytes i 0 < 48 → number_from k n (drop i bytes) ≡ None
  next_low e l = at_byte ∙ from_low k n _ _ e l

  pub next_high : 57 < get_or bytes i 0 → number_from k n (drop i bytes) ≡ None
  next_high l = at_byte ∙ from_high k n _ _ l

  pub next_full : k ≡ 0 → get_or bytes i 0 ≢ 10 → number_from k n (drop i bytes) ≡ None
  next_full z e = at_byte ∙ ap (λ (j : ℕ). number_from j n (get_or bytes i 0 ∷ drop (i + 1) bytes)) z ∙ from_full n _ _ e

  pub next_digit : (j : ℕ) → k ≡ suc j → 48 ≤ get_or bytes i 0 → get_or bytes i 0 ≤ 57 → number_from k n (drop i bytes) ≡ number_from j (10 * n + (get_or bytes i 0 - 48)) (drop (i + 1) bytes)
  next_digit j z l m = at_byte ∙ ap (λ (x : ℕ). number_from x n (get_or bytes i 0 ∷ drop (i + 1) bytes)) z ∙ from_digit j n _ _ l m

-- what was read, below the limit or not
module _ (o : Option Number) where
  pub not-read : o ≡ None → None ≡ fitting o
  not-read e = rw e

  pub too_large : (n : ℕ) (rest : List ℕ) → o ≡ Some (record { value = n; rest = rest }) → 4294967295 < n → None ≡ fitting o
  too_large n rest e h = rw (e, le-ltb n 4294967296 (omega arith))

  pub fits_line : (n : ℕ) (rest : List ℕ) → o ≡ Some (record { value = n; rest = rest }) → n ≤ 4294967295
      → Some (record { value = n; rest = rest }) ≡ fitting o
  fits_line n rest e h = rw (e, lt-ltb n 4294967296 (omega arith))

-- with digits left to read a number has at most nine, and fits with one more
module _ (n left b : ℕ) (some_left : left ≢ 0) (few : left ≤ 9) (small : n < 10 ^ (10 - left)) (top : b ≤ 57) where
  pub nine : n < 1000000000
  nine =
      let z : 0 < 10 = omega arith in
      let m : 10 - left ≤ 9 = omega arith in
      omega (arith, pow-le-pow_right {n = 10} z {i = 10 - left} {j = 9} m)

  pub digit_more : 10 * n + (b - 48) < 10 ^ (10 - (left - 1))
  digit_more =
      let j : 10 - (left - 1) ≡ suc (10 - left) = omega arith in
      let p : 10 ^ suc (10 - left) ≡ 10 ^ (10 - left) * 10 = pow-suc 10 (10 - left) in
      rw (j, p) (omega arith)

-- a conversion to 32 bits that failed, and one that did not
pub unkept : {E : Type 0} (r : Result ℕ E) (n : ℕ) → OkIff r (n < 4294967296) n → result_ok r ≡ None → 4294967295 < n
unkept (Ok x) n h e = absurd (none-some x (sym e))
unkept (Err e) n h k = omega (arith, h)

pub kept : {E : Type 0} (r : Result ℕ E) (n v : ℕ) → OkIff r (n < 4294967296) n → result_ok r ≡ Some v → (n ≤ 4294967295) × (v ≡ n)
kept (Ok x) n v h e = (omega (arith, h.0), sym (same_Some x v e) ∙ h.1)
kept (Err x) n v h e = absurd (none-some v e)
