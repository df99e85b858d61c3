-- Decimal numbers, written and read.
use Prim.Native.Nat.{ℕ, zero, suc, ◌+◌, ◌-◌, ◌*◌, ◌/◌, ◌%◌, ◌^◌, ◌≤◌, ◌<◌}
use mathlib.Core.Path.{◌≡◌, refl, sym, ap, ◌∙◌}
use mathlib.Core.Logic.{◌≢◌}
use mathlib.Core.List.{List, [], ◌∷◌, ◌++◌, append_assoc}
use Rattle.std.specs.Prelude.{Option, Some, None}
use Rattle.std.proofs.lemmas.Option.{same_Some, none-some}
use native.Mathlib.Omega.{arith}
use native.Mathlib.Nat.{pow-suc, pow-le-pow_right}
use native.Mathlib.Decide.{dec_lt, ℕ_discrete}
use lib.ListN.{length, length-append}
use borrow.Author.Tests.{ne_eqb, le-leb, lt-leb, le-ltb, lt-ltb}
use Rattle.layout.specs.LabelPage.{digits, decimal, Number, number_from, number}

-- Written.

digits_small : (k n : ℕ) → n < 10 → digits (suc k) n ≡ (48 + n) ∷ []
unfolding digits
digits_small k n h = rw (lt-ltb n 10 h, digits)

digits_large : (k n : ℕ) → 10 ≤ n → digits (suc k) n ≡ digits k (n / 10) ++ ((48 + n % 10) ∷ [])
unfolding digits
digits_large k n h = rw (le-ltb n 10 h, digits)

-- one more step of fuel changes nothing
spare : (k n : ℕ) → n < 10 ^ suc k → digits (suc (suc k)) n ≡ digits (suc k) n
spare zero n h = digits_small 1 n (omega arith) ∙ sym (digits_small 0 n (omega arith))
spare (suc k) n h =
    let p : 10 ^ suc (suc k) ≡ 10 ^ suc k * 10 = pow-suc 10 (suc k) in
    go (dec_lt n 10) (spare k (n / 10) (omega arith))
  where
    go : Dec (n < 10) → digits (suc (suc k)) (n / 10) ≡ digits (suc k) (n / 10) → digits (suc (suc (suc k))) n ≡ digits (suc (suc k)) n
    go (yes l) e = digits_small (suc (suc k)) n l ∙ sym (digits_small (suc k) n l)
    go (no l) e =
        let m : 10 ≤ n = omega arith in
        digits_large (suc (suc k)) n m
        ∙ ap (λ (t : List ℕ). t ++ ((48 + n % 10) ∷ [])) e
        ∙ sym (digits_large (suc k) n m)

length_most_lem : (k n : ℕ) → length (digits k n) ≤ k
unfolding digits
length_most_lem zero n = omega arith
length_most_lem (suc k) n = go (dec_lt n 10) (length_most_lem k (n / 10))
  where
    go : Dec (n < 10) → length (digits k (n / 10)) ≤ k → length (digits (suc k) n) ≤ suc k
    go (yes l) e = rw (digits_small k n l) (omega arith)
    go (no l) e =
        let m : 10 ≤ n = omega arith in
        rw (digits_large k n m, length-append) (omega arith)

length-least : (k n : ℕ) → 1 ≤ length (digits (suc k) n)
length-least k n = go (dec_lt n 10)
  where
    go : Dec (n < 10) → 1 ≤ length (digits (suc k) n)
    go (yes l) = rw (digits_small k n l) (omega arith)
    go (no l) =
        let m : 10 ≤ n = omega arith in
        rw (digits_large k n m, length-append) (omega arith)

-- a number has 1 to 10 digits
pub decimal-size : (n : ℕ) → (1 ≤ length (decimal n)) × (length (decimal n) ≤ 10)
decimal-size n = (length-least 9 n, length_most_lem 10 n)

pub decimal_long : (n : ℕ) → 10 ≤ n → 2 ≤ length (decimal n)
decimal_long n h = rw (digits_large 9 n h, length-append) (omega (arith, length-least 8 (n / 10)))

pub decimal-one : (n : ℕ) → n < 10 → decimal n ≡ (48 + n) ∷ []
decimal-one n h = digits_small 9 n h

-- a number's digits: those of its tenth, and the last
pub decimal_more : (n : ℕ) → 10 ≤ n → n < 10000000000 → decimal n ≡ decimal (n / 10) ++ ((48 + n % 10) ∷ [])
decimal_more n h l = digits_large 9 n h ∙ ap (λ (t : List ℕ). t ++ ((48 + n % 10) ∷ [])) (sym (spare 8 (n / 10) (omega arith)))

pub length_more : (n : ℕ) → 10 ≤ n → n < 10000000000 → length (decimal n) ≡ length (decimal (n / 10)) + 1
length_more n h l = ap length (decimal_more n h l) ∙ length-append (decimal (n / 10)) ((48 + n % 10) ∷ [])

pub decimal_push : (a d : ℕ) → 0 < a → d < 10 → 10 * a + d < 100000000 → decimal (10 * a + d) ≡ decimal a ++ ((48 + d) ∷ [])
decimal_push a d p l h =
    let q : (10 * a + d) / 10 ≡ a = omega arith in
    let r : (10 * a + d) % 10 ≡ d = omega arith in
    decimal_more (10 * a + d) (omega arith) (omega arith) ∙ rw (q, r)

-- Read, a byte at a time.

pub from_line : (k n : ℕ) (rest : List ℕ) → number_from k n (10 ∷ rest) ≡ Some (record { value = n; rest = rest })
unfolding number_from
from_line zero n rest = refl
from_line (suc k) n rest = refl

pub from_digit : (k n b : ℕ) (rest : List ℕ) → 48 ≤ b → b ≤ 57 → number_from (suc k) n (b ∷ rest) ≡ number_from k (10 * n + (b - 48)) rest
unfolding number_from
from_digit k n b rest l h = rw (ne_eqb b 10 (omega arith), number_from) (rw (le-leb 48 b l, le-leb b 57 h))

pub from_full : (n b : ℕ) (rest : List ℕ) → b ≢ 10 → number_from 0 n (b ∷ rest) ≡ None
unfolding number_from
from_full n b rest h = rw (ne_eqb b 10 h, number_from)

pub from_low : (k n b : ℕ) (rest : List ℕ) → b ≢ 10 → b < 48 → number_from k n (b ∷ rest) ≡ None
unfolding number_from
from_low zero n b rest h l = rw (ne_eqb b 10 h, number_from)
from_low (suc k) n b rest h l = rw (ne_eqb b 10 h, number_from) (rw (lt-leb 48 b l))

pub from_high : (k n b : ℕ) (rest : List ℕ) → 57 < b → number_from k n (b ∷ rest) ≡ None
unfolding number_from
from_high zero n b rest l = rw (ne_eqb b 10 (omega arith), number_from)
from_high (suc k) n b rest l = rw (ne_eqb b 10 (omega arith), number_from) (rw (le-leb 48 b (omega arith), lt-leb b 57 l))

pub from_none : (k n : ℕ) → number_from k n [] ≡ None
unfolding number_from
from_none k n = refl

pub number-first : (b : ℕ) (rest : List ℕ) → 49 ≤ b → b ≤ 57 → number (b ∷ rest) ≡ number_from 7 (b - 48) rest
unfolding number
number-first b rest l h = rw (le-leb 49 b l, number) (rw (le-leb b 57 h))

pub number-low : (b : ℕ) (rest : List ℕ) → b < 49 → number (b ∷ rest) ≡ None
unfolding number
number-low b rest l = rw (lt-leb 49 b l, number)

pub number_high : (b : ℕ) (rest : List ℕ) → 57 < b → number (b ∷ rest) ≡ None
unfolding number
number_high b rest l = rw (le-leb 49 b (omega arith), number) (rw (lt-leb b 57 l))

pub number_none : number [] ≡ None
unfolding number
number_none = refl

-- Written, then read.

read-digits : (k n : ℕ) (t : List ℕ) → k ≤ 8 → 0 < n → n < 10 ^ k → number (digits k n ++ t) ≡ number_from (8 - length (digits k n)) n t
read-digits zero n t m p h = absurd (omega arith)
read-digits (suc k) n t m p h =
    let w : 10 ^ suc k ≡ 10 ^ k * 10 = pow-suc 10 k in
    go (dec_lt n 10) (λ a. read-digits k (n / 10) ((48 + n % 10) ∷ t) (omega arith) (omega arith) (omega arith))
  where
    go : Dec (n < 10)
        → (10 ≤ n → number (digits k (n / 10) ++ ((48 + n % 10) ∷ t)) ≡ number_from (8 - length (digits k (n / 10))) (n / 10) ((48 + n % 10) ∷ t))
        → number (digits (suc k) n ++ t) ≡ number_from (8 - length (digits (suc k) n)) n t
    go (yes l) e =
        let z : 48 + n - 48 ≡ n = omega arith in
        rw (digits_small k n l) (number-first (48 + n) t (omega arith) (omega arith) ∙ ap (λ (a : ℕ). number_from 7 a t) z)
    go (no l) e =
        let a : 10 ≤ n = omega arith in
        let d : ℕ = 48 + n % 10 in
        let s : List ℕ = digits k (n / 10) in
        let j : ℕ = 8 - length (digits (suc k) n) in
        let ln : length (digits (suc k) n) ≡ length s + 1 = rw (digits_large k n a, length-append) in
        let q : 8 - length s ≡ suc j = omega (arith, length_most_lem k (n / 10)) in
        let v : 10 * (n / 10) + (d - 48) ≡ n = omega arith in
        ap (λ (x : List ℕ). number (x ++ t)) (digits_large k n a)
        ∙ ap number (append_assoc s (d ∷ []) t)
        ∙ e a
        ∙ ap (λ (x : ℕ). number_from x (n / 10) (d ∷ t)) q
        ∙ from_digit j (n / 10) d t (omega arith) (omega arith)
        ∙ ap (λ (x : ℕ). number_from j x t) v

-- a number that was written is read again
pub number_back : (n : ℕ) (rest : List ℕ) → 0 < n → n < 100000000 → number (decimal n ++ (10 ∷ rest)) ≡ Some (record { value = n; rest = rest })
number_back n rest p h =
    let e : decimal n ≡ digits 8 n = spare 8 n (omega arith) ∙ spare 7 n h in
    ap (λ (t : List ℕ). number (t ++ (10 ∷ rest))) e
    ∙ read-digits 8 n (10 ∷ rest) (omega arith) p h
    ∙ from_line (8 - length (digits 8 n)) n rest

-- Read, then written.

-- what a number was read of
pub record ReadOf (bytes : List ℕ) (r : Number) : Type 0 where
  pub written : bytes ≡ decimal r.value ++ (10 ∷ r.rest)
  pub some_value : 0 < r.value
  pub value-most : r.value < 100000000

-- a number within its digits
pub fits : (j k n : ℕ) → n < 10 ^ j → j + k ≡ 8 → n < 100000000
fits j k n h s =
    let z : 0 < 10 = omega arith in
    let m : j ≤ 8 = omega arith in
    omega (arith, pow-le-pow_right {n = 10} z {i = j} {j = 8} m)

at_line : (k n b : ℕ) (rest : List ℕ) (r : Number) → 0 < n → n < 100000000 → b ≡ 10 → number_from k n (b ∷ rest) ≡ Some r → ReadOf (decimal n ++ (b ∷ rest)) r
at_line k n b rest r p h t e =
    let f : number_from k n (10 ∷ rest) ≡ Some r = rw t at e in
    let q : record { value = n; rest = rest } ≡ r = same_Some _ _ (sym (from_line k n rest) ∙ f) in
    rw (t, ← q) (record { written = refl; some_value = p; value-most = h })

-- a digit more
at_digit : (n b : ℕ) (rest : List ℕ) (r : Number) → 0 < n → 48 ≤ b → b ≤ 57 → 10 * n + (b - 48) < 100000000
    → ReadOf (decimal (10 * n + (b - 48)) ++ rest) r → ReadOf (decimal n ++ (b ∷ rest)) r
at_digit n b rest r p l m h o =
    let d : 48 + (b - 48) ≡ b = omega arith in
    let e : decimal (10 * n + (b - 48)) ++ rest ≡ decimal n ++ (b ∷ rest) =
    ap (λ (t : List ℕ). t ++ rest) (decimal_push n (b - 48) p (omega arith) h)
    ∙ append_assoc (decimal n) ((48 + (b - 48)) ∷ []) rest
    ∙ ap (λ (x : ℕ). decimal n ++ (x ∷ rest)) d
    in
    record { written = sym e ∙ o.written; some_value = o.some_value; value-most = o.value-most }

never : {P : Type 0} {o : Option Number} {r : Number} → o ≡ Some r → o ≡ None → P
never {r = r} e f = absurd (none-some r (sym f ∙ e))

from_only : (k j n : ℕ) (bytes : List ℕ) (r : Number) → 0 < n → n < 10 ^ j → j + k ≡ 8 → number_from k n bytes ≡ Some r → ReadOf (decimal n ++ bytes) r
from_only k j n [] r p h s e = never e (from_none k n)
from_only zero j n (b ∷ bytes) r p h s e = go (ℕ_discrete b 10)
  where
    go : Dec (b ≡ 10) → ReadOf (decimal n ++ (b ∷ bytes)) r
    go (yes q) = at_line 0 n b bytes r p (fits j 0 n h s) q e
    go (no q) = never e (from_full n b bytes q)
from_only (suc k) j n (b ∷ bytes) r p h s e =
    let w : 10 ^ suc j ≡ 10 ^ j * 10 = pow-suc 10 j in
    go (ℕ_discrete b 10) (dec_lt b 48) (dec_lt 57 b)
    (λ l m. from_only k (suc j) (10 * n + (b - 48)) bytes r (omega arith) (omega arith) (omega arith) (sym (from_digit k n b bytes l m) ∙ e))
  where
    go : Dec (b ≡ 10) → Dec (b < 48) → Dec (57 < b) → (48 ≤ b → b ≤ 57 → ReadOf (decimal (10 * n + (b - 48)) ++ bytes) r) → ReadOf (decimal n ++ (b ∷ bytes)) r
    go (yes q) l m f = at_line (suc k) n b bytes r p (fits j (suc k) n h s) q e
    go (no q) (yes l) m f = never e (from_low (suc k) n b bytes q l)
    go (no q) (no l) (yes m) f = never e (from_high (suc k) n b bytes m)
    go (no q) (no l) (no m) f =
        let w : 10 ^ suc j ≡ 10 ^ j * 10 = pow-suc 10 j in
        let t : 10 * n + (b - 48) < 10 ^ suc j = omega arith in
        at_digit n b bytes r p (omega arith) (omega arith) (fits (suc j) k (10 * n + (b - 48)) t (omega arith)) (f (omega arith) (omega arith))

-- a number that was read is written again so
pub number_only : (bytes : List ℕ) (r : Number) → number bytes ≡ Some r → ReadOf bytes r
number_only [] r e = never e number_none
number_only (b ∷ bytes) r e = go (dec_lt b 49) (dec_lt 57 b)
  where
    go : Dec (b < 49) → Dec (57 < b) → ReadOf (b ∷ bytes) r
    go (yes l) m = never e (number-low b bytes l)
    go (no l) (yes m) = never e (number_high b bytes m)
    go (no l) (no m) =
        let n : ℕ = b - 48 in
        let d : 48 + n ≡ b = omega arith in
        let o = from_only 7 1 n bytes r (omega arith) (omega arith) (omega arith) (sym (number-first b bytes (omega arith) (omega arith)) ∙ e) in
        let w : decimal n ++ bytes ≡ b ∷ bytes = rw (decimal-one n (omega arith), d) in
        record { written = sym w ∙ o.written; some_value = o.some_value; value-most = o.value-most }
