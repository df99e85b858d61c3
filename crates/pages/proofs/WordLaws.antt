-- The laws of little-endian numbers, over the width.
use Prim.Native.Nat.{ℕ, zero, suc, ◌+◌, ◌*◌, ◌/◌, ◌%◌, ◌^◌, ◌<◌}
use mathlib.Core.Path.{◌≡◌, refl, ap}
use mathlib.Core.List.{List, [], ◌∷◌}
use native.Mathlib.Omega.{arith}
use native.Mathlib.Nat.{pow-suc}
use lib.ListN.{length, get_or, drop}
use Rattle.pages.specs.Words.{le_bytes, le_number}

pub length-le_bytes : (n x : ℕ) → length (le_bytes n x) ≡ n
unfolding le_bytes
length-le_bytes zero x = refl
length-le_bytes (suc n) x = ap suc (length-le_bytes n (x / 256))

-- a number that fits in n bytes reads back
pub number-bytes : (n x : ℕ) → x < 256 ^ n → le_number (le_bytes n x) ≡ x
unfolding le_bytes le_number
number-bytes zero x h = omega arith
number-bytes (suc n) x h =
    let p : 256 ^ suc n ≡ 256 ^ n * 256 = pow-suc 256 n in
    rw (number-bytes n (x / 256) (omega arith)) (omega arith)

-- bytes that were read are written back
pub bytes-number : (l : List ℕ) → ((k : ℕ) → get_or l k 0 < 256) → le_bytes (length l) (le_number l) ≡ l
unfolding le_bytes le_number
bytes-number [] h = refl
bytes-number (b ∷ l) h =
    let k : b < 256 = h 0 in
    let q : (b + 256 * le_number l) / 256 ≡ le_number l = omega arith in
    let r : (b + 256 * le_number l) % 256 ≡ b = omega arith in
    rw (q, r) (ap (λ (t : List ℕ). b ∷ t) (bytes-number l (λ i. h (suc i))))

-- a number's bytes are bytes
pub bytes_small : (n x k : ℕ) → get_or (le_bytes n x) k 0 < 256
unfolding le_bytes
bytes_small zero x k = omega arith
bytes_small (suc n) x zero = omega arith
bytes_small (suc n) x (suc k) = bytes_small n (x / 256) k

-- what n bytes can say
pub number_fits : (l : List ℕ) → ((k : ℕ) → get_or l k 0 < 256) → le_number l < 256 ^ length l
unfolding le_number
number_fits [] h = omega arith
number_fits (b ∷ l) h =
    let p : 256 ^ suc (length l) ≡ 256 ^ length l * 256 = pow-suc 256 (length l) in
    let i : le_number l < 256 ^ length l = number_fits l (λ k. h (suc k)) in
    let k : b < 256 = h 0 in
    rw p (omega arith)

-- the lowest byte, and the others
pub number_front : (l : List ℕ) → le_number l ≡ get_or l 0 0 + 256 * le_number (drop 1 l)
unfolding le_number
number_front [] = refl
number_front (b ∷ l) = refl
