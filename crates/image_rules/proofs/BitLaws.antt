-- After a mark, which bits are set.
use Prim.Native.Nat.{ℕ, suc, ◌+◌, ◌-◌, ◌*◌, ◌/◌, ◌%◌, ◌^◌, ◌<◌, max}
use mathlib.Core.Path.{◌≡◌, sym, ap, ◌∙◌}
use mathlib.Core.Logic.{◌≢◌}
use mathlib.Core.Bool.{true, false, ◌||◌, or-true, or-false}
use mathlib.Core.List.{List}
use native.Mathlib.Omega.{arith}
use native.Mathlib.Nat.{div_self, div-eq_of_lt, pow-suc, mul-mod_left, mod-eq_of_lt, one-mul}
use native.Mathlib.Decide.{dec_lt, ℕ_discrete}
use lib.Bits.{bit_or, or_shr, or_step}
use lib.Pow.{pow_pos, pow-lt, pow-add, shl-shr}
use lib.ListN.{length, get_or, set, replicate, get_or-replicate}
use lib.Seq.{get_or-set_same, get_or-set_other}
use lib.Dec.{eqb}
use borrow.Author.Tests.{eq-eqb, ne_eqb}
use Rattle.image_rules.specs.Twice.{bit_of, marked}

-- a single bit, as the machine shifts it
pub one_shifted : (k : ℕ) → k < 32 → 1 * 2 ^ k % 4294967296 ≡ 2 ^ k
one_shifted k h = ap (λ (n : ℕ). n % 4294967296) (one-mul (2 ^ k)) ∙ mod-eq_of_lt (pow-lt h)

or_odd : (x y : ℕ) → bit_or x y % 2 ≡ max (x % 2) (y % 2)
or_odd x y = ap (λ (n : ℕ). n % 2) (or_step x y) ∙ omega arith

bit_or_lem : (a p k : ℕ) → bit_or a p / 2 ^ k % 2 ≡ max (a / 2 ^ k % 2) (p / 2 ^ k % 2)
bit_or_lem a p k = ap (λ (n : ℕ). n % 2) (or_shr a p k) ∙ or_odd (a / 2 ^ k) (p / 2 ^ k)

pow_above : (k m : ℕ) → 2 ^ (suc m + k) / 2 ^ k % 2 ≡ 0
pow_above k m =
    ap (λ (n : ℕ). n / 2 ^ k % 2) (pow-add 2 (suc m) k) ∙ ap (λ (n : ℕ). n % 2) (shl-shr (2 ^ suc m) k)
    ∙ ap (λ (n : ℕ). n % 2) (pow-suc 2 m) ∙ mul-mod_left (2 ^ m) 2

pow-other : (j k : ℕ) → j ≢ k → 2 ^ j / 2 ^ k % 2 ≡ 0
pow-other j k ne = elim (dec_lt j k) [ yes l ↦ ap (λ (n : ℕ). n % 2) (div-eq_of_lt (pow-lt l)) | no h ↦ above h ]
  where
    above : (j < k → ⊥) → 2 ^ j / 2 ^ k % 2 ≡ 0
    above h =
        let m : ℕ = j - suc k in
        let e : suc m + k ≡ j = omega (arith, h, ne) in
        ap (λ (n : ℕ). 2 ^ n / 2 ^ k % 2) (sym e) ∙ pow_above k m

pow-same : (k : ℕ) → 2 ^ k / 2 ^ k % 2 ≡ 1
pow-same k = ap (λ (n : ℕ). n % 2) (div_self (pow_pos k))

-- the bits of a word with one more set
word_same : (a k : ℕ) → eqb (bit_or a (2 ^ k) / 2 ^ k % 2) 1 ≡ true
word_same a k = eq-eqb _ _ (bit_or_lem a (2 ^ k) k ∙ ap (max (a / 2 ^ k % 2)) (pow-same k) ∙ omega arith)

word_other : (a j k : ℕ) → j ≢ k → bit_or a (2 ^ j) / 2 ^ k % 2 ≡ a / 2 ^ k % 2
word_other a j k ne = bit_or_lem a (2 ^ j) k ∙ ap (max (a / 2 ^ k % 2)) (pow-other j k ne) ∙ omega arith

pub bit_marked : (map : List ℕ) (b c : ℕ) → length map ≡ 16384 → b < 524288 → bit_of (marked map b) c ≡ (bit_of map c || eqb c b)
unfolding bit_of marked
bit_marked map b c size h = go (ℕ_discrete (c / 32) (b / 32)) (ℕ_discrete (c % 32) (b % 32))
  where
    word : List ℕ
    word = set map (b / 32) (bit_or (get_or map (b / 32) 0) (2 ^ (b % 32)))

    here : c / 32 ≡ b / 32 → get_or word (c / 32) 0 ≡ bit_or (get_or map (b / 32) 0) (2 ^ (b % 32))
    here e = ap (λ (n : ℕ). get_or word n 0) e ∙ get_or-set_same map (b / 32) (bit_or (get_or map (b / 32) 0) (2 ^ (b % 32))) 0 (omega arith)

    go : Dec (c / 32 ≡ b / 32) → Dec (c % 32 ≡ b % 32)
        → eqb (get_or word (c / 32) 0 / 2 ^ (c % 32) % 2) 1 ≡ (eqb (get_or map (c / 32) 0 / 2 ^ (c % 32) % 2) 1 || eqb c b)
    go (yes e) (yes f) =
        let q : c ≡ b = omega arith in
        rw (here e, f, word_same (get_or map (b / 32) 0) (b % 32), eq-eqb c b q)
        (sym (or-true (eqb (get_or map (c / 32) 0 / 2 ^ (b % 32) % 2) 1)))
    go (yes e) (no f) =
        let q : eqb c b ≡ false = ne_eqb c b (λ z. f (ap (λ (n : ℕ). n % 32) z)) in
        rw (here e, word_other (get_or map (b / 32) 0) (b % 32) (c % 32) (λ z. f (sym z)), q, e)
        (sym (or-false (eqb (get_or map (b / 32) 0 / 2 ^ (c % 32) % 2) 1)))
    go (no e) f =
        let q : eqb c b ≡ false = ne_eqb c b (λ z. e (ap (λ (n : ℕ). n / 32) z)) in
        rw (get_or-set_other map (b / 32) (c / 32) (bit_or (get_or map (b / 32) 0) (2 ^ (b % 32))) 0 e, q)
        (sym (or-false (eqb (get_or map (c / 32) 0 / 2 ^ (c % 32) % 2) 1)))

-- no bit of a zero map is set
pub bit_none : (b : ℕ) → b < 524288 → bit_of (replicate 16384 0) b ≡ false
unfolding bit_of
bit_none b h =
    let k : b / 32 < 16384 = omega arith in
    rw (get_or-replicate {A = ℕ} 16384 (b / 32) 0 0 k, div-eq_of_lt (pow_pos (b % 32)))
