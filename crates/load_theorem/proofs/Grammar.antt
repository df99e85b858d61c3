-- The input of a load, written and read.
use Prim.Native.Nat.{ℕ, zero, suc, ◌+◌, ◌-◌, ◌*◌, ◌/◌, ◌%◌, ◌^◌, ◌≤◌, ◌<◌}
use mathlib.Core.Path.{◌≡◌, refl, sym, ap, subst, ◌∙◌}
use mathlib.Core.Logic.{◌≢◌}
use mathlib.Core.Bool.{Bool, true, false}
use mathlib.Core.List.{List, [], ◌∷◌, ◌++◌, append_assoc}
use Rattle.std.specs.Prelude.{Option, Some, None}
use Rattle.std.proofs.lemmas.Option.{same_Some, none-some}
use native.Mathlib.Omega.{arith}
use native.Mathlib.Decide.{dec_lt, ℕ_discrete}
use lib.ListN.{length, length-append}
use lib.Dec.{eqb, ltb}
use borrow.Author.Tests.{eq-eqb, ne_eqb, le-leb, lt-leb, lt-ltb, ltb-true, eqb-true, eqb-false}
use Rattle.layout.specs.LabelPage.{decimal, Number, number_from}
use Rattle.layout.proofs.Booleans.{Told, told, told_true, told_false, clash}
use Rattle.layout.proofs.Decimal.{decimal-size, decimal-one, decimal_more, length_more, from_line, from_digit, from_full, from_low, from_high, from_none}
use Rattle.load_input.specs.declared.Input.{Input}
use Rattle.text.specs.Numbers.{kept_if, fitting}
use Rattle.text.proofs.DigitLaws.{fits_line, nine, digit_more}
use Rattle.load_input.specs.LoadInput.{line, then_line, illegal_if, ended, taken, input_of}
use Rattle.load_input.proofs.InputLaws.{line_zero, line_digit, line_low, line_high, input_is}
use Rattle.load_theorem.specs.Grammar.{input_text, Legal, TakenExactly}

-- Written, then read.

read-decimal : (fuel n : ℕ) (t : List ℕ) → n ≤ fuel → 0 < n → n < 10000000000
    → line (decimal n ++ t) ≡ fitting (number_from (10 - length (decimal n)) n t)
read-decimal zero n t f p h = absurd (omega arith)
read-decimal (suc fuel) n t f p h =
    go (dec_lt n 10) (λ l. read-decimal fuel (n / 10) ((48 + n % 10) ∷ t) (omega arith) (omega arith) (omega arith))
  where
    go : Dec (n < 10)
        → (10 ≤ n → line (decimal (n / 10) ++ ((48 + n % 10) ∷ t))
        ≡ fitting (number_from (10 - length (decimal (n / 10))) (n / 10) ((48 + n % 10) ∷ t)))
        → line (decimal n ++ t) ≡ fitting (number_from (10 - length (decimal n)) n t)
    go (yes l) e =
        let z : 48 + n - 48 ≡ n = omega arith in
        rw (decimal-one n l) (line_digit (48 + n) t (omega arith) (omega arith) ∙ ap (λ (m : ℕ). fitting (number_from 9 m t)) z)
    go (no l) e =
        let a : 10 ≤ n = omega arith in
        let d : ℕ = 48 + n % 10 in
        let j : ℕ = 10 - length (decimal n) in
        let k : 10 - length (decimal (n / 10)) ≡ suc j = omega (arith, length_more n a h, decimal-size n) in
        let v : 10 * (n / 10) + (d - 48) ≡ n = omega arith in
        ap (λ (x : List ℕ). line (x ++ t)) (decimal_more n a h)
        ∙ ap line (append_assoc (decimal (n / 10)) (d ∷ []) t)
        ∙ e a
        ∙ ap (λ (x : ℕ). fitting (number_from x (n / 10) (d ∷ t))) k
        ∙ ap fitting (from_digit j (n / 10) d t (omega arith) (omega arith))
        ∙ ap (λ (x : ℕ). fitting (number_from j x t)) v

line_back : (n : ℕ) (rest : List ℕ) → n < 4294967296 → line (decimal n ++ (10 ∷ rest)) ≡ Some (record { value = n; rest = rest })
line_back n rest h = go (ℕ_discrete n 0)
  where
    go : Dec (n ≡ 0) → line (decimal n ++ (10 ∷ rest)) ≡ Some (record { value = n; rest = rest })
    go (yes z) =
        rw (z, decimal-one 0 (omega arith)) (line_zero 48 (10 ∷ rest) refl ∙ sym (fits_line _ 0 rest (from_line 0 0 rest) (omega arith)))
    go (no z) =
        read-decimal n n (10 ∷ rest) (omega arith) (omega arith) (omega arith)
        ∙ sym (fits_line _ n rest (from_line (10 - length (decimal n)) n rest) (omega arith))

-- Read, then written.

never : {P : Type 0} {o : Option Number} {r : Number} → o ≡ Some r → o ≡ None → P
never {r = r} e f = absurd (none-some r (sym f ∙ e))

fitting_only : (o : Option Number) (r : Number) → fitting o ≡ Some r → (o ≡ Some r) × (r.value < 4294967296)
fitting_only None r e = never e refl
fitting_only (Some n) r e = go (told (ltb n.value 4294967296))
  where
    go : Told (ltb n.value 4294967296) → (Some n ≡ Some r) × (r.value < 4294967296)
    go (told_true q) =
        let f : Some n ≡ Some r = ap (λ (t : Bool). kept_if t n) (sym q) ∙ e in
        (f, subst (λ (m : Number). m.value < 4294967296) (same_Some _ _ f) (ltb-true _ _ q))
    go (told_false q) = never e (ap (λ (t : Bool). kept_if t n) q)

-- what numbers were read of
abbrev ReadOf : List ℕ → Number → Type 0
ReadOf bytes r = bytes ≡ decimal r.value ++ (10 ∷ r.rest)

at_line : (k n b : ℕ) (rest : List ℕ) (r : Number) → b ≡ 10 → number_from k n (b ∷ rest) ≡ Some r → ReadOf (decimal n ++ (b ∷ rest)) r
at_line k n b rest r t e =
    let f : number_from k n (10 ∷ rest) ≡ Some r = rw t at e in
    let q : record { value = n; rest = rest } ≡ r = same_Some _ _ (sym (from_line k n rest) ∙ f) in
    rw (t, ← q)

push : (n b : ℕ) (rest : List ℕ) → 0 < n → n < 1000000000 → 48 ≤ b → b ≤ 57 → decimal (10 * n + (b - 48)) ++ rest ≡ decimal n ++ (b ∷ rest)
push n b rest p h l m =
    let q : (10 * n + (b - 48)) / 10 ≡ n = omega arith in
    let d : 48 + (10 * n + (b - 48)) % 10 ≡ b = omega arith in
    ap (λ (t : List ℕ). t ++ rest) (decimal_more (10 * n + (b - 48)) (omega arith) (omega arith))
    ∙ (λ i. (decimal (q i) ++ (d i ∷ [])) ++ rest)
    ∙ append_assoc (decimal n) (b ∷ []) rest

from_only : (k n : ℕ) (bytes : List ℕ) (r : Number) → k ≤ 9 → 0 < n → n < 10 ^ (10 - k) → number_from k n bytes ≡ Some r
    → ReadOf (decimal n ++ bytes) r
from_only k n [] r c p h e = never e (from_none k n)
from_only zero n (b ∷ bytes) r c p h e = go (ℕ_discrete b 10)
  where
    go : Dec (b ≡ 10) → ReadOf (decimal n ++ (b ∷ bytes)) r
    go (yes q) = at_line 0 n b bytes r q e
    go (no q) = never e (from_full n b bytes q)
from_only (suc k) n (b ∷ bytes) r c p h e =
    go (ℕ_discrete b 10) (dec_lt b 48) (dec_lt 57 b)
    (λ l m. from_only k (10 * n + (b - 48)) bytes r (omega arith) (omega arith)
    (subst (λ (j : ℕ). 10 * n + (b - 48) < 10 ^ (10 - j)) (one_less k) (digit_more n (suc k) b (omega arith) c h m))
    (sym (from_digit k n b bytes l m) ∙ e))
  where
    one_less : (k : ℕ) → suc k - 1 ≡ k
    one_less k = omega arith

    go : Dec (b ≡ 10) → Dec (b < 48) → Dec (57 < b) → (48 ≤ b → b ≤ 57 → ReadOf (decimal (10 * n + (b - 48)) ++ bytes) r)
        → ReadOf (decimal n ++ (b ∷ bytes)) r
    go (yes q) l m f = at_line (suc k) n b bytes r q e
    go (no q) (yes l) m f = never e (from_low (suc k) n b bytes q l)
    go (no q) (no l) (yes m) f = never e (from_high (suc k) n b bytes m)
    go (no q) (no l) (no m) f =
        let t : b ≤ 57 = omega arith in
        sym (push n b bytes p (nine n (suc k) b (omega arith) c h t) (omega arith) t) ∙ f (omega arith) t

line_only : (bytes : List ℕ) (r : Number) → line bytes ≡ Some r → ReadOf bytes r × (r.value < 4294967296)
unfolding line
line_only [] r e = never e refl
line_only (b ∷ bytes) r e = go (ℕ_discrete b 48) (dec_lt b 48) (dec_lt 57 b)
  where
    nought : number_from 0 0 bytes ≡ Some r → ReadOf (48 ∷ bytes) r
    nought f = by bytes f
      where
        by : (bytes : List ℕ) → number_from 0 0 bytes ≡ Some r → ReadOf (48 ∷ bytes) r
        by [] f = never f (from_none 0 0)
        by (c ∷ bytes) f = at (ℕ_discrete c 10)
          where
            at : Dec (c ≡ 10) → ReadOf (48 ∷ (c ∷ bytes)) r
            at (yes q) = ap (λ (t : List ℕ). t ++ (c ∷ bytes)) (sym (decimal-one 0 (omega arith))) ∙ at_line 0 0 c bytes r q f
            at (no q) = never f (from_full 0 c bytes q)

    go : Dec (b ≡ 48) → Dec (b < 48) → Dec (57 < b) → ReadOf (b ∷ bytes) r × (r.value < 4294967296)
    go (yes q) l m =
        let f = fitting_only _ r (sym (line_zero 48 bytes refl) ∙ ap (λ (x : ℕ). line (x ∷ bytes)) (sym q) ∙ e) in
        (ap (λ (x : ℕ). x ∷ bytes) q ∙ nought f.0, f.1)
    go (no q) (yes l) m = never e (line_low b bytes l)
    go (no q) (no l) (yes m) = never e (line_high b bytes m)
    go (no q) (no l) (no m) =
        let f = fitting_only _ r (sym (line_digit b bytes (omega arith) (omega arith)) ∙ e) in
        let d : 48 + (b - 48) ≡ b = omega arith in
        let w : b ∷ bytes ≡ decimal (b - 48) ++ bytes =
        sym (ap (λ (t : List ℕ). t ++ bytes) (decimal-one (b - 48) (omega arith)) ∙ ap (λ (x : ℕ). x ∷ bytes) d) in
        (w ∙ from_only 9 (b - 48) bytes r (omega arith) (omega arith) (omega arith) f.0, f.1)

-- The whole input.

-- what follows a first line
abbrev onward : Number → Option Input
onward a = then_line (line a.rest) (λ draws rest. ended rest (taken a.value draws))

module _ (bytes : List ℕ) where
  if_text : (seed draws : ℕ) → Legal seed draws → bytes ≡ input_text seed draws → input_of bytes ≡ taken seed draws
  if_text seed draws L e =
      let f = ap line e ∙ line_back seed (decimal draws ++ (10 ∷ [])) L.seed_low in
      sym (input_is bytes seed _ f L.seed_some draws [] (line_back draws [] L.draws_low) true refl)

  text-short : (seed draws : ℕ) → bytes ≡ input_text seed draws → length bytes ≤ 22
  text-short seed draws e =
      omega (arith, simp length-append at (ap length e), decimal-size seed, decimal-size draws)

  abbrev Taken : ℕ → ℕ → Type 0
  Taken seed draws = Legal seed draws × (bytes ≡ input_text seed draws) × (length bytes ≤ 22)

  if_taken : (seed draws : ℕ) → input_of bytes ≡ taken seed draws → Taken seed draws
  unfolding input_of
  if_taken seed draws e = first (line bytes) refl e
    where
      other : {P : Type 0} → None ≡ taken seed draws → P
      other q = absurd (none-some _ q)

      last : (a b : Number) → ReadOf bytes a → a.value < 4294967296 → ReadOf a.rest b → b.value < 4294967296 → (a.value ≢ 0)
          → (more : List ℕ) → b.rest ≡ more → ended more (taken a.value b.value) ≡ taken seed draws → Taken seed draws
      last a b r h s k n [] m q =
          let same : record { seed = a.value; draws = b.value } ≡ record { seed = seed; draws = draws } = same_Some _ _ q in
          let x : a.value ≡ seed = ap (λ (i : Input). i.seed) same in
          let y : b.value ≡ draws = ap (λ (i : Input). i.draws) same in
          let w : a.rest ≡ decimal draws ++ (10 ∷ []) = s ∙ (λ i. decimal (y i) ++ (10 ∷ m i)) in
          let t : bytes ≡ input_text seed draws = r ∙ (λ i. decimal (x i) ++ (10 ∷ w i)) in (
            record {
              seed_some = λ z. n (x ∙ z);
              seed_low = subst (λ (v : ℕ). v < 4294967296) x h;
              draws_low = subst (λ (v : ℕ). v < 4294967296) y k;
            },
            t,
            text-short seed draws t,
          )
      last a b r h s k n (c ∷ more) m q = other q

      second : (a : Number) → ReadOf bytes a → a.value < 4294967296 → (a.value ≢ 0) → (o : Option Number) → line a.rest ≡ o
          → then_line o (λ draws rest. ended rest (taken a.value draws)) ≡ taken seed draws → Taken seed draws
      second a r h n None f q = other q
      second a r h n (Some b) f q = let s = line_only a.rest b f in last a b r h s.0 s.1 n b.rest refl q

      seeded : (a : Number) → ReadOf bytes a → a.value < 4294967296 → Told (eqb a.value 0)
          → illegal_if (eqb a.value 0) (onward a) ≡ taken seed draws → Taken seed draws
      seeded a r h (told_true z) q = other (ap (λ (t : Bool). illegal_if t (onward a)) (sym z) ∙ q)
      seeded a r h (told_false z) q =
          second a r h (eqb-false _ _ z) (line a.rest) refl (ap (λ (t : Bool). illegal_if t (onward a)) (sym z) ∙ q)

      first : (o : Option Number) → line bytes ≡ o
          → then_line o (λ s rest. illegal_if (eqb s 0) (then_line (line rest) (λ draws rest. ended rest (taken s draws)))) ≡ taken seed draws
          → Taken seed draws
      first None f q = other q
      first (Some a) f q = let r = line_only bytes a f in seeded a r.0 r.1 (told (eqb a.value 0)) q

pub taken_exactly : (bytes : List ℕ) → TakenExactly bytes
taken_exactly bytes = record { if_text = if_text bytes; if_taken = if_taken bytes }
