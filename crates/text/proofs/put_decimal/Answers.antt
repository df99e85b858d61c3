use Rattle.std.proofs.Common.{ℕ, ◌≡◌, ◌≤◌, ◌<◌, ◌+◌, ◌-◌, ◌/◌, ◌%◌, sym, ap, ◌∙◌, List, [], ◌∷◌, ◌++◌, length, set, drop, append_assoc, arith}
use mathlib.Core.List.{append-nil}
use lib.ListN.{drop_of_length-le}
use native.Mathlib.Decide.{dec_lt}
use Rattle.layout.specs.LabelPage.{decimal}
use Rattle.layout.proofs.Decimal.{decimal-size, decimal-one, decimal_more, length_more}
use Rattle.text.proofs.TextLaws.{drop_put}
use Rattle.text.proofs.put_decimal.Goals as goal

-- the digit before those that are written, of a number with more digits and of one with no other
module _ (part all : List ℕ) (i rest : ℕ) (some : 0 < i) (in_part : i ≤ length part) (size : length (decimal rest) ≡ i)
    (written : decimal rest ++ drop i part ≡ all) (low : rest < 10000000000) where
  abbrev digit : ℕ
  digit = 48 + rest % 10

  more : 10 ≤ rest → (length (decimal (rest / 10)) ≡ i - 1) × (decimal (rest / 10) ++ drop (i - 1) (set part (i - 1) digit) ≡ all)
  more h =
      let e : i - 1 + 1 ≡ i = omega arith in (
        omega (arith, length_more rest h low),
        rw (drop_put part (i - 1) digit (omega arith), e, ← append_assoc (decimal (rest / 10)) (digit ∷ []) (drop i part), ← decimal_more rest h low) written,
      )

  last : rest < 10 → (i ≡ 1) × (set part (i - 1) digit ≡ all)
  last h =
      let o : decimal rest ≡ (48 + rest) ∷ [] = decimal-one rest h in
      let e : i ≡ 1 = omega (arith, ap length o) in
      let d : digit ≡ 48 + rest = omega arith in
      let z : i - 1 ≡ 0 = omega arith in
      (e, rw (z, d, drop_put part 0 (48 + rest) (omega arith)) (rw (o, e) at written))

pub loop-i-init : goal.loop-i-init
loop-i-init c =
    let part = c.args.part.now in
    let z = decimal-size c.args.n in (
      omega arith,
      (λ h. (sym c.requires, ap (λ (t : List ℕ). decimal c.args.n ++ t) (drop_of_length-le part {i = length part} (omega arith)) ∙ append-nil _)),
      λ e. absurd (omega (arith, z)),
    )

pub loop-i-preserved : goal.loop-i-preserved
loop-i-preserved c =
    let l = c.loop-i in
    let v = l.invariant.1 c.loop-i-test.true in
    elim (dec_lt l.rest 10) [
      | yes h ↦ let k = last l.part (decimal c.args.n) l.i l.rest c.loop-i-test.true (omega arith) v.0 v.1 l.invariant.0 h in
          (omega arith, (λ q. absurd (omega (arith, k.0))), λ e. k.1)
      | no h ↦ let k = more l.part (decimal c.args.n) l.i l.rest c.loop-i-test.true (omega arith) v.0 v.1 l.invariant.0 (omega arith) in
          (omega arith, (λ q. k), λ e. absurd (omega (arith, k.0, decimal-size (l.rest / 10))))
    ]

pub returns : goal.returns
returns c = c.loop-i.invariant.2 (omega arith)
