-- A block among those after it: the loops of 15's test; and that a list which passes it has different blocks at different places.
use Prim.Native.Nat.{ℕ, zero, suc, ◌+◌, ◌-◌, ◌≤◌, ◌<◌}
use mathlib.Core.Path.{◌≡◌, refl, sym, ap, ◌∙◌}
use mathlib.Core.Logic.{◌≢◌}
use mathlib.Core.Bool.{Bool, true, false, not, ◌&&◌}
use mathlib.Core.List.{List, [], ◌∷◌}
use native.Mathlib.Omega.{arith}
use native.Mathlib.Decide.{ℕ_discrete}
use lib.ListN.{length, get_or, take, drop, length-drop, drop_of_length-le}
use lib.Dec.{eqb, ltb, leb}
use borrow.Author.Tests.{eq-eqb, ne_eqb, leb-true, ltb-true, ltb-false, not-true}
use Rattle.std.specs.Prelude.{None}
use Rattle.std.specs.List.{list_any}
use Rattle.std.proofs.lemmas.Option.{none-some}
use Rattle.std.proofs.lemmas.List.{take_all}
use Rattle.layout.proofs.Booleans.{Told, told, told_true, told_false, clash, and_parts, or_neither}
use Rattle.layout.proofs.Loops.{left}
use Rattle.protocol.specs.Judge.{names, names_once, scan_test}
use Rattle.protocol.specs.declared.Refusal.TheVariants.{BadScan, UnknownCaller}
use Rattle.judging.specs.Judging.{refuse_if, scan_then}

-- the library's test of a list for a block
eqb_swap : (a b : ℕ) → eqb a b ≡ eqb b a
eqb_swap a b = go (ℕ_discrete a b)
  where
    go : Dec (a ≡ b) → eqb a b ≡ eqb b a
    go (yes e) = rw e
    go (no n) = rw (ne_eqb a b n, ne_eqb b a (λ e. n (sym e)))

named : (b : ℕ) (l : List ℕ) → list_any (λ y. eqb y b) l ≡ names b l
unfolding names
named b [] = refl
named b (c ∷ l) = rw (eqb_swap c b, named b l)

-- the blocks from k on, by whether block k is among those after it
module _ (l : List ℕ) where
  once-left : (k : ℕ) → k < length l
      → names_once (drop k l) ≡ (not (names (get_or l k 0) (drop (k + 1) l)) && names_once (drop (k + 1) l))
  unfolding names_once
  once-left k h = ap names_once (left l k 0 h)

  later_named : (k : ℕ) → list_any (λ y. eqb y (get_or l k 0)) (take (length l - (k + 1)) (drop (k + 1) l)) ≡ names (get_or l k 0) (drop (k + 1) l)
  later_named k =
      ap (list_any (λ y. eqb y (get_or l k 0))) (take_all (length l - (k + 1)) (drop (k + 1) l) (omega (arith, length-drop (k + 1) l)))
      ∙ named (get_or l k 0) (drop (k + 1) l)

  pub once_stop : (k : ℕ) → k < length l → list_any (λ y. eqb y (get_or l k 0)) (take (length l - (k + 1)) (drop (k + 1) l)) ≡ true → names_once (drop k l) ≡ false
  once_stop k h e = once-left k h ∙ rw (sym (later_named k) ∙ e)

  pub once_on : (k : ℕ) → k < length l → list_any (λ y. eqb y (get_or l k 0)) (take (length l - (k + 1)) (drop (k + 1) l)) ≡ false → names_once (drop k l) ≡ names_once (drop (k + 1) l)
  once_on k h e = once-left k h ∙ rw (sym (later_named k) ∙ e)

  pub once_end : (k : ℕ) → length l ≤ k → names_once (drop k l) ≡ true
  unfolding names_once
  once_end k h = ap names_once (drop_of_length-le l {i = k} h)

-- a listed block is named
not_named : (b : ℕ) (l : List ℕ) → names b l ≡ false → (k : ℕ) → k < length l → b ≢ get_or l k 0
unfolding names
not_named b [] e k h = absurd (omega arith)
not_named b (c ∷ l) e zero h = λ q. clash (eq-eqb b c q) (or_neither (eqb b c) (names b l) e).0
not_named b (c ∷ l) e (suc k) h = not_named b l (or_neither (eqb b c) (names b l) e).1 k (omega arith)

pub once-apart : (l : List ℕ) → names_once l ≡ true → (j k : ℕ) → j < k → k < length l → get_or l j 0 ≢ get_or l k 0
unfolding names_once
once-apart [] e j k q h = absurd (omega arith)
once-apart (b ∷ l) e zero zero q h = absurd (omega arith)
once-apart (b ∷ l) e zero (suc k) q h =
    not_named b l (not-true (names b l) (and_parts (not (names b l)) (names_once l) e).0) k (omega arith)
once-apart (b ∷ l) e (suc j) zero q h = absurd (omega arith)
once-apart (b ∷ l) e (suc j) (suc k) q h =
    once-apart l (and_parts (not (names b l)) (names_once l) e).1 j k (omega arith) (omega arith)

-- a list that neither 15 nor 18 refuses
pub record Scans (l : List ℕ) (caller : ℕ) : Type 0 where
  pub some_block : 0 < length l
  pub few : length l ≤ 63
  pub once : names_once l ≡ true
  pub known : caller ≤ 1

pub scans : (l : List ℕ) (caller : ℕ) → scan_then l caller None ≡ None → Scans l caller
scans l caller e = go (told (scan_test l)) (told (ltb 1 caller))
  where
    go : Told (scan_test l) → Told (ltb 1 caller) → Scans l caller
    go (told_false s) k =
        absurd (none-some BadScan (sym e ∙ ap (λ (b : Bool). refuse_if (not b) BadScan (refuse_if (ltb 1 caller) UnknownCaller None)) s))
    go (told_true s) (told_true k) =
        absurd (none-some UnknownCaller (
        sym e
        ∙ ap (λ (b : Bool). refuse_if (not b) BadScan (refuse_if (ltb 1 caller) UnknownCaller None)) s
        ∙ ap (λ (b : Bool). refuse_if b UnknownCaller None) k
        ))
    go (told_true s) (told_false k) =
        let p = and_parts (ltb 0 (length l)) _ s in
        let q = and_parts (leb (length l) 63) (names_once l) p.1 in
        record { some_block = ltb-true _ _ p.0; few = leb-true _ _ q.0; once = q.1; known = ltb-false 1 caller k }
