-- The same bytes, as a test.
use Prim.Native.Nat.{ℕ, ◌<◌}
use mathlib.Core.Path.{◌≡◌, refl, sym, ap, ◌∙◌}
use mathlib.Core.Bool.{Bool, true, false}
use mathlib.Core.List.{List, [], ◌∷◌}
use native.Mathlib.Omega.{arith}
use lib.ListN.{length}
use lib.Dec.{eqb}
use borrow.Author.Tests.{eq-eqb, eqb-true}
use Rattle.layout.proofs.Booleans.{Told, told, told_true, told_false, clash}
use Rattle.load_run.specs.Runs.{same}

pub same_self : (a : List ℕ) → same a a ≡ true
unfolding same
same_self [] = refl
same_self (x ∷ a) = rw (eq-eqb x x refl, same) (same_self a)

pub same_only : (a b : List ℕ) → same a b ≡ true → a ≡ b
unfolding same
same_only [] [] e = refl
same_only [] (y ∷ b) e = clash e refl
same_only (x ∷ a) [] e = clash e refl
same_only (x ∷ a) (y ∷ b) e = go (told (eqb x y)) (same_only a b)
  where
    go : Told (eqb x y) → (same a b ≡ true → a ≡ b) → x ∷ a ≡ y ∷ b
    go (told_true q) f = let h : same a b ≡ true = rw (q, same) at e in λ i. eqb-true x y q i ∷ f h i
    go (told_false q) f = clash (rw (q, same) at e) refl

-- a test of two lists that holds exactly if they are the same
pub same_told : (a b : List ℕ) (r : Bool) → (r ≡ true → a ≡ b) → (a ≡ b → r ≡ true) → r ≡ same a b
same_told a b true f g = sym (ap (same a) (sym (f refl)) ∙ same_self a)
same_told a b false f g = go (told (same a b))
  where
    go : Told (same a b) → false ≡ same a b
    go (told_true q) = clash (g (same_only a b q)) refl
    go (told_false q) = sym q

-- no bytes are no page
pub same_nothing : (p : List ℕ) → 0 < length p → false ≡ same [] p
unfolding same
same_nothing [] h = absurd (omega arith)
same_nothing (x ∷ p) h = refl
