-- Propositions that are decided.
use Prim.Native.Nat.{ℕ, zero, suc, ◌<◌}
use mathlib.Core.Logic.{◌⊎◌, inl, inr, ◌↔◌}
use mathlib.Core.Bool.{Bool}
use native.Mathlib.Omega.{arith}
use Rattle.layout.proofs.Booleans.{Told, told, told_true, told_false, clash}
use Rattle.layout.proofs.RuleLaws.{◌⇔◌}

pub dec_test : {b : Bool} {P : Type 0} → b ⇔ P → Dec P
dec_test {b} {P} h = go (told b)
  where
    go : Told b → Dec P
    go (told_true t) = yes (h.0 t)
    go (told_false f) = no (λ x. clash (h.1 x) f)

pub dec_if : {A B : Type 0} → Dec A → Dec B → Dec (A → B)
dec_if a (yes y) = yes (λ x. y)
dec_if (yes x) (no n) = no (λ f. n (f x))
dec_if (no m) (no n) = yes (λ x. absurd (m x))

pub dec_same : {A B : Type 0} → A ↔ B → Dec A → Dec B
dec_same h (yes x) = yes (h.0 x)
dec_same h (no n) = no (λ y. n (h.1 y))

-- below n each holds, or one of them fails
pub each_or : (n : ℕ) (P : ℕ → Type 0) → ((i : ℕ) → Dec (P i)) → ((i : ℕ) → i < n → P i) ⊎ ((i : ℕ) × (i < n) × (P i → ⊥))
each_or zero P d = inl (λ i h. absurd (omega arith))
each_or (suc n) P d = go (d 0) (each_or n (λ i. P (suc i)) (λ i. d (suc i)))
  where
    go : Dec (P 0) → ((i : ℕ) → i < n → P (suc i)) ⊎ ((i : ℕ) × (i < n) × (P (suc i) → ⊥))
        → ((i : ℕ) → i < suc n → P i) ⊎ ((i : ℕ) × (i < suc n) × (P i → ⊥))
    go (no m) rest = inr (0, omega arith, m)
    go (yes x) (inr f) = inr (suc f.0, omega (arith, f.1), f.2)
    go (yes x) (inl h) = inl each
      where
        each : (i : ℕ) → i < suc n → P i
        each zero q = x
        each (suc i) q = h i (omega arith)

pub dec_each : (n : ℕ) (P : ℕ → Type 0) → ((i : ℕ) → Dec (P i)) → Dec ((i : ℕ) → i < n → P i)
dec_each n P d = go (each_or n P d)
  where
    go : ((i : ℕ) → i < n → P i) ⊎ ((i : ℕ) × (i < n) × (P i → ⊥)) → Dec ((i : ℕ) → i < n → P i)
    go (inl h) = yes h
    go (inr f) = no (λ h. f.2 (h f.0 f.1))
