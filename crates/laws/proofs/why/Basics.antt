-- Tests and propositions that say the same, put together.
use mathlib.Core.Bool.{Bool, true, not, ◌&&◌, ◌||◌}
use mathlib.Core.Path.{◌≡◌, refl}
use borrow.Author.Tests.{not-true}
use Rattle.layout.proofs.Booleans.{Told, told, told_true, told_false, clash, and_of, and_parts, if_of, if_use, not_of}
use Rattle.layout.proofs.RuleLaws.{◌⇔◌}

pub none_same : {t : Bool} {P : Type 0} → t ⇔ P → not t ⇔ (P → ⊥)
none_same {t} {P} e = (λ h p. clash (e.1 p) (not-true t h), λ h. go (told t) h)
  where
    go : Told t → (P → ⊥) → not t ≡ true
    go (told_true q) h = absurd (h (e.0 q))
    go (told_false q) h = not_of t q

pub and_same : {a b : Bool} {P Q : Type 0} → a ⇔ P → b ⇔ Q → (a && b) ⇔ (P × Q)
and_same {a} {b} p q = (λ h. let r = and_parts a b h in (p.0 r.0, q.0 r.1), λ h. and_of (p.1 h.0) (q.1 h.1))

pub if_same : {a b : Bool} {P Q : Type 0} → a ⇔ P → b ⇔ Q → (not a || b) ⇔ (P → Q)
if_same {a} {b} p q = (λ h r. q.0 (if_use a b h (p.1 r)), λ h. if_of a b (λ r. q.1 (h (p.0 r))))

pub is_same : (t : Bool) → t ⇔ (t ≡ true)
is_same t = (λ h. h, λ h. h)

pub via : {t : Bool} {P Q : Type 0} → t ⇔ P → (P → Q) → (Q → P) → t ⇔ Q
via e f g = (λ h. f (e.0 h), λ q. e.1 (g q))

pub unit_same : true ⇔ Unit {0}
unit_same = (λ h. tt, λ h. refl)
