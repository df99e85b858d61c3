-- A chain of reasons, none of which holds; and of a call that no reason refuses each of its own by name.
use mathlib.Core.Path.{◌≡◌, refl, sym, ap, ◌∙◌}
use mathlib.Core.Logic.{◌⊎◌, inl, inr}
use mathlib.Core.Bool.{Bool, true, false, ◌||◌, or-true}
use mathlib.Core.List.{List, [], ◌∷◌, ◌++◌}
use Rattle.std.specs.Prelude.{Option, Some, None}
use Rattle.std.proofs.lemmas.Option.{none-some}
use lib.Dec.{eqb}
use borrow.Author.Tests.{eqb-true}
use Rattle.layout.proofs.Booleans.{clash, or_cases}
use Rattle.protocol.specs.Box.{Box, Effect, refusing, left}
use Rattle.protocol.specs.Plan.{Call, Move, plan}
use Rattle.protocol.specs.Perform.{perform}
use Rattle.protocol.specs.Kinds.{Kind, kind}
use Rattle.protocol.specs.declared.Refusal.{Refusal}
use Rattle.protocol.specs.Judge.{number_of, test, asked_first, asked_then, chain, first_of, judged}
use Rattle.protocol.specs.Calls.{decided, effect_of, result_of}
use Rattle.protocol.proofs.Reasons.{number_is, belongs}
use Rattle.laws.proofs.why.Same as stated-first

-- no reason of a chain holds
abbrev pub NoneHold : List Refusal → (Refusal → Bool) → Type 0
NoneHold [] t = Unit {0}
NoneHold (r ∷ rs) t = (t r ≡ false) × NoneHold rs t

pub none_hold : (rs : List Refusal) (t : Refusal → Bool) → first_of rs t ≡ None → NoneHold rs t
unfolding first_of
none_hold [] t e = tt
none_hold (r ∷ rs) t e = go (t r) refl (λ q. none_hold rs t q)
  where
    go : (b : Bool) → t r ≡ b → (first_of rs t ≡ None → NoneHold rs t) → (t r ≡ false) × NoneHold rs t
    go true q ih = absurd (none-some r (sym (rw (first_of, q) at e)))
    go false q ih = (q, ih (rw (first_of, q) at e))

pub first_none : (rs : List Refusal) (t : Refusal → Bool) → NoneHold rs t → first_of rs t ≡ None
unfolding first_of
first_none [] t n = refl
first_none (r ∷ rs) t n = rw (first_of, n.0) (first_none rs t n.1)

-- a reason is asked: it holds, or the next ones are asked
module _ (t : Refusal → Bool) (q : Refusal) (rs : List Refusal) where
  pub first_yes : t q ≡ true → first_of (q ∷ rs) t ≡ Some q
  unfolding first_of
  first_yes e = rw (e, first_of)

  pub first_no : t q ≡ false → first_of (q ∷ rs) t ≡ first_of rs t
  unfolding first_of
  first_no e = rw (e, first_of)

by_name : (rs : List Refusal) (t : Refusal → Bool) → NoneHold rs t → (r : Refusal) → belongs r rs ≡ true → t r ≡ false
by_name [] t n r m = clash m refl
by_name (q ∷ rs) t n r m = go (or_cases _ _ m) (by_name rs t n.1 r)
  where
    go : (eqb (number_of q) (number_of r) ≡ true) ⊎ (belongs r rs ≡ true) → (belongs r rs ≡ true → t r ≡ false) → t r ≡ false
    go (inl e) ih = ap t (sym (number_is q r (eqb-true _ _ e))) ∙ n.0
    go (inr k) ih = ih k

-- of a call that no reason refuses none of its chain holds: `passed c x e window_full refl`, wherever in the chain it stands
pub passed : (c : Call) (x : Box) → judged c x ≡ None → (r : Refusal) → belongs r (chain c) ≡ true → test r c x ≡ false
unfolding judged
passed c x e r m = by_name (chain c) (λ q. test q c x) (none_hold (chain c) (λ q. test q c x) e) r m

-- what is asked first is asked of every call of its kind
belongs_first : (r : Refusal) (qs rs : List Refusal) → belongs r qs ≡ true → belongs r (qs ++ rs) ≡ true
belongs_first r [] rs m = clash m refl
belongs_first r (q ∷ qs) rs m = go (or_cases _ _ m) (belongs_first r qs rs)
  where
    go : (eqb (number_of q) (number_of r) ≡ true) ⊎ (belongs r qs ≡ true) → (belongs r qs ≡ true → belongs r (qs ++ rs) ≡ true)
        → (eqb (number_of q) (number_of r) || belongs r (qs ++ rs)) ≡ true
    go (inl e) ih = rw e
    go (inr k) ih = rw (ih k) (or-true (eqb (number_of q) (number_of r)))

pub passed_first : (c : Call) (x : Box) → judged c x ≡ None → {k : Kind} → kind c ≡ k → (r : Refusal) → belongs r (asked_first k) ≡ true
    → test r c x ≡ false
passed_first c x e q r m = passed c x e r (belongs_first r (asked_first (kind c)) (asked_then c) (rw q m))

-- and a call is accepted where neither these nor its own hold
none_both : (qs rs : List Refusal) (t : Refusal → Bool) → NoneHold qs t → NoneHold rs t → NoneHold (qs ++ rs) t
none_both [] rs t m n = n
none_both (q ∷ qs) rs t m n = (m.0, none_both qs rs t m.1 n)

pub accepted : (c : Call) (x : Box) → NoneHold (asked_first (kind c)) (λ r. test r c x) → NoneHold (asked_then c) (λ r. test r c x)
    → judged c x ≡ None
unfolding judged
accepted c x m n = first_none (chain c) (λ r. test r c x) (none_both (asked_first (kind c)) (asked_then c) (λ r. test r c x) m n)

-- a call's result, by the reason that refuses it or by the move that it makes
module _ (c : Call) (x : Box) where
  pub refuses : (q : Refusal) → judged c x ≡ Some q → effect_of c x ≡ refusing (number_of q) x
  unfolding effect_of
  refuses q e = ap (λ (o : Option Refusal). decided o c x) e

  pub does : (m : Move) → judged c x ≡ None → plan c x ≡ m → effect_of c x ≡ perform m x
  unfolding effect_of
  does m e p = ap (λ (o : Option Refusal). decided o c x) e ∙ ap (λ (v : Move). perform v x) p

  pub refused_as : (q : Refusal) → judged c x ≡ Some q → left (refusing (number_of q) x) x.images ≡ result_of c x
  refused_as q e = ap (λ (f : Effect). left f x.images) (sym (refuses q e))

  pub performs : (m : Move) → judged c x ≡ None → plan c x ≡ m → left (perform m x) x.images ≡ result_of c x
  performs m e p = ap (λ (f : Effect). left f x.images) (sym (does m e p))
