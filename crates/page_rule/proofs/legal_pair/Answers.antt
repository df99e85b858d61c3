use Prim.Native.Nat.{ℕ}
use mathlib.Core.Path.{◌≡◌}
use mathlib.Core.Bool.{false}
use mathlib.Core.Logic.{◌⊎◌, inl, inr}
use lib.Dec.{ltb, eqb}
use native.Mathlib.Omega.{arith}
use Rattle.layout.specs.declared.Label.{Label}
use Rattle.layout.specs.PageRule.{legal_flags, pair_test}
use Rattle.layout.proofs.Booleans.{and_last}
use Rattle.layout.proofs.RuleLaws.{flags_none}
use Rattle.page_rule.proofs.legal_pair.Goals as goal

pub returns-in-0 : goal.returns-in-0
unfolding pair_test legal_flags
returns-in-0 c = rw c.in-0.is (and_last (eqb c.args.block 0))

-- flags of a valid entry
valid : (l : Label) (block f : ℕ) → (f ≡ 1) ⊎ ((f ≡ 3) ⊎ ((f ≡ 5) ⊎ (f ≡ 7))) → ltb block l.blocks ≡ pair_test l block f
unfolding pair_test legal_flags
valid l block f (inl e) = rw e
valid l block f (inr (inl e)) = rw e
valid l block f (inr (inr (inl e))) = rw e
valid l block f (inr (inr (inr e))) = rw e

pub returns-in-1 : goal.returns-in-1
returns-in-1 c = valid c.args.l c.args.block c.args.flags c.in-1.is

pub returns-in_default : goal.returns-in_default
unfolding pair_test
returns-in_default c =
    let f = c.args.flags in
    let e : legal_flags f ≡ false = flags_none f (grind arith) (grind arith) (grind arith) (grind arith) (grind arith) in
    rw e
