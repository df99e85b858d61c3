use Prim.Native.Nat.{ℕ, ◌+◌, ◌-◌}
use mathlib.Core.Path.{◌≡◌, sym, ap, ◌∙◌}
use native.Mathlib.Omega.{arith}
use Rattle.sweeping.proofs.SweepLaws.{past_in, past_over}
use Rattle.sweeping.proofs.sweep.slot_past.Goals as goal

pub returns-then-k-left : goal.returns-then-k-left
returns-then-k-left c =
    let a = c.args in
    (sym (past_in a.l a.s a.k (omega (arith, c.if-k-left.true))), omega (arith, c.if-k-left.true))

pub returns-else-k-left : goal.returns-else-k-left
returns-else-k-left c =
    let a = c.args in
    let n : a.k - (a.l.slots - a.s.0) ≡ a.s.0 + a.k - a.l.slots = omega (arith, c.requires) in (
      ap (λ (i : ℕ). record { 0 = i }) n ∙ sym (past_over a.l a.s a.k (omega (arith, c.if-k-left.false))),
      omega (arith, c.requires),
    )
