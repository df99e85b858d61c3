use borrow.Author.Rules.{rules}
use native.Mathlib.Omega.{arith}
use Rattle.sweeping.proofs.SweepLaws.{next_in, next_wraps}
use Rattle.sweeping.proofs.sweep.next_slot.Goals as goal

pub returns-then-n-l : goal.returns-then-n-l
returns-then-n-l c = let a = c.args in (next_in a.l a.s c.if-n-l.true, omega (arith, c.if-n-l.true))

pub returns-else-n-l : goal.returns-else-n-l
returns-else-n-l c = let a = c.args in (next_wraps a.l a.s c.if-n-l.false, search rules)
