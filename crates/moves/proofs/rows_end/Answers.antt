use native.Mathlib.Omega.{arith}
use borrow.Author.Tests.{lt-ltb, le-ltb}
use Rattle.moves.specs.Moves.{rows_end}
use Rattle.moves.proofs.rows_end.Goals as goal

pub returns-then-len-start-lt480 : goal.returns-then-len-start-lt480
returns-then-len-start-lt480 c = (rw (lt-ltb _ _ c.if-len-start-lt480.true, rows_end), omega arith, omega arith, omega arith, omega arith)

pub returns : goal.returns
returns c = (rw (le-ltb _ _ c.if-len-start-lt480.false, rows_end), omega arith, omega arith, omega arith, omega arith)
