use Prim.Native.Nat.{◌<◌}
use native.Mathlib.Omega.{arith}
use borrow.Author.Tests.{ltb-true}
use Rattle.protocol.specs.Rows.{row_flags}
use Rattle.laws.proofs.refine.Flags.{flags_legal_lem}
use Rattle.turns.proofs.TurnLaws.{rows_of}
use Rattle.turns.proofs.turn.opens_clean.Goals as goal

pub overflow_add-flags-2 : goal.overflow_add-flags-2
overflow_add-flags-2 c =
    let a = c.args in
    let R = rows_of a.l a.table.now c.requires.sweepable.size c.requires.sweepable.rows in
    let f : row_flags a.table.now a.s < 16 = ltb-true _ _ (flags_legal_lem (R a.s.0 c.requires.s_lt_slots).flags).1 in
    omega (arith, f)
