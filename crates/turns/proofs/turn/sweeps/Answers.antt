use mathlib.Core.Path.{sym, ◌∙◌}
use Rattle.turns.proofs.SweepingLaws.{took_is}
use Rattle.turns.proofs.TurnLaws.{rows_of}
use Rattle.turns.proofs.turn.sweeps.Goals as goal

pub take-requires-clause-s_lt_slots : goal.take-requires-clause-s_lt_slots
take-requires-clause-s_lt_slots c =
    let a = c.args in
    let p = c.requires in
    (took_is a.l a.table.now a.hand _ _ p.size (rows_of a.l a.table.now p.size p.rows) p.low (sym c.in-Some-sweep.is ∙ c.sweep.ensures)).low
