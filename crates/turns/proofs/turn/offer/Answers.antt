use Rattle.std.specs.Prelude.{Option}
use Rattle.protocol.specs.declared.Refusal.{Refusal}
use mathlib.Core.Path.{ap, ◌∙◌}
use Rattle.turns.specs.Turns.{offer_turn_at}
use Rattle.turns.proofs.TurnLaws.{crowd_seen, seen_sweeps}
use Rattle.turns.proofs.turn.offer.Goals as goal

pub offer_at-requires : goal.offer_at-requires
offer_at-requires c = record { sweepable = seen_sweeps c.requires.seen; within = c.requires.within }

pub returns : goal.returns
returns c =
    let a = c.args in
    c.offer_at.ensures
    ∙ ap (λ (n : Option Refusal). offer_turn_at a.state.label a.table.now a.state.hand n a.condition)
    (crowd_seen a.table.now a.state a.caller c.requires.seen c.crowded-full.ensures c.held.ensures)
