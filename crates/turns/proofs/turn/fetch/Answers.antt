use Rattle.std.specs.Prelude.{Option}
use Rattle.protocol.specs.declared.Refusal.{Refusal}
use mathlib.Core.Path.{ap, ◌∙◌}
use Rattle.turns.specs.Turns.{fetch_turn_at}
use Rattle.turns.proofs.TurnLaws.{crowd_seen, seen_sweeps}
use Rattle.turns.proofs.turn.fetch.Goals as goal

pub fetch_at-requires : goal.fetch_at-requires
fetch_at-requires c = seen_sweeps c.requires

pub returns : goal.returns
returns c =
    let a = c.args in
    c.fetch_at.ensures
    ∙ ap (λ (n : Option Refusal). fetch_turn_at a.state.label a.table.now a.state.hand n a.condition)
    (crowd_seen a.table.now a.state a.caller c.requires c.crowded-full.ensures c.held.ensures)
