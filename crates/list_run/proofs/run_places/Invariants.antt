use mathlib.Core.Path.{◌≡◌}
use Rattle.turns.specs.Turns.{held_by}
use Rattle.list_run.proofs.RunLaws.{Going}
use Rattle.list_run.proofs.run_places.Given as goal

abbrev pub invariant-loop-j : goal.invariant-loop-j
invariant-loop-j l = Going l.initial.table l.initial.run.state l.blocks l.words l.caller l.table l.run l.j × (l.mine ≡ held_by l.caller l.run.state)
