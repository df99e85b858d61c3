use Prim.Native.Nat.{ℕ, ◌-◌, ◌≤◌}
use mathlib.Core.Path.{◌≡◌}
use mathlib.Core.List.{List}
use Rattle.record.specs.declared.Record.{Record}
use Rattle.protocol.specs.Calls.{box_of}
use Rattle.load_run.specs.Runs.{Load, run_from}
use Rattle.load_run.proofs.run.Given as goal

-- the load so far
abbrev pub load_of : List ℕ → List ℕ → List ℕ → Record → List ℕ → ℕ → Load
load_of ssd hdd table state plain n = record { box = box_of ssd hdd table state; plain = plain; refusals = n }

abbrev pub invariant-loop-i : goal.invariant-loop-i
invariant-loop-i l = (l.refusals ≤ l.i)
    × (run_from (l.draws - l.i) l.s (load_of l.ssd l.hdd l.table l.state l.plain l.refusals) ≡ run_from l.draws l.seed (load_of l.initial.ssd l.initial.hdd l.initial.table l.initial.state l.initial.plain 0))
