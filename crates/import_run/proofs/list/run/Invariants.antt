use Rattle.import_run.specs.Runs.{run_from}
use Rattle.import_run.proofs.ListLaws.{Going}
use Rattle.import_run.proofs.list.run.Given as goal

abbrev pub invariant-loop-j : goal.invariant-loop-j
invariant-loop-j l = Going l.l l.full l.blocks l.words (run_from l.l l.full 0 l.blocks l.initial.run l.initial.table) l.table l.run l.j
