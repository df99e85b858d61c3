use Rattle.load_run.specs.Runs.{blank}
use Rattle.workload.proofs.LoadLaws.{counts_are}
use Rattle.workload.proofs.run_load.Goals as goal

pub returns : goal.returns
unfolding blank
returns c =
    counts_are _ _ _ _ _ c.prepare-state.ensures c.run-refusals.ensures c.count_equal.ensures
