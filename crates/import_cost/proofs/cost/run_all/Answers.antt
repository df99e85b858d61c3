use Rattle.import_cost.proofs.PlaceLaws.{steady_slots}
use Rattle.import_cost.proofs.cost.run_all.Goals as goal

pub locate-requires-clause-slots_bound : goal.locate-requires-clause-slots_bound
locate-requires-clause-slots_bound c = steady_slots c.requires.steady
