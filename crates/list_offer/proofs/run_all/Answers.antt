use Rattle.turns.proofs.TurnLaws.{record_limits}
use Rattle.list_offer.proofs.run_all.Goals as goal

pub locate-requires-clause-slots_bound : goal.locate-requires-clause-slots_bound
locate-requires-clause-slots_bound c = (record_limits c.args.state c.requires.fair.record_kept).slots-most
