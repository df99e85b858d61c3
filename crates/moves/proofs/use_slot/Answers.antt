use Rattle.moves.proofs.use_slot.Goals as goal

pub returns : goal.returns
returns c = rw c.with_used.ensures
