use Rattle.moves.proofs.land_row.Goals as goal

pub returns : goal.returns
returns c = rw c.landed_flags.ensures
