use Rattle.moves.proofs.close_slot.Goals as goal

pub returns : goal.returns
returns c = (c.left.ensures, c.land_row.ensures)
