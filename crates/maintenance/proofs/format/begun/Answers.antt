use Rattle.maintenance.proofs.format.begun.Goals as goal

pub returns : goal.returns
returns c = rw (c.fresh.ensures, c.empty.ensures)
