use Rattle.c_record.specs.Words.{unpacked}
use Rattle.c_record.proofs.words.unpack.Goals as goal

pub returns : goal.returns
unfolding unpacked
returns c = rw (c.label.ensures, c.phase_in.ensures, c.callers_in.ensures, c.window_in.ensures)
