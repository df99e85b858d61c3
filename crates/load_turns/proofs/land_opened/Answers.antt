use Rattle.load_turns.specs.Turns.{landed}
use Rattle.load_turns.proofs.land_opened.Goals as goal

pub returns-in-LookUp : goal.returns-in-LookUp
unfolding landed
returns-in-LookUp c = rw c.in-LookUp.is

pub returns-in-Flush : goal.returns-in-Flush
unfolding landed
returns-in-Flush c = rw c.in-Flush.is
