use lib.ListN.{take}
use Rattle.record_rule.proofs.DistinctLaws.{Marked}
use Rattle.record_rule.proofs.distinct_slots.Given as goal

abbrev pub invariant-loop-i : goal.invariant-loop-i
invariant-loop-i l = Marked (take l.i l.slots) l.marks
