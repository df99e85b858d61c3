use Rattle.table.proofs.ScanLaws.{Searched}
use Rattle.table.proofs.rows.find.Given as goal

abbrev pub invariant-loop-i : goal.invariant-loop-i
invariant-loop-i l = Searched l.table (record { 0 = l.block }) l.slots l.at l.i
