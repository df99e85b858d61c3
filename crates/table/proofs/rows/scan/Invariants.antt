use Rattle.table.proofs.ScanLaws.{Passed}
use Rattle.table.proofs.rows.scan.Given as goal

abbrev pub invariant-loop-i : goal.invariant-loop-i
invariant-loop-i l = Passed l.l l.table (record { 0 = l.block }) l.slots l.legal l.writing l.busy l.at l.i
