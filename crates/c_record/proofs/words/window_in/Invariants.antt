use lib.ListN.{take, drop}
use Rattle.c_record.specs.Words.{slots_of}
use Rattle.c_record.proofs.WordLaws.{Filled}
use Rattle.c_record.proofs.words.window_in.Given as goal

abbrev pub invariant-loop-i : goal.invariant-loop-i
invariant-loop-i l = Filled (slots_of (take 63 (drop 8 l.words))) l.window l.i
