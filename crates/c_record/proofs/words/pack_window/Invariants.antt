use Rattle.c_record.specs.Words.{numbers_of}
use Rattle.c_record.proofs.WordLaws.{Packed}
use Rattle.c_record.proofs.words.pack_window.Given as goal

abbrev pub invariant-loop-i : goal.invariant-loop-i
invariant-loop-i l = Packed l.initial.words 8 (numbers_of l.window) l.words l.i
