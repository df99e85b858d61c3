use mathlib.Core.Path.{◌∙◌}
use lib.ListN.{length-set}
use Rattle.c_record.proofs.WordLaws.{all_packed}
use Rattle.c_record.specs.Words.{numbers_of, words_of}
use native.Mathlib.Omega.{arith}
use Rattle.c_record.proofs.words.pack.Goals as goal

pub bounds-words-4 : goal.bounds-words-4
bounds-words-4 c = simp length-set (omega arith)

pub bounds-words-5 : goal.bounds-words-5
bounds-words-5 c = simp length-set (omega arith)

pub bounds-words-6 : goal.bounds-words-6
bounds-words-6 c = simp length-set (omega arith)

pub bounds-words-7 : goal.bounds-words-7
bounds-words-7 c = simp length-set (omega arith)

pub pack_window-requires : goal.pack_window-requires
pack_window-requires c = simp length-set (omega arith)

pub pack_callers-requires : goal.pack_callers-requires
pack_callers-requires c =
    c.pack_window.auto.words ∙ simp length-set (omega arith)

pub shape_of-words : goal.shape_of-words
shape_of-words c =
    c.pack_callers.auto.words ∙ c.pack_window.auto.words ∙ simp length-set

pub returns : goal.returns
unfolding words_of
returns c =
    all_packed c.args.words.now (numbers_of c.args.r.window) c.args.r.callers _ _ _ _ _ _ _ _ _ _ c.requires c.pack_window.ensures
    c.pack_window.auto.words c.pack_callers.ensures
    ∙ rw (c.flag_word-unconfirmed.ensures, c.steps_word-steps.ensures, c.phase_word-phase_at.ensures)
