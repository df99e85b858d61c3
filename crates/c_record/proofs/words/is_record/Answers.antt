use mathlib.Core.Path.{sym, ◌∙◌}
use borrow.Author.Tests.{eq-eqb, ne_eqb}
use Rattle.c_record.specs.Words.{is_record}
use Rattle.c_record.proofs.words.is_record.Goals as goal

pub returns-then-words-ne-RECORD_WORDS : goal.returns-then-words-ne-RECORD_WORDS
unfolding is_record
returns-then-words-ne-RECORD_WORDS c = rw (ne_eqb _ _ c.if-words-ne-RECORD_WORDS.true)

pub returns-then-not-is_phase : goal.returns-then-not-is_phase
unfolding is_record
returns-then-not-is_phase c =
    rw (eq-eqb _ _ c.if-words-ne-RECORD_WORDS.false, sym c.is_phase.ensures ∙ c.if-not-is_phase.true)

pub returns : goal.returns
unfolding is_record
returns c =
    rw (eq-eqb _ _ c.if-words-ne-RECORD_WORDS.false, sym c.is_phase.ensures ∙ c.if-not-is_phase.false)
