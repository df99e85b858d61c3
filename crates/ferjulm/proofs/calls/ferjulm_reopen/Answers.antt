use mathlib.Core.Path.{refl, ◌∙◌}
use Rattle.c_record.specs.Words.{unpacked}
use Rattle.protocol.specs.Plan.{reopen}
use Rattle.ferjulm.proofs.CodeLaws.{on_words, other_length}
use Rattle.ferjulm.proofs.calls.ferjulm_reopen.Goals as goal

pub returns-then-words-ne-RECORD_WORDS : goal.returns-then-words-ne-RECORD_WORDS
returns-then-words-ne-RECORD_WORDS c =
    let a = c.args in
    other_length reopen a.ssd.now a.hdd.now a.table.now a.words.now _ _ c.if-words-ne-RECORD_WORDS.true
    (c.number.ensures ∙ c.unheld.ensures)

pub returns : goal.returns
returns c =
    let a = c.args in
    let r = unpacked a.words.now in
    on_words reopen a.ssd.now a.hdd.now a.table.now a.words.now r c.reopen-made.result refl (c.reopen-made.ensures r) (c.closed.ensures r) _
    c.if-words-ne-RECORD_WORDS.false
