use Rattle.std.specs.Prelude.{Option, None}
use Rattle.protocol.specs.declared.Refusal.{Refusal}
use Rattle.protocol.specs.Judge.{number_of}
use Rattle.judging.proofs.JudgingLaws.{is_refused, is_passed}
use Rattle.maintenance.specs.Format.{table_after}
use mathlib.Core.Path.{refl, sym, ap, ◌∙◌}
use mathlib.Core.Bool.{cond}
use Rattle.layout.specs.declared.Label.{Label}
use Rattle.layout.specs.Places.{within_limits}
use Rattle.protocol.specs.Reply.{refusal, done}
use Rattle.protocol.specs.Plan.{format}
use Rattle.maintenance.proofs.FormatLaws.{format-refused, format-begins}
use Rattle.c_record.specs.Words.{unpacked}
use Rattle.ferjulm.proofs.CodeLaws.{fresh-words, other_length}
use Rattle.ferjulm.proofs.calls.ferjulm_format.Goals as goal

-- words of another number: 3, after 1, on the numbers handed in
pub returns-then-words-ne-RECORD_WORDS : goal.returns-then-words-ne-RECORD_WORDS
returns-then-words-ne-RECORD_WORDS c =
    let a = c.args in
    other_length (format a.slots a.blocks) a.ssd.now a.hdd.now a.table.now a.words.now _ _ c.if-words-ne-RECORD_WORDS.true
    (c.number.ensures ∙ c.unheld.ensures ∙ ap (λ (x : Label). cond (within_limits x) 3 1) c.label-l.ensures)

pub returns-in-Err : goal.returns-in-Err
returns-in-Err c =
    let a = c.args in
    let r = unpacked a.words.now in
    let q = is_refused _ _ _ (sym c.in-Err.is ∙ c.begin.ensures.0) in
    rw (c.number-in-Err.ensures, c.begin.ensures.1 ∙ ap (λ (o : Option Refusal). table_after o a.table.now) q)
    (fresh-words (format a.slots a.blocks) a.ssd.now a.hdd.now a.table.now a.words.now _
    (refusal (number_of c.in-Err.refusal)) None r c.if-words-ne-RECORD_WORDS.false
    (format-refused a.ssd.now a.hdd.now a.table.now r a.slots a.blocks _ c.label-l.ensures c.in-Err.refusal q) refl)

pub returns-in-Ok : goal.returns-in-Ok
returns-in-Ok c =
    let a = c.args in
    let r = unpacked a.words.now in
    let q = (is_passed _ _ _ (sym c.in-Ok.is ∙ c.begin.ensures.0)).0 in
    rw (c.begin.ensures.1 ∙ ap (λ (o : Option Refusal). table_after o a.table.now) q)
    (fresh-words (format a.slots a.blocks) a.ssd.now a.hdd.now a.table.now a.words.now _
    done None c.begun.result c.if-words-ne-RECORD_WORDS.false
    (rw c.begun.ensures (format-begins a.ssd.now a.hdd.now a.table.now r a.slots a.blocks _ c.label-l.ensures q)) (rw c.pack.ensures))
