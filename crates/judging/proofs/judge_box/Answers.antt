use Rattle.std.proofs.Common.{sym, ap, ◌∙◌}
use Rattle.std.specs.Prelude.{Option, None}
use Rattle.protocol.specs.declared.Refusal.{Refusal}
use Rattle.judging.specs.Judging.{judged_by}
use Rattle.judging.proofs.JudgingLaws.{bad_record_is, bad_length, bad_page, by_rows, lengths_table, unless_some}
use Rattle.judging.proofs.judge_box.Goals as goal

pub returns-then-not-record_ok : goal.returns-then-not-record_ok
returns-then-not-record_ok c =
    let a = c.args in
    unless_some _ (bad_record_is a.ssd a.hdd a.page a.table.now a.state None (sym c.record_ok.ensures ∙ c.if-not-record_ok.true))

pub returns-then-not-lengths_ok : goal.returns-then-not-lengths_ok
returns-then-not-lengths_ok c =
    let a = c.args in
    unless_some _
    (bad_length a.ssd a.hdd a.page a.table.now a.state None (sym c.record_ok.ensures ∙ c.if-not-record_ok.false)
    (sym c.lengths_ok.ensures ∙ c.if-not-lengths_ok.true))

pub returns-then-page-ne4096 : goal.returns-then-page-ne4096
returns-then-page-ne4096 c =
    let a = c.args in
    unless_some _
    (bad_page a.ssd a.hdd a.page a.table.now a.state None (sym c.record_ok.ensures ∙ c.if-not-record_ok.false)
    (sym c.lengths_ok.ensures ∙ c.if-not-lengths_ok.false) c.if-page-ne4096.true)

pub look-requires-clause-table_len : goal.look-requires-clause-table_len
look-requires-clause-table_len c =
    let a = c.args in
    lengths_table _ a.ssd a.hdd _ (sym c.lengths_ok.ensures ∙ c.if-not-lengths_ok.false)

pub returns : goal.returns
returns c =
    let a = c.args in
    c.look.ensures
    ∙ ap (λ (o : Option Refusal). judged_by o a.table.now a.b)
    (sym (by_rows a.ssd a.hdd a.page a.table.now a.state None (sym c.record_ok.ensures ∙ c.if-not-record_ok.false)
    (sym c.lengths_ok.ensures ∙ c.if-not-lengths_ok.false) c.if-page-ne4096.false))
