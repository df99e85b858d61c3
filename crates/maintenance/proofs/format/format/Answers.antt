use mathlib.Core.Path.{sym, ap, ◌∙◌}
use Rattle.std.specs.Prelude.{Option}
use Rattle.protocol.specs.declared.Refusal.{Refusal}
use Rattle.judging.proofs.JudgingLaws.{is_refused, is_passed, refused_on}
use Rattle.maintenance.specs.Format.{table_after}
use Rattle.maintenance.proofs.FormatLaws.{format-refused, format-begins}
use Rattle.maintenance.proofs.format.format.Goals as goal

pub returns-in_err-begin : goal.returns-in_err-begin
returns-in_err-begin c =
    let a = c.args in
    let q = is_refused _ _ _ (sym c.in_err-begin.was ∙ c.begin.ensures.0) in
    let t = c.begin.ensures.1 ∙ ap (λ (o : Option Refusal). table_after o a.table.now) q in
    λ r. rw (refused_on c.from_residual.ensures.1, t)
    (format-refused a.ssd.now a.hdd.now a.table.now r a.slots a.blocks _ c.label-l.ensures c.in_err-begin.field-0.0 q)

pub returns : goal.returns
returns c =
    let a = c.args in
    let q = (is_passed _ _ _ (sym c.in_ok-begin.was ∙ c.begin.ensures.0)).0 in
    let t = c.begin.ensures.1 ∙ ap (λ (o : Option Refusal). table_after o a.table.now) q in
    λ r. rw (c.answered.ensures, c.begun.ensures, t) (format-begins a.ssd.now a.hdd.now a.table.now r a.slots a.blocks _ c.label-l.ensures q)
