use mathlib.Core.Path.{ap, ◌∙◌}
use mathlib.Core.Bool.{false}
use mathlib.Core.List.{[]}
use Rattle.layout.specs.declared.Label.{Label}
use Rattle.record.specs.declared.Record.{Record}
use Rattle.record.specs.declared.Phase.TheVariants.{Formatting}
use Rattle.record.specs.Record.{record_of}
use Rattle.protocol.specs.Calls.{box_of, format_of, step_of}
use Rattle.load_run.specs.Runs.{blank_record}
use Rattle.load_run.proofs.RunLaws.{prepared}
use Rattle.load_run.proofs.prepare.Goals as goal

pub returns : goal.returns
returns c =
    let s = c.args in
    let e = c.begun-blank.ensures ∙ ap (λ (l : Label). record_of l (record { 0 = 0 }) 0 (Formatting 0) false []) c.label.ensures in
    let t = s.table.now in
    rw c.after.ensures
    (prepared (box_of s.ssd.now s.hdd.now t blank_record) _ _ _ _
    (c.format.ensures c.begun-blank.result ∙ ap (λ (r : Record). format_of s.ssd.now s.hdd.now t r 4 8) e)
    (c.step.ensures ∙ ap (λ (r : Record). step_of s.ssd.now s.hdd.now c.format.new.table r) c.after-begun.ensures)
    (c.step-2.ensures ∙ ap (λ (r : Record). step_of c.step.new.ssd s.hdd.now c.format.new.table r) c.after-first.ensures)
    (c.step-3.ensures ∙ ap (λ (r : Record). step_of c.step-2.new.ssd s.hdd.now c.format.new.table r) c.after-second.ensures))
