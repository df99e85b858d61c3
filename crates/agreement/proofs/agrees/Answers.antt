use mathlib.Core.Path.{sym, ap, ◌∙◌}
use Rattle.record.specs.declared.Phase.{Phase}
use Rattle.record.specs.Record.{window_in}
use Rattle.protocol.specs.Judge.{agree_test}
use Rattle.agreement.proofs.AgreeLaws.{formatting_is, recovering_is, ready_is}
use Rattle.agreement.proofs.agrees.Goals as goal

pub returns-in-Formatting : goal.returns-in-Formatting
returns-in-Formatting c =
    rw c.window_of-w.ensures (formatting_is c.args.state c.args.table.now c.requires.state_value c.in-Formatting.field-0 c.args.scan.busy
    c.requires.table_value c.requires.busy_value)
    ∙ ap (λ (p : Phase). agree_test p c.args.table.now (window_in c.args.state)) (sym c.in-Formatting.is)

pub returns-in-Recovering : goal.returns-in-Recovering
returns-in-Recovering c =
    rw c.window_of-w.ensures at c.recovering_agrees.ensures
    ∙ recovering_is c.args.state c.args.table.now c.requires.state_value c.args.scan.writing c.requires.writing_value
    ∙ ap (λ (p : Phase). agree_test p c.args.table.now (window_in c.args.state)) (sym c.in-Recovering.is)

pub returns-in-Ready : goal.returns-in-Ready
returns-in-Ready c =
    rw c.window_of-w.ensures at c.ready_agrees.ensures
    ∙ ready_is c.args.state c.args.table.now c.requires.state_value c.args.scan.writing c.requires.table_len c.requires.writing_value
    ∙ ap (λ (p : Phase). agree_test p c.args.table.now (window_in c.args.state)) (sym c.in-Ready.is)
