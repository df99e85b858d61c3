use mathlib.Core.Path.{◌≡◌, sym, ap, ◌∙◌}
use mathlib.Core.Bool.{Bool, true, false, not}
use Rattle.std.specs.Prelude.{None}
use Rattle.protocol.specs.declared.Refusal.TheVariants.{BadRows}
use Rattle.protocol.specs.Judge.{rows_test}
use Rattle.protocol.specs.Condition.{condition_of}
use Rattle.record.specs.Record.{label_in}
use Rattle.table.proofs.ScanLaws.{Scanned, scanned, scan_none}
use Rattle.judging.specs.Judging.{refuse_if}
use Rattle.judging.proofs.JudgingLaws.{rows_bad, rows_agree, unless_some}
use Rattle.judging.proofs.look.Goals as goal
use Rattle.judging.proofs.look.Goals.{In-Some}

pub scan-requires : goal.scan-requires
scan-requires c = c.requires.table_len

seen : (c : In-Some) → Scanned (label_in c.args.state) c.args.table.now c.args.b c.in-Some.scan
seen c = scanned _ _ _ _ (sym c.in-Some.is ∙ c.scan.ensures)

pub returns-in_default : goal.returns-in_default
returns-in_default c =
    unless_some _
    (ap (λ (b : Bool). refuse_if (not b) BadRows None)
    (rows_bad c.args.state c.args.table.now (scan_none _ _ _ (sym c.in_default.is ∙ c.scan.ensures))))

pub agrees-requires : goal.agrees-requires
agrees-requires c =
    let k = seen c in
    record {
      state_value = c.requires.state_value;
      table_len = c.requires.table_len;
      table_value = k.rows;
      writing_value = k.open_are;
      busy_value = k.busy_are;
    }

pub returns-then-not-agrees : goal.returns-then-not-agrees
returns-then-not-agrees c =
    let q : rows_test c.args.state c.args.table.now ≡ false =
    sym (rows_agree _ _ (seen (goal.at.returns-then-not-agrees c).In-Some).rows) ∙ sym c.agrees.ensures ∙ c.if-not-agrees.true in
    unless_some _ (ap (λ (b : Bool). refuse_if (not b) BadRows None) q)

pub returns : goal.returns
unfolding condition_of
returns c =
    let k = seen (goal.at.returns c).In-Some in
    let q : rows_test c.args.state c.args.table.now ≡ true =
    sym (rows_agree _ _ k.rows) ∙ sym c.agrees.ensures ∙ c.if-not-agrees.false in
    rw (q, c.condition.ensures, k.open_are, k.found_at)
