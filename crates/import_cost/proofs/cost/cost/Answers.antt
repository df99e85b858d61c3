use Prim.Native.Nat.{ℕ}
use mathlib.Core.List.{List}
use mathlib.Core.Path.{◌≡◌, refl, sym, ap, ◌∙◌}
use lib.ListN.{length}
use borrow.Author.Tests.{eqb-true, eq-eqb}
use Rattle.std.specs.Prelude.{None}
use Rattle.judging.specs.Judging.{ready_then, scan_then}
use Rattle.judging.proofs.JudgingLaws.{Looked, looked, is_refused, is_passed, refused_on}
use Rattle.judging.proofs.ReadyLaws.{ReadyBox, ready, open_count}
use Rattle.turns.specs.Turns.{held_by, crowd_by}
use Rattle.scan_rule.proofs.ScanLaws.{scans}
use Rattle.list_run.proofs.FairLaws.{ready-fair}
use Rattle.record.specs.declared.Record.{Record}
use Rattle.record.specs.Record.{label_in}
use Rattle.list_run.specs.Runs.{Fair}
use Rattle.import_run.specs.Runs.{Steady, begun, run_from}
use Rattle.import_cost.proofs.ListLaws.{cost_is_run, cost_unready, cost-refused, cost_runs}
use Rattle.import_cost.proofs.cost.cost.Goals as goal
use Rattle.import_cost.proofs.cost.cost.Goals.{In_ok-judge_call, In_ok-seen, Start}

-- 3 to 6 are passed
abbrev start : In_ok-seen → Start
start c = (goal.at.In_ok-seen c).Start

abbrev page : In_ok-seen → ℕ
page c = c.lent-page.result

seen : (c : In_ok-seen) → let a = (start c).args in
    Looked (ready_then (length a.ssd.now) (length a.hdd.now) (page c) a.table.now a.state None) a.table.now (record { 0 = 0 }) c.in_ok-seen.seen
seen c = let a = (start c).args in
    looked (ready_then (length a.ssd.now) (length a.hdd.now) (page c) a.table.now a.state None) a.table.now (record { 0 = 0 })
    (sym c.in_ok-seen.was ∙ c.judge_ready.ensures)

box : (c : In_ok-seen) → let a = (start c).args in ReadyBox a.ssd.now a.hdd.now (page c) a.table.now a.state
box c = let a = (start c).args in ready a.ssd.now a.hdd.now (page c) a.table.now a.state (seen c).none

as_long : (c : In_ok-seen) → let a = (start c).args in length a.scratch.now ≡ length a.table.now
as_long c = eqb-true _ _ (sym c.lent-page.ensures ∙ eq-eqb (page c) 4096 (box c).box.page-size)

-- a table as the one that was handed in
steady_of : (r : Record) {t v : List ℕ} → Fair t r → v ≡ t → Steady (label_in r) v r.hand
steady_of r {t} {v} F e = rw e record { state = r; fair = F; label_is = refl; hand_is = refl }

-- 15 and 18 are passed
abbrev first : In_ok-judge_call → In_ok-seen
first c = (goal.at.In_ok-judge_call c).In_ok-seen

listed : (c : In_ok-judge_call) → let a = (start (first c)).args in scan_then a.blocks.now a.caller None ≡ None
listed c = let p = is_passed _ _ _ (sym c.in_ok-judge_call.was ∙ c.judge_call.ensures) in search p.0

pub returns-in_err-seen : goal.returns-in_err-seen
returns-in_err-seen c =
    let a = c.args in
    rw (refused_on c.from_residual.ensures.1)
    (cost_unready a.ssd.now a.hdd.now a.table.now a.state a.blocks.now a.caller a.scratch.now _ c.lent-page.ensures c.in_err-seen.field-0.0
    (is_refused _ _ _ (sym c.in_err-seen.was ∙ c.judge_ready.ensures)))

pub returns-in_err-judge_call : goal.returns-in_err-judge_call
returns-in_err-judge_call c =
    let s = (goal.at.returns-in_err-judge_call c).In_ok-seen in
    let a = (start s).args in
    rw (refused_on c.from_residual-in_err-judge_call.ensures.1)
    (cost-refused a.ssd.now a.hdd.now a.table.now a.state a.blocks.now a.caller a.scratch.now _ c.lent-page.ensures (seen s).none
    c.in_err-judge_call.field-0.0 (is_refused _ _ _ (sym c.in_err-judge_call.was ∙ c.judge_call.ensures)))

pub copy-requires : goal.copy-requires
copy-requires c = as_long (goal.at.copy-requires c).In_ok-seen

pub held-requires : goal.held-requires
held-requires c = (box (goal.at.held-requires c).In_ok-seen).box.record_kept

pub run_all-requires : goal.run_all-requires
run_all-requires c =
    let j = (goal.at.run_all-requires c).In_ok-judge_call in
    let a = (start (first j)).args in
    let S = scans a.blocks.now a.caller (listed j) in
    record {
      steady = steady_of a.state (ready-fair (box (first j))) (search c.copy.ensures);
      blocks_len_bound = S.few;
      blocks_value = S.once;
    }

pub returns : goal.returns
returns c =
    let j = (goal.at.returns c).In_ok-judge_call in
    let s = first j in
    let a = (start s).args in
    let G = box s in
    let S = scans a.blocks.now a.caller (listed j) in
    let full : c.crowded-full.result ≡ crowd_by a.state.count (held_by a.caller a.state) =
    c.crowded-full.ensures
    ∙ ap (λ (n : ℕ). crowd_by c.in_ok-seen.seen.writing n) c.held.ensures
    ∙ ap (λ (n : ℕ). crowd_by n (held_by a.caller a.state)) ((seen s).writing_is
    ∙ sym (open_count a.ssd.now a.hdd.now _ a.table.now a.state G)) in
    c.run_all.ensures
    ∙ (λ i. run_from a.state.label (full i) 0 a.blocks.now (begun a.state.hand a.state.newest) (c.copy.ensures i))
    ∙ sym (cost_is_run a.ssd.now a.hdd.now a.state G.box.record_kept G.phase_is G.box.sound.ssd-size
    G.box.sound.hdd-size
    a.caller S.known a.table.now (ready-fair G) a.blocks.now)
    ∙ cost_runs a.ssd.now a.hdd.now a.table.now a.state a.blocks.now a.caller a.scratch.now _
    c.lent-page.ensures (seen s).none (listed j)
