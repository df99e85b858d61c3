use Prim.Native.Nat.{ℕ}
use mathlib.Core.Path.{◌≡◌, sym, ap, ◌∙◌}
use mathlib.Core.Bool.{false}
use mathlib.Core.List.{List}
use lib.ListN.{length}
use native.Mathlib.Omega.{arith}
use Rattle.std.specs.Prelude.{None}
use Rattle.layout.specs.declared.Block.{Block}
use Rattle.protocol.specs.Box.{left}
use Rattle.protocol.specs.Perform.{confirmed, perform}
use Rattle.protocol.specs.Calls.{box_of}
use Rattle.judging.specs.Judging.{ready_then, scan_then}
use Rattle.judging.proofs.JudgingLaws.{Looked, looked, is_refused, is_passed, refused_on}
use Rattle.judging.proofs.ReadyLaws.{ReadyBox, ready}
use Rattle.list_run.specs.Runs.{Ended, offered_as, refused13, place_turn}
use Rattle.turns.specs.Turns.{turned}
use Rattle.scan_rule.proofs.ScanLaws.{scans}
use Rattle.list_run.specs.Runs.{Fair}
use Rattle.list_run.proofs.FairLaws.{ready-fair}
use Rattle.list_run.proofs.RunLaws.{ran_spent, ran_ended}
use Rattle.list_offer.proofs.OfferLaws.{offers_unready, offers_refused, spent-leaves, same-table, alone_leaves, passed-leaves, stored-leaves, stamp-left, page_fits, state_fits}
use Rattle.list_offer.proofs.offer_list.Goals as goal
use Rattle.list_offer.proofs.offer_list.Goals.{In_ok-judge_call, In_ok-run, In_ok-seen, Start}

-- 3 to 6 are passed
abbrev start : In_ok-seen → Start
start c = (goal.at.In_ok-seen c).Start

seen : (c : In_ok-seen) → let a = (start c).args in
    Looked (ready_then (length a.ssd.now) (length a.hdd.now) 4096 a.table.now a.state None) a.table.now c.first_of-first.result c.in_ok-seen.seen
seen c = let a = (start c).args in
    looked (ready_then (length a.ssd.now) (length a.hdd.now) 4096 a.table.now a.state None) a.table.now c.first_of-first.result
    (sym c.in_ok-seen.was ∙ c.judge_ready.ensures)

box : (c : In_ok-seen) → let a = (start c).args in ReadyBox a.ssd.now a.hdd.now 4096 a.table.now a.state
box c = let a = (start c).args in ready a.ssd.now a.hdd.now 4096 a.table.now a.state (seen c).none

fair : (c : In_ok-seen) → Fair (start c).args.table.now (start c).args.state
fair c = ready-fair (box c)

-- 15 and 18 are passed
abbrev first : In_ok-judge_call → In_ok-seen
first c = (goal.at.In_ok-judge_call c).In_ok-seen

listed : (c : In_ok-judge_call) → let a = (start (first c)).args in scan_then a.blocks.now a.caller None ≡ None
listed c = (is_passed _ _ _ (sym c.in_ok-judge_call.was ∙ c.judge_call.ensures)).0

-- 13 is passed
abbrev second : In_ok-run → In_ok-judge_call
second c = (goal.at.In_ok-run c).In_ok-judge_call

run_is : (c : In_ok-run) → let a = (start (first (second c))).args in
    (refused13 a.table.now a.state a.blocks.now a.caller ≡ false)
    × Ended a.table.now a.state c.run_all.new.table c.in_ok-run.run' (offered_as a.table.now a.state a.blocks.now a.caller)
run_is c = let a = (start (first (second c))).args in
    let z = offered_as a.table.now a.state a.blocks.now a.caller in
    let d = refused13 a.table.now a.state a.blocks.now a.caller in
    ran_ended a.table.now a.state c.run_all.new.table z d c.in_ok-run.run'
    (rw c.in_ok-run.was at c.run_all.ensures)

pub returns-in_err-seen : goal.returns-in_err-seen
returns-in_err-seen c =
    let a = c.args in
    rw (refused_on c.from_residual.ensures.1)
    (offers_unready a.ssd.now a.hdd.now a.table.now a.state a.blocks.now a.caller c.in_err-seen.field-0.0
    (is_refused _ _ _ (sym c.in_err-seen.was ∙ c.judge_ready.ensures)))

pub returns-in_err-judge_call : goal.returns-in_err-judge_call
returns-in_err-judge_call c =
    let s = (goal.at.returns-in_err-judge_call c).In_ok-seen in
    let a = (start s).args in
    rw (refused_on c.from_residual-in_err-judge_call.ensures.1)
    (offers_refused a.ssd.now a.hdd.now a.table.now a.state a.blocks.now a.caller (seen s).none c.in_err-judge_call.field-0.0
    (is_refused _ _ _ (sym c.in_err-judge_call.was ∙ c.judge_call.ensures)))

pub run_all-requires : goal.run_all-requires
run_all-requires c =
    let j = (goal.at.run_all-requires c).In_ok-judge_call in
    let a = (start (first j)).args in
    let S = scans a.blocks.now a.caller (listed j) in
    record {
      fair = fair (first j);
      blocks_len_bound = S.few;
      blocks_value = S.once;
      caller_le_import_caller = S.known;
    }

pub returns-in_err-run : goal.returns-in_err-run
returns-in_err-run c =
    let j = (goal.at.returns-in_err-run c).In_ok-judge_call in
    let a = (start (first j)).args in
    let z = offered_as a.table.now a.state a.blocks.now a.caller in
    let d = refused13 a.table.now a.state a.blocks.now a.caller in
    let S = ran_spent a.table.now a.state c.run_all.new.table z d c.in_err-run.field-0.0 (rw c.in_err-run.was at c.run_all.ensures) in
    rw (refused_on c.from_residual-in_err-run.ensures.1, S.1, S.2)
    (spent-leaves a.ssd.now a.hdd.now a.table.now a.state a.blocks.now a.caller (seen (first j)).none (listed j) (fair (first j)) S.0 S.3)

pub alone-requires : goal.alone-requires
alone-requires c =
    let r = (goal.at.alone-requires c).In_ok-run in
    let f = first (second r) in
    let a = (start f).args in
    let same = same-table a.ssd.now a.hdd.now a.table.now a.state a.blocks.now a.caller (seen f).none (listed (second r)) (fair f) c.run_all.new.table c.in_ok-run.run' (run_is r).1 (omega arith) in
    rw same record {
      fits_record = (box f).box.fits;
      hdd_len = (box f).box.sound.hdd-size;
      fair = fair f;
      condition_value = (seen f).condition_is;
    }

pub returns-then-run-eq0 : goal.returns-then-run-eq0
returns-then-run-eq0 c =
    let r = (goal.at.returns-then-run-eq0 c).In_ok-run in
    let f = first (second r) in
    let a = (start f).args in
    let v : List ℕ = c.run_all.new.table in
    c.alone.ensures
    ∙ ap (λ (b : Block). left (turned (place_turn v a.state b a.caller) b a.caller (box_of a.ssd.now a.hdd.now v a.state)) (record {
      ssd = a.ssd.now;
      hdd = a.hdd.now;
    }))
    c.first_of-first.ensures
    ∙ alone_leaves a.ssd.now a.hdd.now a.table.now a.state a.blocks.now a.caller (seen f).none (listed (second r)) (fair f) v c.in_ok-run.run' (run_is r).1 (omega arith)

pub confirm-requires : goal.confirm-requires
confirm-requires c =
    let r = (goal.at.confirm-requires c).In_ok-run in
    let f = first (second r) in
    let a = (start f).args in
    let E = run_is r in
    let v : List ℕ = c.run_all.new.table in
    let q = c.in_ok-run.run' in
    let fits = state_fits a.ssd.now a.hdd.now a.table.now a.state a.blocks.now a.caller (seen f).none (listed (second r)) (fair f) v q E.1 (λ z. omega arith) E.0 (box f).box.fits in
    record {
      fits_record = record {
        ssd-size = fits.ssd-size;
        table-size = fits.table-size;
        slots-most = fits.slots-most;
        window_most_is = fits.window_most_is;
      };
      p_bound = page_fits a.ssd.now a.hdd.now a.table.now a.state a.blocks.now a.caller (seen f).none (listed (second r)) (fair f) v q E.1 (λ z. omega arith) E.0 _ c.in-Some.is;
      newest_bound = stamp-left a.ssd.now a.hdd.now a.table.now a.state a.blocks.now a.caller (seen f).none (listed (second r)) (fair f) v q E.1 (λ z. omega arith) E.0 _ c.in-Some.is;
    }

pub returns-in-Some : goal.returns-in-Some
unfolding confirmed perform
returns-in-Some c =
    let r = (goal.at.returns-in-Some c).In_ok-run in
    let f = first (second r) in
    let a = (start f).args in
    let E = run_is r in
    rw (c.confirm.ensures.0, c.confirm.ensures.1)
    (stored-leaves a.ssd.now a.hdd.now a.table.now a.state a.blocks.now a.caller (seen f).none (listed (second r)) (fair f) c.run_all.new.table c.in_ok-run.run' E.1 (λ z. omega arith) E.0 _ c.in-Some.is)

pub returns-in-None : goal.returns-in-None
unfolding confirmed perform
returns-in-None c =
    let r = (goal.at.returns-in-None c).In_ok-run in
    let f = first (second r) in
    let a = (start f).args in
    let E = run_is r in
    rw c.answered.ensures
    (passed-leaves a.ssd.now a.hdd.now a.table.now a.state a.blocks.now a.caller (seen f).none (listed (second r)) (fair f) c.run_all.new.table c.in_ok-run.run' E.1 (λ z. omega arith) E.0 c.in-None.is)
