use Prim.Native.Nat.{ℕ}
use mathlib.Core.Path.{◌≡◌, refl, sym, ap, ◌∙◌}
use native.Mathlib.Omega.{arith}
use lib.ListN.{length}
use borrow.Author.Tests.{leb-false}
use Rattle.std.specs.Prelude.{Ok}
use Rattle.record.specs.Record.{label_in}
use Rattle.protocol.specs.Box.{Box, Effect, left}
use Rattle.protocol.specs.Perform.{confirmed, perform}
use Rattle.protocol.specs.Calls.{box_of}
use Rattle.turns.specs.declared.turn.Turn.{Turn}
use Rattle.judging.specs.Fits.{FitsRecord}
use Rattle.turns.specs.Turns.{Performable, table_after}
use Rattle.turns.proofs.SweepingLaws.{Passed, passed_is, dirty-block}
use Rattle.turns.proofs.TurnLaws.{record_limits, hand-low, rows_of}
use Rattle.performing.proofs.PerformLaws.{turn_spent, turn_opens}
use Rattle.performing.proofs.perform.Goals as goal
use Rattle.performing.proofs.perform.Goals.{In-CopiesOut, In-Opens, Start}

abbrev entry : In-Opens → Start
entry c = (goal.at.In-Opens c).Start

abbrev entry-2 : In-CopiesOut → Start
entry-2 c = (goal.at.In-CopiesOut c).Start

abbrev box : Start → Box
box s = let a = s.args in box_of a.ssd.now a.hdd.now a.table.now a.state

-- what the turn asks for
doable : (s : Start) (T : Turn) → s.args.turn ≡ T → Performable (Ok T) s.args.table.now s.args.state
doable s T e = rw e at s.requires.performable

-- the table once n slots were passed
passed : (s : Start) (n : ℕ) → Passed (label_in s.args.state) s.args.table.now (table_after n (box s))
passed s n =
    let a = s.args in
    let p = s.requires in
    passed_is n (label_in a.state) a.table.now a.state.hand p.fits_record.table-size
    (rows_of (label_in a.state) a.table.now p.fits_record.table-size p.table_value) (hand-low a.state p.state_value)

fits : (s : Start) (n : ℕ) → FitsRecord (length s.args.ssd.now) (length (table_after n (box s))) s.args.state
fits s n = let F = s.requires.fits_record in record {
  ssd-size = F.ssd-size;
  table-size = (passed s n).size;
  slots-most = F.slots-most;
  window_most_is = F.window_most_is;
}

pub returns-then-is_spent : goal.returns-then-is_spent
returns-then-is_spent c =
    let x = box (entry (goal.at.returns-then-is_spent c).In-Opens) in
    rw c.in-Opens.is
    (ap (λ (e : Effect). left e x.images) (turn_spent _ _ _ _ (entry (goal.at.returns-then-is_spent c).In-Opens).args.b (entry (goal.at.returns-then-is_spent c).In-Opens).args.caller x (sym c.is_spent.ensures ∙ c.if-is_spent.true)))

pub clear_used-requires : goal.clear_used-requires
clear_used-requires c =
    let s = entry (goal.at.clear_used-requires c).In-Opens in
    (s.requires.fits_record.table-size, hand-low s.args.state s.requires.state_value)

pub open_slot-requires : goal.open_slot-requires
open_slot-requires c =
    let s = entry (goal.at.open_slot-requires c).In-Opens in
    let d = doable s _ c.in-Opens.is in
    let n = leb-false _ s.args.state.newest (sym c.is_spent.ensures ∙ c.if-is_spent.false) in
    rw c.clear_used.ensures record {
      fits_record = fits s _;
      state_value = s.requires.state_value;
      count_lt_window_most = d.1;
      newest_bound = omega (arith, n);
      s_lt_slots = d.0;
    }

pub clear_used-requires-in-CopiesOut : goal.clear_used-requires-in-CopiesOut
clear_used-requires-in-CopiesOut c =
    let s = entry-2 (goal.at.clear_used-requires-in-CopiesOut c).In-CopiesOut in
    (s.requires.fits_record.table-size, hand-low s.args.state s.requires.state_value)

pub copy_out-stored-requires : goal.copy_out-stored-requires
copy_out-stored-requires c =
    let s = entry-2 (goal.at.copy_out-stored-requires c).In-CopiesOut in
    let d = doable s _ c.in-CopiesOut.is in
    let g = c.in-CopiesOut in
    let P = passed s g.passed in
    let f = P.dirty_is g.s d.0 ∙ d.1 in
    rw c.clear_used-in-CopiesOut.ensures record {
      fits_record = fits s _;
      hdd_len = s.requires.hdd_len;
      blocks_bound = (record_limits s.args.state s.requires.state_value).blocks-most;
      s_lt_slots = d.0;
      s_bound = dirty-block (label_in s.args.state) (table_after g.passed (box s)) P.legal g.s d.0 f;
      s_value = f;
    }

pub returns-in-Passes : goal.returns-in-Passes
unfolding confirmed perform
returns-in-Passes c =
    rw (c.answered.ensures, c.in-Passes.is) refl

pub returns-else-is_spent : goal.returns-else-is_spent
unfolding confirmed perform
returns-else-is_spent c =
    let z = c.open_slot.ensures in
    let e = c in
    let x = box (entry (goal.at.returns-else-is_spent e).In-Opens) in
    rw (z.0, z.1, z.2, c.clear_used.ensures, e.in-Opens.is)
    (ap (λ (e : Effect). left e x.images) (turn_opens _ _ _ _ (entry (goal.at.returns-else-is_spent e).In-Opens).args.b (entry (goal.at.returns-else-is_spent e).In-Opens).args.caller x (sym e.is_spent.ensures ∙ e.if-is_spent.false)))

pub returns-in-CopiesOut : goal.returns-in-CopiesOut
unfolding confirmed perform
returns-in-CopiesOut c =
    let z = c.copy_out-stored.ensures in
    rw (c.stored.ensures, c.with_hand-next.ensures, z.0, z.1, z.2, c.clear_used-in-CopiesOut.ensures, c.in-CopiesOut.is) refl
