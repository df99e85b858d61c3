use Prim.Native.Nat.{ℕ}
use mathlib.Core.List.{List}
use mathlib.Core.Path.{◌≡◌, sym, ap, subst, ◌∙◌}
use native.Mathlib.Omega.{arith}
use Rattle.std.specs.Prelude.{Result, Ok}
use Rattle.layout.specs.declared.Slot.{Slot}
use Rattle.protocol.specs.declared.Refusal.{Refusal}
use Rattle.protocol.specs.declared.Condition.TheVariants.{NotCached}
use Rattle.turns.specs.declared.turn.Turn.{Turn}
use Rattle.turns.specs.declared.turn.Turn.TheVariants.{CopiesOut}
use Rattle.turns.specs.Turns.{Sweepable, offer_turn_at}
use Rattle.import_run.specs.Runs.{Takes}
use Rattle.import_run.proofs.PlaceLaws.{Copied, steady_sweeps, steady_takes, steady_copies}
use Rattle.import_run.proofs.place.offer.Goals as goal
use Rattle.import_run.proofs.place.offer.Goals.{Start}

-- a turn that copies a slot out
copied : (s : Start) {u : Slot} {n : ℕ} → s.args.turn ≡ CopiesOut u n
    → Copied s.args.l s.args.table.now s.args.run.now.hand s.args.full u n
copied s {u} {n} e = steady_copies s.requires.steady s.args.full s.args.b s.requires.b_lt_blocks u n (sym s.requires.turn_value ∙ ap Ok e)

pub take-requires : goal.take-requires
take-requires c =
    let a = c.args in
    let p = c.requires in
    let W = steady_sweeps p.steady in
    record {
      table_len = (W.size, W.low);
      takes = subst (λ (T : Result Turn Refusal). Takes T a.l a.table.now a.d) (sym p.turn_value)
          (rw p.d_value (steady_takes p.steady a.full a.b p.b_lt_blocks));
      early = p.early.0;
    }

pub copy_out-requires : goal.copy_out-requires
copy_out-requires c =
    let p = c.requires in
    let W = steady_sweeps p.steady in
    let C = copied (goal.at.copy_out-requires c).Start c.in-CopiesOut.is in
    record { table_len = (W.size, W.low); s_lt_slots = C.low; s_value = C.was_dirty; copies_bound = p.early.1 }

pub offer_at-requires : goal.offer_at-requires
offer_at-requires c =
    let C = copied (goal.at.offer_at-requires c).Start c.in-CopiesOut.is in
    let W : Sweepable c.args.l c.copy_out.new.table c.in-CopiesOut.s = rw c.copy_out.ensures.table_value (steady_sweeps C.steady) in
    record { sweepable = record { size = W.size; rows = W.rows; low = omega (arith, C.low) }; within = tt }

pub take-requires-2 : goal.take-requires-2
take-requires-2 c =
    let a = c.args in
    let C = copied (goal.at.take-requires-2 c).Start c.in-CopiesOut.is in
    let W = steady_sweeps C.steady in
    let e = sym c.in_ok-again.was ∙ c.offer_at.ensures
    ∙ ap (λ (t : List ℕ). offer_turn_at a.l t c.in-CopiesOut.s a.full NotCached) c.copy_out.ensures.table_value ∙ C.next in
    record {
      table_len = rw (c.copy_out.ensures.table_value, c.copy_out.ensures.run_value) (W.size, C.low);
      takes = subst (λ (T : Result Turn Refusal). Takes T a.l c.copy_out.new.table a.d) (sym e) (C.low, omega arith);
      early = rw c.copy_out.ensures.run_value record { few_metadata = c.requires.early.0.few_metadata; few_landings = c.requires.early.0.few_landings };
    }
