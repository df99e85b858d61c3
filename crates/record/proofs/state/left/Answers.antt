use Prim.Native.Nat.{◌-◌}
use mathlib.Core.Path.{◌≡◌, ap}
use mathlib.Core.Bool.{true}
use lib.ListN.{length}
use Rattle.layout.specs.Window.{array_of}
use Rattle.record.specs.declared.window.Places.{Places}
use Rattle.record.specs.Window.{without, beside}
use Rattle.record.specs.Callers.{caller_array}
use Rattle.record.specs.Record.{window_in, callers_in}
use Rattle.record.proofs.LeaveLaws.{some_slot}
use Rattle.record.proofs.RecordLaws.{parts, window_is, callers_is, one_less}
use Rattle.record.proofs.state.left.Goals as goal

pub leave-left-requires : goal.leave-left-requires
leave-left-requires c =
    rw (c.window_of.ensures, window_is c.args.r) record {
      count_le_window_most = (parts c.args.r c.requires.r_value).most;
      w_value = c.requires.r_value_2;
    }

pub overflow_sub-next : goal.overflow_sub-next
overflow_sub-next c =
    some_slot c.args.s c.args.r.window c.args.r.count (rw (window_is c.args.r) c.requires.r_value_2)

pub returns : goal.returns
returns c =
    let r = c.args.r in
    let e = rw (c.window_of.ensures, window_is r, callers_is r) at c.leave-left.ensures in
    let w : c.leave-left.result.slots ≡ array_of (without c.args.s (window_in r)) = ap (λ (p : Places). p.slots) e in
    let n : r.count - 1 ≡ length (without c.args.s (window_in r)) = one_less r c.args.s (parts r c.requires.r_value) c.requires.r_value_2 in
    let k : c.leave-left.result.callers ≡ caller_array (beside c.args.s (window_in r) (callers_in r)) = ap (λ (p : Places). p.callers) e in
    λ i.
    record {
      label = r.label;
      hand = r.hand;
      newest = r.newest;
      phase = r.phase;
      unconfirmed = true;
      window = w i;
      count = n i;
      callers = k i;
    }
