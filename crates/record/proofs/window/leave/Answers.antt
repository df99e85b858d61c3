use borrow.Author.Rules.{rules}
use Prim.Native.Nat.{◌-◌, ◌+◌, ◌≤◌, ◌<◌}
use mathlib.Core.Path.{◌≡◌, sym, ap, ◌∙◌}
use mathlib.Core.Bool.{Bool, true, ◌||◌}
use lib.ListN.{length, take, length-take}
use Rattle.layout.specs.PageRule.{listed}
use Rattle.layout.specs.Window.{array_of}
use Rattle.record.specs.Window.{without, beside}
use Rattle.record.specs.Callers.{caller_array}
use Rattle.layout.proofs.Loops.{length-mapped}
use Rattle.record.proofs.WindowLaws.{padded-slots}
use Rattle.record.proofs.CallerLaws.{padded-callers}
use Rattle.record.proofs.LeaveLaws.{leaving_begin, moved_begin, one_most, one_place, moved_on, some_slot, all_moved, without-beside}
use native.Mathlib.Omega.{arith}
use Rattle.record.proofs.window.leave.Goals as goal
use Rattle.record.proofs.window.leave.Goals.{Start}

-- the window's length is one more than its last place
module _ (s : Start) where
  size : length s.args.w.slots ≡ 63
  size = search (rules, length-mapped)

  callers-size : length s.args.callers ≡ 63
  callers-size = search rules

  some : 1 ≤ s.args.w.count
  some = some_slot s.args.s s.args.w.slots s.args.w.count s.requires.w_value

  last_place : s.args.w.count - 1 + 1 ≡ s.args.w.count
  last_place = omega (arith, some)

  here : listed s.args.s (take (s.args.w.count - 1 + 1) s.args.w.slots) ≡ true
  here = rw last_place s.requires.w_value

  same_size : length (take (s.args.w.count - 1 + 1) s.args.callers) ≡ length (take (s.args.w.count - 1 + 1) s.args.w.slots)
  same_size =
      let a = length-take (s.args.w.count - 1 + 1) s.args.callers in
      let b = length-take (s.args.w.count - 1 + 1) s.args.w.slots in
      omega (arith, size, callers-size)

pub overflow_sub-last : goal.overflow_sub-last
overflow_sub-last c = some (goal.at.overflow_sub-last c).Start

pub loop-i-init : goal.loop-i-init
loop-i-init c =
    let z = length-take (c.args.w.count - 1 + 1) c.args.w.slots in (
      leaving_begin c.args.s (take (c.args.w.count - 1 + 1) c.args.w.slots) (here (goal.at.loop-i-init c).Start) (omega (arith, last_place (goal.at.loop-i-init c).Start, c.requires.count_le_window_most)),
      moved_begin _ c.args.s _ _ (omega arith),
      moved_begin 0 c.args.s _ _ (same_size (goal.at.loop-i-init c).Start),
    )

pub bounds-w-k : goal.bounds-w-k
bounds-w-k c = omega (arith, c.from.ensures, one_most (c.loop-i.gone || c.eq-gone.result), c.requires.count_le_window_most)

pub loop-i-preserved : goal.loop-i-preserved
loop-i-preserved c =
    let l = c.loop-i in
    let n = c.args.w.count - 1 + 1 in
    let e = ap (λ (b : Bool). l.gone || b) c.eq-gone.ensures in
    let h : l.i + 1 < n = omega arith in
    let m : n ≤ length c.args.w.slots = omega (arith, size (goal.at.loop-i-preserved c).Start, last_place (goal.at.loop-i-preserved c).Start, c.requires.count_le_window_most) in
    let k : n ≤ length c.args.callers = omega (arith, callers-size (goal.at.loop-i-preserved c).Start, last_place (goal.at.loop-i-preserved c).Start, c.requires.count_le_window_most) in
    rw c.from.ensures (
      one_place c.args.s c.args.w.slots n l.gone l.i _ _ l.invariant.0 e h m,
      moved_on c.args.s c.args.w.slots n l.gone l.i _ _ l.invariant.0 e h m _ c.args.w.slots l.slots (here (goal.at.loop-i-preserved c).Start) m l.invariant.1,
      moved_on c.args.s c.args.w.slots n l.gone l.i _ _ l.invariant.0 e h m 0 c.args.callers l.named (here (goal.at.loop-i-preserved c).Start) k l.invariant.2,
    )

pub returns : goal.returns
returns c =
    let l = c.loop-i in
    let n = c.args.w.count - 1 + 1 in
    let w = take n c.args.w.slots in
    let z = length-take n c.args.w.slots in
    let a : l.slots ≡ array_of (without c.args.s w) =
    all_moved _ c.args.s w w l.slots l.i l.invariant.1 (omega arith) (here (goal.at.returns c).Start) ∙ padded-slots _
    ∙ ap array_of (sym (without-beside c.args.s w))
    in
    let b : l.named ≡ caller_array (beside c.args.s w (take n c.args.callers)) =
    all_moved 0 c.args.s w _ l.named l.i l.invariant.2 (omega arith) (here (goal.at.returns c).Start) ∙ padded-callers _
    in
    (λ i. record {
      slots = (rw (last_place (goal.at.returns c).Start) at a) i;
      callers = (rw (last_place (goal.at.returns c).Start) at b) i;
    })
