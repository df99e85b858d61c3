use borrow.Author.Rules.{rules}
use mathlib.Core.Path.{◌≡◌, ap, ◌∙◌}
use mathlib.Core.List.{List}
use lib.ListN.{length, take, length-take}
use lib.Seq.{take_all}
use Rattle.layout.specs.declared.Slot.{Slot}
use Rattle.layout.specs.Window.{window_from}
use Rattle.layout.proofs.Loops.{length-mapped}
use Rattle.protocol.specs.Recovery.{off_page}
use Rattle.record.proofs.RecordLaws.{from_zero}
use Rattle.steps.proofs.MendLaws.{off_most, off_one, more_from}
use native.Mathlib.Omega.{arith}
use Rattle.steps.proofs.step.off_page.Goals as goal

pub loop-s-init : goal.loop-s-init
unfolding off_page
loop-s-init c = c.empty-left.ensures

pub more_off-left-requires : goal.more_off-left-requires
more_off-left-requires c =
    let l = c.loop-s in
    let all : length c.args.w.slots ≡ 63 = search (rules, length-mapped) in
    let w = take l.s-index c.slots-slots.result.now in
    let e = ap length c.slots-slots.ensures in
    rw l.invariant record {
      zero_past = from_zero (off_page c.args.p w);
      count_lt_window_most = omega (
        arith,
        off_most c.args.p w,
        length-take l.s-index c.slots-slots.result.now,
        length-take c.args.w.count c.args.w.slots,
        e,
        c.loop-s-test.true,
      );
    }

pub loop-s-preserved : goal.loop-s-preserved
loop-s-preserved c =
    let l = c.loop-s in
    more_from c.args.p _ l.left (off_page c.args.p (take l.s-index c.slots-slots.result.now)) _ l.invariant c.more_off-left.ensures
    ∙ ap window_from (off_one c.args.p c.slots-slots.result.now l.s-index _ c.loop-s-test.true)

pub returns : goal.returns
returns c =
    let l = c.loop-s in
    l.invariant
    ∙ ap (λ (w : List Slot). window_from (off_page c.args.p w)) (take_all l.s-index c.slots-slots.result.now (omega arith) ∙ c.slots-slots.ensures)
