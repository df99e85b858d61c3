use mathlib.Core.Path.{◌≡◌, sym, ap, ◌∙◌}
use mathlib.Core.Bool.{false}
use native.Mathlib.Omega.{arith}
use lib.ListN.{take, get_or}
use lib.Seq.{take_all}
use Rattle.layout.specs.PageRule.{listed, distinct}
use Rattle.record.proofs.WindowLaws.{listed-any}
use Rattle.record_rule.proofs.DistinctLaws.{marks_begin, twice, unmarked, mark_more}
use Rattle.record_rule.proofs.distinct_slots.Goals as goal
use Rattle.record_rule.proofs.distinct_slots.Goals.{else-marks-m-via-then-marks-m+else-contains, else-marks-m-via-else-marks-m}

pub loop-i-init : goal.loop-i-init
loop-i-init c = marks_begin c.args.slots.now

pub loop-i-preserved : goal.loop-i-preserved
loop-i-preserved c =
    let l = c.loop-i in
    let ss = c.args.slots.now in
    let e : listed (get_or ss l.i (record { 0 = 0 })) (take l.i ss) ≡ false = elim c.else-marks-m.branch [
      | else-marks-m-via-then-marks-m+else-contains w ↦ sym (w.contains.ensures.value ∙ listed-any _ _) ∙ w.if-contains.false
      | else-marks-m-via-else-marks-m w ↦ unmarked ss l.i (record { 0 = 0 }) c.loop-i-test.true l.marks l.invariant w.if-marks-m.false
    ] in
    mark_more ss l.i (record { 0 = 0 }) c.loop-i-test.true l.marks l.invariant e

pub returns-then-contains : goal.returns-then-contains
returns-then-contains c =
    twice c.args.slots.now c.loop-i.i (record { 0 = 0 }) c.loop-i-test.true
    (sym (c.contains.ensures.value ∙ listed-any _ _) ∙ c.if-contains.true)

pub returns : goal.returns
returns c =
    let l = c.loop-i in
    sym (ap distinct (sym (take_all l.i c.args.slots.now (omega arith))) ∙ l.invariant.apart)
