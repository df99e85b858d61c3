use borrow.Author.Rules.{rules}
use Prim.Native.Nat.{◌≤◌}
use mathlib.Core.Path.{◌≡◌, sym, ap, ◌∙◌}
use lib.ListN.{length, length-take}
use Rattle.steps.proofs.MendLaws.{lowest-left, lowest-first, lowest_end}
use Rattle.protocol.specs.Plan.{lowest_page}
use Rattle.layout.proofs.Loops.{length-mapped}
use native.Mathlib.Omega.{arith}
use Rattle.steps.proofs.step.lowest_page.Goals as goal
use Rattle.steps.proofs.step.lowest_page.Goals.{After-slots-slots}

-- there is a slot
some : (c : After-slots-slots) → 1 ≤ length c.slots-slots.result.now
some c =
    let all : length c.args.w.slots ≡ 63 = search (rules, length-mapped) in
    let e = ap length c.slots-slots.ensures in
    omega (arith, length-take c.args.w.count c.args.w.slots, c.requires, e)

pub bounds-slots-0 : goal.bounds-slots-0
bounds-slots-0 c = omega (arith, some c)

pub loop-i-init : goal.loop-i-init
loop-i-init c = rw c.meta_of-p.ensures (lowest-first c.slots-slots.result.now _ (some (goal.at.loop-i-init c).After-slots-slots))

pub loop-i-preserved : goal.loop-i-preserved
loop-i-preserved c =
    let l = c.loop-i in
    rw (c.least-p.ensures, c.meta_of.ensures)
    (sym (lowest-left c.slots-slots.result.now l.i _ c.loop-i-test.true l.p) ∙ l.invariant)

pub returns : goal.returns
returns c =
    let l = c.loop-i in
    sym (lowest_end c.slots-slots.result.now l.i l.p c.loop-i-test.false) ∙ l.invariant ∙ ap lowest_page c.slots-slots.ensures
