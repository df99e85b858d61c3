use Prim.Native.Nat.{◌+◌, ◌*◌}
use mathlib.Core.Path.{sym, ◌∙◌}
use lib.ListN.{length-set}
use Rattle.sweeping.proofs.SweepLaws.{clear_begun, clear_on, clear_done}
use Rattle.sweeping.proofs.sweep.clear_used.Goals as goal

pub loop-init : goal.loop-init
loop-init c =
    let p = c.requires in
    let a = c.args in
    (p.0, p.1, clear_begun a.n a.l a.table.now a.hand)

pub loop-preserved : goal.loop-preserved
loop-preserved c =
    let l = c.loop in
    let a = c.args in
    let n = c.next_slot-s.ensures in (
      length-set l.table (2 * l.s.0 + 1) c.flags_passed.result ∙ l.invariant.0,
      n.1,
      rw (n.0, c.flags_passed.ensures) (sym (clear_on a.n l.counter a.l l.table l.s c.loop-test.true) ∙ l.invariant.2),
    )

pub returns : goal.returns
returns c =
    let l = c.loop in
    let a = c.args in
    sym (clear_done a.n l.counter a.l l.table l.s c.loop-test.false) ∙ l.invariant.2
