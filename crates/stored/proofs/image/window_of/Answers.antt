use Rattle.stored.proofs.StoredLaws.{window_none, window-one, window-all}
use Prim.Native.Nat.{◌-◌}
use native.Mathlib.Omega.{arith}
use Rattle.stored.proofs.image.window_of.Goals as goal

pub loop-k-init : goal.loop-k-init
loop-k-init c = (c.count_of-count.ensures, omega arith, window_none _)

pub loop-k-preserved : goal.loop-k-preserved
loop-k-preserved c =
    let l = c.loop-k in (
      l.invariant.0,
      omega arith,
      rw c.slot_at.ensures
          (window-one c.args.page.now l.slots l.k (omega (arith, c.requires.page_bound)) l.invariant.2),
    )

pub returns : goal.returns
returns c =
    let l = c.loop-k in
    window-all c.args.page.now l.slots _ l.k l.invariant.0 l.invariant.1 (omega arith) l.invariant.2
