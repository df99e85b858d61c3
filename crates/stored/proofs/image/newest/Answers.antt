use Rattle.laws.proofs.refine.Metas.{length_metas}
use Rattle.stored.proofs.StoredLaws.{pages-most, numbered_more, numbered_all}
use Prim.Native.Nat.{◌-◌, ◌<◌}
use mathlib.Core.Path.{refl}
use Rattle.layout.specs.Places.{meta_pages}
use Rattle.protocol.specs.Recovery.{metas_of}
use native.Mathlib.Omega.{arith}
use Rattle.stored.proofs.image.newest.Goals as goal

pub loop-p-init : goal.loop-p-init
loop-p-init c = (c.meta_pages-m.ensures, omega arith, refl)

pub loop-p-preserved : goal.loop-p-preserved
loop-p-preserved c =
    let l = c.loop-p in
    let p : l.p < meta_pages c.args.l = omega (arith, l.invariant.0) in (
      l.invariant.0,
      omega arith,
      numbered_more (metas_of c.args.l c.args.ssd.now) l.n _ l.p _
          (rw (length_metas c.args.l c.args.ssd.now) p) c.stamp_at.ensures c.newer-n.ensures l.invariant.2,
    )

pub returns : goal.returns
returns c =
    let l = c.loop-p in
    let z = length_metas c.args.l c.args.ssd.now in
    numbered_all (metas_of c.args.l c.args.ssd.now) l.n l.p (omega (arith, z, l.invariant.0)) l.invariant.2
