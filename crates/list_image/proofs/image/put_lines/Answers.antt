use Prim.Native.Nat.{◌-◌}
use mathlib.Core.Path.{◌≡◌, refl, ap, ◌∙◌}
use Rattle.protocol.specs.Recovery.{metas_of}
use Rattle.list_image.specs.Listing.{line_of, lines_of}
use Rattle.fields.proofs.WrittenLaws.{written_none, written_more, written_as, written-length}
use Rattle.list_image.proofs.ImageLaws.{lines_more}
use native.Mathlib.Omega.{arith}
use Rattle.list_image.proofs.image.put_lines.Goals as goal

pub loop-s-init : goal.loop-s-init
unfolding lines_of
loop-s-init c = (omega arith, refl, written_none _ _ _)

pub put_line-end-requires : goal.put_line-end-requires
put_line-end-requires c =
    let l = c.loop-s in
    omega (arith, l.invariant.2.end_is, l.invariant.2.short, c.requires.slots_in_bounds)

pub loop-s-preserved : goal.loop-s-preserved
loop-s-preserved c =
    let l = c.loop-s in
    let w = c.args.pending.now in
    let v = written_as {n = 63} c.put_line-end.ensures (ap (line_of w (record { 0 = l.s })) c.entry_of-entry.ensures) (omega arith) in (
      omega arith,
      written-length v (omega (arith, l.invariant.2.end_is, l.invariant.2.short, c.requires.slots_in_bounds)) ∙ l.invariant.1,
      written_as (written_more l.invariant.2 v (omega (arith, c.requires.slots_in_bounds))) (lines_more w (metas_of c.args.l c.args.ssd.now) l.s) (omega arith),
    )

pub shape_of-page : goal.shape_of-page
shape_of-page c = c.loop-s.invariant.1

pub returns : goal.returns
returns c =
    let l = c.loop-s in
    let q : l.s ≡ c.args.l.slots = omega arith in
    written_as l.invariant.2 (ap (lines_of c.args.pending.now (metas_of c.args.l c.args.ssd.now)) q) (omega arith)
