use Prim.Native.Nat.{ℕ, ◌*◌, ◌<◌}
use mathlib.Core.Path.{◌≡◌, refl, ap, ◌∙◌}
use mathlib.Core.List.{◌++◌}
use native.Mathlib.Nat.{add-sub_cancel_left}
use lib.ListN.{drop}
use borrow.Rule.Slice.PartMut.{put_mid}
use Rattle.protocol.specs.SlotMap.{lines_of, map_lines}
use Rattle.slot_map.proofs.TextLaws.{lines_more}
use native.Mathlib.Omega.{arith}
use Rattle.slot_map.proofs.text.put_map.Goals as goal

pub loop-k-init : goal.loop-k-init
unfolding lines_of
loop-k-init c = refl

pub loop-k-preserved : goal.loop-k-preserved
loop-k-preserved c =
    let L = c.loop-k in
    let few : L.k < 960 = omega (arith, c.requires.slots_bound) in
    (λ i. put_mid (67 * L.k) (add-sub_cancel_left (67 * L.k) 67 i) (L.invariant i) (c.put_line.ensures i))
    ∙ lines_more c.args.l c.args.table.now c.args.sheet.now L.k few

pub returns : goal.returns
returns c =
    let L = c.loop-k in
    let e : L.k ≡ map_lines c.args.l = omega arith in
    L.invariant ∙ ap (λ (k : ℕ). lines_of c.args.l c.args.table.now k ++ drop (67 * k) c.args.sheet.now) e
