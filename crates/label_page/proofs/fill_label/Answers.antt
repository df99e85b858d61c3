use Prim.Native.Nat.{◌+◌}
use mathlib.Core.Path.{◌∙◌}
use mathlib.Core.List.{◌++◌, ◌∷◌, []}
use lib.ListN.{length}
use borrow.Rule.Slice.PartMut.{put_mid}
use Rattle.layout.specs.LabelPage.{blocks_key, decimal}
use Rattle.layout.proofs.PlaceLaws.{within}
use Rattle.layout.proofs.Decimal.{decimal-size}
use Rattle.label_page.proofs.LabelReads.{head_text}
use Rattle.label_page.proofs.LabelBuilt.{label_built}
use native.Mathlib.Omega.{arith}
use Rattle.label_page.proofs.fill_label.Goals as goal

pub put_number-end-requires : goal.put_number-end-requires
put_number-end-requires c =
    omega (arith, (within c.args.l).0 c.requires.l_value, decimal-size c.args.l.slots, c.told-page)

pub put_text-requires-2 : goal.put_text-requires-2
put_text-requires-2 c =
    omega (arith, c.put_number-end.ensures.0, decimal-size c.args.l.slots, c.told-page)

pub overflow_add-end : goal.overflow_add-end
overflow_add-end c =
    omega (arith, c.put_number-end.ensures.0, decimal-size c.args.l.slots)

pub put_number-requires : goal.put_number-requires
put_number-requires c =
    omega (arith, c.put_number-end.ensures.0, (within c.args.l).0 c.requires.l_value, decimal-size c.args.l.slots, decimal-size c.args.l.blocks, c.told-page)

pub returns : goal.returns
returns c =
    let l = c.args.l in
    let n = length (decimal l.slots) + 1 in
    let m = length (decimal l.blocks) + 1 in
    let q = c.put_number-end in
    c.put_number.ensures.1
    ∙ (λ i. put_mid (q.result + 7) m ((c.put_text-2.ensures ∙ (λ j. put_mid q.result 7 ((q.ensures.1 ∙ (λ k. put_mid 27 n ((c.put_text.ensures ∙ (λ h. put_mid 0 27 (c.requires.page_value h) head_text)) k) (decimal l.slots ++ (10 ∷ [])))) j) blocks_key)) i) (decimal l.blocks ++ (10 ∷ [])))
    ∙ label_built l q.result q.ensures.0
