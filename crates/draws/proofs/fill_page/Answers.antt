use Prim.Native.Nat.{ℕ, ◌+◌, ◌-◌, ◌*◌}
use mathlib.Core.Path.{◌≡◌, refl, ap, ◌∙◌}
use borrow.Rule.Slice.PartMut.{put_mid}
use Rattle.pages.specs.Words.{le_bytes}
use Rattle.draws.specs.Draws.{copies, draw_page}
use Rattle.draws.proofs.DrawLaws.{filled_more, filled-all}
use native.Mathlib.Omega.{arith}
use Rattle.draws.proofs.fill_page.Goals as goal

pub loop-n-init : goal.loop-n-init
unfolding copies
loop-n-init c = refl

pub loop-n-preserved : goal.loop-n-preserved
loop-n-preserved c =
    let l = c.loop-n in
    let k : 4 * l.n + 4 - 4 * l.n ≡ 4 = omega arith in
    (λ i. put_mid (4 * l.n) (k i) (l.invariant i) (c.write_word.ensures i))
    ∙ filled_more c.args.page.now c.args.s l.n c.requires (omega (arith, c.loop-n-test.true))

pub returns : goal.returns
unfolding draw_page
returns c =
    let l = c.loop-n in
    let n : l.n ≡ 1024 = omega arith in
    l.invariant
    ∙ ap (λ (m : ℕ). put_mid 0 (4 * m) c.args.page.now (copies m (le_bytes 4 c.args.s))) n
    ∙ filled-all c.args.page.now _ 4096 (omega (arith, c.requires))
