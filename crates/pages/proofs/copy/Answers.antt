use mathlib.Core.Path.{refl, ap, ◌∙◌}
use mathlib.Core.List.{◌++◌, append-nil}
use native.Mathlib.Omega.{arith}
use lib.ListN.{take, drop, set}
use lib.Seq.{take_all}
use Rattle.std.proofs.lemmas.List.{drop_all}
use Rattle.pages.proofs.Copied.{copy_more}
use Rattle.pages.proofs.copy.Goals as goal

pub loop-i-init : goal.loop-i-init
loop-i-init g c = refl

pub loop-i-preserved : goal.loop-i-preserved
loop-i-preserved g c =
    let l = c.loop-i in
    let a = c.args in
    let x = c.index-from-i.result in
    ap (λ y. set y l.i x) l.invariant
    ∙ ap (λ y. set (take l.i a.from.now ++ drop l.i a.to.now) l.i y) c.index-from-i.is
    ∙ copy_more x l.i a.from.now a.to.now c.loop-i-test.true (omega (arith, c.requires))

pub returns : goal.returns
returns g c =
    let l = c.loop-i in
    let a = c.args in
    l.invariant ∙ simp (take_all l.i a.from.now (omega arith), drop_all l.i a.to.now (omega (arith, c.requires)), append-nil)
