use Prim.Native.Nat.{ℕ}
use mathlib.Core.Path.{◌≡◌, refl, ap, ◌∙◌}
use Rattle.protocol.specs.Box.{Box}
use Rattle.protocol.specs.Calls.{box_of}
use Rattle.load_text.specs.LoadText.{counted}
use Rattle.load_run.specs.Runs.{equal_to}
use Rattle.load_run.proofs.RunLaws.{counted-most, equal_more}
use native.Mathlib.Omega.{arith}
use Rattle.load_run.proofs.count_equal.Goals as goal

pub loop-b-init : goal.loop-b-init
unfolding equal_to
loop-b-init c = (omega arith, refl)

pub reads_same-requires : goal.reads_same-requires
reads_same-requires c = omega (arith, c.requires)

pub count-n-requires : goal.count-n-requires
count-n-requires c = omega (arith, c.loop-b.invariant.0)

pub loop-b-preserved : goal.loop-b-preserved
loop-b-preserved c =
    let l = c.loop-b in
    let a = c.args in
    let x : Box = box_of a.ssd.now a.hdd.now a.table.now a.state in (
      omega (arith, counted-most c.reads_same.result l.n c.count-n.result c.count-n.ensures, l.invariant.0),
      c.count-n.ensures ∙ (λ i. counted (c.reads_same.ensures i) (l.invariant.1 i)) ∙ equal_more l.b x a.plain.now,
    )

pub returns : goal.returns
returns c =
    let l = c.loop-b in
    let k : l.b ≡ 8 = omega arith in
    let a = c.args in
    l.invariant.1 ∙ ap (λ (m : ℕ). equal_to m (box_of a.ssd.now a.hdd.now a.table.now a.state) a.plain.now) k
