use Prim.Native.Nat.{◌-◌}
use mathlib.Core.Path.{refl, sym, ap, ◌∙◌}
use mathlib.Core.Bool.{Bool, ◌&&◌}
use native.Mathlib.Omega.{arith}
use lib.Dec.{eqb}
use lib.ListN.{take, drop, get_or}
use lib.Seq.{take_all}
use Rattle.std.specs.List.{list_all}
use Rattle.std.proofs.lemmas.List.Folds.{list_all_more}
use Rattle.layout.proofs.ZeroLaws.{zeros_in}
use Rattle.layout.proofs.zeros.all_zero.Goals as goal

pub loop-b-init : goal.loop-b-init
loop-b-init c = refl

pub loop-b-preserved : goal.loop-b-preserved
loop-b-preserved c =
    let l = c.loop-b in
    let part = take (c.args.to - c.min.result) (drop c.min.result c.args.bytes.now) in
    ap (λ (b : Bool). b && eqb (get_or part l.b-index 0) 0) l.invariant
    ∙ sym (list_all_more (λ b. eqb b 0) part l.b-index 0 c.loop-b-test.true)

pub returns : goal.returns
returns c =
    let l = c.loop-b in
    let a = c.args in
    let m = c.min.result in
    l.invariant ∙ ap (list_all _) (take_all l.b-index (take (a.to - m) (drop m a.bytes.now)) (omega arith))
    ∙ zeros_in a.bytes.now a.from a.to m c.min.ensures
