use mathlib.Core.Path.{refl, sym, ap, ◌∙◌}
use mathlib.Core.Bool.{Bool, ◌&&◌}
use native.Mathlib.Omega.{arith}
use lib.ListN.{get_or}
use lib.Seq.{take_all}
use lib.Dec.{leb}
use Rattle.record.specs.Window.{each_place}
use Rattle.record.proofs.Each.{each_more}
use Rattle.record_rule.proofs.at_most.Goals as goal

pub loop-c-init : goal.loop-c-init
unfolding each_place
loop-c-init c = refl

pub loop-c-preserved : goal.loop-c-preserved
loop-c-preserved c =
    let l = c.loop-c in
    ap (λ (b : Bool). b && leb (get_or c.args.callers.now l.c-index 0) c.args.most) l.invariant
    ∙ sym (each_more (λ x. leb x c.args.most) c.args.callers.now l.c-index 0 c.loop-c-test.true)

pub returns : goal.returns
returns c =
    let l = c.loop-c in
    l.invariant ∙ ap (each_place _) (take_all l.c-index c.args.callers.now (omega arith))
