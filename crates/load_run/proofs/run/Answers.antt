use mathlib.Core.Path.{sym, ap, ◌∙◌}
use mathlib.Core.Bool.{Bool}
use Rattle.load_text.specs.LoadText.{counted}
use Rattle.load_run.proofs.RunLaws.{run_none, counted-most, run_more, run-done}
use native.Mathlib.Omega.{arith}
use Rattle.load_run.proofs.run.Invariants.{load_of}
use Rattle.load_run.proofs.run.Goals as goal

pub loop-i-init : goal.loop-i-init
loop-i-init c = (omega arith, run_none _ _ _)

pub count-refusals-requires : goal.count-refusals-requires
count-refusals-requires c = omega arith

pub loop-i-preserved : goal.loop-i-preserved
loop-i-preserved c =
    let l = c.loop-i in
    let a = c.args in
    let h = c.loop-i-test.true in
    let n = counted-most c.is_err.result l.refusals c.count-refusals.result c.count-refusals.ensures in (
      omega (arith, n, l.invariant.0),
      run_more a.draws l.i l.s c.draw-s.result (load_of l.ssd l.hdd l.table l.state l.plain l.refusals) _ _ h
          c.draw-s.ensures c.make-turn.ensures (c.count-refusals.ensures ∙ ap (λ (b : Bool). counted b l.refusals) c.is_err.ensures.value)
          ∙ l.invariant.1,
    )

pub returns : goal.returns
returns c =
    let l = c.loop-i in
    sym (run-done _ l.i l.s _ (omega arith)) ∙ l.invariant.1
