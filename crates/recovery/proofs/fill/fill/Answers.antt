use borrow.Author.Rules.{rules}
use lib.ListN.{length-set}
use Rattle.recovery.proofs.FillLaws.{rows_none, row-filled, rows-filled}
use mathlib.Core.Path.{ap, ◌∙◌}
use Rattle.protocol.specs.Recovery.{metas_of, entry_in}
use Rattle.recovery.specs.Fill.{kept_entry}
use native.Mathlib.Omega.{arith}
use Rattle.recovery.proofs.fill.fill.Goals as goal

pub loop-s-init : goal.loop-s-init
loop-s-init c = (search rules, search rules, search rules, rows_none _)

pub bounds-table-k-in-loop-s : goal.bounds-table-k-in-loop-s
bounds-table-k-in-loop-s c =
    let l = c.loop-s in
    simp length-set (omega (arith, l.invariant.0, l.invariant.2))

pub loop-s-preserved : goal.loop-s-preserved
loop-s-preserved c =
    let l = c.loop-s in
    let e = c.kept-entry.ensures ∙ ap kept_entry c.entry_of.ensures in (
      l.invariant.0,
      omega arith,
      simp length-set l.invariant.2,
      row-filled l.table
          (λ k. kept_entry (entry_in (metas_of c.args.l c.args.ssd.now) (record { 0 = k }))) _ l.s
          (omega (arith, l.invariant.0, l.invariant.2)) e l.invariant.3,
    )

pub returns : goal.returns
returns c =
    let l = c.loop-s in
    rows-filled l.table _ l.s c.args.l.slots (omega (arith, l.invariant.0)) (omega (arith, l.invariant.0)) l.invariant.2 l.invariant.3
