use mathlib.Core.Path.{◌∙◌}
use native.Mathlib.Omega.{arith}
use Rattle.std.specs.Prelude.{Ok}
use Rattle.protocol.specs.declared.Cost.TheVariants.{Counted, Met}
use Rattle.protocol.specs.Cost.{CostLeft}
use Rattle.import_run.specs.Runs.{run_from, begun}
use Rattle.import_run.proofs.ListLaws.{begins, goes_on, stops, done}
use Rattle.import_run.proofs.list.run.Goals as goal
use Rattle.import_run.proofs.list.run.Goals.{Start}

-- the whole run
abbrev whole : Start → CostLeft
whole s = let a = s.args in run_from a.l a.full 0 a.blocks.now (begun a.hand a.newest) a.table.now

pub loop-j-init : goal.loop-j-init
loop-j-init c =
    let a = c.args in
    begins a.l a.full a.blocks.now a.words.now a.table.now a.hand a.newest c.requires.steady c.requires.words_value

pub returns-in-Err : goal.returns-in-Err
returns-in-Err c =
    let m = c.loop-j in
    let a = c.args in
    (λ i. record { answer = Ok (Met (c.number.ensures i) m.j (c.counts_of.ensures i)); scratch = c.place.new.table })
    ∙ stops a.l a.full a.blocks.now a.words.now (whole (goal.at.returns-in-Err c).Start) m.table m.run m.j m.invariant (omega arith) c.place.ensures _ c.in-Err.is

pub loop-j-preserved : goal.loop-j-preserved
loop-j-preserved c =
    let m = c.loop-j in
    let a = c.args in
    goes_on a.l a.full a.blocks.now a.words.now (whole (goal.at.loop-j-preserved c).Start) m.table m.run m.j m.invariant (omega arith) c.place.ensures
    c.requires.blocks_value c.in_default.field-0 c.in_default.is

pub returns : goal.returns
returns c =
    let m = c.loop-j in
    let a = c.args in
    (λ i. record { answer = Ok (Counted (c.counts_of-2.ensures i)); scratch = m.table })
    ∙ done a.l a.full a.blocks.now a.words.now (whole (goal.at.returns c).Start) m.table m.run m.j m.invariant (omega arith)
