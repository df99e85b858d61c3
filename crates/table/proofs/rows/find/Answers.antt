use mathlib.Core.Path.{◌∙◌}
use Rattle.table.proofs.ScanLaws.{search_begin, search_more, search_ends}
use Rattle.table.proofs.rows.find.Goals as goal

pub loop-i-init : goal.loop-i-init
loop-i-init c = let a = c.args in search_begin a.table.now (record { 0 = a.b.0 }) a.l.slots c.requires

pub loop-i-preserved : goal.loop-i-preserved
loop-i-preserved c =
    let l = c.loop-i in
    let a = c.args in
    rw (c.least-at.ensures, c.choose.ensures, c.holds.ensures)
    (search_more a.table.now (record { 0 = a.b.0 }) a.l.slots l.at l.i l.invariant c.loop-i-test.true)

pub returns : goal.returns
returns c =
    let l = c.loop-i in
    let a = c.args in
    c.slot_below.ensures ∙ search_ends a.table.now (record { 0 = a.b.0 }) a.l.slots l.at l.i l.invariant c.loop-i-test.false
