use Rattle.table.proofs.ScanLaws.{begin, one_more, broken, whole}
use Rattle.table.proofs.RowLaws.{busy_byte}
use Rattle.table.proofs.rows.scan.Goals as goal

pub loop-i-init : goal.loop-i-init
loop-i-init c = begin c.args.l c.args.table.now (record { 0 = c.args.b.0 }) c.args.l.slots c.requires

pub loop-i-preserved : goal.loop-i-preserved
loop-i-preserved c =
    let l = c.loop-i in
    let a = c.args in
    rw (c.least-at.ensures, c.choose.ensures, c.holds.ensures, c.from-busy.ensures, busy_byte, c.row_ok-legal.ensures)
    (one_more a.l a.table.now (record { 0 = a.b.0 }) a.l.slots l.legal l.writing l.busy l.at l.i l.invariant
    c.loop-i-test.true)

pub returns-then-not-legal : goal.returns-then-not-legal
returns-then-not-legal c =
    let l = c.loop-i in
    let a = c.args in
    broken a.l a.table.now (record { 0 = a.b.0 }) a.l.slots l.legal l.writing l.busy l.at l.i l.invariant
    c.loop-i-test.false c.if-not-legal.true

pub returns : goal.returns
returns c =
    let l = c.loop-i in
    let a = c.args in
    rw c.slot_below.ensures (whole a.l a.table.now (record { 0 = a.b.0 }) a.l.slots l.legal l.writing l.busy l.at l.i l.invariant
    c.loop-i-test.false c.if-not-legal.false)
