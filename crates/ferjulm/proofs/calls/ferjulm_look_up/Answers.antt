use mathlib.Core.Path.{◌≡◌, sym, ◌∙◌}
use mathlib.Core.Bool.{true}
use Rattle.protocol.specs.Plan.{look_up}
use Rattle.protocol.specs.Calls.{box_of}
use Rattle.c_record.specs.Words.{is_record}
use Rattle.c_closing.proofs.ClosedLaws.{record_length, held, held_none}
use Rattle.ferjulm.proofs.CodeLaws.{look_up_state, barred, past}
use Rattle.ferjulm.proofs.calls.ferjulm_look_up.Goals as goal
use Rattle.ferjulm.proofs.calls.ferjulm_look_up.Goals.{In-Some}

pub returns-in_default : goal.returns-in_default
returns-in_default c =
    let a = c.args in
    let b = barred (look_up (record { 0 = a.block })) a.ssd.now a.hdd.now a.table.now a.words.now (held_none _ (sym c.in_default.is ∙ c.record_in.ensures)) in
    rw c.number.ensures (b.left, b.slot a.slot.now)

-- past the first test the words are a record
legal : (c : In-Some) → is_record c.args.words.now ≡ true
legal c = (held _ _ (sym c.in-Some.is ∙ c.record_in.ensures)).0

pub returns : goal.returns
returns c =
    let o = c.look_up-made in
    let a = c.args in
    let x = box_of a.ssd.now a.hdd.now a.table.now c.in-Some.state in
    let k = past (look_up (record { 0 = a.block })) a.ssd.now a.hdd.now a.table.now a.words.now
    c.in-Some.state o.result (held _ _ (sym c.in-Some.is ∙ c.record_in.ensures)).1 o.ensures (legal (goal.at.returns c).In-Some) in
    (k.still (look_up_state (record { 0 = a.block }) x) c.looked.ensures.0, k.slot _ c.looked.ensures.1)
