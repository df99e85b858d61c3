use mathlib.Core.Path.{◌≡◌, sym, ◌∙◌}
use mathlib.Core.Bool.{true}
use Rattle.c_record.specs.Words.{is_record}
use Rattle.c_closing.proofs.ClosedLaws.{record_length, held, held_none}
use Rattle.ferjulm.proofs.MapLaws.{no_map, on_map}
use Rattle.ferjulm.proofs.map.ferjulm_map.Goals as goal
use Rattle.ferjulm.proofs.map.ferjulm_map.Goals.{In-Some}

pub returns-in_default : goal.returns-in_default
returns-in_default c =
    let a = c.args in
    rw c.number.ensures
    (no_map a.ssd.now a.hdd.now a.table.now a.words.now a.sheet.now
    (held_none _ (sym c.in_default.is ∙ c.record_in.ensures)))

-- past the first test the words are a record
legal : (c : In-Some) → is_record c.args.words.now ≡ true
legal c = (held _ _ (sym c.in-Some.is ∙ c.record_in.ensures)).0

pub returns-in-Ok : goal.returns-in-Ok
returns-in-Ok c =
    let a = c.args in
    on_map a.ssd.now a.hdd.now a.table.now a.words.now a.sheet.now c.in-Some.state _ (legal (goal.at.returns-in-Ok c).In-Some)
    (held _ _ (sym c.in-Some.is ∙ c.record_in.ensures)).1 c.in-Ok.ensures

pub returns-in-Err : goal.returns-in-Err
returns-in-Err c =
    let a = c.args in
    rw c.number-in-Err.ensures
    (on_map a.ssd.now a.hdd.now a.table.now a.words.now a.sheet.now c.in-Some.state _ (legal (goal.at.returns-in-Err c).In-Some)
    (held _ _ (sym c.in-Some.is ∙ c.record_in.ensures)).1 c.in-Err.ensures)
