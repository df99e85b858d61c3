use mathlib.Core.Path.{◌≡◌, sym, ◌∙◌}
use mathlib.Core.Bool.{true}
use Rattle.layout.specs.declared.Block.{Block}
use Rattle.c_answers.specs.declared.Place.{Place}
use Rattle.c_record.specs.Words.{is_record}
use Rattle.c_closing.proofs.ClosedLaws.{record_length, held, held_none}
use Rattle.ferjulm.proofs.ViewLaws.{view_stops, view_passes, no_view, on_view}
use Rattle.ferjulm.proofs.view.ferjulm_view.Goals as goal
use Rattle.ferjulm.proofs.view.ferjulm_view.Goals.{In-Some}

pub returns-in_default : goal.returns-in_default
returns-in_default c =
    let a = c.args in
    rw c.number.ensures
    (no_view a.ssd.now a.hdd.now a.table.now a.words.now (record { 0 = a.block })
    (record { image = a.image.now; offset = a.offset.now })
    (held_none _ (sym c.in_default.is ∙ c.record_in.ensures)))

-- past the first test the words are a record
legal : (c : In-Some) → is_record c.args.words.now ≡ true
legal c = (held _ _ (sym c.in-Some.is ∙ c.record_in.ensures)).0

pub returns-in-Err : goal.returns-in-Err
returns-in-Err c =
    let a = c.args in
    let b : Block = record { 0 = a.block } in
    let p : Place = record { image = a.image.now; offset = a.offset.now } in
    rw c.number-in-Err.ensures
    (on_view a.ssd.now a.hdd.now a.table.now a.words.now b p c.in-Some.state _ (legal (goal.at.returns-in-Err c).In-Some) (held _ _ (sym c.in-Some.is ∙ c.record_in.ensures)).1
    (view_stops a.ssd.now a.hdd.now a.table.now c.in-Some.state b p _ (sym c.in-Err.is ∙ c.judge_block.ensures)))

pub returns-in-Ok : goal.returns-in-Ok
returns-in-Ok c =
    let a = c.args in
    let b : Block = record { 0 = a.block } in
    let p : Place = record { image = a.image.now; offset = a.offset.now } in
    on_view a.ssd.now a.hdd.now a.table.now a.words.now b p c.in-Some.state _ (legal (goal.at.returns-in-Ok c).In-Some) (held _ _ (sym c.in-Some.is ∙ c.record_in.ensures)).1
    (view_passes a.ssd.now a.hdd.now a.table.now c.in-Some.state b p _ c.place_for-place.result (sym c.in-Ok.is ∙ c.judge_block.ensures)
    c.place_for-place.ensures)
