use mathlib.Core.Path.{◌≡◌, sym, ◌∙◌}
use mathlib.Core.Bool.{true}
use Rattle.protocol.specs.Plan.{land_fetch}
use Rattle.c_record.specs.Words.{is_record}
use Rattle.c_closing.proofs.ClosedLaws.{record_length, held, held_none}
use Rattle.ferjulm.proofs.CodeLaws.{barred, past}
use Rattle.ferjulm.proofs.calls.ferjulm_land_fetch.Goals as goal
use Rattle.ferjulm.proofs.calls.ferjulm_land_fetch.Goals.{In-Some}

pub returns-in_default : goal.returns-in_default
returns-in_default c =
    let a = c.args in
    let b = barred (land_fetch (record { 0 = a.block })) a.ssd.now a.hdd.now a.table.now a.words.now (held_none _ (sym c.in_default.is ∙ c.record_in.ensures)) in
    rw c.number.ensures (b.left, b.place (record { image = a.image.now; offset = a.offset.now }))

-- past the first test the words are a record
legal : (c : In-Some) → is_record c.args.words.now ≡ true
legal c = (held _ _ (sym c.in-Some.is ∙ c.record_in.ensures)).0

pub ended-requires : goal.ended-requires
ended-requires c =
    record_length _ (legal (goal.at.ended-requires c).In-Some)

pub returns : goal.returns
returns c =
    let o = c.land_fetch-made in
    let a = c.args in
    let k = past (land_fetch (record { 0 = a.block })) a.ssd.now a.hdd.now a.table.now a.words.now
    c.in-Some.state o.result (held _ _ (sym c.in-Some.is ∙ c.record_in.ensures)).1 o.ensures (legal (goal.at.returns c).In-Some) in
    (k.left (c.ended.ensures.0 c.in-Some.state), k.place _ c.ended.ensures.1)
