use mathlib.Core.Path.{◌≡◌, sym, ◌∙◌}
use mathlib.Core.Bool.{true}
use Rattle.protocol.specs.Plan.{offer_list}
use Rattle.c_record.specs.Words.{is_record}
use Rattle.c_closing.proofs.ClosedLaws.{record_length, held, held_none}
use Rattle.ferjulm.proofs.CodeLaws.{barred, past}
use Rattle.ferjulm.proofs.list.ferjulm_offer_list.Goals as goal
use Rattle.ferjulm.proofs.list.ferjulm_offer_list.Goals.{In-Some, Start}

pub returns-in_default : goal.returns-in_default
returns-in_default c =
    let a = c.args in
    let e = held_none _ (sym c.in_default.is ∙ c.record_in.ensures) in
    let b = barred (offer_list a.blocks.now a.caller) a.ssd.now a.hdd.now a.table.now a.words.now e in
    rw c.number.ensures (b.left, b.places a.dealt.now, b.place (record { image = a.image.now; offset = a.offset.now }))

-- past the first test the words are a record
abbrev start : In-Some → Start
start e = (goal.at.In-Some e).Start

legal : (e : In-Some) → is_record (start e).args.words.now ≡ true
legal e = (held _ _ (sym e.in-Some.is ∙ e.record_in.ensures)).0

pub ended_list-requires : goal.ended_list-requires
ended_list-requires c =
    record_length _ (legal (goal.at.ended_list-requires c).In-Some)

pub returns : goal.returns
returns c =
    let o = c.offer_list-made in
    let a = (start (goal.at.returns c).In-Some).args in
    let k = past (offer_list a.blocks.now a.caller) a.ssd.now a.hdd.now a.table.now a.words.now
    c.in-Some.state o.result (held _ _ (sym c.in-Some.is ∙ c.record_in.ensures)).1 o.ensures (legal (goal.at.returns c).In-Some) in
    (k.left (c.ended_list.ensures.0 c.in-Some.state), k.places _ c.ended_list.ensures.1, k.place _ c.ended_list.ensures.2)
