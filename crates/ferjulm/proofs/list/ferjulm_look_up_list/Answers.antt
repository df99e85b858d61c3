use mathlib.Core.Path.{◌≡◌, sym, ◌∙◌}
use mathlib.Core.Bool.{true}
use lib.ListN.{length}
use Rattle.protocol.specs.Plan.{look_up_list}
use Rattle.protocol.specs.Calls.{box_of}
use Rattle.c_record.specs.Words.{is_record}
use Rattle.c_closing.proofs.ClosedLaws.{record_length, held, held_none}
use Rattle.ferjulm.proofs.CodeLaws.{list-state, located_barred, located_past, barred, past}
use Rattle.ferjulm.proofs.list.ferjulm_look_up_list.Goals as goal
use Rattle.ferjulm.proofs.list.ferjulm_look_up_list.Goals.{In-Some, Start}

pub returns-in_default : goal.returns-in_default
returns-in_default c =
    let a = c.args in
    let e = held_none _ (sym c.in_default.is ∙ c.record_in.ensures) in rw c.number.ensures (
      (barred (look_up_list a.blocks.now (length a.located.now)) a.ssd.now a.hdd.now a.table.now a.words.now e).left,
      located_barred a.blocks.now a.ssd.now a.hdd.now a.table.now a.words.now a.located.now e,
    )

-- past the first test the words are a record
abbrev start : In-Some → Start
start e = (goal.at.In-Some e).Start

legal : (e : In-Some) → is_record (start e).args.words.now ≡ true
legal e = (held _ _ (sym e.in-Some.is ∙ e.record_in.ensures)).0

pub returns : goal.returns
returns c =
    let a = (start (goal.at.returns c).In-Some).args in
    let list = look_up_list a.blocks.now (length a.located.now) in
    let k = past list a.ssd.now a.hdd.now a.table.now a.words.now c.in-Some.state c.look_up_list-made.result
    (held _ _ (sym c.in-Some.is ∙ c.record_in.ensures)).1 c.look_up_list-made.ensures.0 (legal (goal.at.returns c).In-Some) in (
      k.still (list-state a.blocks.now (length a.located.now) (box_of a.ssd.now a.hdd.now a.table.now c.in-Some.state))
          c.code.ensures,
      c.look_up_list-made.ensures.1
          ∙ located_past a.blocks.now a.ssd.now a.hdd.now a.table.now a.words.now a.located.now c.in-Some.state
          (held _ _ (sym c.in-Some.is ∙ c.record_in.ensures)).1 (legal (goal.at.returns c).In-Some),
    )
