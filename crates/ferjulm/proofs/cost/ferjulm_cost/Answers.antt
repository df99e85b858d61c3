use mathlib.Core.Path.{◌≡◌, sym, ◌∙◌}
use mathlib.Core.Bool.{true}
use Rattle.c_record.specs.Words.{is_record}
use Rattle.c_closing.proofs.ClosedLaws.{record_length, held, held_none}
use Rattle.c_closing.specs.Counts.{CostNumbers}
use Rattle.ferjulm.proofs.CostLaws.{no_cost, on_cost}
use Rattle.ferjulm.proofs.cost.ferjulm_cost.Goals as goal
use Rattle.ferjulm.proofs.cost.ferjulm_cost.Goals.{In-Some, Start}

-- the lent numbers
abbrev lent : Start → CostNumbers
lent s = let a = s.args in record {
  copies = a.copies.now;
  metadata = a.metadata.now;
  landings = a.landings.now;
  number = a.number.now;
  place = a.place.now;
}

-- past the first test the words are a record
legal : (c : In-Some) → is_record c.args.words.now ≡ true
legal c = (held _ _ (sym c.in-Some.is ∙ c.record_in.ensures)).0

pub returns-in_default : goal.returns-in_default
returns-in_default c =
    let a = c.args in
    rw c.number.ensures
    (no_cost a.ssd.now a.hdd.now a.table.now a.words.now a.blocks.now a.caller a.scratch.now (lent (goal.at.returns-in_default c).Start) (held_none _ (sym c.in_default.is ∙ c.record_in.ensures)))

pub returns : goal.returns
returns c =
    let a = c.args in
    on_cost a.ssd.now a.hdd.now a.table.now a.words.now a.blocks.now a.caller a.scratch.now (lent (goal.at.returns c).Start) c.in-Some.state c.cost-answer.result _ _ (legal (goal.at.returns c).In-Some) (held _ _ (sym c.in-Some.is ∙ c.record_in.ensures)).1 c.cost-answer.ensures c.hand_out.ensures
