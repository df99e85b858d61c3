use mathlib.Core.Path.{sym, subst}
use Rattle.protocol.specs.declared.Condition.{Condition}
use Rattle.laws.proofs.refine.Conditions.{stands}
use Rattle.turns.specs.Turns.{Within}
use Rattle.list_turns.proofs.PlaceTurnLaws.{stands_within}
use Rattle.list_turns.proofs.deal.decide.Goals as goal

pub condition_of-condition-requires : goal.condition_of-condition-requires
condition_of-condition-requires c = let p = c.requires in record { table_len = p.sweepable.size; found = p.found }

pub offer_at-requires : goal.offer_at-requires
offer_at-requires c =
    let a = c.args in record {
      sweepable = c.requires.sweepable;
      within = subst (λ (k : Condition). Within a.l.slots k) (sym c.condition_of-condition.ensures)
          (stands_within (stands a.l a.table.now c.requires.sweepable.size a.b));
    }
