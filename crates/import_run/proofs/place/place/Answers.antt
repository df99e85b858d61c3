use mathlib.Core.Path.{sym, ap, ◌∙◌}
use native.Mathlib.Omega.{arith}
use borrow.Author.Tests.{le-leb}
use Rattle.std.specs.Prelude.{Ok}
use Rattle.layout.specs.declared.Slot.{Slot}
use Rattle.judging.proofs.JudgingLaws.{refused_on}
use Rattle.import_run.specs.Runs.{place_after, offered}
use Rattle.import_run.proofs.PlaceLaws.{steady_sweeps, condition_within, place_low}
use Rattle.import_run.proofs.place.place.Goals as goal

pub returns-then-l-b : goal.returns-then-l-b
unfolding place_after
returns-then-l-b c = let a = c.args in rw (place_after, le-leb a.l.blocks a.b.0 (omega arith))

pub offer_at-requires : goal.offer_at-requires
offer_at-requires c = record {
  sweepable = steady_sweeps c.requires.steady;
  within = rw c.condition_of-condition.ensures (condition_within c.requires.steady c.args.b);
}

pub returns-in_err-turn : goal.returns-in_err-turn
returns-in_err-turn c =
    rw (refused_on c.from_residual.ensures.1)
    (place_low c.args.l c.args.table.now c.args.run.now c.args.full c.args.b (omega arith) c.condition_of-condition.ensures (sym c.in_err-turn.was ∙ c.offer_at.ensures))

pub returns : goal.returns
returns c =
    let a = c.args in
    c.offer.ensures
    ∙ ap (λ (d : Slot). offered (Ok c.in_ok-turn.turn) a.l a.table.now a.run.now a.full a.b d) c.dirty_slot.ensures
    ∙ place_low a.l a.table.now a.run.now a.full a.b (omega arith) c.condition_of-condition.ensures (sym c.in_ok-turn.was ∙ c.offer_at.ensures)
