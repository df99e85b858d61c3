use mathlib.Core.Path.{ap}
use Rattle.std.specs.Prelude.{is_err}
use Rattle.judging.proofs.JudgingLaws.{refused_on}
use Rattle.load_turns.proofs.TurnLaws.{turn_refused, turn_landed}
use Rattle.load_turns.proofs.make.Goals as goal

pub returns-in_err-begin_past : goal.returns-in_err-begin_past
returns-in_err-begin_past c =
    rw (refused_on c.from_residual.ensures.1)
    (turn_refused _ _ _ _ _ c.kind_of-kind.ensures c.block_of-block.ensures _ c.begin_past.ensures.left (ap is_err c.in_err-begin_past.was))

pub returns : goal.returns
returns c =
    turn_landed _ _ _ _ _ c.kind_of-kind.ensures c.block_of-block.ensures _ c.begin_past.ensures.left _
    (ap is_err c.in_ok-begin_past.was) c.land_opened.ensures
