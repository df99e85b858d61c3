use borrow.Author.Tests.{eq-eqb, ne_eqb}
use Rattle.record.specs.Record.{callers_in}
use Rattle.record.proofs.RecordLaws.{parts}
use Rattle.turns.specs.Turns.{held_by}
use Rattle.turns.proofs.turn.held.Goals as goal

pub returns-then-caller-ne-IMPORT : goal.returns-then-caller-ne-IMPORT
returns-then-caller-ne-IMPORT c = rw (ne_eqb c.args.caller 1 c.if-caller-ne-IMPORT.true, held_by)

pub open_by_import-requires : goal.open_by_import-requires
open_by_import-requires c = (parts c.args.state c.requires).most

pub returns : goal.returns
unfolding callers_in
returns c =
    rw (eq-eqb c.args.caller 1 c.if-caller-ne-IMPORT.false, c.open_by_import.ensures, held_by)
