use mathlib.Core.Path.{sym, ◌∙◌}
use native.Mathlib.Omega.{arith}
use Rattle.list_turns.proofs.FoundLaws.{found_none, there_is}
use Rattle.list_turns.proofs.found.condition_of.Goals as goal

pub returns-then-word-eq0 : goal.returns-then-word-eq0
returns-then-word-eq0 c =
    found_none c.args.table.now c.args.b c.args.l.slots c.requires.table_len c.args.word (omega arith) c.requires.found

pub returns-then-holds : goal.returns-then-holds
returns-then-holds c =
    let n = c.if-word-eq0.false in
    c.condition.ensures
    ∙ there_is c.args.table.now c.args.b c.args.l.slots c.requires.table_len c.args.word n c.requires.found
    (sym c.holds.ensures ∙ c.if-holds.true)
