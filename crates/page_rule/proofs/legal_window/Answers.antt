use mathlib.Core.Path.{sym, ◌∙◌}
use Rattle.layout.specs.MetaPage.{window_of}
use Rattle.layout.specs.PageRule.{in_range, distinct, window_test}
use Rattle.layout.proofs.Booleans.{and_assoc}
use Rattle.page_rule.proofs.legal_window.Goals as goal

-- the slots' test, then that of the bytes past them
pub returns-then-legal_slots : goal.returns-then-legal_slots
unfolding window_test
returns-then-legal_slots c =
    let w = window_of c.args.page.now in
    rw (← and_assoc (in_range c.args.l w) (distinct w), sym c.legal_slots.ensures ∙ c.if-legal_slots.true, ← c.count_of-count.ensures) c.all_zero.ensures

pub returns-else-legal_slots : goal.returns-else-legal_slots
unfolding window_test
returns-else-legal_slots c =
    let w = window_of c.args.page.now in
    rw (← and_assoc (in_range c.args.l w) (distinct w), sym c.legal_slots.ensures ∙ c.if-legal_slots.false, c.if-legal_slots.false)
