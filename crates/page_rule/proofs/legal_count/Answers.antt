use borrow.Author.Tests.{eq-eqb, ne_eqb, le-leb, lt-leb}
use Rattle.layout.specs.PageRule.{count_test}
use Rattle.page_rule.proofs.legal_count.Goals as goal

pub returns-then-stamp_of-ne0 : goal.returns-then-stamp_of-ne0
unfolding count_test
returns-then-stamp_of-ne0 c =
    rw (← c.count_of-count.ensures, ← c.stamp_of.ensures, le-leb _ 63 c.if-count.true, ne_eqb _ 0 c.if-stamp_of-ne0.true)

pub returns-else-stamp_of-ne0 : goal.returns-else-stamp_of-ne0
unfolding count_test
returns-else-stamp_of-ne0 c =
    rw (← c.count_of-count.ensures, ← c.stamp_of.ensures, le-leb _ 63 c.if-count.true, eq-eqb _ 0 c.if-stamp_of-ne0.false)

pub returns-else-count : goal.returns-else-count
unfolding count_test
returns-else-count c = rw (← c.count_of-count.ensures, lt-leb _ 63 c.if-count.false)
