use Rattle.layout.specs.PageRule.{page_test}
use Rattle.page_rule.proofs.legal_page.Goals as goal

pub returns : goal.returns
unfolding page_test
returns c = c.read_down.ensures
