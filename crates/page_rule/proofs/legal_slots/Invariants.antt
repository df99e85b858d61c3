use mathlib.Core.Path.{◌≡◌}
use mathlib.Core.Bool.{◌&&◌}
use lib.ListN.{drop}
use Rattle.layout.specs.MetaPage.{window_of}
use Rattle.layout.specs.PageRule.{in_range, distinct}
use Rattle.page_rule.proofs.legal_slots.Given as goal

abbrev pub invariant-loop-k : goal.invariant-loop-k
invariant-loop-k l = (in_range l.l (drop l.k (window_of l.page)) && distinct (drop l.k (window_of l.page))) ≡ (in_range l.l (window_of l.page) && distinct (window_of l.page))
