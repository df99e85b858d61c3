use Rattle.std.proofs.Common.{rules, tests}
use Rattle.std.proofs.lemmas.Iterator.{YieldsList-from_slice}
use Rattle.std.proofs.lemmas.Iterator.Search.{all_from_yields_List}
use mathlib.Core.Path.{◌∙◌}
use lib.Dec.{eqb}
use Rattle.layout.specs.declared.Slot.{Slot}
use Rattle.record.proofs.Each.{zero-all}
use Rattle.record_rule.proofs.zero.Goals as goal

pub returns : goal.returns
returns c =
    all_from_yields_List (λ (s : Slot). eqb s.0 0) _ _ _ c.all.ensures.ran (YieldsList-from_slice c.args.slots.now cc) (λ x b q k. search (rules, tests))
    ∙ zero-all c.args.slots.now
