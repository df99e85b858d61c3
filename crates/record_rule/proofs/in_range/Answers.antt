use Rattle.std.proofs.Common.{rules, tests}
use Rattle.std.proofs.lemmas.Iterator.{YieldsList-from_slice}
use Rattle.std.proofs.lemmas.Iterator.Search.{all_from_yields_List}
use mathlib.Core.Path.{◌∙◌}
use lib.Dec.{ltb}
use Rattle.layout.specs.declared.Slot.{Slot}
use Rattle.record.proofs.Each.{range-all}
use Rattle.record_rule.proofs.in_range.Goals as goal

pub returns : goal.returns
returns c =
    all_from_yields_List (λ (s : Slot). ltb s.0 c.args.l.slots) _ _ _ c.all.ensures.ran (YieldsList-from_slice c.args.slots.now cc) (λ x b q k. search (rules, tests))
    ∙ range-all c.args.l c.args.slots.now
