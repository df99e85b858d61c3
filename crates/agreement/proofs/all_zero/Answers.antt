use Rattle.std.proofs.Common.{rules, tests}
use Rattle.std.proofs.lemmas.Iterator.{YieldsList-from_slice}
use Rattle.std.proofs.lemmas.Iterator.Search.{all_from_yields_List}
use mathlib.Core.Path.{◌∙◌}
use mathlib.Core.Bool.{◌&&◌}
use lib.Dec.{eqb}
use Rattle.layout.specs.declared.Slot.{Slot}
use Rattle.protocol.specs.Rows.{row_block, row_flags}
use Rattle.record.proofs.Each.{each-all}
use Rattle.agreement.proofs.all_zero.Goals as goal

pub returns : goal.returns
returns c =
    all_from_yields_List (λ (s : Slot). eqb (row_block c.args.table.now s).0 0 && eqb (row_flags c.args.table.now s) 0) _ _ _ c.all.ensures.ran (YieldsList-from_slice c.args.slots.now cc) (λ x b q k. search (rules, tests))
    ∙ each-all _ c.args.slots.now
