use Rattle.std.proofs.Common.{rules, tests, ◌≡◌, refl, true, ap, sym, ◌∙◌, ◌&&◌, ◌<◌, ℕ, List, [], ◌∷◌}
use Rattle.std.specs.List.{list_all}
use Rattle.std.proofs.lemmas.Iterator.{YieldsList-from_slice}
use Rattle.std.proofs.lemmas.Iterator.Adapters.{serves_from_places}
use Rattle.std.proofs.lemmas.Iterator.Search.{all_from_yields_List}
use Rattle.layout.specs.declared.Slot.{Slot}
use Rattle.layout.specs.PageRule.{in_range}
use Rattle.protocol.specs.Rows.{valid, writing}
use Rattle.protocol.specs.Recovery.{metas_of, entry_in, all_open_in}
use Rattle.record.proofs.WindowLaws.{range_at}
use Rattle.image_rules.proofs.all_open.Goals as goal

open_all : (pages : List (List ℕ)) (w : List Slot)
    → list_all (λ (s : Slot). valid (entry_in pages s).flags && writing (entry_in pages s).flags) w ≡ all_open_in pages w
unfolding all_open_in
open_all pages [] = refl
open_all pages (s ∷ w) = rw (open_all pages w)

-- the slot at hand is in range
pub all-requires-clause-callable : goal.all-requires-clause-callable
all-requires-clause-callable c =
    let e : in_range c.args.l c.slots.result.now ≡ true = ap (in_range c.args.l) c.slots.ensures ∙ c.requires.w_value in
    serves_from_places (YieldsList-from_slice c.slots.result.now cc) (λ x q r. search rules)
    (λ x k h y.
    let low : x.now.0 < c.args.l.slots = rw (sym y) at (range_at c.args.l c.slots.result.now k x.now e h) in
    search rules)

pub returns : goal.returns
returns c =
    let pages = metas_of c.args.l c.args.ssd.now in
    all_from_yields_List (λ (s : Slot). valid (entry_in pages s).flags && writing (entry_in pages s).flags) _ _ _ c.all.ensures.ran
    (YieldsList-from_slice c.slots.result.now cc) (λ x b q k. search (rules, tests))
    ∙ open_all pages c.slots.result.now ∙ ap (all_open_in pages) c.slots.ensures
