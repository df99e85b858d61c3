use Prim.Native.Nat.{ℕ, ◌<◌}
use mathlib.Core.Path.{◌≡◌, refl, subst}
use mathlib.Core.Bool.{Bool, true, false}
use mathlib.Core.List.{List}
use lib.ListN.{length, get_or}
use Rattle.std.proofs.Common.{rules, tests}
use Rattle.std.specs.Bool.{MatchBool}
use Rattle.std.specs.List.{AllWithin, HoldsAt, range_with_len}
use Rattle.std.proofs.lemmas.Iterator.{cases_from_all, YieldsList-from_range}
use Rattle.std.proofs.lemmas.List.FromFn.{get_or-range_with_len, length-range_with_len}
use native.Mathlib.Omega.{arith}
use Rattle.layout.specs.declared.Label.{Label}
use Rattle.layout.specs.Places.{slot_on}
use Rattle.layout.specs.MetaPage.{entry_part}
use Rattle.layout.specs.PageRule.{entry_test, entries_test}
use Rattle.layout.proofs.JudgeLaws.{entries_pass, entries_fail}
use Rattle.page_rule.proofs.legal_entries.Goals as goal

-- the entries' numbers
abbrev numbers : List ℕ
numbers = range_with_len 0 240

number : (i : ℕ) → i < 240 → get_or numbers i 0 ≡ i
number i h = omega (arith, get_or-range_with_len 0 240 i 0 h)

module _ (l : Label) (p : ℕ) (page : List ℕ) where
  abbrev Says : Bool → ℕ → Type 0
  Says t i = entry_test l (slot_on p i) (entry_part page i) ≡ t

  entries : (r : Bool) → MatchBool r (AllWithin (Says true) numbers 0 (length numbers)) ((k : ℕ) × (k < length numbers) × HoldsAt (Says false) numbers k)
      → r ≡ entries_test l p page
  entries true h = entries_pass l p page (λ i q. subst (Says true) (number i q) (h i 0 (omega arith) (omega (arith, length-range_with_len 0 240))))
  entries false h =
      let q : h.0 < 240 = omega (arith, h.1, length-range_with_len 0 240) in
      entries_fail l p page h.0 q (subst (Says false) (number h.0 q) (h.2 0))

pub returns : goal.returns
returns c =
    let a = c.args in
    entries a.l a.p a.page.now c.all.result
    (cases_from_all _ _ c.all.result (Says a.l a.p a.page.now true) (Says a.l a.p a.page.now false) c.all.ensures.ran (YieldsList-from_range 0 240 240 refl refl)
    (λ x q k. search (rules, tests)) (λ x q k. search (rules, tests)))
