use Rattle.std.proofs.Common.{rules, tests, ◌≡◌, refl, sym, ap, ◌∙◌, ℕ, zero, suc, ◌+◌, ◌-◌, List, arith}
use Rattle.std.specs.List.{list_any, range_with_len}
use Rattle.std.proofs.lemmas.Iterator.{YieldsList-from_range}
use Rattle.std.proofs.lemmas.Iterator.Search.{any_from_yields_List}
use Rattle.std.specs.Prelude.{eqb, drop}
use Rattle.layout.specs.declared.Slot.{Slot}
use Rattle.layout.specs.MetaPage.{count_of, slot_at, window_of}
use Rattle.layout.specs.PageRule.{listed}
use Rattle.layout.proofs.JudgeLaws.{listed-left, window_end}
use Rattle.page_rule.proofs.listed_from.Goals as goal

any_listed : (s : Slot) (page : List ℕ) (n k : ℕ) → k + n ≡ count_of page
    → list_any (λ (m : ℕ). eqb s.0 (slot_at page m).0) (range_with_len k n) ≡ listed s (drop k (window_of page))
unfolding listed
any_listed s page zero k e = sym (ap (listed s) (window_end page k (omega arith)))
any_listed s page (suc n) k e = rw (listed-left s page k (omega arith), any_listed s page n (k + 1) (omega arith))

pub returns : goal.returns
returns c =
    let a = c.args in
    any_from_yields_List (λ (m : ℕ). eqb a.s.0 (slot_at a.page.now m).0) _ _ _ c.any.ensures.ran
    (YieldsList-from_range a.k a.count (a.count - a.k) refl refl) (λ x b q h. search (rules, tests))
    ∙ any_listed a.s a.page.now (a.count - a.k) a.k (omega arith)
