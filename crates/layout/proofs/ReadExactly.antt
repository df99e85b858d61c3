-- Read down to a row, a page passes exactly if it keeps every rule whose fields stand there, and is refused exactly if it breaks one.
use Prim.Native.Nat.{ℕ, zero, suc, ◌+◌, ◌*◌, ◌≤◌, ◌<◌}
use mathlib.Core.Path.{◌≡◌, refl, subst}
use mathlib.Core.Logic.{◌≢◌, ◌⊎◌, inl, inr}
use mathlib.Core.Bool.{true, false}
use mathlib.Core.List.{List, ◌∷◌, []}
use native.Mathlib.Decide.{dec_le, dec_lt, ℕ_discrete}
use native.Mathlib.Omega.{arith}
use lib.ListN.{get_or}
use Rattle.layout.specs.declared.Label.{Label}
use Rattle.layout.specs.MetaPage.{count_of, slot_at, entry_part, entry_at}
use Rattle.layout.specs.PageRule.{read_down, field_test}
use Rattle.layout.specs.ReadDown.{Rule, last_row, Keeps, Broken, PassesExactly, RefusesExactly}
use Rattle.layout.specs.ReadDown.Rule.{length_most, stamp_zero, zero6, slots_below, slots_apart, zero_past, zero268, flags_legal, free_zero, beyond_free, block_below, entry_zero, zero2432}
use Rattle.layout.proofs.Booleans.{Told, told, told_true, told_false, clash}
use Rattle.layout.proofs.RuleLaws.{count-rule, zero_rule, window-rule, flags_rule, entries-rule}
use Rattle.layout.proofs.WholePage.{window-kept, entries-kept}
use Rattle.layout.proofs.RowLaws.{fields_of, read_of}
use Rattle.layout.proofs.Decided.{dec_test, dec_if, dec_same, each_or, dec_each}

module _ (l : Label) (p : ℕ) (page : List ℕ) where
  -- a row's test says the rules that it closes
  rule_of : (r : Rule) → field_test (last_row r) l p page ≡ true → Keeps r l p page
  rule_of length_most e = ((count-rule page).0 e).most
  rule_of stamp_zero e = ((count-rule page).0 e).stamp_zero_is
  rule_of zero6 e = (zero_rule 6 16 page).0 e
  rule_of slots_below e = λ k h. ((window-rule l page).0 e).in_range_is k
  rule_of slots_apart e = λ k m h q. ((window-rule l page).0 e).apart k m h
  rule_of zero_past e = ((window-rule l page).0 e).zero_past_lem
  rule_of zero268 e = (zero_rule 268 512 page).0 e
  rule_of flags_legal e = λ i h. ((entries-rule l p page).0 e i h).pair.legal
  rule_of free_zero e = λ i h. ((entries-rule l p page).0 e i h).pair.free
  rule_of beyond_free e = λ i h. ((entries-rule l p page).0 e i h).beyond
  rule_of block_below e = λ i h. ((entries-rule l p page).0 e i h).pair.below
  rule_of entry_zero e = λ i h k q s. ((entries-rule l p page).0 e i h).zero_after k q
  rule_of zero2432 e = (zero_rule 2432 4096 page).0 e

  -- and they say it
  test_of : (row : ℕ) → ((r : Rule) → last_row r ≤ row → Keeps r l p page) → field_test row l p page ≡ true
  test_of zero h = refl
  test_of (suc zero) h = refl
  test_of (suc (suc zero)) h =
      (count-rule page).1 (record { most = h length_most (omega arith); stamp_zero_is = h stamp_zero (omega arith) })
  test_of (suc (suc (suc zero))) h = (zero_rule 6 16 page).1 (h zero6 (omega arith))
  test_of (suc (suc (suc (suc zero)))) h =
      (window-rule l page).1
      (window-kept l p page
      (h length_most (omega arith))
      (h slots_below (omega arith))
      (h slots_apart (omega arith))
      (h zero_past (omega arith)))
  test_of (suc (suc (suc (suc (suc zero))))) h = (zero_rule 268 512 page).1 (h zero268 (omega arith))
  test_of (suc (suc (suc (suc (suc (suc zero)))))) h =
      (entries-rule l p page).1
      (entries-kept l p page
      (h flags_legal (omega arith))
      (h free_zero (omega arith))
      (h beyond_free (omega arith))
      (h block_below (omega arith))
      (h entry_zero (omega arith)))
  test_of (suc (suc (suc (suc (suc (suc (suc zero))))))) h = (zero_rule 2432 4096 page).1 (h zero2432 (omega arith))
  test_of (suc (suc (suc (suc (suc (suc (suc (suc row)))))))) h = refl

  -- whether a page keeps a rule is decided
  keeps_dec : (r : Rule) → Dec (Keeps r l p page)
  keeps_dec length_most = dec_le _ _
  keeps_dec stamp_zero = dec_if (ℕ_discrete _ _) (ℕ_discrete _ _)
  keeps_dec zero6 = dec_test (zero_rule 6 16 page)
  keeps_dec slots_below = dec_each 63 _ λ k. dec_if (dec_lt _ _) (dec_lt _ _)
  keeps_dec slots_apart =
      dec_same
      (λ h k m q s. h m s k q, λ h m s k q. h k m q s)
      (dec_each 63 (λ m. (k : ℕ) → k < m → m < count_of page → (slot_at page k).0 ≢ (slot_at page m).0) λ m.
      dec_each m _ λ k. dec_if (dec_lt _ _) (dec_if (ℕ_discrete _ _) (no λ x. x)))
  keeps_dec zero_past = dec_test (zero_rule (16 + 4 * count_of page) 268 page)
  keeps_dec zero268 = dec_test (zero_rule 268 512 page)
  keeps_dec flags_legal = dec_each 240 _ λ i. dec_test (flags_rule (entry_at page i).flags)
  keeps_dec free_zero = dec_each 240 _ λ i. dec_if (ℕ_discrete _ _) (ℕ_discrete _ _)
  keeps_dec beyond_free = dec_each 240 _ λ i. dec_if (dec_le _ _) (ℕ_discrete _ _)
  keeps_dec block_below = dec_each 240 _ λ i. dec_if (dec_if (ℕ_discrete _ _) (no λ x. x)) (dec_lt _ _)
  keeps_dec entry_zero =
      dec_each 240 _ λ i.
      dec_same
      (λ h k q s. h k s q, λ h k s q. h k q s)
      (dec_each 8 (λ k. 5 ≤ k → get_or (entry_part page i) k 0 ≡ 0) λ k. dec_if (dec_le _ _) (ℕ_discrete _ _))
  keeps_dec zero2432 = dec_test (zero_rule 2432 4096 page)

pub passes_exactly : PassesExactly
passes_exactly k l p page = (
  λ e r h. rule_of l p page r (fields_of l p page k e (last_row r) h),
  λ h. read_of l p page k λ row q. test_of l p page row λ r s. h r (omega arith),
)

-- the rules in a row
abbrev rules : List Rule
rules =
    length_most ∷ stamp_zero ∷ zero6 ∷ slots_below ∷ slots_apart ∷ zero_past ∷ zero268 ∷ flags_legal ∷ free_zero ∷ beyond_free
    ∷ block_below ∷ entry_zero ∷ zero2432 ∷ []

abbrev rule_at : ℕ → Rule
rule_at i = get_or rules i length_most

-- each is among them
listed-rule : (r : Rule) → (i : ℕ) × (i < 13) × (rule_at i ≡ r)
listed-rule length_most = (0, omega arith, refl)
listed-rule stamp_zero = (1, omega arith, refl)
listed-rule zero6 = (2, omega arith, refl)
listed-rule slots_below = (3, omega arith, refl)
listed-rule slots_apart = (4, omega arith, refl)
listed-rule zero_past = (5, omega arith, refl)
listed-rule zero268 = (6, omega arith, refl)
listed-rule flags_legal = (7, omega arith, refl)
listed-rule free_zero = (8, omega arith, refl)
listed-rule beyond_free = (9, omega arith, refl)
listed-rule block_below = (10, omega arith, refl)
listed-rule entry_zero = (11, omega arith, refl)
listed-rule zero2432 = (12, omega arith, refl)

module _ (k : ℕ) (l : Label) (p : ℕ) (page : List ℕ) where
  -- a rule of the rows read, as far as it is kept
  abbrev Kept : ℕ → Type 0
  Kept i = last_row (rule_at i) ≤ k → Keeps (rule_at i) l p page

  broken_of : read_down k l p page ≡ false → Broken k l p page
  broken_of e = go (each_or 13 Kept λ i. dec_if (dec_le (last_row (rule_at i)) k) (keeps_dec l p page (rule_at i)))
    where
      all : ((i : ℕ) → i < 13 → Kept i) → (r : Rule) → last_row r ≤ k → Keeps r l p page
      all h r = let at = listed-rule r in subst (λ (q : Rule). last_row q ≤ k → Keeps q l p page) at.2 (h at.0 at.1)

      which : (i : ℕ) → (Kept i → ⊥) → Dec (last_row (rule_at i) ≤ k) → Broken k l p page
      which i n (yes h) = record { rule = rule_at i; read = h; breaks = λ x. n (λ q. x) }
      which i n (no m) = absurd (n (λ q. absurd (m q)))

      go : ((i : ℕ) → i < 13 → Kept i) ⊎ ((i : ℕ) × (i < 13) × (Kept i → ⊥)) → Broken k l p page
      go (inl h) = clash ((passes_exactly k l p page).1 (all h)) e
      go (inr f) = which f.0 f.2 (dec_le (last_row (rule_at f.0)) k)

  refused_of : Told (read_down k l p page) → Broken k l p page → read_down k l p page ≡ false
  refused_of (told_true t) b = absurd (b.breaks ((passes_exactly k l p page).0 t b.rule b.read))
  refused_of (told_false f) b = f

pub refuses_exactly : RefusesExactly
refuses_exactly k l p page = (broken_of k l p page, refused_of k l p page (told (read_down k l p page)))
