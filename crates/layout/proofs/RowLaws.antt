-- A page read down, row by row.
use Prim.Native.Nat.{ℕ, zero, suc, ◌+◌, ◌-◌, ◌≤◌}
use mathlib.Core.Path.{◌≡◌, refl, sym, ap, ◌∙◌}
use mathlib.Core.Bool.{Bool, true, false, ◌&&◌}
use mathlib.Core.List.{List, ◌∷◌, []}
use native.Mathlib.Decide.{dec_le}
use native.Mathlib.Omega.{arith}
use native.Mathlib.Nat.{add-zero}
use native.Mathlib.Numerals.{add-one}
use lib.ListN.{get_or, take}
use lib.Seq.{take_all}
use Rattle.layout.specs.declared.Label.{Label}
use Rattle.layout.specs.PageRule.{RowTest, row_tests, passes, read_down, field_test}
use Rattle.layout.proofs.Booleans.{and_of, and_parts, and_last, and_assoc, halt}
use Rattle.layout.proofs.RuleLaws.{passes_cons}

module _ (l : Label) (p : ℕ) (page : List ℕ) where
  passes_next : (ts : List RowTest) (k : ℕ)
      → passes (take (suc k) ts) l p page ≡ (passes (take k ts) l p page && get_or ts k (λ l p page. true) l p page)
  unfolding passes
  passes_next [] zero = refl
  passes_next [] (suc k) = refl
  passes_next (t ∷ ts) zero = passes_cons t [] l p page ∙ sym (and_last _)
  passes_next (t ∷ ts) (suc k) =
      passes_cons t (take (suc k) ts) l p page
      ∙ ap (λ (b : Bool). t l p page && b) (passes_next ts k)
      ∙ sym (and_assoc (t l p page) (passes (take k ts) l p page) _)
      ∙ ap (λ (b : Bool). b && get_or ts k (λ l p page. true) l p page) (sym (passes_cons t (take k ts) l p page))

  -- a row more
  pub read_next : (row : ℕ) → read_down (row + 1) l p page ≡ (read_down row l p page && field_test (row + 1) l p page)
  read_next row = rw add-one (passes_next row_tests row)

  -- refused, it stays refused
  read-refused : (row more : ℕ) → read_down row l p page ≡ false → read_down (row + more) l p page ≡ false
  read-refused row zero e = rw add-zero e
  read-refused row (suc more) e =
      let n : row + suc more ≡ row + more + 1 = omega arith in
      rw n (read_next (row + more) ∙ halt _ (read-refused row more e))

  pub read_more : (k rows : ℕ) → k ≤ rows → read_down k l p page ≡ false → read_down rows l p page ≡ false
  read_more k rows h e = let n : k + (rows - k) ≡ rows = omega arith in rw n at (read-refused k (rows - k) e)

  -- there are seven rows
  pub read_all : (rows : ℕ) → 7 ≤ rows → read_down rows l p page ≡ read_down 7 l p page
  read_all rows h = ap (λ (ts : List RowTest). passes ts l p page) (take_all rows row_tests h)

  -- it passes exactly if each of the rows does
  pub fields_of : (k : ℕ) → read_down k l p page ≡ true → (row : ℕ) → row ≤ k → field_test row l p page ≡ true
  fields_of k e zero h = refl
  fields_of zero e (suc row) h = absurd (omega arith)
  fields_of (suc k) e (suc row) h = go (dec_le (suc row) k) (fields_of k parts.0 (suc row))
    where
      parts : (read_down k l p page ≡ true) × (field_test (suc k) l p page ≡ true)
      parts = and_parts _ _ (sym (passes_next row_tests k) ∙ e)

      go : Dec (suc row ≤ k) → (suc row ≤ k → field_test (suc row) l p page ≡ true) → field_test (suc row) l p page ≡ true
      go (yes q) before = before q
      go (no q) before = let s : row ≡ k = omega arith in rw s parts.1

  pub read_of : (k : ℕ) → ((row : ℕ) → row ≤ k → field_test row l p page ≡ true) → read_down k l p page ≡ true
  unfolding passes
  read_of zero h = refl
  read_of (suc k) h = passes_next row_tests k ∙ and_of (read_of k (λ row q. h row (omega arith))) (h (suc k) (omega arith))

  -- passed, it passes down to each row before
  pub read_less : (k rows : ℕ) → rows ≤ k → read_down k l p page ≡ true → read_down rows l p page ≡ true
  read_less k rows h e = read_of rows (λ row q. fields_of k e row (omega arith))
