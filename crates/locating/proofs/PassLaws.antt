-- One pass for a list: what a row adds to the word of a listed block.
use Prim.Native.Nat.{ℕ, suc, ◌+◌, ◌*◌, ◌≤◌, ◌<◌}
use mathlib.Core.Path.{◌≡◌, sym, ap, ◌∙◌}
use mathlib.Core.Logic.{◌≢◌}
use mathlib.Core.Bool.{Bool, true, false, cond}
use mathlib.Core.List.{List}
use Rattle.std.specs.Prelude.{Some}
use native.Mathlib.Omega.{arith}
use native.Mathlib.Decide.{ℕ_discrete}
use native.Mathlib.Numerals.{add-one}
use lib.ListN.{length, get_or, drop, drop_of_length-le}
use borrow.Author.Tests.{ne_eqb}
use Rattle.layout.specs.declared.Block.{Block}
use Rattle.protocol.specs.Condition.{slot_from}
use Rattle.table.specs.Scan.{holds_in}
use Rattle.table.proofs.RowLaws.{rows_from_lem}
use Rattle.locating.specs.Places.{place_word, or_found, met_as}

-- what was found stays; nothing found, nothing added
found_stays : (w : ℕ) → w ≢ 0 → (y : ℕ) → or_found w y ≡ w
found_stays w n y = ap (λ (t : Bool). cond t y w) (ne_eqb w 0 n)

none_added : (w : ℕ) → w ≡ or_found w 0
none_added w = go (ℕ_discrete w 0)
  where
    go : Dec (w ≡ 0) → w ≡ or_found w 0
    go (yes e) = rw e
    go (no n) = sym (found_stays w n 0)

-- the rows from i on, and a row more
module _ (t : List ℕ) (b : Block) (i w : ℕ) where
  pub row_more : 2 * i + 1 < length t
      → or_found (met_as w b.0 (get_or t (2 * i) 0) (get_or t (2 * i + 1) 0) (i + 1)) (place_word (slot_from (i + 1) (drop (2 * (i + 1)) t) b))
      ≡ or_found w (place_word (slot_from i (drop (2 * i) t) b))
  unfolding slot_from
  row_more h =
      sym (ap (λ (l : List ℕ). or_found w (place_word (slot_from i l b))) (rows_from_lem t i h)
      ∙ go (holds_in (get_or t (2 * i) 0) (get_or t (2 * i + 1) 0) b.0) (ℕ_discrete w 0))
    where
      kept : w ≢ 0 → (r z q : ℕ) → or_found w r ≡ or_found (or_found w z) q
      kept n r z q = found_stays w n r ∙ sym (ap (λ (v : ℕ). or_found v q) (found_stays w n z) ∙ found_stays w n q)

      go : (c : Bool) → Dec (w ≡ 0)
          → or_found w (place_word (elim c [ true ↦ Some (record { 0 = i }) | false ↦ slot_from (suc i) (drop (2 * (i + 1)) t) b ]))
          ≡ or_found (or_found w (cond c (i + 1) 0)) (place_word (slot_from (i + 1) (drop (2 * (i + 1)) t) b))
      go true (yes e) = rw (e, ne_eqb (i + 1) 0 (omega arith))
      go true (no n) = kept n _ _ _
      go false (yes e) = rw (e, add-one i)
      go false (no n) = kept n _ _ _

  pub rows_end_is : length t ≤ 2 * i → w ≡ or_found w (place_word (slot_from i (drop (2 * i) t) b))
  unfolding slot_from
  rows_end_is h = none_added w ∙ ap (λ (l : List ℕ). or_found w (place_word (slot_from i l b))) (sym (drop_of_length-le t {i = 2 * i} h))
