-- The row beside a rule is not too late: for each rule two pages that agree on the rows before it, one that keeps it and one that doesn't.
use Prim.Native.Nat.{ℕ, zero, suc, ◌-◌, ◌≤◌, ◌<◌}
use mathlib.Core.Path.{◌≡◌, refl, sym, ◌∙◌}
use mathlib.Core.Logic.{inl, inr}
use mathlib.Core.Bool.{Bool, true, ◌&&◌}
use mathlib.Core.List.{List, [], ◌∷◌}
use native.Mathlib.Decide.{dec_lt, ℕ_discrete}
use native.Mathlib.Omega.{arith}
use lib.Dec.{ltb, lit<, lit≤}
use lib.ListN.{length, get_or, set, length-set}
use lib.Seq.{take-set-le, get_or-set_same, get_or-set_other, set_out}
use borrow.Author.Tests.{ltb-true}
use Rattle.pages.specs.Pages.{padded, IsPage}
use Rattle.pages.specs.Words.{le_bytes, le_number}
use Rattle.layout.specs.MetaPage.{slots_bytes, entry_bytes, rows_bytes, encode_meta, stamp_of, count_of, slot_at, entry_part, decode_entry}
use Rattle.layout.specs.Places.{label_of}
use Rattle.layout.specs.PageRule.{LegalFlags}
use Rattle.layout.specs.ReadDown.{Rule, rows_end, last_row, Keeps, Undecided, NotBefore}
use Rattle.layout.specs.ReadDown.Rule.{length_most, stamp_zero, zero6, slots_below, slots_apart, zero_past, zero268, flags_legal, free_zero, beyond_free, block_below, entry_zero, zero2432}
use Rattle.layout.proofs.Booleans.{and_parts}
use Rattle.layout.proofs.RuleLaws.{page-rule}
use Rattle.layout.proofs.RowCases.{legal_page, legal-passes}
use Rattle.layout.proofs.WholePage.{whole-page}

-- bytes
unfoldable small : List ℕ → Bool
small [] = true
small (b ∷ bytes) = ltb b 256 && small bytes

small_get : (bytes : List ℕ) → small bytes ≡ true → (k : ℕ) → get_or bytes k 0 < 256
unfolding small
small_get [] e k = omega arith
small_get (b ∷ bytes) e zero = ltb-true b 256 (and_parts (ltb b 256) (small bytes) e).0
small_get (b ∷ bytes) e (suc k) = small_get bytes (and_parts (ltb b 256) (small bytes) e).1 k

legal_is_page : IsPage legal_page
unfolding small padded le_bytes slots_bytes entry_bytes rows_bytes encode_meta
legal_is_page = record { size = refl; bytes = small_get legal_page refl }

set_is_page : (page : List ℕ) (i v : ℕ) → v < 256 → IsPage page → IsPage (set page i v)
set_is_page page i v h ok = record { size = length-set page i v ∙ ok.size; bytes = λ k. go k (ℕ_discrete k i) (dec_lt i (length page)) }
  where
    go : (k : ℕ) → Dec (k ≡ i) → Dec (i < length page) → get_or (set page i v) k 0 < 256
    go k (no n) d = rw (get_or-set_other page i k v 0 n) (ok.bytes k)
    go k (yes e) (yes q) = rw (e, get_or-set_same page i v 0 q) h
    go k (yes e) (no q) = rw (set_out page i v (omega arith)) (ok.bytes k)

-- a byte of the legal page is changed: rules and rows before it are as they were
changed : (r : Rule) (i v : ℕ) → rows_end (last_row r - 1) ≤ i → v < 256 → (Keeps r (label_of 4 8) 0 (set legal_page i v) → ⊥) → Undecided r
changed r i v h q n = record {
  label = label_of 4 8;
  number = 0;
  keeping = legal_page;
  breaking = set legal_page i v;
  pages = (legal_is_page, set_is_page legal_page i v q legal_is_page);
  alike = sym (take-set-le (rows_end (last_row r - 1)) legal_page i v h);
  kept = (whole-page (label_of 4 8) 0 legal_page).0 ((page-rule (label_of 4 8) 0 legal_page).0 legal-passes) r;
  broken = n;
}

no_flags : LegalFlags 2 → ⊥
no_flags (inl e) = omega arith
no_flags (inr (inl e)) = omega arith
no_flags (inr (inr (inl e))) = omega arith
no_flags (inr (inr (inr (inl e)))) = omega arith
no_flags (inr (inr (inr (inr e)))) = omega arith

one_zero : ◌≡◌ {A = ℕ} 1 0 → ⊥
one_zero e = omega (arith, e)

pub not-before : NotBefore
unfolding padded le_bytes le_number slots_bytes entry_bytes rows_bytes encode_meta stamp_of count_of slot_at entry_part decode_entry
not-before length_most = changed length_most 4 64 (omega arith) (omega arith) λ h. absurd (omega (arith, h))
not-before stamp_zero = record {
  label = label_of 4 8;
  number = 0;
  keeping = set (set legal_page 0 0) 4 0;
  breaking = set legal_page 0 0;
  pages = (
    set_is_page (set legal_page 0 0) 4 0 (omega arith) (set_is_page legal_page 0 0 (omega arith) legal_is_page),
    set_is_page legal_page 0 0 (omega arith) legal_is_page,
  );
  alike = take-set-le (rows_end (last_row stamp_zero - 1)) (set legal_page 0 0) 4 0 (omega arith);
  kept = λ e. refl;
  broken = λ h. absurd (omega (arith, h refl));
}
not-before zero6 = changed zero6 6 1 (omega arith) (omega arith) λ h. one_zero (h 6 (omega arith) (omega arith))
not-before slots_below = changed slots_below 20 4 (omega arith) (omega arith) λ h. absurd (omega (arith, h 1 (omega arith) (lit< tt)))
not-before slots_apart = changed slots_apart 20 0 (omega arith) (omega arith) λ h. h 0 1 (omega arith) (omega arith) (lit< tt) refl
not-before zero_past = changed zero_past 24 1 (omega arith) (omega arith) λ h. one_zero (h 24 (lit≤ tt) (omega arith))
not-before zero268 = changed zero268 268 1 (omega arith) (omega arith) λ h. one_zero (h 268 (omega arith) (omega arith))
not-before flags_legal = changed flags_legal 516 2 (omega arith) (omega arith) λ h. no_flags (h 0 (omega arith))
not-before free_zero = changed free_zero 516 0 (omega arith) (omega arith) λ h. absurd (omega (arith, h 0 (omega arith) refl))
not-before beyond_free = changed beyond_free 548 1 (omega arith) (omega arith) λ h. one_zero (h 4 (omega arith) (lit≤ tt))
not-before block_below = changed block_below 512 8 (omega arith) (omega arith) λ h.
    absurd (omega (arith, h 0 (omega arith) (λ e. omega (arith, e))))
not-before entry_zero = changed entry_zero 517 1 (omega arith) (omega arith) λ h. one_zero (h 0 (omega arith) 5 (omega arith) (omega arith))
not-before zero2432 = changed zero2432 2432 1 (omega arith) (omega arith) λ h. one_zero (h 2432 (omega arith) (omega arith))
