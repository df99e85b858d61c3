-- Metadata pages of 4 slots and 8 blocks that antt reads down to each row: a legal one, and one broken in each of rows 2 to 7.
use Prim.Native.Nat.{ℕ, ◌-◌}
use mathlib.Core.Path.{◌≡◌, refl}
use mathlib.Core.Bool.{Bool, true, false}
use mathlib.Core.List.{List, [], ◌∷◌, ◌++◌, map}
use lib.ListN.{set, replicate}
use Rattle.pages.specs.Pages.{padded}
use Rattle.pages.specs.Words.{le_bytes, le_number}
use Rattle.layout.specs.LabelPage.{all_zero}
use Rattle.layout.specs.MetaPage.{slots_bytes, entry_bytes, rows_bytes, encode_meta, stamp_of, count_of, slot_at, firsts, window_of, decode_entry}
use Rattle.layout.specs.Places.{label_of}
use Rattle.layout.specs.PageRule.{count_test, zero_test, listed, distinct, in_range, window_test, legal_flags, pair_test, entry_test, entries_from, entries_test, passes, read_down, page_test}

-- stamp 7, slots 0 and 3 in the window, block 5 open for writing in slot 0
abbrev pub legal_page : List ℕ
legal_page = encode_meta 7 (record { 0 = 0 } ∷ record { 0 = 3 } ∷ []) (5 ∷ 7 ∷ [])

-- the answers for rows 1 to 7
abbrev answers : List ℕ → List Bool
answers page = map (λ (k : ℕ). read_down k (label_of 4 8) 0 page) (1 ∷ 2 ∷ 3 ∷ 4 ∷ 5 ∷ 6 ∷ 7 ∷ [])

-- the first n rows pass
abbrev pass : ℕ → List Bool
pass n = replicate n true ++ replicate (7 - n) false

-- legal; stamp 0 with a window; byte 6; a slot out of range; byte 268; flags 2; byte 2432
row_cases : (answers legal_page ≡ pass 7) × (answers (set legal_page 0 0) ≡ pass 1) × (answers (set legal_page 6 1) ≡ pass 2)
    × (answers (set legal_page 20 4) ≡ pass 3) × (answers (set legal_page 268 1) ≡ pass 4) × (answers (set legal_page 516 2) ≡ pass 5)
    × (answers (set legal_page 2432 1) ≡ pass 6)
unfolding padded le_bytes le_number all_zero slots_bytes entry_bytes rows_bytes encode_meta stamp_of count_of slot_at firsts window_of decode_entry
    count_test zero_test listed distinct in_range window_test legal_flags pair_test entry_test entries_from entries_test passes
row_cases = (refl, refl, refl, refl, refl, refl, refl)

pub legal-passes : page_test (label_of 4 8) 0 legal_page ≡ true
unfolding padded le_bytes le_number all_zero slots_bytes entry_bytes rows_bytes encode_meta stamp_of count_of slot_at firsts window_of decode_entry
    count_test zero_test listed distinct in_range window_test legal_flags pair_test entry_test entries_from entries_test passes page_test
legal-passes = refl
