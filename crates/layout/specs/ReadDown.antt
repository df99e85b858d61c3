-- A metadata page read down to a row of document 01's page table (document 02, N4): the rules of a single page in document 01's
-- words, each with its last row beside it, and what is proved of the reading for each row. Rows are counted from 1.
use Rattle.std.specs.Prelude.{ℕ, ◌+◌, ◌-◌, ◌*◌, ◌≤◌, ◌<◌, ◌≡◌, ◌≢◌, ◌↔◌, true, false, List, [], ◌∷◌, get_or, take}
use Rattle.pages.specs.Pages.{IsPage}
use Rattle.layout.specs.declared.Label.{Label}
use Rattle.layout.specs.Places.{slot_on}
use Rattle.layout.specs.MetaPage.{stamp_of, count_of, slot_at, entry_part, entry_at}
use Rattle.layout.specs.PageRule.{ZeroRule, LegalFlags, PageRule, read_down}

-- where the first k rows end: 0..3, 4..5, 6..15, 16..267, 268..511, 512..2431, 2432..4095
abbrev pub rows_end : ℕ → ℕ
rows_end k = get_or (0 ∷ 4 ∷ 6 ∷ 16 ∷ 268 ∷ 512 ∷ 2432 ∷ []) k 4096

-- "a rule of a single page": rules between pages are no part of it
pub data Rule : Type 0 where
  length_most stamp_zero zero6 slots_below slots_apart zero_past zero268 : Rule
  flags_legal free_zero beyond_free block_below entry_zero zero2432 : Rule

-- each with the last row in which a field of it stands; the window has 63 places, page p the entries of slots 240p to 240p+239
pub record Stated : Type 1 where
  pub row : ℕ
  pub keeps : Label → ℕ → List ℕ → Type 0

abbrev pub stated : Rule → Stated
-- "window length, 0 to 63"
stated length_most = record { row = 2; keeps = λ l p page. count_of page ≤ 63 }
-- "Stamp 0 goes with an empty window"
stated stamp_zero = record { row = 2; keeps = λ l p page. stamp_of page ≡ 0 → count_of page ≡ 0 }
-- "6..15: zero"
stated zero6 = record { row = 3; keeps = λ l p page. ZeroRule 6 16 page }
-- "Window slots are in range and distinct"
stated slots_below = record { row = 4; keeps = λ l p page. (k : ℕ) → k < 63 → k < count_of page → (slot_at page k).0 < l.slots }
stated slots_apart = record {
  row = 4;
  keeps = λ l p page. (k m : ℕ) → k < m → m < 63 → m < count_of page → (slot_at page k).0 ≢ (slot_at page m).0;
}
-- "zero past the length"
stated zero_past = record { row = 4; keeps = λ l p page. ZeroRule (16 + 4 * count_of page) 268 page }
-- "268..511: zero"
stated zero268 = record { row = 5; keeps = λ l p page. ZeroRule 268 512 page }
-- "legal sums 0, 1, 3, 5, 7"
stated flags_legal = record { row = 6; keeps = λ l p page. (i : ℕ) → i < 240 → LegalFlags (entry_at page i).flags }
-- "An entry with flags 0 is all zero": its block; its last three bytes are zero in any entry, by `entryZero`
stated free_zero = record { row = 6; keeps = λ l p page. (i : ℕ) → i < 240 → (entry_at page i).flags ≡ 0 → (entry_at page i).block.0 ≡ 0 }
-- "as are entries beyond the last slot": their flags are 0
stated beyond_free = record { row = 6; keeps = λ l p page. (i : ℕ) → i < 240 → l.slots ≤ (slot_on p i).0 → (entry_at page i).flags ≡ 0 }
-- "A valid entry's block is below `blocks`"
stated block_below = record {
  row = 6;
  keeps = λ l p page. (i : ℕ) → i < 240 → (entry_at page i).flags ≢ 0 → (entry_at page i).block.0 < l.blocks;
}
-- "block (4), flags (1), zero (3)"
stated entry_zero = record {
  row = 6;
  keeps = λ l p page. (i : ℕ) → i < 240 → (k : ℕ) → 5 ≤ k → k < 8 → get_or (entry_part page i) k 0 ≡ 0;
}
-- "2432..4095: zero"
stated zero2432 = record { row = 7; keeps = λ l p page. ZeroRule 2432 4096 page }

abbrev pub last_row : Rule → ℕ
last_row r = (stated r).row

abbrev pub Keeps : Rule → Label → ℕ → List ℕ → Type 0
Keeps r = (stated r).keeps

-- "To be proved of it, for each row: read down to there, a page is refused exactly if it breaks a rule of a single page whose fields all
-- stand in the rows read so far, whatever follows."

-- such a rule that a page breaks
pub record Broken (k : ℕ) (l : Label) (p : ℕ) (page : List ℕ) : Type 0 where
  pub rule : Rule
  pub read : last_row rule ≤ k
  pub breaks : Keeps rule l p page → ⊥

abbrev pub RefusesExactly : Type 0
RefusesExactly = (k : ℕ) (l : Label) (p : ℕ) (page : List ℕ) → (read_down k l p page ≡ false) ↔ Broken k l p page

-- it passes exactly if it keeps each of them
abbrev pub PassesExactly : Type 0
PassesExactly =
    (k : ℕ) (l : Label) (p : ℕ) (page : List ℕ) → (read_down k l p page ≡ true) ↔ ((r : Rule) → last_row r ≤ k → Keeps r l p page)

-- whatever follows: two pages that agree on the bytes of the first k rows are judged alike
abbrev pub WhateverFollows : Type 0
WhateverFollows =
    (k : ℕ) (l : Label) (p : ℕ) (a b : List ℕ) → take (rows_end k) a ≡ take (rows_end k) b → read_down k l p a ≡ read_down k l p b

-- The row beside a rule is the last that it speaks of: the bytes down to there decide whether it is kept,
abbrev pub StandsIn : Type 0
StandsIn =
    (r : Rule) (l : Label) (p : ℕ) (a b : List ℕ) → take (rows_end (last_row r)) a ≡ take (rows_end (last_row r)) b → Keeps r l p a
    → Keeps r l p b

-- and those of the rows before it don't: of two pages that agree there, one keeps it and one breaks it
pub record Undecided (r : Rule) : Type 0 where
  pub label : Label
  pub number : ℕ
  pub keeping : List ℕ
  pub breaking : List ℕ
  pub pages : IsPage keeping × IsPage breaking
  pub alike : take (rows_end (last_row r - 1)) keeping ≡ take (rows_end (last_row r - 1)) breaking
  pub kept : Keeps r label number keeping
  pub broken : Keeps r label number breaking → ⊥

abbrev pub NotBefore : Type 0
NotBefore = (r : Rule) → Undecided r

-- They are all the rules of a single page.
abbrev pub WholePage : Type 0
WholePage = (l : Label) (p : ℕ) (page : List ℕ) → PageRule l p page ↔ ((r : Rule) → Keeps r l p page)
