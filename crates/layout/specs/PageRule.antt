-- The rule of a single metadata page: a test for each row of document 01's page table, in its order, and beside each the
-- proposition in document 01's words. (Rules between pages are no part of it.)
use Rattle.std.specs.Prelude.{ℕ, zero, suc, ◌+◌, ◌-◌, ◌*◌, ◌≤◌, ◌<◌, ◌≡◌, ◌≢◌, ◌⊎◌, Bool, true, false, not, ◌&&◌, ◌||◌, List, [], ◌∷◌, get_or, take, drop, eqb, ltb, leb}
use Rattle.layout.specs.declared.Slot.{Slot}
use Rattle.layout.specs.declared.Label.{Label}
use Rattle.layout.specs.Places.{slot_on}
use Rattle.layout.specs.LabelPage.{all_zero}
use Rattle.layout.specs.Window.{window_most}
use Rattle.layout.specs.MetaPage.{stamp_of, count_of, slot_at, window_of, entry_part, decode_entry}

-- 4..5: "window length, 0 to 63"; "Stamp 0 goes with an empty window"
unfoldable pub count_test : List ℕ → Bool
count_test page = leb (count_of page) window_most && (not (eqb (stamp_of page) 0) || eqb (count_of page) 0)

pub record CountRule (page : List ℕ) : Type 0 where
  pub most : count_of page ≤ 63
  pub stamp_zero_is : stamp_of page ≡ 0 → count_of page ≡ 0

-- 6..15, 268..511, 2432..4095: "zero"
unfoldable pub zero_test : ℕ → ℕ → List ℕ → Bool
zero_test from to page = all_zero (take (to - from) (drop from page))

abbrev pub ZeroRule : ℕ → ℕ → List ℕ → Type 0
ZeroRule from to page = (k : ℕ) → from ≤ k → k < to → get_or page k 0 ≡ 0

-- 16..267: "zero past the length"; "Window slots are in range and distinct"
unfoldable pub listed : Slot → List Slot → Bool
listed s [] = false
listed s (t ∷ window) = eqb s.0 t.0 || listed s window

unfoldable pub distinct : List Slot → Bool
distinct [] = true
distinct (s ∷ window) = not (listed s window) && distinct window

unfoldable pub in_range : Label → List Slot → Bool
in_range l [] = true
in_range l (s ∷ window) = ltb s.0 l.slots && in_range l window

unfoldable pub window_test : Label → List ℕ → Bool
window_test l page = in_range l (window_of page) && (distinct (window_of page) && zero_test (16 + 4 * count_of page) 268 page)

pub record WindowRule (l : Label) (page : List ℕ) : Type 0 where
  pub in_range_is : (k : ℕ) → k < count_of page → (slot_at page k).0 < l.slots
  pub apart : (k m : ℕ) → k < m → m < count_of page → (slot_at page k).0 ≢ (slot_at page m).0
  pub zero_past_lem : ZeroRule (16 + 4 * count_of page) 268 page

-- 512..2431: "Stored flags: 1 valid, 2 dirty, 4 writing; legal sums 0, 1, 3, 5, 7"
unfoldable pub legal_flags : ℕ → Bool
legal_flags f = eqb f 0 || (eqb f 1 || (eqb f 3 || (eqb f 5 || eqb f 7)))

abbrev pub LegalFlags : ℕ → Type 0
LegalFlags f = (f ≡ 0) ⊎ ((f ≡ 1) ⊎ ((f ≡ 3) ⊎ ((f ≡ 5) ⊎ (f ≡ 7))))

-- the rule of a block and stored flags, which "table rows keep too": legal flags; "An entry with flags 0 is all zero";
-- "A valid entry's block is below `blocks`"
unfoldable pub pair_test : Label → ℕ → ℕ → Bool
pair_test l block flags = legal_flags flags && ((not (eqb flags 0) || eqb block 0) && (eqb flags 0 || ltb block l.blocks))

pub record PairRule (l : Label) (block flags : ℕ) : Type 0 where
  pub legal : LegalFlags flags
  pub free : flags ≡ 0 → block ≡ 0
  pub below : flags ≢ 0 → block < l.blocks

-- an entry's own 8 bytes: that rule; "zero (3)"; all zero "beyond the last slot"
unfoldable pub entry_test : Label → Slot → List ℕ → Bool
entry_test l s part =
    pair_test l (decode_entry part).block.0 (decode_entry part).flags
    && (all_zero (drop 5 part) && (ltb s.0 l.slots || eqb (decode_entry part).flags 0))

pub record EntryRule (l : Label) (s : Slot) (part : List ℕ) : Type 0 where
  pub pair : PairRule l (decode_entry part).block.0 (decode_entry part).flags
  pub zero_after : (k : ℕ) → 5 ≤ k → get_or part k 0 ≡ 0
  pub beyond : l.slots ≤ s.0 → (decode_entry part).flags ≡ 0

-- the entries of n slots from s on, each in its own 8 of the bytes
unfoldable pub entries_from : Label → Slot → ℕ → List ℕ → Bool
entries_from l s zero bytes = true
entries_from l s (suc n) bytes = entry_test l s (take 8 bytes) && entries_from l (record { 0 = suc s.0 }) n (drop 8 bytes)

-- "page p holding slots 240p to 240p+239"
unfoldable pub entries_test : Label → ℕ → List ℕ → Bool
entries_test l p page = entries_from l (slot_on p 0) 240 (drop 512 page)

abbrev pub EntriesRule : Label → ℕ → List ℕ → Type 0
EntriesRule l p page = (i : ℕ) → i < 240 → EntryRule l (slot_on p i) (entry_part page i)

-- A test for each row of the page table, in its order (the stamp alone has no rule), and the page's rule: all of them.
abbrev pub RowTest : Type 0
RowTest = Label → ℕ → List ℕ → Bool

abbrev pub row_tests : List RowTest
row_tests =
    (λ l p page. true)
    ∷ (λ l p page. count_test page)
    ∷ (λ l p page. zero_test 6 16 page)
    ∷ (λ l p page. window_test l page)
    ∷ (λ l p page. zero_test 268 512 page)
    ∷ (λ l p page. entries_test l p page)
    ∷ (λ l p page. zero_test 2432 4096 page)
    ∷ []

unfoldable pub passes : List RowTest → Label → ℕ → List ℕ → Bool
passes [] l p page = true
passes (test ∷ tests) l p page = elim (test l p page) [ true ↦ passes tests l p page | false ↦ false ]

-- the first k rows, one after the other: "The reading should take the fields in the order of that table" (document 02, N4)
abbrev pub read_down : ℕ → RowTest
read_down k l p page = passes (take k row_tests) l p page

-- the test of one row, the rows counted from 1; there are no others
abbrev pub field_test : ℕ → RowTest
field_test zero l p page = true
field_test (suc row) l p page = get_or row_tests row (λ l p page. true) l p page

unfoldable pub page_test : Label → ℕ → List ℕ → Bool
page_test l p page = read_down 7 l p page

-- the same, in document 01's words
pub record PageRule (l : Label) (p : ℕ) (page : List ℕ) : Type 0 where
  pub count : CountRule page
  pub zero_6 : ZeroRule 6 16 page
  pub window : WindowRule l page
  pub zero_268 : ZeroRule 268 512 page
  pub entries : EntriesRule l p page
  pub zero_2432 : ZeroRule 2432 4096 page
