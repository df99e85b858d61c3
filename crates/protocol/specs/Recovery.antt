-- What a reopening reads of the metadata pages: the newest window, the rules between pages, the table and the record
-- (document 01, "Reopen" and the rules under the page table).
use Rattle.std.specs.Prelude.{ℕ, suc, ◌%◌, Bool, true, false, not, ◌&&◌, ◌||◌, List, [], ◌∷◌, get_or, eqb, ltb}
use Rattle.std.specs.Prelude.{Option, Some, None}
use Rattle.pages.specs.Pages.{page_at}
use Rattle.layout.specs.declared.Slot.{Slot}
use Rattle.layout.specs.declared.Label.{Label}
use Rattle.layout.specs.declared.Entry.{Entry}
use Rattle.layout.specs.Places.{label_of, meta_pages, meta_of, entry_of, label_place}
use Rattle.layout.specs.LabelPage.{decode_label}
use Rattle.layout.specs.MetaPage.{stamp_of, window_of, entry_at, firsts, rows_from}
use Rattle.layout.specs.PageRule.{page_test, listed}
use Rattle.record.specs.declared.Record.{Record}
use Rattle.record.specs.declared.Phase.{Phase}
use Rattle.record.specs.declared.Phase.TheVariants.{Recovering, Ready}
use Rattle.protocol.specs.Rows.{valid, writing}
use Rattle.protocol.specs.Metadata.{read_meta}
use Rattle.record.specs.Record.{record_of}

-- the label of an SSD image (of one that has none, a label of nothing)
abbrev pub label_read : Option Label → Label
label_read (Some l) = l
label_read None = label_of 0 0

abbrev pub label_at : List ℕ → Label
label_at ssd = label_read (decode_label (page_at ssd label_place))

-- the M metadata pages of an SSD image
unfoldable pub metas_of : Label → List ℕ → List (List ℕ)
metas_of l ssd = firsts (meta_pages l) (read_meta l ssd)

-- the entry of a slot, in the metadata pages
unfoldable pub entry_in : List (List ℕ) → Slot → Entry
entry_in pages s = entry_at (get_or pages (meta_of s) []) (entry_of s)

-- the newest stamp and its window: of the page with the largest stamp
pub record Newest : Type 0 where
  pub stamp : ℕ
  pub window : List Slot

abbrev pub newer : Newest → List ℕ → Newest
newer n page = elim (ltb n.stamp (stamp_of page)) [ true ↦ record { stamp = stamp_of page; window = window_of page } | false ↦ n ]

unfoldable pub newest_from : Newest → List (List ℕ) → Newest
newest_from n [] = n
newest_from n (page ∷ pages) = newest_from (newer n page) pages

-- ("Stamp 0 goes with an empty window")
abbrev pub newest_of : List (List ℕ) → Newest
newest_of pages = newest_from (record { stamp = 0; window = [] }) pages

-- "newest stamp the largest stored": the largest that a store has spent, of the metadata pages and of an SSD image
abbrev pub spent_in : List (List ℕ) → ℕ
spent_in pages = (newest_of pages).stamp

abbrev pub spent_stamp : Label → List ℕ → ℕ
spent_stamp l ssd = spent_in (metas_of l ssd)

-- every page keeps its own rule
unfoldable pub each_legal : Label → ℕ → List (List ℕ) → Bool
each_legal l p [] = true
each_legal l p (page ∷ pages) = page_test l p page && each_legal l (suc p) pages

-- "other stamps differ between pages"
unfoldable pub stamp_in : ℕ → List (List ℕ) → Bool
stamp_in t [] = false
stamp_in t (page ∷ pages) = eqb t (stamp_of page) || stamp_in t pages

unfoldable pub stamps_differ : List (List ℕ) → Bool
stamps_differ [] = true
stamps_differ (page ∷ pages) = (eqb (stamp_of page) 0 || not (stamp_in (stamp_of page) pages)) && stamps_differ pages

-- "No block is in two entries": in the rows of the stored entries, no valid row's block is in a valid row after it
unfoldable pub block_in : ℕ → List ℕ → Bool
block_in b [] = false
block_in b (block ∷ []) = false
block_in b (block ∷ flags ∷ rows) = (valid flags && eqb block b) || block_in b rows

unfoldable pub none_twice : List ℕ → Bool
none_twice [] = true
none_twice (block ∷ []) = true
none_twice (block ∷ flags ∷ rows) = not (valid flags && block_in block rows) && none_twice rows

-- "Each slot in the newest stamp's window has a valid, writing entry"
unfoldable pub all_open_in : List (List ℕ) → List Slot → Bool
all_open_in pages [] = true
all_open_in pages (s ∷ w) = (valid (entry_in pages s).flags && writing (entry_in pages s).flags) && all_open_in pages w

-- the stored entries of all slots, as rows
abbrev pub stored_rows : Label → List (List ℕ) → List ℕ
stored_rows l pages = rows_from l.slots (λ s. entry_in pages (record { 0 = s }))

-- 5, of a reopening: every page's rule, and the rules between pages
unfoldable pub pages_test : Label → List (List ℕ) → Bool
pages_test l pages =
    each_legal l 0 pages
    && (stamps_differ pages && (none_twice (stored_rows l pages) && all_open_in pages (newest_of pages).window))

-- "An entry that is valid, writing and in the newest window is dropped (row zero, slot pending); every other valid entry
-- is kept with its dirty flag": flags 1 or 3
abbrev pub free_entry : Entry
free_entry = record { block = record { 0 = 0 }; flags = 0 }

abbrev pub recovered : List Slot → Slot → Entry → Entry
recovered w s e =
    elim (valid e.flags) [
      | true ↦ elim (writing e.flags && listed s w) [ true ↦ free_entry | false ↦ record { block = e.block; flags = e.flags % 4 } ]
      | false ↦ free_entry
    ]

-- "While any is pending the phase is mending .. Then ready"
abbrev pub phase_of : List Slot → Phase
phase_of [] = Ready
phase_of (s ∷ w) = Recovering

pub record Recovered : Type 0 where
  pub table : List ℕ
  pub state : Record

-- the table from the pages; "Hand 0, settled, newest stamp the largest stored" (`spent`). "The pending slots, in stored order, are the
-- record's window" (by 5 each slot of the newest window has a valid, writing entry)
unfoldable pub recover : Label → List (List ℕ) → ℕ → Recovered
recover l pages spent =
    let n = newest_of pages in
    record {
      table = rows_from l.slots (λ s. recovered n.window (record { 0 = s }) (entry_in pages (record { 0 = s })));
      state = record_of l (record { 0 = 0 }) spent (phase_of n.window) false n.window;
    }

-- a reopening after 2 and 4: nothing where the pages break a rule
abbrev pub recover_if : Bool → Label → List (List ℕ) → ℕ → Option Recovered
recover_if true l pages spent = Some (recover l pages spent)
recover_if false l pages spent = None

unfoldable pub recover_from : Label → List (List ℕ) → ℕ → Option Recovered
recover_from l pages spent = recover_if (pages_test l pages) l pages spent

-- the pending slots of other pages than p
unfoldable pub off_page : ℕ → List Slot → List Slot
off_page p [] = []
off_page p (s ∷ w) = elim (eqb (meta_of s) p) [ true ↦ off_page p w | false ↦ s ∷ off_page p w ]
