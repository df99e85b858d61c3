-- Why a call says no, in the documents' words and with no definition of Judge: which numbers belong to which call, and the
-- condition of each as a proposition.
use Rattle.std.specs.Prelude.{ℕ, ◌+◌, ◌*◌, ◌%◌, ◌≤◌, ◌<◌, ◌≡◌, ◌≢◌, ◌⊎◌, Bool, true, false, List, [], ◌∷◌, length, get_or, eqb}
use Rattle.pages.specs.Pages.{page_at}
use Rattle.layout.specs.declared.Slot.{Slot}
use Rattle.layout.specs.declared.Block.{Block}
use Rattle.layout.specs.declared.Label.{Label}
use Rattle.layout.specs.Places.{Limits, label_place, ssd_length, hdd_length, table_length}
use Rattle.layout.specs.LabelPage.{encode_label}
use Rattle.layout.specs.MetaPage.{stamp_of, count_of, slot_at}
use Rattle.layout.specs.PageRule.{PageRule, PairRule, listed}
use Rattle.record.specs.declared.Record.{Record}
use Rattle.record.specs.declared.Phase.{Phase}
use Rattle.record.specs.declared.Phase.TheVariants.{Formatting, Recovering, Ready}
use Rattle.protocol.specs.Rows.{row_block, row_flags, valid, dirty, writing, used}
use Rattle.record.specs.Record.{label_in, window_in}
use Rattle.record.specs.Rule.{RecordRule}
use Rattle.protocol.specs.Box.{Box}
use Rattle.protocol.specs.Plan.{Call, format, step, flush, reopen, offer, fetch, land_fetch, look_up, view, write_back, land, look_up_list, offer_list, ask, slot_map, cost, first_block, plan, stores_meta, format_label}
use Rattle.protocol.specs.Recovery.{label_at, metas_of, entry_in}

-- 2: the first page is the page of a label within the limits
pub record HasLabel (ssd : List ℕ) : Type 0 where
  pub label : Label
  pub limits : Limits label
  pub whole : 4096 ≤ length ssd
  pub page : page_at ssd label_place ≡ encode_label label

-- 4, by a label; a landed page beside it
pub record Lengths (l : Label) (x : Box) : Type 0 where
  pub ssd_length_is : length x.images.ssd ≡ ssd_length l
  pub hdd_length_is : length x.images.hdd ≡ hdd_length l
  pub table_length_is : length x.table ≡ table_length l

pub record LandLengths (page : List ℕ) (x : Box) : Type 0 where
  pub box : Lengths (label_in x.state) x
  pub page-length : length page ≡ 4096

-- 4 (document 02, N8): the scratch table is "as long as the table"
pub record CostLengths (scratch : ℕ) (x : Box) : Type 0 where
  pub box : Lengths (label_in x.state) x
  pub scratch-length : scratch ≡ length x.table

-- the table has a row for the slot
abbrev pub IsRow : List ℕ → Slot → Type 0
IsRow table s = 2 * s.0 + 1 < length table

-- 5: "Table rows keep these entry rules too"; flags "as stored, plus 8 for used (only with valid)"
pub record RowRule (l : Label) (block flags : ℕ) : Type 0 where
  pub pair : PairRule l block (flags % 8)
  pub no_more : flags < 16
  pub used-valid : used flags ≡ true → valid flags ≡ true

-- 5: "In the ready phase the window lists the open slots .., which are exactly the rows with the writing flag. While
-- mending it is not empty, its rows are zero and no row is writing; while formatting it is empty and every row is zero."
pub record ReadyAgree (table : List ℕ) (w : List Slot) : Type 0 where
  pub listed_open : (s : Slot) → listed s w ≡ true → writing (row_flags table s) ≡ true
  pub open_listed : (s : Slot) → IsRow table s → writing (row_flags table s) ≡ true → listed s w ≡ true

pub record RecoveringAgree (table : List ℕ) (w : List Slot) : Type 0 where
  pub some_pending : w ≢ []
  pub pending_zero : (s : Slot) → listed s w ≡ true → ((row_block table s).0 ≡ 0) × (row_flags table s ≡ 0)
  pub none_writing : (s : Slot) → IsRow table s → writing (row_flags table s) ≡ false

pub record FormattingAgree (table : List ℕ) (w : List Slot) : Type 0 where
  pub none_listed : w ≡ []
  pub all_zero_is : (s : Slot) → IsRow table s → ((row_block table s).0 ≡ 0) × (row_flags table s ≡ 0)

abbrev pub Agree : Phase → List ℕ → List Slot → Type 0
Agree Ready table w = ReadyAgree table w
Agree Recovering table w = RecoveringAgree table w
Agree (Formatting d) table w = FormattingAgree table w

pub record RowsRule (r : Record) (table : List ℕ) : Type 0 where
  pub each : (s : Slot) → IsRow table s → RowRule (label_in r) (row_block table s).0 (row_flags table s)
  pub agree : Agree r.phase table (window_in r)

-- 5, of a reopening: each metadata page keeps its rule; "other stamps differ between pages"; "No block is in two entries";
-- "Each slot in the newest stamp's window has a valid, writing entry"
pub record PagesRule (l : Label) (pages : List (List ℕ)) : Type 0 where
  pub each : (p : ℕ) → p < length pages → PageRule l p (get_or pages p [])
  pub stamps : (p q : ℕ) → p < q → q < length pages → stamp_of (get_or pages p []) ≢ 0 → stamp_of (get_or pages p []) ≢ stamp_of (get_or pages q [])
  pub once : (s t : Slot) → s.0 < t.0 → t.0 < l.slots → valid (entry_in pages s).flags ≡ true → valid (entry_in pages t).flags ≡ true
      → (entry_in pages s).block.0 ≢ (entry_in pages t).block.0
  pub newest : (p : ℕ) → p < length pages → ((q : ℕ) → q < length pages → stamp_of (get_or pages q []) ≤ stamp_of (get_or pages p []))
      → (k : ℕ) → k < count_of (get_or pages p [])
      → (valid (entry_in pages (slot_at (get_or pages p []) k)).flags ≡ true) ×
      (writing (entry_in pages (slot_at (get_or pages p []) k)).flags ≡ true)

-- 8 to 12: the block's slot, "its lowest slot counts"
pub record SlotOf (table : List ℕ) (b : Block) : Type 0 where
  pub slot : Slot
  pub row : IsRow table slot
  pub valid-row : valid (row_flags table slot) ≡ true
  pub block : (row_block table slot).0 ≡ b.0
  pub lowest : (t : Slot) → t.0 < slot.0 → valid (row_flags table t) ≡ true → (row_block table t).0 ≢ b.0

-- 11: "while 63 are open": so many rows with the writing flag, each at another slot
pub record Open (n : ℕ) (table : List ℕ) : Type 0 where
  pub slot : ℕ → Slot
  pub others : (i j : ℕ) → i < j → j < n → (slot i).0 < (slot j).0
  pub rows : (i : ℕ) → i < n → IsRow table (slot i) × (writing (row_flags table (slot i)) ≡ true)

-- The conditions, each of the call's own arguments and the box.
abbrev pub BadRecord : Box → Type 0
BadRecord x = RecordRule x.state → ⊥

-- by the record's label, as all are measured but format (by its arguments) and reopen (by the image's label)
abbrev pub BadLengths : Box → Type 0
BadLengths x = Lengths (label_in x.state) x → ⊥

abbrev pub BadRows : Box → Type 0
BadRows x = RowsRule x.state x.table → ⊥

abbrev pub BadPages : Box → Type 0
BadPages x = PagesRule (label_at x.images.ssd) (metas_of (label_at x.images.ssd) x.images.ssd) → ⊥

abbrev pub NotReady : Box → Type 0
NotReady x = x.state.phase ≢ Ready

abbrev pub TooHigh : Block → Box → Type 0
TooHigh b x = x.state.label.blocks ≤ b.0

-- of a list (document 02, N6): 16, "a list that is empty, over 64, or not as long as the answer list"; 7, "any block too high": at a
-- place of the list
abbrev pub BadList : List ℕ → ℕ → Type 0
BadList blocks room = (blocks ≡ []) ⊎ ((64 < length blocks) ⊎ (length blocks ≢ room))

-- 15 (document 02, N3): "an empty list, a list of more than 63, or one that names a block twice"
abbrev pub NamedTwice : List ℕ → Type 0
NamedTwice blocks = (i : ℕ) × (j : ℕ) × (i < j) × (j < length blocks) × (get_or blocks i 0 ≡ get_or blocks j 0)

abbrev pub BadScan : List ℕ → Type 0
BadScan blocks = (blocks ≡ []) ⊎ ((63 < length blocks) ⊎ NamedTwice blocks)

abbrev pub AnyHigh : List ℕ → Box → Type 0
AnyHigh blocks x = (i : ℕ) × (i < length blocks) × TooHigh (record { 0 = get_or blocks i 0 }) x

abbrev pub SlotOpen : Block → Box → Type 0
SlotOpen b x = (s : SlotOf x.table b) × (writing (row_flags x.table s.slot) ≡ true)

-- of a fetch (document 02, N9): 8 "if it is open for writing"; 10 "if the block is open for fetch or cached and not open"
abbrev pub OpenForWriting : Block → Box → Type 0
OpenForWriting b x =
    (s : SlotOf x.table b) × (writing (row_flags x.table s.slot) ≡ true) × (dirty (row_flags x.table s.slot) ≡ true)

abbrev pub HasOther : Block → Box → Type 0
HasOther b x =
    (s : SlotOf x.table b) × ((writing (row_flags x.table s.slot) ≡ false) ⊎ (dirty (row_flags x.table s.slot) ≡ false))

-- 9: land: neither open for writing nor dirty; land a fetch: not open for fetch
abbrev pub NotToLand : Block → Box → Type 0
NotToLand b x = ((s : SlotOf x.table b) × (dirty (row_flags x.table s.slot) ≡ true)) → ⊥

abbrev pub NotToFetch : Block → Box → Type 0
NotToFetch b x =
    ((s : SlotOf x.table b) × (writing (row_flags x.table s.slot) ≡ true) × (dirty (row_flags x.table s.slot) ≡ false)) → ⊥

-- 11: "an offer of a block that isn't dirty"
abbrev pub NotDirty : Block → Box → Type 0
NotDirty b x = (s : SlotOf x.table b) → dirty (row_flags x.table s.slot) ≡ false

-- 17: "from caller 1 with 8 or more open" (document 02, N7): so many places of the window that are the import's
pub record ImportOpen (n : ℕ) (r : Record) : Type 0 where
  pub place : ℕ → ℕ
  pub others : (i j : ℕ) → i < j → j < n → place i < place j
  pub each : (i : ℕ) → i < n → (place i < r.count) × (get_or r.callers (place i) 0 ≡ 1)

abbrev pub ImportFull : ℕ → Box → Type 0
ImportFull caller x = (caller ≡ 1) × ImportOpen 8 x.state

-- 18: "a caller that is neither 0 nor 1"
abbrev pub UnknownCaller : ℕ → Type 0
UnknownCaller caller = (caller ≢ 0) × (caller ≢ 1)

-- 12: "a slot must be swept for, all are open"
abbrev pub AllOpen : Block → Box → Type 0
AllOpen b x = (SlotOf x.table b → ⊥) × ((s : Slot) → IsRow x.table s → writing (row_flags x.table s) ≡ true)

-- 13: "this call, no format step, would store metadata", and the newest stamp is this or more
abbrev pub Spent : ℕ → Call → Box → Type 0
Spent bound c x = (stores_meta (plan c x) ≡ true) × (bound ≤ x.state.newest)

-- 14 (document 02, N1): "Each line covers 60 slots": so many lines, and no fewer, cover all
pub record Lines (slots n : ℕ) : Type 0 where
  pub cover : slots ≤ 60 * n
  pub no_fewer : (m : ℕ) → slots ≤ 60 * m → n ≤ m

-- "the buffer is shorter than 67 × the number of lines"
abbrev pub ShortSheet : ℕ → Box → Type 0
ShortSheet room x = (n : ℕ) × Lines x.state.label.slots n × (room < 67 * n)

-- the table of document 01, by calls: each call's numbers, in the order of judging, and their conditions
abbrev pub Why : Call → Box → List (ℕ × Type 0)
Why (format slots blocks) x = (1, Limits (format_label slots blocks) → ⊥) ∷ (4, Lengths (format_label slots blocks) x → ⊥) ∷ []
Why reopen x = (2, HasLabel x.images.ssd → ⊥) ∷ (4, Lengths (label_at x.images.ssd) x → ⊥) ∷ (5, BadPages x) ∷ []
Why step x =
    (3, BadRecord x) ∷ (4, BadLengths x) ∷ (5, BadRows x) ∷ (6, x.state.phase ≡ Ready) ∷ (13, Spent 4294967295 step x) ∷ []
Why flush x = (3, BadRecord x) ∷ (4, BadLengths x) ∷ (5, BadRows x) ∷ (6, NotReady x) ∷ (13, Spent 4294967295 flush x) ∷ []
Why (offer b caller) x =
    (3, BadRecord x) ∷ (4, BadLengths x) ∷ (5, BadRows x) ∷ (6, NotReady x) ∷ (18, UnknownCaller caller) ∷ (7, TooHigh b x)
    ∷ (8, SlotOpen b x) ∷ (17, NotDirty b x × ImportFull caller x) ∷ (11, NotDirty b x × Open 63 x.table) ∷ (12, AllOpen b x)
    ∷ (13, Spent 4294967232 (offer b caller) x) ∷ []
Why (fetch b caller) x =
    (3, BadRecord x) ∷ (4, BadLengths x) ∷ (5, BadRows x) ∷ (6, NotReady x) ∷ (18, UnknownCaller caller) ∷ (7, TooHigh b x)
    ∷ (10, HasOther b x) ∷ (8, OpenForWriting b x) ∷ (17, ImportFull caller x) ∷ (11, Open 63 x.table) ∷ (12, AllOpen b x)
    ∷ (13, Spent 4294967232 (fetch b caller) x) ∷ []
Why (land_fetch b) x =
    (3, BadRecord x) ∷ (4, BadLengths x) ∷ (5, BadRows x) ∷ (6, NotReady x) ∷ (7, TooHigh b x) ∷ (9, NotToFetch b x) ∷ []
Why (look_up b) x = (3, BadRecord x) ∷ (4, BadLengths x) ∷ (5, BadRows x) ∷ (6, NotReady x) ∷ (7, TooHigh b x) ∷ []
Why (view b) x = (3, BadRecord x) ∷ (4, BadLengths x) ∷ (5, BadRows x) ∷ (6, NotReady x) ∷ (7, TooHigh b x) ∷ []
Why (write_back b) x =
    (3, BadRecord x) ∷ (4, BadLengths x) ∷ (5, BadRows x) ∷ (6, NotReady x) ∷ (7, TooHigh b x) ∷ (8, SlotOpen b x) ∷ []
Why (land b page) x =
    (3, BadRecord x) ∷ (4, LandLengths page x → ⊥) ∷ (5, BadRows x) ∷ (6, NotReady x) ∷ (7, TooHigh b x) ∷ (9, NotToLand b x) ∷ []
Why (ask (slot_map n)) x = (3, BadRecord x) ∷ (4, BadLengths x) ∷ (5, BadRows x) ∷ (6, NotReady x) ∷ (14, ShortSheet n x) ∷ []
Why (ask (cost blocks caller n)) x =
    (3, BadRecord x) ∷ (4, CostLengths n x → ⊥) ∷ (5, BadRows x) ∷ (6, NotReady x) ∷ (15, BadScan blocks) ∷ (18, UnknownCaller caller) ∷ []
Why (look_up_list blocks room) x =
    (3, BadRecord x) ∷ (4, BadLengths x) ∷ (5, BadRows x) ∷ (6, NotReady x) ∷ (16, BadList blocks room) ∷ (7, AnyHigh blocks x) ∷ []
-- of its first block, but 13 of what the whole list announces
Why (offer_list blocks caller) x =
    (3, BadRecord x) ∷ (4, BadLengths x) ∷ (5, BadRows x) ∷ (6, NotReady x) ∷ (15, BadScan blocks) ∷ (18, UnknownCaller caller)
    ∷ (7, TooHigh (first_block blocks) x) ∷ (8, SlotOpen (first_block blocks) x) ∷ (17, NotDirty (first_block blocks) x × ImportFull caller x)
    ∷ (11, NotDirty (first_block blocks) x × Open 63 x.table) ∷ (12, AllOpen (first_block blocks) x)
    ∷ (13, Spent 4294967232 (offer_list blocks caller) x) ∷ []

-- "Least number first .. A number is used if its condition holds for that call, and in no other case": n is the first of the
-- call's numbers whose condition holds; a number that is not the call's is never given
abbrev pub FirstWhy : List (ℕ × Type 0) → ℕ → Type 0
FirstWhy [] n = ⊥
FirstWhy (w ∷ ws) n = ((w.0 ≡ n) × w.1) ⊎ ((w.1 → ⊥) × FirstWhy ws n)

-- a call that is not refused: none of its conditions holds
abbrev pub NoneWhy : List (ℕ × Type 0) → Type 0
NoneWhy [] = Unit {0}
NoneWhy (w ∷ ws) = (w.1 → ⊥) × NoneWhy ws

-- the order of judging: by number, but for 10 before 8 (document 02, N9); 14 (N1), 15 (N3), 16 (N6) and 18 (N7), which come "after 6" and before 7;
-- and 17 "after 10 and before 11" (N7). It is a list of its own, and every call's numbers are some of these in this order
abbrev pub turns : List ℕ
turns = 1 ∷ 2 ∷ 3 ∷ 4 ∷ 5 ∷ 6 ∷ 14 ∷ 15 ∷ 16 ∷ 18 ∷ 7 ∷ 10 ∷ 8 ∷ 9 ∷ 17 ∷ 11 ∷ 12 ∷ 13 ∷ []

unfoldable pub in_turn : List ℕ → List (ℕ × Type 0) → Bool
in_turn [] [] = true
in_turn [] (w ∷ ws) = false
in_turn (n ∷ ns) [] = true
in_turn (n ∷ ns) (w ∷ ws) = elim (eqb n w.0) [ true ↦ in_turn ns ws | false ↦ in_turn ns (w ∷ ws) ]
