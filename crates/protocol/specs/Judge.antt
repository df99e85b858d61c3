-- Why a call says no: one test for each number of document 01's table and document 02's, and each call's chain of them, "Least number
-- first", but for a fetch's 10, which comes before 8 (document 02, N9), for 14 (N1), 15 (N3), 16 (N6) and 18 (N7), which come between 6 and
-- 7, and for 17, which comes before 11 (N7).
use Rattle.std.specs.Prelude.{ℕ, ◌%◌, Bool, true, false, not, ◌&&◌, ◌||◌, List, [], ◌∷◌, ◌++◌, length, eqb, ltb, leb}
use Rattle.std.specs.Prelude.{Option, Some, None}
use Rattle.pages.specs.Pages.{page_at}
use Rattle.layout.specs.declared.Slot.{Slot}
use Rattle.layout.specs.declared.Label.{Label}
use Rattle.layout.specs.Places.{within_limits, label_place, ssd_length, hdd_length, table_length}
use Rattle.layout.specs.LabelPage.{decode_label}
use Rattle.layout.specs.PageRule.{pair_test, listed}
use Rattle.layout.specs.Window.{window_most}
use Rattle.layout.specs.Stamps.{largest_stamp, opening_bound}
use Rattle.record.specs.declared.Record.{Record}
use Rattle.record.specs.declared.Phase.{Phase}
use Rattle.record.specs.declared.Phase.TheVariants.{Formatting, Recovering, Ready}
use Rattle.protocol.specs.declared.Refusal.{Refusal}
use Rattle.protocol.specs.declared.Refusal.TheVariants.{BadLimits, NoLabel, BadRecord, WrongLength, BadRows, WrongPhase, BlockTooHigh, SlotOpen, WrongState, HasSlot, WindowFull, AllOpen, StampsSpent, SheetShort, BadScan, BadList, ImportFull, UnknownCaller}
use Rattle.protocol.specs.declared.Condition.{Condition}
use Rattle.protocol.specs.Rows.{row_block, row_flags, valid, writing, used, each_row, open_rows, all_writing}
use Rattle.record.specs.Window.{each_slot}
use Rattle.record.specs.Callers.{import_caller}
use Rattle.record.specs.Record.{label_in, window_in}
use Rattle.record.specs.Rule.{record_test}
use Rattle.protocol.specs.Box.{Images, Box}
use Rattle.protocol.specs.Condition.{condition_of, is_open, is_cached, is_writing, has_other, takes_write, takes_fetch}
use Rattle.protocol.specs.Plan.{Call, format, step, flush, reopen, offer, fetch, land_fetch, look_up, view, write_back, land, look_up_list, offer_list, ask, slot_map, cost, import_open, plan, stores_meta}
use Rattle.protocol.specs.Kinds.{Purpose, to_serve, to_settle, to_write, to_fetch, to_land_fetch, to_land, to_count, Kind, a_format, a_reopening, a_step, a_service, kind, aim}
use Rattle.protocol.specs.Recovery.{label_at, metas_of, pages_test}
use Rattle.protocol.specs.SlotMap.{map_bytes}

-- a refusal's number in document 01's table, and document 02's
abbrev pub number_of : Refusal → ℕ
number_of BadLimits = 1
number_of NoLabel = 2
number_of BadRecord = 3
number_of WrongLength = 4
number_of BadRows = 5
number_of WrongPhase = 6
number_of BlockTooHigh = 7
number_of SlotOpen = 8
number_of WrongState = 9
number_of HasSlot = 10
number_of WindowFull = 11
number_of AllOpen = 12
number_of StampsSpent = 13
number_of SheetShort = 14
number_of BadScan = 15
number_of BadList = 16
number_of ImportFull = 17
number_of UnknownCaller = 18

-- the label by which a call judges lengths: format by its arguments, reopen by the label page, others by the record
abbrev pub label_for : Kind → Box → Label
label_for (a_format l) x = l
label_for a_reopening x = label_at x.images.ssd
label_for a_step x = label_in x.state
label_for (a_service a) x = label_in x.state

-- 2: "SSD under a page, or first page no legal label"
abbrev pub is_label : Option Label → Bool
is_label (Some l) = true
is_label None = false

unfoldable pub label_test : List ℕ → Bool
label_test ssd = leb 4096 (length ssd) && is_label (decode_label (page_at ssd label_place))

-- 4: "an image, table or data page of the wrong length"; of what is lent beside images and table, by the table's length: a data page,
-- and a scratch table, "4 unless as long as the table" (document 02, N8)
abbrev pub lent_test : Purpose → ℕ → Bool
lent_test to_serve rows = true
lent_test to_settle rows = true
lent_test to_write rows = true
lent_test to_fetch rows = true
lent_test to_land_fetch rows = true
lent_test (to_land page) rows = eqb (length page) 4096
lent_test (to_count n) rows = eqb n rows

unfoldable pub lengths_test : Label → ℕ → ℕ → ℕ → Bool
lengths_test l ssd hdd table = eqb ssd (ssd_length l) && (eqb hdd (hdd_length l) && eqb table (table_length l))

unfoldable pub length_test : Label → Images → List ℕ → Bool
length_test l im table = lengths_test l (length im.ssd) (length im.hdd) (length table)

-- 5, of a table: "table row .. breaks its rule": the entry rules, and 8 for used "(only with valid)"
unfoldable pub row_test : Label → ℕ → ℕ → Bool
row_test l block flags = pair_test l block (flags % 8) && (ltb flags 16 && (not (used flags) || valid flags))

abbrev pub is_empty : List Slot → Bool
is_empty [] = true
is_empty (s ∷ w) = false

-- 5: "or rows, window and phase don't agree": ready, the window's slots are exactly the writing rows; mending, it is not
-- empty, its rows are zero and no row is writing; formatting, it is empty and every row is zero
abbrev pub agree_test : Phase → List ℕ → List Slot → Bool
agree_test Ready table w =
    each_slot (λ s. writing (row_flags table s)) w
    && each_row (λ s block flags. not (writing flags) || listed (record { 0 = s }) w) 0 table
agree_test Recovering table w =
    not (is_empty w)
    && (each_slot (λ s. eqb (row_block table s).0 0 && eqb (row_flags table s) 0) w
    && each_row (λ s block flags. not (writing flags)) 0 table)
agree_test (Formatting d) table w = is_empty w && each_row (λ s block flags. eqb block 0 && eqb flags 0) 0 table

unfoldable pub rows_test : Record → List ℕ → Bool
rows_test r table = each_row (λ s block flags. row_test (label_in r) block flags) 0 table && agree_test r.phase table (window_in r)

-- 5 of a reopening judges the metadata pages, of any other call the table
abbrev pub contents_test : Kind → Box → Bool
contents_test (a_format l) x = true
contents_test a_reopening x = pages_test (label_at x.images.ssd) (metas_of (label_at x.images.ssd) x.images.ssd)
contents_test a_step x = rows_test x.state x.table
contents_test (a_service a) x = rows_test x.state x.table

-- 6: "wrong phase: step when ready, anything else before"
abbrev pub is_ready : Phase → Bool
is_ready Ready = true
is_ready Recovering = false
is_ready (Formatting d) = false

abbrev pub phase_test : Kind → Phase → Bool
phase_test (a_format l) p = true
phase_test a_reopening p = true
phase_test a_step p = not (is_ready p)
phase_test (a_service a) p = is_ready p

-- 8: "offer, fetch, write back: the block's slot is open"; of a fetch only "open for writing" (document 02, N9)
abbrev pub open_test : Purpose → Condition → Bool
open_test to_serve k = is_open k
open_test to_settle k = is_open k
open_test to_write k = is_open k
open_test to_fetch k = is_writing k
open_test to_land_fetch k = is_open k
open_test (to_land page) k = is_open k
open_test (to_count n) k = is_open k

-- 9: "land: block in neither state named; land a fetch: not open for fetch"
abbrev pub state_test : Purpose → Condition → Bool
state_test to_serve k = true
state_test to_settle k = true
state_test to_write k = true
state_test to_fetch k = true
state_test to_land_fetch k = takes_fetch k
state_test (to_land page) k = takes_write k
state_test (to_count n) k = true

-- 11: "a fetch, or an offer of a block that isn't dirty, while 63 are open"
abbrev pub opens_another : Purpose → Condition → Bool
opens_another to_serve k = false
opens_another to_settle k = false
opens_another to_write k = not (takes_write k)
opens_another to_fetch k = true
opens_another to_land_fetch k = false
opens_another (to_land page) k = false
opens_another (to_count n) k = false

-- 13: "the newest stamp is 4,294,967,295, or for an offer or fetch 4,294,967,232 or more"
abbrev pub stamp_bound : Label → Purpose → ℕ
stamp_bound l to_serve = largest_stamp l
stamp_bound l to_settle = largest_stamp l
stamp_bound l to_write = opening_bound l
stamp_bound l to_fetch = opening_bound l
stamp_bound l to_land_fetch = largest_stamp l
stamp_bound l (to_land page) = largest_stamp l
stamp_bound l (to_count n) = largest_stamp l

-- 15 (document 02, N3): "an empty list, a list of more than 63, or one that names a block twice"
unfoldable pub names : ℕ → List ℕ → Bool
names b [] = false
names b (c ∷ blocks) = eqb b c || names b blocks

unfoldable pub names_once : List ℕ → Bool
names_once [] = true
names_once (b ∷ blocks) = not (names b blocks) && names_once blocks

abbrev pub scan_most : ℕ
scan_most = 63

abbrev pub scan_test : List ℕ → Bool
scan_test blocks = ltb 0 (length blocks) && (leb (length blocks) scan_most && names_once blocks)

-- 16 (document 02, N6): "a list that is empty, over 64, or not as long as the answer list"
abbrev pub list_most : ℕ
list_most = 64

abbrev pub list_test : ℕ → ℕ → Bool
list_test listed room = ltb 0 listed && (leb listed list_most && eqb listed room)

-- does the condition of a row of the table hold for this call
unfoldable pub test : Refusal → Call → Box → Bool
test BadLimits c x = not (within_limits (label_for (kind c) x))
test NoLabel c x = not (label_test x.images.ssd)
test BadRecord c x = not (record_test x.state)
test WrongLength c x = not (length_test (label_for (kind c) x) x.images x.table && lent_test (aim c).purpose (length x.table))
test BadRows c x = not (contents_test (kind c) x)
test WrongPhase c x = not (phase_test (kind c) x.state.phase)
test BlockTooHigh c x = leb x.state.label.blocks (aim c).block.0
test SlotOpen c x = open_test (aim c).purpose (condition_of x.table (aim c).block)
test WrongState c x = not (state_test (aim c).purpose (condition_of x.table (aim c).block))
test HasSlot c x = has_other (condition_of x.table (aim c).block)
test WindowFull c x = opens_another (aim c).purpose (condition_of x.table (aim c).block) && leb window_most (open_rows x.table)
test AllOpen c x = not (is_cached (condition_of x.table (aim c).block)) && all_writing x.table
test StampsSpent c x = stores_meta (plan c x) && leb (stamp_bound (label_in x.state) (aim c).purpose) x.state.newest
-- document 02, N1: "if the buffer is shorter than 67 × the number of lines"
test SheetShort c x = ltb (aim c).room (map_bytes (label_in x.state))
test BadScan c x = not (scan_test (aim c).list)
test BadList c x = not (list_test (length (aim c).list) (aim c).room)
test ImportFull c x = opens_another (aim c).purpose (condition_of x.table (aim c).block) && import_open (aim c).caller x.state
test UnknownCaller c x = ltb import_caller (aim c).caller

-- the numbers that belong to each call, in the order of judging: first those of its kind ("Format and reopen judge neither that
-- record nor the table's contents"), then its own
abbrev pub asked_first : Kind → List Refusal
asked_first (a_format l) = BadLimits ∷ WrongLength ∷ []
asked_first a_reopening = NoLabel ∷ WrongLength ∷ BadRows ∷ []
asked_first a_step = BadRecord ∷ WrongLength ∷ BadRows ∷ WrongPhase ∷ []
asked_first (a_service a) = BadRecord ∷ WrongLength ∷ BadRows ∷ WrongPhase ∷ []

abbrev pub asked_then : Call → List Refusal
asked_then (format slots blocks) = []
asked_then reopen = []
asked_then step = StampsSpent ∷ []
asked_then flush = StampsSpent ∷ []
asked_then (offer b caller) = UnknownCaller ∷ BlockTooHigh ∷ SlotOpen ∷ ImportFull ∷ WindowFull ∷ AllOpen ∷ StampsSpent ∷ []
asked_then (fetch b caller) = UnknownCaller ∷ BlockTooHigh ∷ HasSlot ∷ SlotOpen ∷ ImportFull ∷ WindowFull ∷ AllOpen ∷ StampsSpent ∷ []
asked_then (land_fetch b) = BlockTooHigh ∷ WrongState ∷ []
asked_then (look_up b) = BlockTooHigh ∷ []
asked_then (view b) = BlockTooHigh ∷ []
asked_then (write_back b) = BlockTooHigh ∷ SlotOpen ∷ []
asked_then (land b page) = BlockTooHigh ∷ WrongState ∷ []
-- document 02, N1: "It refuses with 14, after 6"
asked_then (ask (slot_map n)) = SheetShort ∷ []
-- document 02, N8: "The bad lists of 15 and the callers of 18 are refused by that number here too"; all else is met in the run
asked_then (ask (cost blocks caller n)) = BadScan ∷ UnknownCaller ∷ []
-- document 02, N6: 16 "after 6 and before 7"
asked_then (look_up_list blocks room) = BadList ∷ BlockTooHigh ∷ []
-- document 02, N3: 15 "after 6", "before 7" and (N7) before 18; then as an offer of the first block
asked_then (offer_list blocks caller) =
    BadScan ∷ UnknownCaller ∷ BlockTooHigh ∷ SlotOpen ∷ ImportFull ∷ WindowFull ∷ AllOpen ∷ StampsSpent ∷ []

abbrev pub chain : Call → List Refusal
chain c = asked_first (kind c) ++ asked_then c

-- the first reason of a chain whose condition holds; a later one is not asked
unfoldable pub first_of : List Refusal → (Refusal → Bool) → Option Refusal
first_of [] holds = None
first_of (r ∷ rs) holds = elim (holds r) [ true ↦ Some r | false ↦ first_of rs holds ]

unfoldable pub judged : Call → Box → Option Refusal
judged c x = first_of (chain c) (λ r. test r c x)
