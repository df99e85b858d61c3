-- The calls, and what each does where nothing refuses it: a pure function from call and box to a move.
use Rattle.std.specs.Prelude.{ℕ, zero, suc, Bool, true, false, not, ◌&&◌, ◌||◌, List, [], ◌∷◌, ◌++◌, eqb, ltb, leb}
use Rattle.std.specs.Prelude.{Option, Some, None}
use Rattle.pages.specs.Pages.{page_at}
use Rattle.layout.specs.declared.Slot.{Slot}
use Rattle.layout.specs.declared.Block.{Block}
use Rattle.layout.specs.declared.Label.{Label}
use Rattle.layout.specs.Places.{label_of, meta_of, block_place}
use Rattle.layout.specs.Window.{window_most}
use Rattle.record.specs.declared.Record.{Record}
use Rattle.record.specs.declared.Phase.{Phase}
use Rattle.record.specs.declared.Phase.TheVariants.{Formatting, Recovering, Ready}
use Rattle.protocol.specs.declared.Condition.{Condition}
use Rattle.protocol.specs.declared.Condition.TheVariants.{NotCached, Clean, Dirty, Writing, Fetching}
use Rattle.protocol.specs.Reply.{Reply, dealt, announced, overwrite, copied_out, looked, nothing_to_do, done}
use Rattle.protocol.specs.Rows.{row_flags, set_row, dirty, with_writing, open_rows, all_writing}
use Rattle.record.specs.Callers.{import_caller, import_most, open_by}
use Rattle.record.specs.Record.{label_in, window_in, callers_in, with_hand, with_window, with_callers}
use Rattle.protocol.specs.Box.{Box}
use Rattle.protocol.specs.Condition.{condition_of, closed_slots, is_open, is_cached, takes_write}
use Rattle.protocol.specs.Sweep.{Victim, next_slot, sweep}

-- what is asked by a call that changes nothing
pub data Ask : Type 0 where
  -- document 02, N1: the slot map, into a buffer of so many bytes
  slot_map : ℕ → Ask
  -- document 02, N8: what an import of a list of blocks by a caller would cost, over a scratch table of so many words
  cost : List ℕ → ℕ → ℕ → Ask

-- document 01's calls, with their arguments, and those that document 02 adds: what is asked; N6, the block numbers listed and how many
-- words are lent for the answer; N3, the block numbers offered as one, and their caller. N7: "Every offer, list offer and fetch now names
-- its caller"
pub data Call : Type 0 where
  format : ℕ → ℕ → Call
  step flush reopen : Call
  offer fetch : Block → ℕ → Call
  land_fetch look_up view write_back : Block → Call
  land : Block → List ℕ → Call
  ask : Ask → Call
  look_up_list : List ℕ → ℕ → Call
  offer_list : List ℕ → ℕ → Call

-- the label that a format makes of its numbers
abbrev pub format_label : ℕ → ℕ → Label
format_label slots blocks = label_of slots blocks

-- slots were opened: another hand, another window, and other callers beside its slots
abbrev pub grown : Record → Slot → List Slot → List ℕ → Record
grown r hand window callers = with_callers (with_window (with_hand r hand) r.unconfirmed window) callers

pub data Move : Type 0 where
  -- nothing changes
  stay : Reply → Move
  -- the used flag of a slot is set; the answer
  uses : Slot → Reply → Move
  -- the used flags of these slots are set, one after the other
  uses_all : List Slot → Move
  -- slots of one metadata page are opened: the answer, that page, and the table, the hand, the window and its callers after
  announces : Reply → ℕ → List ℕ → Slot → List Slot → List ℕ → Move
  -- a page goes into a slot, by a write or by a fetch (document 02, N2: true for a write), and an open slot is closed
  lands : Bool → Slot → List ℕ → Move
  -- a dirty slot's page is copied to its block; the answer, the table that the sweep left, and the hand after
  copies : Slot → Reply → List ℕ → Slot → Move
  -- metadata page 0 is stored
  confirms : Move
  -- a metadata page is stored with the pending slots of the others
  mends : ℕ → Move
  -- a format begins; a step of it, after so many
  begins : Label → Move
  formats : ℕ → Move
  -- table and record are filled from the metadata pages
  recovers : Move

-- one slot is opened for a block by a caller, with these flags, in the table that the sweep left; the hand after. The slot joins the
-- window, and its caller stands beside it (document 02, N7)
abbrev pub opens : Record → Slot → Block → ℕ → ℕ → List ℕ → Slot → Move
opens r s b caller flags table hand =
    announces (announced s) (meta_of s) (set_row table s b flags) hand (window_in r ++ (s ∷ [])) (callers_in r ++ (caller ∷ []))

-- a slot that was swept for: "if that slot is dirty, copy its page to its HDD block, mark it clean, leave the hand on it,
-- answer "copied out" .. Otherwise the row becomes this block .., the hand moves one past it (wrapping)"
abbrev pub takes_as : Bool → Record → Block → ℕ → ℕ → Victim → Move
takes_as true r b caller flags v = copies v.slot copied_out v.table v.slot
takes_as false r b caller flags v = opens r v.slot b caller flags v.table (next_slot (label_in r) v.slot)

abbrev pub takes : Record → Block → ℕ → ℕ → Option Victim → Move
takes r b caller flags None = stay nothing_to_do
takes r b caller flags (Some v) = takes_as (dirty (row_flags v.table v.slot)) r b caller flags v

abbrev pub sweeps : Box → Block → ℕ → ℕ → Move
sweeps x b caller flags = takes x.state b caller flags (sweep (label_in x.state) x.table x.state.hand)

-- 17: "the calls that 11 names, from caller 1 with 8 or more open" (document 02, N7)
abbrev pub import_open : ℕ → Record → Bool
import_open caller r = eqb caller import_caller && leb import_most (open_by import_caller (callers_in r))

-- "Offer": dirty and not open "overwrite", clean "announced", not cached swept for, with flags 7 (open: refused by 8)
abbrev pub offering : Box → Block → ℕ → Condition → Move
offering x b caller NotCached = sweeps x b caller 7
offering x b caller (Clean s) = opens x.state s b caller (with_writing (row_flags x.table s)) x.table x.state.hand
offering x b caller (Dirty s) = stay overwrite
offering x b caller (Writing s) = stay nothing_to_do
offering x b caller (Fetching s) = stay nothing_to_do

-- Document 02, N3: a list of blocks is offered as one, "treated as offers one after another".

-- what they leave: how many places were dealt with, the metadata page of the first announced, and the table, the hand, the window and its
-- callers
pub record Offered : Type 0 where
  pub places : ℕ
  pub page : Option ℕ
  pub table : List ℕ
  pub hand : Slot
  pub window : List Slot
  pub callers : List ℕ

abbrev pub not_yet : Box → Offered
not_yet x = record {
  places = 0;
  page = None;
  table = x.table;
  hand = x.state.hand;
  window = window_in x.state;
  callers = callers_in x.state;
}

-- the box in which the next one is offered: no stamp is spent yet, so there are "stamps to spare"
abbrev pub offered_box : Box → Offered → Box
offered_box x z = record { images = x.images; table = z.table; state = grown x.state z.hand z.window z.callers }

-- it "would be refused", by 7, 8, 17, 11 or 12
abbrev pub declines : Box → Block → ℕ → Condition → Bool
declines x b caller k =
    leb x.state.label.blocks b.0
    || (is_open k
    || ((not (takes_write k) && (import_open caller x.state || leb window_most (open_rows x.table)))
    || (not (is_cached k) && all_writing x.table)))

-- its slot is on "another metadata page than the first announced", or not
abbrev pub on_page : Option ℕ → ℕ → Bool
on_page None p = true
on_page (Some q) p = eqb p q

-- a place that "need[s] nothing"
abbrev pub passing : Offered → Offered
passing z = record { places = suc z.places; page = z.page; table = z.table; hand = z.hand; window = z.window; callers = z.callers }

-- a place's move: what answers "overwrite" is passed, what is announced on the page joins, and before anything else the list ends
abbrev pub dealt_with : Offered → Move → Option Offered
dealt_with z (stay said) = Some (passing z)
dealt_with z (announces said p table hand window callers) =
    elim (on_page z.page p) [
      | true ↦
          Some (record {
            places = suc z.places;
            page = Some p;
            table = table;
            hand = hand;
            window = window;
            callers = callers;
          })
      | false ↦ None
    ]
dealt_with z (uses s p) = None
dealt_with z (uses_all ss) = None
dealt_with z (lands w s d) = None
dealt_with z (copies s p t h) = None
dealt_with z confirms = None
dealt_with z (mends p) = None
dealt_with z (begins l) = None
dealt_with z (formats d) = None
dealt_with z recovers = None

abbrev pub placed_as : Bool → Offered → Move → Option Offered
placed_as true z m = None
placed_as false z m = dealt_with z m

-- one place, in the box that the places before it left; and one after another, to "the first that would be refused, would copy out, or
-- has its slot on another metadata page"
unfoldable pub placed : Box → ℕ → Offered → Block → Option Offered
placed x caller z b = placed_as (declines x b caller (condition_of x.table b)) z (offering x b caller (condition_of x.table b))

unfoldable pub offers_from : Box → ℕ → Offered → List ℕ → Offered
offers_from x caller z [] = z
offers_from x caller z (b ∷ blocks) =
    elim (placed (offered_box x z) caller z (record { 0 = b })) [ None ↦ z | Some y ↦ offers_from x caller y blocks ]

-- "All that it announced goes out in one store"
abbrev pub announcing : Option ℕ → Offered → Move
announcing None z = stay (dealt z.places)
announcing (Some p) z = announces (dealt z.places) p z.table z.hand z.window z.callers

-- "If the first place would copy out or be refused, the list gets that answer and effect": no place was dealt with
abbrev pub together : ℕ → Move → Offered → Move
together zero first z = first
together (suc n) first z = announcing z.page z

-- (an empty list: refused by 15)
abbrev pub first_block : List ℕ → Block
first_block [] = record { 0 = 0 }
first_block (b ∷ blocks) = record { 0 = b }

abbrev pub offering_list : Box → List ℕ → ℕ → Move
offering_list x blocks caller =
    together (offers_from x caller (not_yet x) blocks).places (offering x (first_block blocks) caller (condition_of x.table (first_block blocks)))
    (offers_from x caller (not_yet x) blocks)

-- "Fetch a block not cached: as an offer by sweep, with flags 5" (with a slot: refused by 8 or 10)
abbrev pub fetching : Box → Block → ℕ → Condition → Move
fetching x b caller NotCached = sweeps x b caller 5
fetching x b caller (Clean s) = stay nothing_to_do
fetching x b caller (Dirty s) = stay nothing_to_do
fetching x b caller (Writing s) = stay nothing_to_do
fetching x b caller (Fetching s) = stay nothing_to_do

-- "Land 4,096 bytes for a block open for writing, or dirty and not open: store its slot's page" (else refused by 9)
abbrev pub landing : List ℕ → Condition → Move
landing page NotCached = stay nothing_to_do
landing page (Clean s) = stay nothing_to_do
landing page (Dirty s) = lands true s page
landing page (Writing s) = lands true s page
landing page (Fetching s) = stay nothing_to_do

-- "Land a fetch: copies the HDD page into the slot and closes it likewise" (not open for fetch: refused by 9)
abbrev pub landing_fetch : Box → Block → Condition → Move
landing_fetch x b NotCached = stay nothing_to_do
landing_fetch x b (Clean s) = stay nothing_to_do
landing_fetch x b (Dirty s) = stay nothing_to_do
landing_fetch x b (Writing s) = stay nothing_to_do
landing_fetch x b (Fetching s) = lands false s (page_at x.images.hdd (block_place (label_in x.state) b))

-- "Look up a block": document 02, N5: the answer is its condition; "It still sets the used flag only for clean and dirty"
abbrev pub looking_up : Condition → Move
looking_up NotCached = stay (looked NotCached)
looking_up (Clean s) = uses s (looked (Clean s))
looking_up (Dirty s) = uses s (looked (Dirty s))
looking_up (Writing s) = stay (looked (Writing s))
looking_up (Fetching s) = stay (looked (Fetching s))

-- "Write back a block: if dirty, copy to HDD and mark clean; uncached or clean: "nothing to do"" (open: refused by 8)
abbrev pub writing_back : Box → Condition → Move
writing_back x NotCached = stay nothing_to_do
writing_back x (Clean s) = stay nothing_to_do
writing_back x (Dirty s) = copies s done x.table x.state.hand
writing_back x (Writing s) = stay nothing_to_do
writing_back x (Fetching s) = stay nothing_to_do

-- "Flush: if unsettled, store metadata page 0; else "nothing to do""
abbrev pub flushing : Bool → Move
flushing true = confirms
flushing false = stay nothing_to_do

-- "the lowest-numbered metadata page with a pending slot"
unfoldable pub lowest_from : ℕ → List Slot → ℕ
lowest_from p [] = p
lowest_from p (s ∷ w) = elim (ltb (meta_of s) p) [ true ↦ lowest_from (meta_of s) w | false ↦ lowest_from p w ]

abbrev pub lowest_page : List Slot → ℕ
lowest_page [] = 0
lowest_page (s ∷ w) = lowest_from (meta_of s) w

-- a step: of a format, or of mending (ready: refused by 6)
abbrev pub stepping : Record → Phase → Move
stepping r (Formatting d) = formats d
stepping r Recovering = mends (lowest_page (window_in r))
stepping r Ready = stay nothing_to_do

unfoldable pub plan : Call → Box → Move
plan (format slots blocks) x = begins (format_label slots blocks)
plan step x = stepping x.state x.state.phase
plan flush x = flushing x.state.unconfirmed
plan reopen x = recovers
plan (offer b caller) x = offering x b caller (condition_of x.table b)
plan (fetch b caller) x = fetching x b caller (condition_of x.table b)
plan (land_fetch b) x = landing_fetch x b (condition_of x.table b)
plan (look_up b) x = looking_up (condition_of x.table b)
plan (view b) x = stay done
plan (write_back b) x = writing_back x (condition_of x.table b)
plan (land b page) x = landing page (condition_of x.table b)
plan (ask a) x = stay done
-- document 02, N6: "Used flags are set as by single look-ups"
plan (look_up_list blocks room) x = uses_all (closed_slots x.table blocks)
plan (offer_list blocks caller) x = offering_list x blocks caller

-- the moves that store metadata, a format's steps apart
abbrev pub stores_meta : Move → Bool
stores_meta (stay p) = false
stores_meta (uses s p) = false
stores_meta (uses_all ss) = false
stores_meta (announces p q t h w cs) = true
stores_meta (lands w s d) = false
stores_meta (copies s p t h) = false
stores_meta confirms = true
stores_meta (mends p) = true
stores_meta (begins l) = false
stores_meta (formats d) = false
stores_meta recovers = false
