-- Demand 3: the claim about every list of calls, cuts and reopenings.
use Rattle.std.specs.Prelude.{ℕ, ◌≤◌, ◌<◌, ◌≡◌, ◌≢◌, Bool, true, false, List, [], ◌∷◌, eqb}
use Rattle.std.specs.Prelude.{Option, Some, None}
use Rattle.pages.specs.Pages.{page_at}
use Rattle.layout.specs.declared.Slot.{Slot}
use Rattle.layout.specs.declared.Block.{Block}
use Rattle.layout.specs.declared.Label.{Label}
use Rattle.layout.specs.Places.{data_place, block_place}
use Rattle.layout.specs.PageRule.{listed}
use Rattle.record.specs.Record.{label_in}
use Rattle.protocol.specs.Reply.{Reply, refusal, answer, names_closed, refused, dealt}
use Rattle.protocol.specs.Rows.{row_block, row_flags, valid, dirty, writing}
use Rattle.protocol.specs.Box.{Images, Box}
use Rattle.protocol.specs.Condition.{slot_of}
use Rattle.protocol.specs.Plan.{Call, format, step, flush, reopen, look_up, format_label}
use Rattle.protocol.specs.Recovery.{label_at, metas_of, entry_in, newest_of, stored_rows}
use Rattle.protocol.specs.Judge.{is_ready}
use Rattle.protocol.specs.Calls.{result_of, view_of}
use Rattle.protocol.specs.ReferenceDisk.{MayBe}
use Rattle.protocol.specs.Events.{World, Memory, Arrival, Event, call, reopens, cut, with_memory, crashed, lent, read_of, finished, apply, run, steps, formatted, start_of, RightLength, AllFit, Fits}

-- the newest stored window: "the largest stamp's"
abbrev pub stored_window : Label → Images → List Slot
stored_window l im = (newest_of (metas_of l im.ssd)).window

-- "A block is outside the newest stored window .. if no slot in it has an entry for that block"
-- (what is stored is read by the label that is stored with it)
abbrev pub Outside : Images → Block → Type 0
Outside im b =
    let l = label_at im.ssd in
    (s : Slot) → listed s (stored_window l im) ≡ true → (entry_in (metas_of l im.ssd) s).block.0 ≢ b.0

-- the same, as a test
unfoldable pub in_window : List (List ℕ) → List Slot → Block → Bool
in_window pages [] b = false
in_window pages (s ∷ w) b = elim (eqb (entry_in pages s).block.0 b.0) [ true ↦ true | false ↦ in_window pages w b ]

-- a block's slot and page
pub record Place : Type 0 where
  pub slot : Option Slot
  pub page : List ℕ

-- the closed slot that a look-up names; document 02, N5: an open slot is named too, and may still hold its former block
abbrev pub slot_said : Reply → Option Slot
slot_said (refusal n) = None
slot_said (answer n []) = None
slot_said (answer n (s ∷ w)) = elim (names_closed n) [ true ↦ Some s | false ↦ None ]
slot_said (dealt n) = None

-- "those of its valid entry if it is outside and has one, else none and its HDD page"
abbrev pub entry_place : Label → Images → Block → Option Slot → Place
entry_place l im b None = record { slot = None; page = page_at im.hdd (block_place l b) }
entry_place l im b (Some s) = record { slot = Some s; page = page_at im.ssd (data_place l s) }

abbrev pub stored_slot : Bool → Label → Images → Block → Option Slot
stored_slot true l im b = None
stored_slot false l im b = slot_of (stored_rows l (metas_of l im.ssd)) b

-- where a block is: of a ready box, the closed slot that a look-up names and the view's page; from a cut, or the start of a
-- reopening, till a reopening is finished, as the stored entries say
abbrev pub place_if : Bool → Label → Box → Block → Place
place_if true l x b = record { slot = slot_said (result_of (look_up b) x).said; page = read_of x b }
place_if false l x b = entry_place l x.images b
    (stored_slot (in_window (metas_of l x.images.ssd) (stored_window l x.images) b) l x.images b)

unfoldable pub place : Box → Block → Place
place x b = place_if (is_ready x.state.phase) (label_at x.images.ssd) x b

-- the world just before: of a cut, after the broken-off call if that counts as made
abbrev pub before : Event → World → World
before (call c) w = w
before (reopens j) w = w
before (cut c a j) w = crashed c a w

-- the box that is reopened then
abbrev pub reopened_box : Event → World → Box
reopened_box (call c) w = w.box
reopened_box (reopens j) w = with_memory j w.box
reopened_box (cut c a j) w = with_memory j (crashed c a w).box

-- the events that finish a reopening
abbrev pub finishes : Event → World → Bool
finishes (call c) w = finished c (result_of c w.box)
finishes (reopens j) w = finished reopen (result_of reopen (reopened_box (reopens j) w))
finishes (cut c a j) w = finished reopen (result_of reopen (reopened_box (cut c a j) w))

-- the events that reopen a world, with a table of the right length for the images just before
pub data Reopening (w : World) : Event → Type 0 where
  own : Reopening w (call reopen)
  whole : (j : Memory) → RightLength w.box.images j.table → Reopening w (reopens j)
  broken : (c : Call) (a : Arrival) (j : Memory) → RightLength (crashed c a w).box.images j.table → Reopening w (cut c a j)

-- no reopening is finished before the last of these events
abbrev pub NotYet : List Event → World → Type 0
NotYet [] w = Unit {0}
NotYet (e ∷ es) w = (is_ready w.box.state.phase ≡ false) × NotYet es (apply e w)

-- the row of a slot is back: "that reopening puts its row, if any, back at once"
pub record Back (x : Box) (b : Block) (s : Slot) : Type 0 where
  pub valid-row : valid (row_flags x.table s) ≡ true
  pub block : (row_block x.table s).0 ≡ b.0
  pub stored-dirty : dirty (row_flags x.table s) ≡ dirty (entry_in (metas_of (label_at x.images.ssd) x.images.ssd) s).flags
  pub closed : writing (row_flags x.table s) ≡ false

-- so directly after every reopening among these events
abbrev pub BackAfter : Event → Block → Slot → World → Type 0
BackAfter e b s w = Reopening w e → Back (apply e w).box b s

abbrev pub AllBack : List Event → Block → Slot → World → Type 0
AllBack [] b s w = Unit {0}
AllBack (e ∷ es) b s w = BackAfter e b s w × AllBack es b s (apply e w)

-- "Mending takes at most 63 steps", none is refused, and they end ready
pub record Mends (x : Box) : Type 0 where
  pub number : ℕ
  pub most : number ≤ 63
  pub none_refused : (k : ℕ) → k < number → refused (result_of step (steps k x)).said ≡ false
  pub ends : is_ready (steps number x).state.phase ≡ true

-- a block outside the newest stored window just before an event e that reopens, through the events es after it
pub record Kept (e : Event) (es : List Event) (b : Block) (w : World) : Type 0 where
  pub place_kept : place (run es (apply e w)).box b ≡ place (before e w).box b
  pub row_back : (s : Slot) → (place (before e w).box b).slot ≡ Some s → Back (apply e w).box b s × AllBack es b s (apply e w)

-- the label by which a box measures
abbrev pub own_label : World → Label
own_label w = label_in w.box.state

-- what holds after every list, of a box whose format made this label; every other field is by the label that the box has
pub record Safe (made : Label) (w : World) : Type 0 where
  -- the label is the format's, in the record and on the SSD: so all its blocks are meant below
  pub label : own_label w ≡ made
  pub stored-label : label_at w.box.images.ssd ≡ made
  -- "a ready box reads as the plain disk": no view is refused, and it hands back the reference disk's page
  pub views : is_ready w.box.state.phase ≡ true → (b : Block) → b.0 < (own_label w).blocks
      → (view_of (lent w.box.images.ssd) (lent w.box.images.hdd) w.box.table w.box.state b).number ≡ 0
  pub reads : is_ready w.box.state.phase ≡ true → (b : Block) → b.0 < (own_label w).blocks → read_of w.box b ≡ w.disk.page b
  -- "a closed slot named by look-up holds the same"
  pub looks : is_ready w.box.state.phase ≡ true → (b : Block) → b.0 < (own_label w).blocks
      → (s : Slot) → slot_said (result_of (look_up b) w.box).said ≡ Some s → page_at w.box.images.ssd (data_place (own_label w) s)
      ≡ w.disk.page b
  -- "after a finished reopening each block reads as nothing but" one of its contents
  pub allowed : (e : Event) → Fits e w → finishes e w ≡ true → (b : Block) → b.0 < (own_label w).blocks
      → MayBe (before e w).disk b (read_of (apply e w).box b)
  -- "no reopening is refused", whatever record and table of the right length it is handed
  pub taken : (e : Event) → Fits e w → Reopening w e → refused (result_of reopen (reopened_box e w)).said ≡ false
  -- a box that is not ready is mending, and ends ready
  pub mends : is_ready w.box.state.phase ≡ false → Mends w.box
  -- no flush of a ready box is refused
  pub flushes : is_ready w.box.state.phase ≡ true → refused (result_of flush w.box).said ≡ false
  -- "a block outside the newest stored window keeps slot and page", till a reopening is finished
  pub keeps : (e : Event) → Fits e w → Reopening w e → (b : Block) → b.0 < (own_label w).blocks → Outside (before e w).box.images b
      → (es : List Event) → AllFit es (apply e w) → NotYet es (apply e w) → Kept e es b w

-- Demand 3: whatever images, table and record a format that is not refused begins with, after its last step and any list of
-- events
abbrev pub Demand3 : Type 0
Demand3 =
    (slots blocks : ℕ) (x : Box)
    → refused (result_of (format slots blocks) x).said ≡ false
    → (es : List Event)
    → AllFit es (start_of (format_label slots blocks) (formatted slots blocks x))
    → Safe (format_label slots blocks) (run es (start_of (format_label slots blocks) (formatted slots blocks x)))
