-- Lists of calls, cuts and reopenings, and what box and reference disk make of them (document 01, "The plain disk").
use Rattle.std.specs.Prelude.{ℕ, zero, suc, ◌≡◌, Bool, true, false, not, ◌&&◌, List, [], ◌∷◌, length}
use Rattle.std.specs.Prelude.{Option, Some, None}
use Rattle.pages.specs.Pages.{page_at}
use Rattle.pages.specs.Parts.{Part}
use Rattle.layout.specs.declared.Block.{Block}
use Rattle.layout.specs.declared.Label.{Label}
use Rattle.layout.specs.Places.{block_place, format_steps, table_length}
use Rattle.record.specs.declared.Record.{Record}
use Rattle.protocol.specs.Reply.{refused}
use Rattle.protocol.specs.Box.{Images, Box, Store, applied, Result, box_after}
use Rattle.protocol.specs.Plan.{Call, format, step, reopen, format_label}
use Rattle.protocol.specs.Recovery.{label_at}
use Rattle.protocol.specs.Kinds.{Kind, a_format, a_reopening, a_step, a_service, kind}
use Rattle.protocol.specs.Judge.{is_ready}
use Rattle.protocol.specs.Calls.{effect_of, result_of, view_of}
use Rattle.protocol.specs.ReferenceDisk.{Disk, durable, fed}

pub record World : Type 0 where
  pub box : Box
  pub disk : Disk

-- a table and a record that a reopening is handed
pub record Memory : Type 0 where
  pub table : List ℕ
  pub state : Record

-- what of the page of the call that a cut breaks off has come to be: "old or new"
pub data Arrival : Type 0 where
  old new : Arrival

pub data Event : Type 0 where
  call : Call → Event
  -- a reopening "with any record and any table"
  reopens : Memory → Event
  -- a cut of a call, then such a reopening
  cut : Call → Arrival → Memory → Event

-- "A block of a ready box reads as the page that view hands back"
abbrev pub lent : List ℕ → Part
lent bytes = record { bytes = bytes; place = (0, 0) }

unfoldable pub read_of : Box → Block → List ℕ
read_of x b = (view_of (lent x.images.ssd) (lent x.images.hdd) x.table x.state b).handed.bytes

-- "Reopening, when finished (at once, or by the last step)": what blocks read as then
abbrev pub may_finish : Kind → Bool
may_finish (a_format l) = false
may_finish a_reopening = true
may_finish a_step = true
may_finish (a_service a) = false

abbrev pub reads_if : Bool → Box → Option (Block → List ℕ)
reads_if true x = Some (read_of x)
reads_if false x = None

-- does this call, which answered so, finish a reopening
abbrev pub finished : Call → Result → Bool
finished c r = not (refused r.said) && (may_finish (kind c) && is_ready r.state.phase)

unfoldable pub called : Call → World → World
called c w =
    let r = result_of c w.box in
    record { box = box_after r; disk = fed c (refused r.said) (reads_if (finished c r) (box_after r)) w.disk }

-- the images with another table and record
abbrev pub with_memory : Memory → Box → Box
with_memory j x = record { images = x.images; table = j.table; state = j.state }

-- a reopening that is refused leaves box and reference disk as they were
abbrev pub taken_if : Bool → World → World → World
taken_if true w v = w
taken_if false w v = v

unfoldable pub reopened : Memory → World → World
reopened j w =
    taken_if (refused (result_of reopen (with_memory j w.box)).said) w (called reopen (record { box = with_memory j w.box; disk = w.disk }))

-- the images that a cut leaves: "all earlier stores done, and the page of the call it breaks off old or new"
abbrev pub survived : Arrival → Option Store → Images → Images
survived old store im = im
survived new store im = applied store im

-- "that call counts as made exactly if its store was done"
abbrev pub made : Arrival → Option Store → Bool
made old store = false
made new None = false
made new (Some store) = true

-- box and reference disk just before the reopening that follows a cut
unfoldable pub crashed : Call → Arrival → World → World
crashed c a w =
    let e = effect_of c w.box in
    let v = taken_if (made a e.store) (called c w) w in
    record {
      box = record { images = survived a e.store w.box.images; table = v.box.table; state = v.box.state };
      disk = v.disk;
    }

abbrev pub apply : Event → World → World
apply (call c) w = called c w
apply (reopens j) w = reopened j w
apply (cut c a j) w = reopened j (crashed c a w)

unfoldable pub run : List Event → World → World
run [] w = w
run (e ∷ es) w = run es (apply e w)

-- the start: "what a format's last step left .., that format having been begun and stepped to its end with each call given
-- what the last one left"
unfoldable pub steps : ℕ → Box → Box
steps zero x = x
steps (suc n) x = steps n (box_after (result_of step x))

unfoldable pub formatted : ℕ → ℕ → Box → Box
formatted slots blocks x = steps (format_steps (format_label slots blocks)) (box_after (result_of (format slots blocks) x))

-- "both at first its HDD page"
abbrev pub start_of : Label → Box → World
start_of l x = record { box = x; disk = durable (λ b. page_at x.images.hdd (block_place l b)) }

-- the lists of demand 3: formats are refused where they stand, and after a cut the table has the right length
abbrev pub KindFits : Kind → Bool → Type 0
KindFits (a_format l) r = r ≡ true
KindFits a_reopening r = Unit {0}
KindFits a_step r = Unit {0}
KindFits (a_service a) r = Unit {0}

abbrev pub CallFits : Call → World → Type 0
CallFits c w = KindFits (kind c) (refused (result_of c w.box).said)

-- "any table of the right length": by the label that the images have, since the record may be any
abbrev pub RightLength : Images → List ℕ → Type 0
RightLength im table = length table ≡ table_length (label_at im.ssd)

abbrev pub Fits : Event → World → Type 0
Fits (call c) w = CallFits c w
Fits (reopens j) w = Unit {0}
Fits (cut c a j) w = CallFits c w × RightLength (crashed c a w).box.images j.table

abbrev pub AllFit : List Event → World → Type 0
AllFit [] w = Unit {0}
AllFit (e ∷ es) w = Fits e w × AllFit es (apply e w)
