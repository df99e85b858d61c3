-- What a run of the definitions shows, for the computed cases: each event's answer, store and phase, then the whole box, and
-- what its blocks read as.
use Prim.Native.Nat.{ℕ, zero, suc, ◌-◌}
use mathlib.Core.Bool.{true, false}
use mathlib.Core.List.{List, [], ◌∷◌, ◌++◌}
use Rattle.std.specs.Prelude.{Option, Some, None}
use lib.ListN.{replicate}
use lib.Dec.{eqb, leb}
use Rattle.pages.specs.Pages.{padded}
use Rattle.layout.specs.declared.Block.{Block}
use Rattle.layout.specs.declared.Label.{Label}
use Rattle.layout.specs.Places.{label_of, meta_pages, ssd_length, table_length}
use Rattle.record.specs.Record.{record_with, put_callers}
use Rattle.record.specs.declared.Record.{Record}
use Rattle.record.specs.declared.Phase.{Phase}
use Rattle.record.specs.declared.Phase.TheVariants.{Recovering}
use Rattle.protocol.specs.Reply.{Reply}
use Rattle.protocol.specs.Box.{Box, Image, ssd_image, hdd_image, Store, Effect}
use Rattle.protocol.specs.Plan.{reopen}
use Rattle.protocol.specs.Calls.{effect_of}
use Rattle.protocol.specs.Events.{World, Memory, Event, call, reopens, cut, read_of, with_memory, crashed, apply, run, formatted, start_of}

-- the page that was stored, if any
pub data Stored : Type 0 where
  nothing label : Stored
  meta slot block : ℕ → Stored

abbrev pub stored_at : Label → Image → ℕ → Stored
stored_at l hdd_image p = block p
stored_at l ssd_image p =
    elim (eqb p 0) [ true ↦ label | false ↦ elim (leb p (meta_pages l)) [ true ↦ meta (p - 1) | false ↦ slot (p - 1 - meta_pages l) ] ]

abbrev pub stored_of : Label → Option Store → Stored
stored_of l None = nothing
stored_of l (Some s) = stored_at l s.image s.place

-- what an event shows: its answer (of a cut, the reopening's), its store, and the phase after it
pub record Line : Type 0 where
  pub said : Reply
  pub store : Stored
  pub phase : Phase

abbrev pub line : Reply → Stored → Phase → Line
line said store phase = record { said = said; store = store; phase = phase }

abbrev pub line_of : Label → Effect → Line
line_of l e = line e.said (stored_of l e.store) e.state.phase

abbrev pub seen : Label → Event → World → Line
seen l (call c) w = line_of l (effect_of c w.box)
seen l (reopens j) w = line_of l (effect_of reopen (with_memory j w.box))
seen l (cut c a j) w = line_of l (effect_of reopen (with_memory j (crashed c a w).box))

unfoldable pub lines_of : Label → List Event → World → List Line
lines_of l [] w = []
lines_of l (e ∷ es) w = seen l e w ∷ lines_of l es (apply e w)

-- what blocks read as
unfoldable pub reads_of : List Block → Box → List (List ℕ)
reads_of [] x = []
reads_of (b ∷ bs) x = read_of x b ∷ reads_of bs x

pub record Report : Type 0 where
  pub lines : List Line
  pub state : Record
  pub table : List ℕ
  pub ssd : List ℕ
  pub hdd : List ℕ
  pub reads : List (List ℕ)

abbrev pub reported : List Line → List Block → Box → Report
reported lines bs x = record {
  lines = lines;
  state = x.state;
  table = x.table;
  ssd = x.images.ssd;
  hdd = x.images.hdd;
  reads = reads_of bs x;
}

-- the report of a script: its lines, the box after it, and what some blocks then read as
unfoldable pub report : Label → List Event → List Block → World → Report
report l es bs w = reported (lines_of l es w) bs (run es w).box

-- the disk image of the cases: each block a page of one byte, block 0 of 64, block 1 of 65, and so on
unfoldable pub disk_from : ℕ → ℕ → List ℕ
disk_from byte zero = []
disk_from byte (suc n) = replicate 4096 byte ++ disk_from (suc byte) n

abbrev pub disk_of : Label → List ℕ
disk_of l = disk_from 64 l.blocks

-- rubbish for a table of the right length and a record: every number of it is illegal
abbrev pub rubbish : Label → Memory
rubbish l = record {
  table = replicate (table_length l) 4294967295;
  state = put_callers
      (record_with (label_of 0 16777217) (record { 0 = 57600 }) 4294967295 Recovering true
      (record { slots = replicate 63 (record { 0 = 57601 }); count = 64 }))
      (replicate 63 4294967295);
}

-- "Cut means: lose record and table, reopen, mend": the first two; the steps of mending follow it in the scripts
abbrev pub lost : Label → Event
lost l = reopens (rubbish l)

-- before a format: an SSD image of bytes 170, and rubbish
unfoldable pub unformatted : Label → Box
unformatted l = record {
  images = record { ssd = replicate (ssd_length l) 170; hdd = disk_of l };
  table = (rubbish l).table;
  state = (rubbish l).state;
}

-- where the scripts begin: what a format and its steps leave of it
unfoldable pub start : Label → World
start l = start_of l (formatted l.slots l.blocks (unformatted l))

-- Pages as they are written out in the cases.

-- 4,096 times one byte
abbrev pub filled : ℕ → List ℕ
filled byte = replicate 4096 byte

-- a metadata page: its stamp and window length (6 bytes), its window, its entries, the rest zero
unfoldable pub meta_page : List ℕ → List ℕ → List ℕ → List ℕ
unfolding padded
meta_page head window entries = padded 16 head ++ (padded 496 window ++ padded 3584 entries)

-- a label page: its text, the rest zero
unfoldable pub label_page : List ℕ → List ℕ
unfolding padded
label_page text = padded 4096 text

-- pages one after another
unfoldable pub pages : List (List ℕ) → List ℕ
pages [] = []
pages (p ∷ ps) = p ++ pages ps
