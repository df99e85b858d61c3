-- The calls: judged, planned, performed. The right side of every call's contract.
use Rattle.std.specs.Prelude.{ℕ, List, [], ◌++◌, length, drop}
use Rattle.std.specs.Prelude.{Option, Some, None, Ok, Err}
use Rattle.std.specs.Prelude.{Result as OrRefused}
use Rattle.pages.specs.Parts.{Part, page_part}
use Rattle.layout.specs.declared.Block.{Block}
use Rattle.layout.specs.declared.Label.{Label}
use Rattle.layout.specs.Places.{data_place, block_place}
use Rattle.record.specs.declared.Record.{Record}
use Rattle.protocol.specs.declared.Outcome.{Outcome}
use Rattle.protocol.specs.declared.Condition.{Condition}
use Rattle.protocol.specs.declared.Stored.{Stored}
use Rattle.protocol.specs.Reply.{Reply, refusal, reply_of}
use Rattle.protocol.specs.declared.Condition.TheVariants.{NotCached, Clean, Dirty, Writing, Fetching}
use Rattle.record.specs.Record.{label_in}
use Rattle.protocol.specs.Box.{Box, Effect, Result, refusing, left}
use Rattle.protocol.specs.Condition.{condition_of, words_of}
use Rattle.protocol.specs.Plan.{Call, format, step, flush, reopen, offer, fetch, land_fetch, look_up, view, write_back, land, look_up_list, offer_list, ask, slot_map, plan}
use Rattle.protocol.specs.Perform.{perform}
use Rattle.protocol.specs.SlotMap.{map_text, map_bytes}
use Rattle.protocol.specs.declared.Refusal.{Refusal}
use Rattle.protocol.specs.Judge.{number_of, judged}

-- what a call does: refused by the first reason that holds, or its plan performed
abbrev pub decided : Option Refusal → Call → Box → Effect
decided (Some r) c x = refusing (number_of r) x
decided None c x = perform (plan c x) x

unfoldable pub effect_of : Call → Box → Effect
effect_of c x = decided (judged c x) c x

-- everything that it leaves
abbrev pub result_of : Call → Box → Result
result_of c x = left (effect_of c x) x.images

-- what a call in code leaves: what it returned, the page that it names among it, both images and the table
abbrev pub leaves : Outcome → List ℕ → List ℕ → List ℕ → Result
leaves q ssd hdd table = record {
  said = reply_of q.answer;
  stored = q.stored;
  state = q.state;
  table = table;
  ssd = ssd;
  hdd = hdd;
}

-- and one that may be refused: "A refusal returns its number and the record handed in"
abbrev pub said_in : OrRefused Outcome Refusal → Reply
said_in (Ok q) = reply_of q.answer
said_in (Err r) = refusal (number_of r)

abbrev pub stored_in : OrRefused Outcome Refusal → Option Stored
stored_in (Ok q) = q.stored
stored_in (Err r) = None

abbrev pub state_in : Record → OrRefused Outcome Refusal → Record
state_in state (Ok q) = q.state
state_in state (Err r) = state

abbrev pub ends : Record → OrRefused Outcome Refusal → List ℕ → List ℕ → List ℕ → Result
ends state made ssd hdd table = record {
  said = said_in made;
  stored = stored_in made;
  state = state_in state made;
  table = table;
  ssd = ssd;
  hdd = hdd;
}

abbrev pub box_of : List ℕ → List ℕ → List ℕ → Record → Box
box_of ssd hdd table state = record { images = record { ssd = ssd; hdd = hdd }; table = table; state = state }

-- each call by itself, on both images, the table and the record
abbrev pub format_of : List ℕ → List ℕ → List ℕ → Record → ℕ → ℕ → Result
format_of ssd hdd table state slots blocks = result_of (format slots blocks) (box_of ssd hdd table state)

abbrev pub step_of : List ℕ → List ℕ → List ℕ → Record → Result
step_of ssd hdd table state = result_of step (box_of ssd hdd table state)

abbrev pub offer_of : List ℕ → List ℕ → List ℕ → Record → Block → ℕ → Result
offer_of ssd hdd table state b caller = result_of (offer b caller) (box_of ssd hdd table state)

abbrev pub land_of : List ℕ → List ℕ → List ℕ → Record → Block → List ℕ → Result
land_of ssd hdd table state b page = result_of (land b page) (box_of ssd hdd table state)

abbrev pub fetch_of : List ℕ → List ℕ → List ℕ → Record → Block → ℕ → Result
fetch_of ssd hdd table state b caller = result_of (fetch b caller) (box_of ssd hdd table state)

abbrev pub land_fetch_of : List ℕ → List ℕ → List ℕ → Record → Block → Result
land_fetch_of ssd hdd table state b = result_of (land_fetch b) (box_of ssd hdd table state)

abbrev pub look_up_of : List ℕ → List ℕ → List ℕ → Record → Block → Result
look_up_of ssd hdd table state b = result_of (look_up b) (box_of ssd hdd table state)

abbrev pub write_back_of : List ℕ → List ℕ → List ℕ → Record → Block → Result
write_back_of ssd hdd table state b = result_of (write_back b) (box_of ssd hdd table state)

abbrev pub flush_of : List ℕ → List ℕ → List ℕ → Record → Result
flush_of ssd hdd table state = result_of flush (box_of ssd hdd table state)

abbrev pub reopen_of : List ℕ → List ℕ → List ℕ → Record → Result
reopen_of ssd hdd table state = result_of reopen (box_of ssd hdd table state)

-- document 02, N6: a list of blocks, with the lent list of words
abbrev pub look_up_list_of : List ℕ → List ℕ → List ℕ → Record → List ℕ → List ℕ → Result
look_up_list_of ssd hdd table state blocks words = result_of (look_up_list blocks (length words)) (box_of ssd hdd table state)

-- document 02, N3: a list of blocks, with their caller
abbrev pub offer_list_of : List ℕ → List ℕ → List ℕ → Record → List ℕ → ℕ → Result
offer_list_of ssd hdd table state blocks caller = result_of (offer_list blocks caller) (box_of ssd hdd table state)

-- what it leaves of the words: "neither writes a word", no refusal does; else a word for each block
abbrev pub words_by : Option Refusal → List ℕ → List ℕ → List ℕ → List ℕ
words_by (Some r) table blocks words = words
words_by None table blocks words = words_of table blocks

unfoldable pub words_left : List ℕ → List ℕ → Box → List ℕ
words_left blocks words x = words_by (judged (look_up_list blocks (length words)) x) x.table blocks words

abbrev pub list_words_of : List ℕ → List ℕ → List ℕ → Record → List ℕ → List ℕ → List ℕ
list_words_of ssd hdd table state blocks words = words_left blocks words (box_of ssd hdd table state)

-- the number of a refusal; 0 where there is none
abbrev pub number_in : {A : Type 0} → OrRefused A Refusal → ℕ
number_in (Ok a) = 0
number_in (Err r) = number_of r

-- "View a block: hands back that page of the SSD image itself, if cached and not open; else that page of the HDD image":
-- the number of its refusal (0 where it is none) and the part
pub record View : Type 0 where
  pub number : ℕ
  pub handed : Part

abbrev pub view_part : Part → Part → Label → Block → Condition → Part
view_part ssd hdd l b NotCached = page_part hdd (block_place l b)
view_part ssd hdd l b (Clean s) = page_part ssd (data_place l s)
view_part ssd hdd l b (Dirty s) = page_part ssd (data_place l s)
view_part ssd hdd l b (Writing s) = page_part hdd (block_place l b)
view_part ssd hdd l b (Fetching s) = page_part hdd (block_place l b)

-- a refused view hands back no bytes, where the SSD image begins
abbrev pub viewed : Option Refusal → Part → Part → Label → Block → Condition → View
viewed (Some r) ssd hdd l b k = record { number = number_of r; handed = record { bytes = []; place = ssd.place } }
viewed None ssd hdd l b k = record { number = 0; handed = view_part ssd hdd l b k }

unfoldable pub view_of : Part → Part → List ℕ → Record → Block → View
view_of ssd hdd table state b =
    viewed (judged (view b) (box_of ssd.bytes hdd.bytes table state)) ssd hdd (label_in state) b (condition_of table b)

-- document 02, N1: what a slot map leaves: the number of its refusal (0 where it is none) and the lent buffer
pub record MapLeft : Type 0 where
  pub number : ℕ
  pub sheet : List ℕ

-- a refused map leaves the buffer; else it begins with the text, and "Bytes of the buffer after the last line stay"
abbrev pub mapped : Option Refusal → Label → List ℕ → List ℕ → MapLeft
mapped (Some r) l table sheet = record { number = number_of r; sheet = sheet }
mapped None l table sheet = record { number = 0; sheet = map_text l table ++ drop (map_bytes l) sheet }

unfoldable pub map_of : List ℕ → List ℕ → List ℕ → Record → List ℕ → MapLeft
map_of ssd hdd table state sheet =
    mapped (judged (ask (slot_map (length sheet))) (box_of ssd hdd table state)) (label_in state) table sheet
