-- What a call for C leaves: the result code, the record's words, the table and both images; the slot, and the place of the page stored.
use Rattle.std.specs.Prelude.{ℕ, cond, List, length, eqb}
use Rattle.std.specs.Prelude.{Option, Some, None}
use Rattle.layout.specs.Places.{within_limits}
use Rattle.record.specs.declared.Record.{Record}
use Rattle.protocol.specs.Box.{Result}
use Rattle.protocol.specs.Plan.{Call, format, reopen, format_label}
use Rattle.protocol.specs.Judge.{label_test}
use Rattle.protocol.specs.Calls.{result_of, box_of}
use Rattle.c_answers.specs.declared.Place.{Place}
use Rattle.c_record.specs.Words.{record_words, unpacked, record_in}
use Rattle.c_answers.specs.Codes.{code_of, slot_after, dealt_after, place_after}
use Rattle.c_closing.specs.Closing.{words_after}

pub record Left : Type 0 where
  pub code : ℕ
  pub words : List ℕ
  pub table : List ℕ
  pub ssd : List ℕ
  pub hdd : List ℕ

-- refused by a number before the call: nothing changes
abbrev pub kept : ℕ → List ℕ → List ℕ → List ℕ → List ℕ → Left
kept n ssd hdd table words = record { code = n; words = words; table = table; ssd = ssd; hdd = hdd }

-- by the call's result; the words were these before it
abbrev pub left_by : Result → List ℕ → Left
left_by r words = record {
  code = code_of r.said;
  words = words_after r.said r.state words;
  table = r.table;
  ssd = r.ssd;
  hdd = r.hdd;
}

-- a call's result on the record that the words are; none where they are none
abbrev pub result_by : Option Record → Call → List ℕ → List ℕ → List ℕ → Option Result
result_by None c ssd hdd table = None
result_by (Some r) c ssd hdd table = Some (result_of c (box_of ssd hdd table r))

-- what is left by it; where there is none 3, and nothing changes
abbrev pub left_in : Option Result → List ℕ → List ℕ → List ℕ → List ℕ → Left
left_in None ssd hdd table words = kept 3 ssd hdd table words
left_in (Some r) ssd hdd table words = left_by r words

abbrev pub slot_in : Option Result → ℕ → ℕ
slot_in None before = before
slot_in (Some r) before = slot_after r.said before

-- document 02, N3: the places dealt with
abbrev pub dealt_in : Option Result → ℕ → ℕ
dealt_in None before = before
dealt_in (Some r) before = dealt_after r.said before

abbrev pub place_in : Option Result → Place → Place
place_in None before = before
place_in (Some r) before = place_after r.said r.stored before

-- a call by words that must be a record: what it leaves, the slot or the places dealt with that its answer carries, and the place of the page that it
-- stored
unfoldable pub c_call : Call → List ℕ → List ℕ → List ℕ → List ℕ → Left
c_call c ssd hdd table words = left_in (result_by (record_in words) c ssd hdd table) ssd hdd table words

unfoldable pub c_slot : Call → List ℕ → List ℕ → List ℕ → List ℕ → ℕ → ℕ
c_slot c ssd hdd table words before = slot_in (result_by (record_in words) c ssd hdd table) before

unfoldable pub c_dealt : Call → List ℕ → List ℕ → List ℕ → List ℕ → ℕ → ℕ
c_dealt c ssd hdd table words before = dealt_in (result_by (record_in words) c ssd hdd table) before

unfoldable pub c_place : Call → List ℕ → List ℕ → List ℕ → List ℕ → Place → Place
c_place c ssd hdd table words before = place_in (result_by (record_in words) c ssd hdd table) before

-- a call that does not judge the record handed in: any 134 words will do, and another length is refused by a number
unfoldable pub c_fresh : ℕ → Call → List ℕ → List ℕ → List ℕ → List ℕ → Left
c_fresh n c ssd hdd table words =
    cond (eqb (length words) record_words)
    (left_by (result_of c (box_of ssd hdd table (unpacked words))) words)
    (kept n ssd hdd table words)

-- format: of another length 3, after 1
abbrev pub c_format : ℕ → ℕ → List ℕ → List ℕ → List ℕ → List ℕ → Left
c_format slots blocks ssd hdd table words =
    c_fresh (cond (within_limits (format_label slots blocks)) 3 1) (format slots blocks) ssd hdd table words

-- reopen: of another length 3, after 2
abbrev pub c_reopen : List ℕ → List ℕ → List ℕ → List ℕ → Left
c_reopen ssd hdd table words = c_fresh (cond (label_test ssd) 3 2) reopen ssd hdd table words
