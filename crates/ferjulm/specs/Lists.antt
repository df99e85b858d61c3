-- Lists of C calls: each is given the words, the table and the images that the last one left.
use Rattle.std.specs.Prelude.{ℕ, ◌≡◌, Bool, true, false, List, [], ◌∷◌, map, length, replicate, eqb}
use Rattle.std.specs.Prelude.{Some}
use Rattle.layout.specs.declared.Block.{Block}
use Rattle.protocol.specs.Box.{Box}
use Rattle.protocol.specs.Plan.{Ask, slot_map, cost, Call, format, step, flush, reopen, offer, fetch, land_fetch, look_up, view, write_back, land, look_up_list, offer_list, ask}
use Rattle.protocol.specs.Kinds.{Kind, a_format, a_reopening, a_step, a_service, kind}
use Rattle.protocol.specs.Calls.{box_of}
use Rattle.protocol.specs.ReferenceDisk.{Disk}
use Rattle.protocol.specs.Events.{World, call, run}
use Rattle.c_record.specs.Words.{record_words, words_of, unpacked, is_record, record_in}
use Rattle.ferjulm.specs.Calls.{Left, kept, c_call, c_format, c_reopen}
use Rattle.ferjulm.specs.View.{c_view}
use Rattle.ferjulm.specs.Map.{c_map}
use Rattle.ferjulm.specs.Cost.{c_cost}

-- a call by words that must be a record
abbrev pub c_served : Call → Left → Left
c_served c k = c_call c k.ssd k.hdd k.table k.words

-- a view changes nothing of these: its number, from any place
abbrev pub c_viewed : Block → Left → Left
c_viewed b k =
    kept (c_view k.ssd k.hdd k.table k.words b (record { image = 0; offset = 0 })).code k.ssd k.hdd k.table k.words

-- nor does a call that only asks: a slot map's number, into any buffer of so many bytes; the code of an import's cost, over any scratch table
-- of so many words, with any numbers lent
abbrev pub c_asked : Ask → Left → Left
c_asked (slot_map n) k =
    kept (c_map k.ssd k.hdd k.table k.words (replicate n 0)).number k.ssd k.hdd k.table k.words
c_asked (cost blocks caller n) k =
    kept (c_cost k.ssd k.hdd k.table k.words blocks caller (replicate n 0) (record {
      copies = 0;
      metadata = 0;
      landings = 0;
      number = 0;
      place = 0;
    })).code k.ssd k.hdd k.table k.words

-- what a call's C function leaves of what the last one left, by its contract
abbrev pub c_made : Call → Left → Left
c_made (format slots blocks) k = c_format slots blocks k.ssd k.hdd k.table k.words
c_made step k = c_served step k
c_made flush k = c_served flush k
c_made reopen k = c_reopen k.ssd k.hdd k.table k.words
c_made (offer b caller) k = c_served (offer b caller) k
c_made (fetch b caller) k = c_served (fetch b caller) k
c_made (land_fetch b) k = c_served (land_fetch b) k
c_made (look_up b) k = c_served (look_up b) k
c_made (view b) k = c_viewed b k
c_made (write_back b) k = c_served (write_back b) k
c_made (land b page) k = c_served (land b page) k
c_made (ask a) k = c_asked a k
c_made (look_up_list blocks room) k = c_served (look_up_list blocks room) k
c_made (offer_list blocks caller) k = c_served (offer_list blocks caller) k

unfoldable pub c_run : List Call → Left → Left
c_run [] k = k
c_run (c ∷ cs) k = c_run cs (c_made c k)

-- the calls that get past the words: a format or a reopening with any 134, any other call with words that are a record
abbrev pub reaches_by : Kind → List ℕ → Bool
reaches_by (a_format l) words = eqb (length words) record_words
reaches_by a_reopening words = eqb (length words) record_words
reaches_by a_step words = is_record words
reaches_by (a_service a) words = is_record words

abbrev pub reaches : Call → List ℕ → Bool
reaches c words = reaches_by (kind c) words

abbrev pub with_if : Bool → Call → List Call → List Call
with_if true c cs = c ∷ cs
with_if false c cs = cs

unfoldable pub reached : List Call → Left → List Call
reached [] k = []
reached (c ∷ cs) k = with_if (reaches c k.words) c (reached cs (c_made c k))

-- the box that words, table and images are, and what a list of demand 3's calls makes of it, with any reference disk
abbrev pub box_in : Left → Box
box_in k = box_of k.ssd k.hdd k.table (unpacked k.words)

abbrev pub ran_from : Left → Disk → List Call → Box
ran_from k d cs = (run (map call cs) (record { box = box_in k; disk = d })).box

-- A list of C calls leaves what `run` makes of the unpacked box.
pub record RunsAlike (cs : List Call) (k : Left) (d : Disk) : Type 0 where
  -- whatever the words are: unpacked, what is left is what the calls that get past the words make; the others change nothing
  pub any : box_in (c_run cs k) ≡ ran_from k d (reached cs k)
  -- where they are a record, every call gets past them, and the words left are that record, packed
  pub all : is_record k.words ≡ true → reached cs k ≡ cs
  pub unpacks : is_record k.words ≡ true → record_in (c_run cs k).words ≡ Some (ran_from k d cs).state
  pub packs : is_record k.words ≡ true → words_of (ran_from k d cs).state ≡ (c_run cs k).words
