-- What holds beside demand 3.
use Rattle.std.specs.Prelude.{ℕ, zero, suc, ◌+◌, ◌-◌, ◌*◌, ◌/◌, ◌%◌, min, ◌≤◌, ◌<◌, ◌≡◌, ◌≢◌, ◌⊎◌, Bool, true, false, not, ◌&&◌, ◌||◌, length, get_or, take, eqb}
use mathlib.Core.List.{List, [], ◌∷◌, ◌++◌, map, Mem, Permᴰ, Pairwise}
use Rattle.std.specs.Prelude.{Option, Some, None, Ok, Err}
use Rattle.std.specs.Prelude.{Result as OrRefused}
use Rattle.pages.specs.Pages.{page_at, put_page, zero_page, IsPage}
use Rattle.pages.specs.Parts.{Part}
use Rattle.layout.specs.declared.Slot.{Slot}
use Rattle.layout.specs.declared.Block.{Block}
use Rattle.layout.specs.declared.Label.{Label}
use Rattle.layout.specs.Places.{Limits, format_steps, label_place, meta_pages, meta_place, meta_of, slot_on}
use Rattle.protocol.specs.Metadata.{read_meta}
use Rattle.layout.specs.MetaPage.{encode_meta, rows_on, stamp_of, window_of, entry_at, rows_from}
use Rattle.layout.specs.PageRule.{PageRule, listed}
use Rattle.layout.specs.Stamps.{opening_bound}
use Rattle.record.specs.declared.Record.{Record}
use Rattle.record.specs.declared.Phase.{Phase}
use Rattle.record.specs.declared.Phase.TheVariants.{Formatting, Recovering, Ready}
use Rattle.protocol.specs.declared.Condition.TheVariants.{Clean, Dirty, Writing, Fetching}
use Rattle.protocol.specs.declared.Stored.{Stored}
use Rattle.protocol.specs.declared.Stored.TheVariants.{Ssd, Hdd}
use Rattle.protocol.specs.declared.Counts.{Counts}
use Rattle.protocol.specs.declared.Cost.{Cost}
use Rattle.protocol.specs.declared.Cost.TheVariants.{Counted, Met}
use Rattle.protocol.specs.Reply.{Reply, refusal, answer, dealt, refused, announced, overwrite, copied_out, done}
use Rattle.protocol.specs.Rows.{row_block, row_flags, valid, dirty, writing}
use Rattle.record.specs.Callers.{open_by}
use Rattle.record.specs.Record.{label_in, window_in, callers_in, window_of as record_window, with_stamp, put_window}
use Rattle.protocol.specs.Box.{Images, Box, ssd_image, hdd_image, Store, Effect, refusing, Result, box_after}
use Rattle.protocol.specs.Condition.{condition_of, is_open}
use Rattle.protocol.specs.Plan.{Ask, slot_map, cost, Call, format, step, reopen, offer, fetch, land, land_fetch, look_up, look_up_list, offer_list, ask, format_label}
use Rattle.protocol.specs.Kinds.{Purpose, aim}
use Rattle.protocol.specs.Recovery.{label_at, metas_of, spent_stamp, entry_in, stored_rows, Recovered, recover_from}
use Rattle.protocol.specs.SlotMap.{letter_of, map_lines, map_bytes, map_text}
use Rattle.protocol.specs.declared.Refusal.{Refusal}
use Rattle.protocol.specs.declared.Refusal.TheVariants.{NoLabel, WrongLength}
use Rattle.protocol.specs.Judge.{number_of, test}
use Rattle.protocol.specs.Calls.{number_in, effect_of, result_of, box_of, view_of, words_left, map_of}
use Rattle.protocol.specs.Cost.{PageKind, copy_out, metadata, data_page, page_kind, is_copied_out, cost_in}
use Rattle.protocol.specs.Events.{World, Memory, Arrival, new, Event, call, cut, lent, read_of, called, crashed, run, steps, formatted, start_of, AllFit}
use Rattle.protocol.specs.Demand3.{stored_window, slot_said}

-- On any images, table and record.

-- "Each call stores at most one page" is the type of an effect's store. A whole format stores M + 2: none as it begins, and
-- one at each step.
pub record FormatStores (slots blocks : ℕ) (x : Box) : Type 0 where
  pub none_first : (effect_of (format slots blocks) x).store ≡ None
  pub one_each : (k : ℕ) → k < format_steps (format_label slots blocks)
      → (s : Store) × ((effect_of step (steps k (box_after (result_of (format slots blocks) x)))).store ≡ Some s)
  -- "a zero label page, the M metadata pages .., the label": from the first step till the last the label page is zero
  pub zero_till_last : (k : ℕ) → 0 < k → k < format_steps (format_label slots blocks)
      → page_at (steps k (box_after (result_of (format slots blocks) x))).images.ssd label_place ≡ zero_page

abbrev pub WholeFormat : Type 0
WholeFormat = (slots blocks : ℕ) (x : Box) → refused (result_of (format slots blocks) x).said ≡ false → FormatStores slots blocks x

-- Outside the page that a call names as stored the images are as they were handed in; where it names none, and where it refuses, all
-- of them are.
pub record OnePage (before after : List ℕ) (i : ℕ) : Type 0 where
  pub bytes : List ℕ
  pub size : length bytes ≡ 4096
  pub stored : after ≡ put_page before i bytes

pub record StoresThere (c : Call) (x : Box) : Type 0 where
  pub nowhere : (result_of c x).stored ≡ None → ((result_of c x).ssd ≡ x.images.ssd) × ((result_of c x).hdd ≡ x.images.hdd)
  pub on_ssd : (i : ℕ) → (result_of c x).stored ≡ Some (Ssd i)
      → OnePage x.images.ssd (result_of c x).ssd i × ((result_of c x).hdd ≡ x.images.hdd)
  pub on_hdd : (i : ℕ) → (result_of c x).stored ≡ Some (Hdd i)
      → ((result_of c x).ssd ≡ x.images.ssd) × OnePage x.images.hdd (result_of c x).hdd i
  pub refused-nowhere : refused (result_of c x).said ≡ true → (result_of c x).stored ≡ None

-- the stamp that a metadata page is stored with: 0 while formatting, else the newest
abbrev pub stamp_stored : Phase → ℕ → ℕ
stamp_stored (Formatting d) newest = 0
stamp_stored Recovering newest = newest
stamp_stored Ready newest = newest

-- a page read and stored with its own stamp and window is that page again, with the rows of all its entries, and with those of
-- just its slots
pub record StoredAgain (l : Label) (p : ℕ) (page : List ℕ) : Type 0 where
  pub all-entries : encode_meta (stamp_of page) (window_of page) (rows_from 240 (entry_at page)) ≡ page
  pub own-slots : encode_meta (stamp_of page) (window_of page) (rows_from (min 240 (l.slots - 240 * p)) (entry_at page)) ≡ page

-- so of any 4,096 bytes that keep the page's rule
abbrev pub ReadsBack : Type 0
ReadsBack = (l : Label) (p : ℕ) (page : List ℕ) → IsPage page → PageRule l p page → StoredAgain l p page

-- the same by the table's own path: the rows of all entries of an SSD image, of which page p is stored with its stamp and window
abbrev pub TableBack : Type 0
TableBack =
    (l : Label) (ssd : List ℕ) (p : ℕ) → p < meta_pages l
    → IsPage (read_meta l ssd p) → PageRule l p (read_meta l ssd p)
    → encode_meta (stamp_of (read_meta l ssd p)) (window_of (read_meta l ssd p)) (rows_on p (stored_rows l (metas_of l ssd)))
    ≡ read_meta l ssd p

-- a metadata page that an accepted call stores keeps the page's rule, and says the table's rows without used flags, the
-- window and the stamp, as they are after the call; read and stored again, it is the same
pub record MetaStored (l : Label) (p : ℕ) (bytes : List ℕ) (before : Phase) (state : Record) (table : List ℕ) : Type 0 where
  pub legal : PageRule l p bytes
  pub stamp : stamp_of bytes ≡ stamp_stored before state.newest
  pub window : window_of bytes ≡ window_in state
  pub entries : (i : ℕ) → i < 240
      → entry_at bytes i ≡ record { block = row_block table (slot_on p i); flags = row_flags table (slot_on p i) % 8 }
  pub is_page : IsPage bytes
  pub again : StoredAgain l p bytes

abbrev pub StoresLegally : Call → Box → Type 0
StoresLegally c x =
    refused (result_of c x).said ≡ false
    → (s : Store) → (effect_of c x).store ≡ Some s → s.image ≡ ssd_image
    → (p : ℕ) → p < meta_pages (label_in x.state) → s.place ≡ meta_place (label_in x.state) p
    → MetaStored (label_in x.state) p s.bytes x.state.phase (result_of c x).state (result_of c x).table

-- "An offer repeated with nothing in between is never "copied out" a second time running"
abbrev pub CopiesOnce : Block → ℕ → Box → Type 0
CopiesOnce b caller x =
    (result_of (offer b caller) x).said ≡ copied_out → (result_of (offer b caller) (box_after (result_of (offer b caller) x))).said ≢ copied_out

-- an accepted offer answers "announced", "overwrite" or "copied out", an accepted fetch "announced" or "copied out"
pub data OfferAnswer : Reply → Type 0 where
  says_announced : (s : Slot) → OfferAnswer (announced s)
  says_overwrite : OfferAnswer overwrite
  says_copied : OfferAnswer copied_out

pub data FetchAnswer : Reply → Type 0 where
  fetch_announced : (s : Slot) → FetchAnswer (announced s)
  fetch_copied : FetchAnswer copied_out

pub record Answers (b : Block) (caller : ℕ) (x : Box) : Type 0 where
  pub of_offer : refused (result_of (offer b caller) x).said ≡ false → OfferAnswer (result_of (offer b caller) x).said
  pub of_fetch_is : refused (result_of (fetch b caller) x).said ≡ false → FetchAnswer (result_of (fetch b caller) x).said

-- "Mending takes at most 63 steps": a box that is still mending after k steps, none of them refused, has made fewer than 63
abbrev pub MendsSoon : Box → Type 0
MendsSoon x =
    (k : ℕ) → ((j : ℕ) → j ≤ k → refused (result_of step (steps j x)).said ≡ false)
    → ((j : ℕ) → j ≤ k → (steps j x).state.phase ≡ Recovering) → k < 63

-- A reopening after 2 and 4 is `recoverFrom` of the label, the metadata pages and the spent stamp: nothing is 5.
abbrev pub recovered_to : Box → Option Recovered → Effect
recovered_to x None = refusing 5 x
recovered_to x (Some r) = record { said = done; state = r.state; table = r.table; store = None }

abbrev pub ReopensFrom : Box → Type 0
ReopensFrom x =
    let l = label_at x.images.ssd in
    test NoLabel reopen x ≡ false → test WrongLength reopen x ≡ false
    → effect_of reopen x ≡ recovered_to x (recover_from l (metas_of l x.images.ssd) (spent_stamp l x.images.ssd))

-- What a view hands back does not depend on where the images lie: its number, and its bytes, which are what demand 3 reads. So
-- view's contract, at the places of the lent images, gives `read_of`.
pub record ReadsAnywhere (ssd hdd : Part) (table : List ℕ) (state : Record) (b : Block) : Type 0 where
  pub number : (view_of ssd hdd table state b).number ≡ (view_of (lent ssd.bytes) (lent hdd.bytes) table state b).number
  pub bytes : (view_of ssd hdd table state b).handed.bytes ≡ read_of (box_of ssd.bytes hdd.bytes table state) b

-- A call that only asks changes nothing of a box and stores nothing, refused or not.
pub record ChangesNothing (a : Ask) (x : Box) : Type 0 where
  pub box : box_after (result_of (ask a) x) ≡ x
  pub stored : (result_of (ask a) x).stored ≡ None

-- Document 02, N1: the slot map. In demand 3's lists it answers by the number that its contract gives: 0 is done.
abbrev pub said_by : ℕ → Reply
said_by zero = done
said_by (suc n) = refusal (suc n)

abbrev pub MapSays : List ℕ → List ℕ → List ℕ → Record → List ℕ → Type 0
MapSays ssd hdd table state sheet =
    (result_of (ask (slot_map (length sheet))) (box_of ssd hdd table state)).said ≡ said_by (map_of ssd hdd table state sheet).number

-- lines of "67 bytes exactly"; where each slot's letter stands, what fills the last line, and what ends each
pub record MapPlaces (l : Label) (table : List ℕ) : Type 0 where
  pub size : length (map_text l table) ≡ 67 * map_lines l
  pub letter : (s : Slot) → s.0 < l.slots → get_or (map_text l table) (67 * (s.0 / 60) + (6 + s.0 % 60)) 0 ≡ letter_of (row_flags table s)
  pub filled : (s : ℕ) → l.slots ≤ s → s < 60 * map_lines l → get_or (map_text l table) (67 * (s / 60) + (6 + s % 60)) 0 ≡ 32
  pub ended : (k : ℕ) → k < map_lines l → get_or (map_text l table) (67 * k + 66) 0 ≡ 10

abbrev pub MapsSlots : Type 0
MapsSlots = (l : Label) (table : List ℕ) → Limits l → MapPlaces l table

-- a refused map leaves the buffer; one that is not begins it with the text; "Bytes of the buffer after the last line stay"
pub record MapKeeps (ssd hdd table : List ℕ) (state : Record) (sheet : List ℕ) : Type 0 where
  pub refused-same : (map_of ssd hdd table state sheet).number ≢ 0 → (map_of ssd hdd table state sheet).sheet ≡ sheet
  pub begins : (map_of ssd hdd table state sheet).number ≡ 0
      → take (map_bytes (label_in state)) (map_of ssd hdd table state sheet).sheet ≡ map_text (label_in state) table
  pub after_stays : (k : ℕ) → map_bytes (label_in state) ≤ k → get_or (map_of ssd hdd table state sheet).sheet k 0 ≡ get_or sheet k 0
  pub size : length (map_of ssd hdd table state sheet).sheet ≡ length sheet

-- "`c` clean, `d` dirty, `w` open for writing, `f` open for fetch": the letter of a block's slot says the block's condition
pub record LetterSays (table : List ℕ) (b : Block) (s : Slot) : Type 0 where
  pub clean : condition_of table b ≡ Clean s → letter_of (row_flags table s) ≡ 99
  pub dirtied : condition_of table b ≡ Dirty s → letter_of (row_flags table s) ≡ 100
  pub writes : condition_of table b ≡ Writing s → letter_of (row_flags table s) ≡ 119
  pub fetches : condition_of table b ≡ Fetching s → letter_of (row_flags table s) ≡ 102

-- "the page of the call it breaks off old or new; that call counts as made exactly if its store was done": what a cut leaves is
-- the world after the call or before it
abbrev pub CutLeaves : Call → Arrival → World → Type 0
CutLeaves c a w = (crashed c a w ≡ called c w) ⊎ (crashed c a w ≡ w)

-- Document 02, N11: "Landings come back in either order."

-- a landing: of a write, with its bytes, or of a fetch
pub data Landing : Type 0 where
  of_write : Block → List ℕ → Landing
  of_fetch : Block → Landing

abbrev pub landing_call : Landing → Call
landing_call (of_write b page) = land b page
landing_call (of_fetch b) = land_fetch b

abbrev pub landing_block : Landing → Block
landing_block (of_write b page) = b
landing_block (of_fetch b) = b

-- "each open": the landing is accepted, and its block is open, so it does not land in place
pub record LandsOpen (c : Landing) (x : Box) : Type 0 where
  pub accepted : refused (result_of (landing_call c) x).said ≡ false
  pub is_open_is : is_open (condition_of x.table (landing_block c)) ≡ true

-- "different blocks"
abbrev pub OtherBlock : Landing → Landing → Type 0
OtherBlock c d = (landing_block c).0 ≢ (landing_block d).0

-- "for two different blocks, each open .., for writes and fetches mixed"
pub record TwoOpen (c d : Landing) (x : Box) : Type 0 where
  pub one : LandsOpen c x
  pub other : LandsOpen d x
  pub different : OtherBlock c d

-- the box that a landing leaves
abbrev pub landed : Landing → Box → Box
landed c x = box_after (result_of (landing_call c) x)

-- "landing one and then the other leaves the same images, table and record as the reverse order"
abbrev pub EitherOrder : Type 0
EitherOrder = (c d : Landing) (x : Box) → TwoOpen c d x → landed d (landed c x) ≡ landed c (landed d x)

-- after either of them the other is open still, and accepted
abbrev pub StillOpen : Type 0
StillOpen = (c d : Landing) (x : Box) → TwoOpen c d x → LandsOpen d (landed c x) × LandsOpen c (landed d x)

-- "and that a cut after both reads alike": whatever events come after both, box and reference disk are the same; so they are where the
-- cut breaks the second off, its page stored
pub record LandAlike (c d : Landing) (w : World) : Type 0 where
  pub after_both : (es : List Event)
      → run (call (landing_call c) ∷ call (landing_call d) ∷ es) w ≡ run (call (landing_call d) ∷ call (landing_call c) ∷ es) w
  pub cut_at_second : (j : Memory) (es : List Event)
      → run (call (landing_call c) ∷ cut (landing_call d) new j ∷ es) w ≡ run (call (landing_call d) ∷ cut (landing_call c) new j ∷ es) w

abbrev pub AlikeAfter : Type 0
AlikeAfter = (c d : Landing) (w : World) → TwoOpen c d w.box → LandAlike c d w

-- "Any arrangement of a whole set of open blocks follows from it": landings of open blocks, each of another block
pub record OpenSet (cs : List Landing) (x : Box) : Type 0 where
  pub each : (c : Landing) → Mem c cs → LandsOpen c x
  pub different : Pairwise OtherBlock cs

-- each lands open as its turn comes
abbrev pub AllLand : List Landing → Box → Type 0
AllLand [] x = Unit {0}
AllLand (c ∷ cs) x = LandsOpen c x × AllLand cs (landed c x)

-- in any arrangement all of them land open, and what comes after is the same
pub record Arrangement (cs ds : List Landing) (w : World) : Type 0 where
  pub all-land : AllLand ds w.box
  pub same : (es : List Event) → run (map (λ c. call (landing_call c)) cs ++ es) w ≡ run (map (λ c. call (landing_call c)) ds ++ es) w

abbrev pub Arranged : Type 0
Arranged = (cs ds : List Landing) (w : World) → OpenSet cs w.box → Permᴰ cs ds → Arrangement cs ds w

-- Document 02, N6: "equality with the single look-ups in list order is the promise".

-- a single look-up's word: the slot that it names plus 1 for 108 and 109, clean and dirty; else 0
abbrev pub word_said : Option Slot → ℕ
word_said None = 0
word_said (Some s) = s.0 + 1

-- the single look-ups in list order: their words, the box that they leave, and whether all were taken, none refused
pub record Singles : Type 0 where
  pub words : List ℕ
  pub box : Box
  pub taken : Bool

unfoldable pub singles : List ℕ → Box → Singles
singles [] x = record { words = []; box = x; taken = true }
singles (b ∷ blocks) x =
    let r = result_of (look_up (record { 0 = b })) x in
    let rest = singles blocks (box_after r) in
    record {
      words = word_said (slot_said r.said) ∷ rest.words;
      box = rest.box;
      taken = not (refused r.said) && rest.taken;
    }

-- on any box, where the list is not refused, words and box are those of the single look-ups, none of which is refused; a refusal
-- changes neither
pub record ListAlike (blocks words : List ℕ) (x : Box) : Type 0 where
  pub same-words : refused (result_of (look_up_list blocks (length words)) x).said ≡ false → words_left blocks words x ≡ (singles blocks x).words
  pub same-box : refused (result_of (look_up_list blocks (length words)) x).said ≡ false
      → box_after (result_of (look_up_list blocks (length words)) x) ≡ (singles blocks x).box
  pub all-taken : refused (result_of (look_up_list blocks (length words)) x).said ≡ false → (singles blocks x).taken ≡ true
  pub no_word : refused (result_of (look_up_list blocks (length words)) x).said ≡ true → words_left blocks words x ≡ words

abbrev pub LooksAlike : Type 0
LooksAlike = (blocks words : List ℕ) (x : Box) → ListAlike blocks words x

-- Document 02, N3: a list offer "is treated as offers one after another".

-- a record, and a box, at another newest stamp
abbrev pub stamped_at : ℕ → Record → Record
stamped_at m r = put_window (with_stamp r m) r.unconfirmed (record_window r)

abbrev pub at_stamp : ℕ → Box → Box
at_stamp m x = record { images = x.images; table = x.table; state = stamped_at m x.state }

-- an offer was announced, or answered "overwrite"
abbrev pub is_taken : Reply → Bool
is_taken (refusal n) = false
is_taken (answer n s) = eqb n 101 || eqb n 102
is_taken (dealt n) = false

-- single offers, one after another: the box that they leave, and whether each was taken so
pub record Offers : Type 0 where
  pub box : Box
  pub taken : Bool

unfoldable pub one_by_one : List ℕ → ℕ → Box → Offers
one_by_one [] caller x = record { box = x; taken = true }
one_by_one (b ∷ blocks) caller x =
    let r = result_of (offer (record { 0 = b }) caller) x in
    let rest = one_by_one blocks caller (box_after r) in
    record { box = rest.box; taken = is_taken r.said && rest.taken }

-- an offer "that would be refused, would copy out, or has its slot on another metadata page than the first announced", which was stored
pub data EndsList (l : Label) (stored : Option Stored) : Reply → Type 0 where
  by_refusal : (k : ℕ) → EndsList l stored (refusal k)
  by_copy : EndsList l stored copied_out
  by_page : (s : Slot) (q : ℕ) → stored ≡ Some (Ssd (meta_place l q)) → meta_of s ≢ q → EndsList l stored (announced s)

-- how many pages a call stored
abbrev pub stored_pages : Option Stored → ℕ
stored_pages None = 0
stored_pages (Some s) = 1

-- n places were dealt with: from stamp m n single offers are taken, and leave the same table, hand and window, the record but for the
-- stamp; "the stamp rises by one or not at all"; and the next place, if there is one, ends the list
pub record AsOffers (blocks : List ℕ) (caller n m : ℕ) (x : Box) : Type 0 where
  pub some_place : 0 < n
  pub in_list : n ≤ length blocks
  pub all-taken : (one_by_one (take n blocks) caller (at_stamp m x)).taken ≡ true
  pub same-table : (one_by_one (take n blocks) caller (at_stamp m x)).box.table ≡ (result_of (offer_list blocks caller) x).table
  pub same_record : stamped_at 0 (one_by_one (take n blocks) caller (at_stamp m x)).box.state
      ≡ stamped_at 0 (result_of (offer_list blocks caller) x).state
  pub one-stamp : (result_of (offer_list blocks caller) x).state.newest
      ≡ x.state.newest + stored_pages (result_of (offer_list blocks caller) x).stored
  pub next_ends : n < length blocks → EndsList (label_in x.state) (result_of (offer_list blocks caller) x).stored
      (result_of (offer (record { 0 = get_or blocks n 0 }) caller) (one_by_one (take n blocks) caller (at_stamp m x)).box).said

-- on any box, from any stamp that leaves 13 room for them all
abbrev pub ListAsOffers : Type 0
ListAsOffers = (blocks : List ℕ) (caller n m : ℕ) (x : Box) → (result_of (offer_list blocks caller) x).said ≡ dealt n
    → m + length blocks ≤ opening_bound (label_in x.state) → AsOffers blocks caller n m x

-- a list of one block is the offer of it, the answer apart, where that is taken
pub record OneAsOffer (b : Block) (caller : ℕ) (x : Box) : Type 0 where
  pub same-box : box_after (result_of (offer_list (b.0 ∷ []) caller) x) ≡ box_after (result_of (offer b caller) x)
  pub same-page : (result_of (offer_list (b.0 ∷ []) caller) x).stored ≡ (result_of (offer b caller) x).stored
  pub one-dealt : is_taken (result_of (offer b caller) x).said ≡ true → (result_of (offer_list (b.0 ∷ []) caller) x).said ≡ dealt 1
  pub else_same : is_taken (result_of (offer b caller) x).said ≡ false
      → (result_of (offer_list (b.0 ∷ []) caller) x).said ≡ (result_of (offer b caller) x).said

abbrev pub ListOfOne : Type 0
ListOfOne = (b : Block) (caller : ℕ) (x : Box) → OneAsOffer b caller x

-- Document 02, N8: "The three counts equal the pages stored by really doing it, kind by kind, and the scratch table ends as that run would
-- leave the table."

-- in demand 3's lists the call answers by the number of its refusal; any other answer is done
abbrev pub CostSays : List ℕ → ℕ → List ℕ → Box → Type 0
CostSays blocks caller scratch x =
    (result_of (ask (cost blocks caller (length scratch))) x).said ≡ said_by (number_in (cost_in blocks caller scratch x).answer)

-- calls really made, each on what the last left: the kinds of the pages that they stored, one after another, the box that they leave, and
-- the last one's answer
pub record Made : Type 0 where
  pub kinds : List PageKind
  pub box : Box
  pub said : Reply

abbrev pub kinds_stored : Purpose → Option Stored → List PageKind
kinds_stored p None = []
kinds_stored p (Some (Ssd i)) = page_kind p ssd_image ∷ []
kinds_stored p (Some (Hdd i)) = page_kind p hdd_image ∷ []

abbrev pub makes_of : Purpose → Result → Made
makes_of p r = record { kinds = kinds_stored p r.stored; box = box_after r; said = r.said }

unfoldable pub makes : Call → Box → Made
makes c x = makes_of (aim c).purpose (result_of c x)

abbrev pub joins : Made → Made → Made
joins d e = record { kinds = d.kinds ++ e.kinds; box = e.box; said = e.said }

-- a call more, or not
abbrev pub makes_if : Bool → Call → Made → Made
makes_if true c d = joins d (makes c d.box)
makes_if false c d = d

-- a block is offered, once more after "copied out", and landed unless that was refused
unfoldable pub offers_really : ℕ → Block → Box → Made
offers_really caller b x = makes_if (is_copied_out (makes (offer b caller) x).said) (offer b caller) (makes (offer b caller) x)

unfoldable pub imports_really : ℕ → Block → List ℕ → Box → Made
imports_really caller b page x = makes_if (not (refused (offers_really caller b x).said)) (land b page) (offers_really caller b x)

-- a list of blocks, to the first refusal: its number, and its place in the list
pub record Meeting : Type 0 where
  pub number : ℕ
  pub place : ℕ

pub record Import : Type 0 where
  pub kinds : List PageKind
  pub box : Box
  pub met : Option Meeting

abbrev pub import_then : Reply → ℕ → Made → Import → Import
import_then (refusal n) place d rest = record { kinds = d.kinds; box = d.box; met = Some (record { number = n; place = place }) }
import_then (answer n s) place d rest = record { kinds = d.kinds ++ rest.kinds; box = rest.box; met = rest.met }
import_then (dealt n) place d rest = record { kinds = d.kinds ++ rest.kinds; box = rest.box; met = rest.met }

-- the block at each place is landed with that place's page
unfoldable pub import_all : ℕ → (ℕ → List ℕ) → ℕ → List ℕ → Box → Import
import_all caller pages place [] x = record { kinds = []; box = x; met = None }
import_all caller pages place (b ∷ blocks) x =
    let d = imports_really caller (record { 0 = b }) (pages place) x in
    import_then d.said place d (import_all caller pages (suc place) blocks d.box)

-- how many pages of a kind there are
abbrev pub is_kind : PageKind → PageKind → Bool
is_kind copy_out copy_out = true
is_kind copy_out metadata = false
is_kind copy_out data_page = false
is_kind metadata copy_out = false
is_kind metadata metadata = true
is_kind metadata data_page = false
is_kind data_page copy_out = false
is_kind data_page metadata = false
is_kind data_page data_page = true

unfoldable pub how_many : PageKind → List PageKind → ℕ
how_many k [] = 0
how_many k (j ∷ kinds) = elim (is_kind k j) [ true ↦ suc (how_many k kinds) | false ↦ how_many k kinds ]

abbrev pub counts_of : List PageKind → Counts
counts_of kinds = record { copies = how_many copy_out kinds; metadata = how_many metadata kinds; landings = how_many data_page kinds }

abbrev pub answer_by : Option Meeting → Counts → Cost
answer_by None counts = Counted counts
answer_by (Some m) counts = Met m.number m.place counts

-- on any box, with any pages of 4,096 bytes: where the question is not refused its answer is the stores and the meeting of the import
-- really made, and the scratch table its table; a refusal leaves the scratch table
pub record AsDoing (blocks : List ℕ) (caller : ℕ) (scratch : List ℕ) (pages : ℕ → List ℕ) (x : Box) : Type 0 where
  pub same_answer : refused (result_of (ask (cost blocks caller (length scratch))) x).said ≡ false
      → (cost_in blocks caller scratch x).answer
      ≡ Ok (answer_by (import_all caller pages 0 blocks x).met (counts_of (import_all caller pages 0 blocks x).kinds))
  pub same-table : refused (result_of (ask (cost blocks caller (length scratch))) x).said ≡ false
      → (cost_in blocks caller scratch x).scratch ≡ (import_all caller pages 0 blocks x).box.table
  pub scratch_stays : refused (result_of (ask (cost blocks caller (length scratch))) x).said ≡ true
      → (cost_in blocks caller scratch x).scratch ≡ scratch

abbrev pub CostIsDoing : Type 0
CostIsDoing = (blocks : List ℕ) (caller : ℕ) (scratch : List ℕ) (pages : ℕ → List ℕ) (x : Box) → ((k : ℕ) → length (pages k) ≡ 4096)
    → AsDoing blocks caller scratch pages x

-- In a list of demand 3, update before data: what is stored of a slot as bytes land in it.

-- an open slot: its stored entry is valid, writing and for the block, and the newest stored window names it
pub record StoredOpen (l : Label) (im : Images) (b : Block) (s : Slot) : Type 0 where
  pub valid_entry : valid (entry_in (metas_of l im.ssd) s).flags ≡ true
  pub writing_entry : writing (entry_in (metas_of l im.ssd) s).flags ≡ true
  pub block : (entry_in (metas_of l im.ssd) s).block.0 ≡ b.0
  pub in_window_lem : listed s (stored_window l im) ≡ true

-- of a write its stored entry is dirty, too
pub record StoredWriting (l : Label) (im : Images) (b : Block) (s : Slot) : Type 0 where
  pub opened : StoredOpen l im b s
  pub dirty_entry : dirty (entry_in (metas_of l im.ssd) s).flags ≡ true

-- a closed dirty slot: its stored entry is valid, dirty and for the block
pub record StoredDirty (l : Label) (im : Images) (b : Block) (s : Slot) : Type 0 where
  pub valid_entry : valid (entry_in (metas_of l im.ssd) s).flags ≡ true
  pub dirty_entry : dirty (entry_in (metas_of l im.ssd) s).flags ≡ true
  pub block : (entry_in (metas_of l im.ssd) s).block.0 ≡ b.0

pub record UpdateFirst (l : Label) (w : World) : Type 0 where
  pub land_open : (b : Block) (page : List ℕ) → refused (result_of (land b page) w.box).said ≡ false
      → (s : Slot) → condition_of w.box.table b ≡ Writing s → StoredWriting l w.box.images b s
  pub land-closed : (b : Block) (page : List ℕ) → refused (result_of (land b page) w.box).said ≡ false
      → (s : Slot) → condition_of w.box.table b ≡ Dirty s → StoredDirty l w.box.images b s
  pub fetch_open : (b : Block) → refused (result_of (land_fetch b) w.box).said ≡ false
      → (s : Slot) → condition_of w.box.table b ≡ Fetching s → StoredOpen l w.box.images b s

abbrev pub UpdateBeforeData : Type 0
UpdateBeforeData =
    (slots blocks : ℕ) (x : Box)
    → refused (result_of (format slots blocks) x).said ≡ false
    → (es : List Event)
    → AllFit es (start_of (format_label slots blocks) (formatted slots blocks x))
    → UpdateFirst (format_label slots blocks) (run es (start_of (format_label slots blocks) (formatted slots blocks x)))

-- Document 02, N7: "Caller 1 may have at most 8 slots open, all together at most 63"; "Each window place in the record names its caller":
-- there are as many callers as slots.
pub record Bounded (r : Record) : Type 0 where
  pub import_few : open_by 1 (callers_in r) ≤ 8
  pub all_few : length (window_in r) ≤ 63
  pub one_each : length (callers_in r) ≡ length (window_in r)

-- in every list of demand 3
abbrev pub ImportBounded : Type 0
ImportBounded =
    (slots blocks : ℕ) (x : Box)
    → refused (result_of (format slots blocks) x).said ≡ false
    → (es : List Event)
    → AllFit es (start_of (format_label slots blocks) (formatted slots blocks x))
    → Bounded (run es (start_of (format_label slots blocks) (formatted slots blocks x))).box.state
