-- Document 02, N8: "How many stores will this import cost?"
use Rattle.std.specs.Prelude.{ℕ, suc, ◌+◌, Bool, true, false, List, [], ◌∷◌, length, eqb}
use Rattle.std.specs.Prelude.{Option, Some, None, Result, Ok, Err}
use Rattle.pages.specs.Pages.{zero_page}
use Rattle.layout.specs.declared.Block.{Block}
use Rattle.record.specs.declared.Record.{Record}
use Rattle.protocol.specs.declared.Counts.{Counts}
use Rattle.protocol.specs.declared.Cost.{Cost}
use Rattle.protocol.specs.declared.Cost.TheVariants.{Counted, Met}
use Rattle.protocol.specs.Reply.{Reply, refusal, answer, dealt, refused, done}
use Rattle.protocol.specs.Box.{Box, Image, ssd_image, hdd_image, Store, Effect}
use Rattle.protocol.specs.Plan.{Call, offer, land, ask, cost}
use Rattle.protocol.specs.Kinds.{Purpose, to_serve, to_settle, to_write, to_fetch, to_land_fetch, to_land, to_count, aim}
use Rattle.protocol.specs.declared.Refusal.{Refusal}
use Rattle.protocol.specs.Judge.{judged}
use Rattle.protocol.specs.Calls.{effect_of, box_of}

-- "the copy-outs, metadata stores and data stores": a page's kind, by the call that stores it and the image that it is on. Of a landing it
-- is a data store, on whichever image; of any other call an HDD page is a copy-out, and an SSD page a metadata page
pub data PageKind : Type 0 where
  copy_out metadata data_page : PageKind

abbrev pub image_kind : Image → PageKind
image_kind ssd_image = metadata
image_kind hdd_image = copy_out

abbrev pub page_kind : Purpose → Image → PageKind
page_kind to_serve image = image_kind image
page_kind to_settle image = image_kind image
page_kind to_write image = image_kind image
page_kind to_fetch image = image_kind image
page_kind to_land_fetch image = data_page
page_kind (to_land page) image = data_page
page_kind (to_count n) image = image_kind image

-- one page more
abbrev pub counts_with : PageKind → Counts → Counts
counts_with copy_out n = record { copies = n.copies + 1; metadata = n.metadata; landings = n.landings }
counts_with metadata n = record { copies = n.copies; metadata = n.metadata + 1; landings = n.landings }
counts_with data_page n = record { copies = n.copies; metadata = n.metadata; landings = n.landings + 1 }

abbrev pub no_stores : Counts
no_stores = record { copies = 0; metadata = 0; landings = 0 }

abbrev pub counts_after : Purpose → Option Store → Counts → Counts
counts_after p None n = n
counts_after p (Some s) n = counts_with (page_kind p s.image) n

-- the run so far: the box, of which table and record alone change, the stores counted, and the last call's answer
pub record Tally : Type 0 where
  pub box : Box
  pub counts : Counts
  pub said : Reply

abbrev pub tallied : Purpose → Effect → Tally → Tally
tallied p e z = record {
  box = record { images = z.box.images; table = e.table; state = e.state };
  counts = counts_after p e.store z.counts;
  said = e.said;
}

-- a call of the run, on what the last one left: its page is counted, and not stored
unfoldable pub tallies : Call → Tally → Tally
tallies c z = tallied (aim c).purpose (effect_of c z.box) z

-- "each repeated after a copy-out"
abbrev pub is_copied_out : Reply → Bool
is_copied_out (refusal n) = false
is_copied_out (answer n s) = eqb n 103
is_copied_out (dealt n) = false

abbrev pub repeats : Bool → Call → Tally → Tally
repeats true c z = tallies c z
repeats false c z = z

unfoldable pub offers_to : ℕ → Block → Tally → Tally
offers_to caller b z = repeats (is_copied_out (tallies (offer b caller) z).said) (offer b caller) (tallies (offer b caller) z)

-- "and landed directly", where it was not refused: whatever the page, here a zero one
abbrev pub lands_unless : Bool → Block → Tally → Tally
lands_unless true b z = z
lands_unless false b z = tallies (land b zero_page) z

-- "single offers, each repeated after a copy-out and landed directly": those of one block
unfoldable pub imports : ℕ → Block → Tally → Tally
imports caller b z = lands_unless (refused (offers_to caller b z).said) b (offers_to caller b z)

-- what the call leaves: its answer and the scratch table
pub record CostLeft : Type 0 where
  pub answer : Result Cost Refusal
  pub scratch : List ℕ

-- "If the run would meet a refusal, the answer has that number, the list place counted from 0 and the counts up to it"; else it goes on
abbrev pub met_or : Reply → ℕ → Tally → CostLeft → CostLeft
met_or (refusal n) place z rest = record { answer = Ok (Met n place z.counts); scratch = z.box.table }
met_or (answer n s) place z rest = rest
met_or (dealt n) place z rest = rest

-- the blocks one after the other, the first at this place; "the scratch table ends as that run would leave the table"
unfoldable pub cost_from : ℕ → ℕ → List ℕ → Tally → CostLeft
cost_from caller place [] z = record { answer = Ok (Counted z.counts); scratch = z.box.table }
cost_from caller place (b ∷ blocks) z =
    met_or (imports caller (record { 0 = b }) z).said place (imports caller (record { 0 = b }) z)
    (cost_from caller (suc place) blocks (imports caller (record { 0 = b }) z))

abbrev pub not_started : Box → Tally
not_started x = record { box = x; counts = no_stores; said = done }

-- "refused by that number .., the scratch table unchanged", or the run
abbrev pub cost_by : Option Refusal → List ℕ → ℕ → List ℕ → Box → CostLeft
cost_by (Some r) blocks caller scratch x = record { answer = Err r; scratch = scratch }
cost_by None blocks caller scratch x = cost_from caller 0 blocks (not_started x)

unfoldable pub cost_in : List ℕ → ℕ → List ℕ → Box → CostLeft
cost_in blocks caller scratch x = cost_by (judged (ask (cost blocks caller (length scratch))) x) blocks caller scratch x

abbrev pub cost_of : List ℕ → List ℕ → List ℕ → Record → List ℕ → ℕ → List ℕ → CostLeft
cost_of ssd hdd table state blocks caller scratch = cost_in blocks caller scratch (box_of ssd hdd table state)
