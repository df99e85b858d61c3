-- The moves: the rows of a metadata page as a part of the table, places within the images, and a record whose window grew.
use Prim.Native.Nat.{ℕ, ◌-◌, ◌*◌, ◌≤◌, ◌<◌}
use mathlib.Core.Path.{◌≡◌, sym, ap, ◌∙◌}
use mathlib.Core.Bool.{true}
use mathlib.Core.List.{List}
use native.Mathlib.Omega.{arith}
use native.Mathlib.Nat.{add-sub_cancel_left}
use lib.ListN.{length, take, drop, length-drop, length-append, length-set}
use lib.Seq.{take_all}
use lib.Dec.{ltb}
use borrow.Author.Tests.{ltb-true}
use Rattle.pages.specs.Pages.{put_page, Holds}
use Rattle.layout.specs.declared.Slot.{Slot}
use Rattle.layout.specs.declared.Block.{Block}
use Rattle.layout.specs.declared.Label.{Label}
use Rattle.layout.specs.Places.{meta_pages, meta_place, data_place, block_place, ssd_length, hdd_length}
use Rattle.layout.proofs.PlaceLaws.{page-place, meta_within, data_within, meta_few, data_few}
use Rattle.layout.specs.MetaPage.{encode_meta, rows_on}
use Rattle.protocol.specs.Metadata.{store_place, meta_bytes}
use Rattle.record.specs.declared.Record.{Record}
use Rattle.record.specs.Record.{label_in, window_in}
use Rattle.protocol.specs.Rows.{set_row}
use Rattle.record.specs.Rule.{record_test}
use Rattle.protocol.specs.Perform.{joined}
use Rattle.layout.proofs.Booleans.{Told, told, told_true, told_false}
use Rattle.record.proofs.RecordLaws.{parts, window_is, window-length}
use Rattle.judging.specs.Fits.{FitsRecord}
use Rattle.moves.specs.Moves.{rows_end}

-- the rows of a metadata page, the last of which may be cut short by the table's end
rows-part : (table : List ℕ) (start : ℕ) → start ≤ length table
    → take (rows_end (length table) start - start) (drop start table) ≡ take 480 (drop start table)
rows-part table start h = go (told (ltb (length table - start) 480))
  where
    go : Told (ltb (length table - start) 480)
        → take (rows_end (length table) start - start) (drop start table) ≡ take 480 (drop start table)
    go (told_true e) =
        let l : length table - start < 480 = ltb-true _ _ e in
        rw (e, rows_end) (take_all (length table - start) (drop start table) (simp length-drop (omega arith))
        ∙ sym (take_all 480 (drop start table) (simp length-drop (omega arith))))
    go (told_false e) = rw (e, rows_end) (ap (λ (n : ℕ). take n (drop start table)) (add-sub_cancel_left start 480))

-- a metadata page that was stored
pub meta_stored : (ssd table after page : List ℕ) (state : Record) (stamp p place end : ℕ) → 480 * p ≤ length table
    → end ≡ rows_end (length table) (480 * p) → place ≡ meta_place (label_in state) p
    → page ≡ encode_meta stamp (take state.count state.window) (take (end - 480 * p) (drop (480 * p) table))
    → after ≡ put_page ssd place page
    → after ≡ put_page ssd (store_place (label_in state) ssd p) (meta_bytes (label_in state) stamp (window_in state) (rows_on p table))
unfolding store_place meta_bytes
meta_stored ssd table after page state stamp p place end h e f g k =
    rw (k, g, f, e, rows-part table (480 * p) h, window_is state)

-- a metadata page holds a slot of the table
pub meta_low : (l : Label) (p : ℕ) → p < meta_pages l → 240 * p < l.slots
unfolding meta_pages
meta_low l p h = omega arith

-- a metadata page and a slot's page lie within the SSD image, a block's within the HDD image
pub meta_holds : (ssd : List ℕ) (l : Label) (p place : ℕ) → length ssd ≡ ssd_length l → p < meta_pages l → place ≡ meta_place l p
    → Holds ssd place
meta_holds ssd l p place size h e = rw (e, size) (meta_within l p (page-place l p h))

pub meta_fits : (l : Label) (p place : ℕ) → l.slots ≤ 57600 → p < meta_pages l → place ≡ meta_place l p → place ≤ 4294967295
meta_fits l p place most h e = rw e (omega (arith, meta_few l p (page-place l p h)))

pub data_holds : (ssd : List ℕ) (l : Label) (s : Slot) (place : ℕ) → length ssd ≡ ssd_length l → s.0 < l.slots → place ≡ data_place l s
    → Holds ssd place
data_holds ssd l s place size h e = rw (e, size) (data_within l s h)

pub data_fits : (l : Label) (s : Slot) (place : ℕ) → l.slots ≤ 57600 → s.0 < l.slots → place ≡ data_place l s → place ≤ 4294967295
data_fits l s place most h e = rw e (omega (arith, data_few l s))

pub block_holds : (hdd : List ℕ) (l : Label) (b : Block) (place : ℕ) → length hdd ≡ hdd_length l → b.0 < l.blocks → place ≡ block_place l b
    → Holds hdd place
block_holds hdd l b place size h e = omega arith

-- a row is set and its slot joins the window: the lengths still fit
pub joined_fits : (ssd : ℕ) (table after : List ℕ) (state next : Record) (s hand : Slot) (b : Block) (caller flags : ℕ)
    → FitsRecord ssd (length table) state → record_test state ≡ true → state.count < 63 → after ≡ set_row table s b flags
    → next ≡ joined s caller hand state → FitsRecord ssd (length after) next
joined_fits ssd table after state next s hand b caller flags F t h e f =
    let n : length (window_in state) ≡ state.count = window-length state (parts state t) in
    rw (f, e) (record {
      ssd-size = F.ssd-size;
      table-size = simp length-set F.table-size;
      slots-most = F.slots-most;
      window_most_is = rw length-append (omega arith);
    })
