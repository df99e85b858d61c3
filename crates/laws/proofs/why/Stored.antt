-- 13: which moves store metadata, and what every other move stores.
use Prim.Native.Nat.{ℕ, ◌+◌}
use mathlib.Core.Bool.{Bool, true, false}
use mathlib.Core.List.{List}
use Rattle.std.specs.Prelude.{Option, Some, None}
use Rattle.pages.specs.Pages.{page_at}
use Rattle.layout.specs.declared.Slot.{Slot}
use Rattle.layout.specs.Places.{data_place, block_place}
use Rattle.layout.specs.MetaPage.{rows_on}
use Rattle.protocol.specs.Metadata.{store_place, meta_bytes}
use Rattle.protocol.specs.Rows.{row_block}
use Rattle.record.specs.Record.{label_in, window_in}
use Rattle.protocol.specs.Box.{Box, ssd_image, hdd_image, Store}
use Rattle.protocol.specs.Plan.{grown, Move, stay, uses, uses_all, announces, lands, copies, confirms, mends, begins, formats, recovers, stores_meta}
use Rattle.protocol.specs.Perform.{confirmed, mended_at, format_store, perform}

-- a metadata page with the newest stamp plus 1; or nothing, a data page, a page of the disk, or a format's page
pub data Stored (x : Box) : Bool → Option Store → Type 0 where
  metadata : (p : ℕ) (w : List Slot) (rows : List ℕ)
      → Stored x true (Some (record {
        image = ssd_image;
        place = store_place (label_in x.state) x.images.ssd p;
        bytes =
            meta_bytes (label_in x.state) (x.state.newest + 1) w rows;
      }))
  nothing : Stored x false None
  slot_page : (s : Slot) (page : List ℕ) → Stored x false
      (Some (record { image = ssd_image; place = data_place (label_in x.state) s; bytes = page }))
  disk_page : (place : ℕ) (page : List ℕ) → Stored x false (Some (record { image = hdd_image; place = place; bytes = page }))
  format_page : (d : ℕ) → Stored x false (Some (format_store (label_in x.state) x.table (window_in x.state) d))

pub stored : (v : Move) (x : Box) → Stored x (stores_meta v) (perform v x).store
unfolding perform confirmed
stored (stay p) x = nothing
stored (uses s p) x = nothing
stored (uses_all ss) x = nothing
stored (announces p q t h w cs) x = metadata q (window_in (grown x.state h w cs)) (rows_on q t)
stored (lands w s page) x = slot_page s page
stored (copies s p t h) x = disk_page (block_place (label_in x.state) (row_block t s))
    (page_at x.images.ssd (data_place (label_in x.state) s))
stored confirms x = metadata 0 (window_in x.state) (rows_on 0 x.table)
stored (mends p) x = metadata p (window_in (mended_at p x.state)) (rows_on p x.table)
stored (begins l) x = nothing
stored (formats d) x = format_page d
stored recovers x = nothing
