-- Metadata in an SSD image: one reader, and one writer.
use Rattle.std.specs.Prelude.{ℕ, List}
use Rattle.pages.specs.Pages.{page_at}
use Rattle.layout.specs.declared.Slot.{Slot}
use Rattle.layout.specs.declared.Label.{Label}
use Rattle.layout.specs.Places.{meta_place}
use Rattle.layout.specs.MetaPage.{encode_meta}

-- metadata page p, as a page of document 01's table
unfoldable pub read_meta : Label → List ℕ → ℕ → List ℕ
read_meta l ssd p = page_at ssd (meta_place l p)

-- where metadata page p is stored next
unfoldable pub store_place : Label → List ℕ → ℕ → ℕ
store_place l ssd p = meta_place l p

-- and the bytes that are stored there: of a stamp, a window and the rows of the page's slots
unfoldable pub meta_bytes : Label → ℕ → List Slot → List ℕ → List ℕ
meta_bytes l stamp window rows = encode_meta stamp window rows
