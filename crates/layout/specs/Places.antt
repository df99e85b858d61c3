-- The label's numbers, their limits, and where each page of the two images lies (document 01, "The two images").
use Rattle.std.specs.Prelude.{ℕ, ◌+◌, ◌*◌, ◌/◌, ◌%◌, ◌≤◌, Bool, ◌&&◌, leb}
use Rattle.layout.specs.declared.Slot.{Slot}
use Rattle.layout.specs.declared.Block.{Block}
use Rattle.layout.specs.declared.Label.{Label}

-- a label; nothing else builds one
abbrev pub label_of : ℕ → ℕ → Label
label_of slots blocks = record { slots = slots; blocks = blocks }

-- "Slots: 1 to 57,600. Blocks: 1 to 16,777,216."
pub record Limits (l : Label) : Type 0 where
  pub some_slot : 1 ≤ l.slots
  pub slots-most : l.slots ≤ 57600
  pub some_block : 1 ≤ l.blocks
  pub blocks-most : l.blocks ≤ 16777216

unfoldable pub within_limits : Label → Bool
within_limits l = leb 1 l.slots && (leb l.slots 57600 && (leb 1 l.blocks && leb l.blocks 16777216))

-- "M is slots / 240 rounded up": the number of metadata pages
unfoldable pub meta_pages : Label → ℕ
meta_pages l = (l.slots + 239) / 240

-- the pages of the SSD image that hold metadata: "M metadata pages"
unfoldable pub meta_span : Label → ℕ
meta_span l = meta_pages l

-- "M + 2 steps": the steps of a format
abbrev pub format_steps : Label → ℕ
format_steps l = meta_span l + 2

-- the SSD image is "one label page, M metadata pages, then `slots` data pages": the page at which each stands
abbrev pub label_place : ℕ
label_place = 0

unfoldable pub meta_place : Label → ℕ → ℕ
meta_place l p = 1 + p

unfoldable pub data_place : Label → Slot → ℕ
data_place l s = 1 + meta_span l + s.0

-- "The disk image (HDD) is `blocks` pages"
abbrev pub block_place : Label → Block → ℕ
block_place l b = b.0

-- the lengths of both images in bytes, and of the table in words ("two for each slot")
unfoldable pub ssd_length : Label → ℕ
ssd_length l = 4096 * (1 + meta_span l + l.slots)

abbrev pub hdd_length : Label → ℕ
hdd_length l = 4096 * l.blocks

abbrev pub table_length : Label → ℕ
table_length l = 2 * l.slots

-- "page p holding slots 240p to 240p+239": the metadata page of a slot, its entry there, and back
abbrev pub meta_of : Slot → ℕ
meta_of s = s.0 / 240

abbrev pub entry_of : Slot → ℕ
entry_of s = s.0 % 240

abbrev pub slot_on : ℕ → ℕ → Slot
slot_on p i = record { 0 = 240 * p + i }
