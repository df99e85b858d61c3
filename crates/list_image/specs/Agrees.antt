-- The listing of an SSD image and a reopening of it: the statements that proofs/Agrees.antt proves.
use Rattle.std.specs.Prelude.{ℕ, ◌≤◌, ◌<◌, ◌≡◌, Bool, true, false, List, length}
use Rattle.layout.specs.declared.Slot.{Slot}
use Rattle.layout.specs.declared.Entry.{Entry}
use Rattle.layout.specs.declared.Label.{Label}
use Rattle.std.specs.Prelude.{Some}
use Rattle.layout.specs.Places.{hdd_length, table_length}
use Rattle.protocol.specs.Reply.{refusal}
use Rattle.protocol.specs.Rows.{row_block, row_flags, valid}
use Rattle.protocol.specs.Recovery.{metas_of, entry_in, newest_of}
use Rattle.protocol.specs.Box.{Result}
use Rattle.stored.specs.Stored.{label_if}
use Rattle.fields.specs.Fields.{refusal_text}
use Rattle.list_text.specs.ListText.{entry_text}
use Rattle.list_image.specs.Listing.{line_of, image_text, listing_of}

-- an SSD image of at most 64 KiB, with an HDD and a table of the label's lengths, where it has a label
pub record Beside (ssd hdd table : List ℕ) : Type 0 where
  pub short : length ssd ≤ 65536
  pub sizes : (l : Label) → label_if ssd ≡ Some l → (length hdd ≡ hdd_length l) × (length table ≡ table_length l)

-- the listing says `refused=n` exactly if the reopening refuses with n
pub record SameRefusal (ssd : List ℕ) (r : Result) : Type 0 where
  pub if_printed : (n : ℕ) → listing_of ssd ≡ refusal_text n → r.said ≡ refusal n
  pub if_refused : (n : ℕ) → r.said ≡ refusal n → listing_of ssd ≡ refusal_text n

-- the line of a slot's entry says `kept` exactly if the reopened slot's row is valid, and `dropped` exactly if the entry is
-- valid and that row is zero
pub record SameFate (line : List ℕ) (s : Slot) (e : Entry) (table : List ℕ) : Type 0 where
  pub kept_if_printed : line ≡ entry_text s e false → valid (row_flags table s) ≡ true
  pub printed_if_kept : valid (row_flags table s) ≡ true → line ≡ entry_text s e false
  pub dropped_if_printed : line ≡ entry_text s e true → (valid e.flags ≡ true) × ((row_block table s).0 ≡ 0) × (row_flags table s ≡ 0)
  pub printed_if_dropped : valid e.flags ≡ true → row_flags table s ≡ 0 → line ≡ entry_text s e true

-- the listing of an image whose reopening is taken: its text, with a line of that kind for each slot
pub record SameFates (ssd : List ℕ) (r : Result) : Type 0 where
  pub label : Label
  pub labelled : label_if ssd ≡ Some label
  pub text : listing_of ssd ≡ image_text label (metas_of label ssd) (newest_of (metas_of label ssd))
  pub fates : (s : Slot) → s.0 < label.slots
      → SameFate (line_of (newest_of (metas_of label ssd)).window s (entry_in (metas_of label ssd) s)) s (entry_in (metas_of label ssd) s) r.table
