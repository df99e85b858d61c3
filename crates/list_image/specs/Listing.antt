-- The text of an SSD image (document 01: "A small program reads an SSD image (at most 64 KiB) on standard input and lists it").
use Rattle.std.specs.Prelude.{ℕ, zero, suc, Bool, true, false, ◌&&◌, List, [], ◌++◌, length, eqb, leb}
use Rattle.layout.specs.declared.Slot.{Slot}
use Rattle.layout.specs.declared.Label.{Label}
use Rattle.layout.specs.declared.Entry.{Entry}
use Rattle.std.specs.Prelude.{Option, Some, None}
use Rattle.layout.specs.Places.{ssd_length}
use Rattle.layout.specs.PageRule.{listed}
use Rattle.protocol.specs.Rows.{valid, writing}
use Rattle.protocol.specs.Recovery.{metas_of, entry_in, Newest, newest_of, pages_test}
use Rattle.stored.specs.Stored.{label_if}
use Rattle.fields.specs.Fields.{refusal_text}
use Rattle.list_text.specs.ListText.{head_text, entry_text}

-- "An entry that is valid, writing and in the newest window is dropped .. every other valid entry is kept"
unfoldable pub dropped : List Slot → Slot → ℕ → Bool
dropped w s flags = writing flags && listed s w

abbrev pub line_if : Bool → List Slot → Slot → Entry → List ℕ
line_if true w s e = entry_text s e (dropped w s e.flags)
line_if false w s e = []

abbrev pub line_of : List Slot → Slot → Entry → List ℕ
line_of w s e = line_if (valid e.flags) w s e

-- the lines of the first n slots
unfoldable pub lines_of : List Slot → List (List ℕ) → ℕ → List ℕ
lines_of w pages zero = []
lines_of w pages (suc n) = lines_of w pages n ++ line_of w (record { 0 = n }) (entry_in pages (record { 0 = n }))

-- a label and metadata pages that keep every rule
abbrev pub image_text : Label → List (List ℕ) → Newest → List ℕ
image_text l pages n = head_text l n.stamp (length n.window) ++ lines_of n.window pages l.slots

abbrev pub text_if : Bool → ℕ → List ℕ → List ℕ
text_if true n text = text
text_if false n text = refusal_text n

-- 2; then 4, also "for a longer input with a legal label"; then 5
abbrev pub judged_text : Option Label → List ℕ → List ℕ
judged_text None ssd = refusal_text 2
judged_text (Some l) ssd =
    text_if (eqb (length ssd) (ssd_length l) && leb (length ssd) 65536) 4
    (text_if (pages_test l (metas_of l ssd)) 5 (image_text l (metas_of l ssd) (newest_of (metas_of l ssd))))

unfoldable pub listing_of : List ℕ → List ℕ
listing_of ssd = judged_text (label_if ssd) ssd
