-- The label of an image, and the newest of its metadata pages, found by its number; its window in an array.
use Rattle.std.specs.Prelude.{Option, Some, None}
use Rattle.std.specs.Prelude.{ℕ, ◌+◌, Bool, true, false, List, [], ◌∷◌, length, get_or, leb, ltb}
use Rattle.pages.specs.Pages.{page_at}
use Rattle.std.specs.Prelude.{Option, None}
use Rattle.layout.specs.declared.Label.{Label}
use Rattle.layout.specs.Places.{label_place}
use Rattle.layout.specs.LabelPage.{decode_label}
use Rattle.layout.specs.MetaPage.{stamp_of, window_of}
use Rattle.protocol.specs.Recovery.{Newest}
use Rattle.stored.specs.declared.Newest.{Newest as Numbered}

-- what the first page of an image is read as, where the image has a page
abbrev pub read_if : Bool → List ℕ → Option Label
read_if true ssd = decode_label (page_at ssd label_place)
read_if false ssd = None

abbrev pub label_if : List ℕ → Option Label
label_if ssd = read_if (leb 4096 (length ssd)) ssd

-- stamp and window of the page with this number, if any
abbrev pub newest_at : List (List ℕ) → Option ℕ → Newest
newest_at pages None = record { stamp = 0; window = [] }
newest_at pages (Some p) = record { stamp = stamp_of (get_or pages p []); window = window_of (get_or pages p []) }

-- page p with this stamp, if it is newer
abbrev pub newer_if : Bool → Numbered → ℕ → ℕ → Numbered
newer_if true n stamp p = record { stamp = stamp; at = Some p }
newer_if false n stamp p = n

abbrev pub newer_at : Numbered → ℕ → ℕ → Numbered
newer_at n stamp p = newer_if (ltb n.stamp stamp) n stamp p

-- the newest of what was found before and the pages from page p on: the first with the largest stamp
unfoldable pub numbered_from : Numbered → ℕ → List (List ℕ) → Numbered
numbered_from n p [] = n
numbered_from n p (page ∷ pages) = numbered_from (newer_at n (stamp_of page) p) (p + 1) pages

-- the newest of all pages; where every stamp is 0, none
abbrev pub numbered_of : List (List ℕ) → Numbered
numbered_of pages = numbered_from (record { stamp = 0; at = None }) 0 pages
