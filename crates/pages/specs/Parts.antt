-- A lent part of an image: its bytes, and the place where they lie.
use Rattle.std.specs.Prelude.{ℕ, ◌+◌, ◌*◌, List}
use Rattle.std.specs.Borrow.{Bor}
use Rattle.pages.specs.Pages.{page_at}

-- what can be said of a lent part (place: the memory block that it lies in, and the offset of its first byte there)
pub record Part : Type 0 where
  pub bytes : List ℕ
  pub place : ℕ × ℕ

abbrev pub part : Bor (List ℕ) → Part
part r = record { bytes = r.now; place = r.ref_ptr }

-- page i of a lent image, as a part of it
unfoldable pub page_part : Part → ℕ → Part
page_part image i = record { bytes = page_at image.bytes i; place = (image.place.0, image.place.1 + 4096 * i) }
