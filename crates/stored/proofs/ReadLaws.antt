-- The first page of an image, read as a label where there is one.
use Prim.Native.Nat.{ℕ, ◌≤◌}
use mathlib.Core.Path.{◌≡◌, refl, ap}
use mathlib.Core.Bool.{Bool, true, false, ◌&&◌}
use mathlib.Core.List.{List}
use native.Mathlib.Omega.{arith}
use lib.ListN.{length}
use lib.Dec.{leb}
use borrow.Author.Tests.{leb-true}
use Rattle.pages.specs.Pages.{page_at}
use Rattle.pages.proofs.PageLaws.{length-page}
use Rattle.layout.specs.declared.Label.{Label}
use Rattle.std.specs.Prelude.{Some, None}
use Rattle.layout.specs.Places.{Limits, label_place}
use Rattle.layout.specs.LabelPage.{decode_label}
use Rattle.layout.proofs.LabelLaws.{label_only}
use Rattle.layout.proofs.PlaceLaws.{within}
use Rattle.layout.proofs.Booleans.{Told, told, told_true, told_false, clash}
use Rattle.protocol.specs.Judge.{is_label, label_test}
use Rattle.stored.specs.Stored.{read_if, label_if}

module _ (ssd : List ℕ) where
  pub short-read : leb 4096 (length ssd) ≡ false → None ≡ label_if ssd
  short-read e = rw e

  pub page-read : leb 4096 (length ssd) ≡ true → decode_label (page_at ssd label_place) ≡ label_if ssd
  page-read e = rw e

  pub label_test_is : label_test ssd ≡ is_label (label_if ssd)
  unfolding label_test
  label_test_is = go (leb 4096 (length ssd))
    where
      go : (b : Bool) → (b && is_label (decode_label (page_at ssd label_place))) ≡ is_label (read_if b ssd)
      go true = refl
      go false = refl

  pub legal-read : (l : Label) → label_if ssd ≡ Some l → (4096 ≤ length ssd) × (decode_label (page_at ssd label_place) ≡ Some l)
  legal-read l e = go (told (leb 4096 (length ssd)))
    where
      go : Told (leb 4096 (length ssd)) → (4096 ≤ length ssd) × (decode_label (page_at ssd label_place) ≡ Some l)
      go (told_true k) = (leb-true _ _ k, rw k at e)
      go (told_false k) = clash {b = false} (ap is_label (rw k at e)) refl

  pub limits : (l : Label) → label_if ssd ≡ Some l → Limits l
  limits l e =
      let d = legal-read l e in
      (within l).0 (label_only (page_at ssd 0) l d.1 (length-page ssd 0 (omega (arith, d.0)))).1
