-- The text of an image, case by case.
use Prim.Native.Nat.{ℕ, ◌+◌, ◌≤◌}
use mathlib.Core.Path.{◌≡◌, sym, ap, ◌∙◌}
use mathlib.Core.Bool.{true, false}
use mathlib.Core.List.{List, ◌++◌}
use native.Mathlib.Omega.{arith}
use native.Mathlib.Numerals.{add-one}
use lib.ListN.{length}
use lib.Dec.{eqb, leb}
use Rattle.layout.specs.declared.Slot.{Slot}
use Rattle.layout.specs.declared.Label.{Label}
use Rattle.std.specs.Prelude.{Option, Some, None}
use Rattle.layout.specs.Places.{ssd_length}
use Rattle.layout.proofs.PlaceLaws.{slots_within}
use Rattle.protocol.specs.Recovery.{metas_of, entry_in, Newest, newest_of, pages_test}
use Rattle.record.proofs.WindowLaws.{take-array}
use Rattle.layout.specs.declared.Window.{Window}
use Rattle.stored.specs.Stored.{label_if}
use Rattle.fields.specs.Fields.{refusal_text}
use Rattle.layout.specs.Window.{slots_in, window_from}
use Rattle.list_text.specs.ListText.{head_text}
use Rattle.list_image.specs.Listing.{line_of, lines_of, image_text, text_if, judged_text, listing_of}

-- a slot's line after those of the slots before it
pub lines_more : (w : List Slot) (pages : List (List ℕ)) (n : ℕ)
    → lines_of w pages n ++ line_of w (record { 0 = n }) (entry_in pages (record { 0 = n })) ≡ lines_of w pages (n + 1)
unfolding lines_of
lines_more w pages n = rw add-one

-- the newest page as it was found
pub image_is : (l : Label) (pages : List (List ℕ)) (n : Newest) (stamp : ℕ) (left : Window) → n ≡ newest_of pages
    → stamp ≡ (newest_of pages).stamp → left ≡ window_from n.window
    → head_text l stamp left.count ++ lines_of (slots_in left) pages l.slots ≡ image_text l pages (newest_of pages)
image_is l pages n stamp left N S L =
    let t : slots_in left ≡ n.window =
    ap slots_in L ∙ take-array n.window in
    rw (t, L, S, N)

-- at most 15 data pages
pub few_slots : (l : Label) (n : ℕ) → n ≡ ssd_length l → n ≤ 65536 → l.slots ≤ 15
few_slots l n e h = omega (arith, e, slots_within l)

-- 2
module _ (ssd : List ℕ) where
  pub unlabelled : label_if ssd ≡ None → refusal_text 2 ≡ listing_of ssd
  unfolding listing_of
  unlabelled e = ap (λ (r : Option Label). judged_text r ssd) (sym e)

  module _ (l : Label) (e : label_if ssd ≡ Some l) where
    labelled : judged_text (Some l) ssd ≡ listing_of ssd
    unfolding listing_of
    labelled = ap (λ (r : Option Label). judged_text r ssd) (sym e)

    -- 4
    pub wrong_length_is : eqb (length ssd) (ssd_length l) ≡ false → refusal_text 4 ≡ listing_of ssd
    wrong_length_is h = rw (h, text_if) at labelled

    module _ (h : eqb (length ssd) (ssd_length l) ≡ true) where
      pub too_long : leb (length ssd) 65536 ≡ false → refusal_text 4 ≡ listing_of ssd
      too_long k = rw (h, k, text_if) at labelled

      module _ (k : leb (length ssd) 65536 ≡ true) where
        -- 5
        pub bad_pages : pages_test l (metas_of l ssd) ≡ false → refusal_text 5 ≡ listing_of ssd
        bad_pages p = rw (h, k, p, text_if) at labelled

        pub listed_as : pages_test l (metas_of l ssd) ≡ true → image_text l (metas_of l ssd) (newest_of (metas_of l ssd)) ≡ listing_of ssd
        listed_as p = rw (h, k, p, text_if) at labelled
