-- Labels that antt computes: slots 4 and blocks 8; document 01's `layout=01`; a leading zero; a limit passed; a byte after
-- the lines.
use Prim.Native.Nat.{ℕ}
use mathlib.Core.Path.{◌≡◌, refl}
use mathlib.Core.List.{List, [], ◌∷◌, ◌++◌}
use Rattle.pages.specs.Pages.{padded}
use Rattle.std.specs.Prelude.{Some, None}
use Rattle.layout.specs.Places.{label_of, within_limits, meta_pages}
use Rattle.layout.specs.LabelPage.{cache_line, layout_line, slots_key, blocks_key, after, number_from, number, all_zero, decode_label}

-- the bytes after the second line
abbrev rest : List ℕ
rest = slots_key ++ (52 ∷ 10 ∷ (blocks_key ++ (56 ∷ 10 ∷ [])))

plain : decode_label (padded 4096 (cache_line ++ (layout_line ++ rest))) ≡ Some (label_of 4 8)
unfolding decode_label after number number_from all_zero within_limits padded
plain = refl

layout_01 : decode_label (padded 4096 (cache_line ++ (108 ∷ 97 ∷ 121 ∷ 111 ∷ 117 ∷ 116 ∷ 61 ∷ 48 ∷ 49 ∷ 10 ∷ rest))) ≡ None
unfolding decode_label after padded
layout_01 = refl

-- slots=04
leading_zero : decode_label (padded 4096 (cache_line ++ (layout_line ++ (slots_key ++ (48 ∷ 52 ∷ 10 ∷ (blocks_key ++ (56 ∷ 10 ∷ []))))))) ≡ None
unfolding decode_label after number number_from all_zero within_limits padded
leading_zero = refl

-- slots=57601
past_limit : decode_label (padded 4096 (cache_line ++ (layout_line ++ (slots_key ++ (53 ∷ 55 ∷ 54 ∷ 48 ∷ 49 ∷ 10 ∷ (blocks_key ++ (56 ∷ 10 ∷ []))))))) ≡ None
unfolding decode_label after number number_from all_zero within_limits padded
past_limit = refl

byte_after : decode_label (padded 4096 (cache_line ++ (layout_line ++ (rest ++ (10 ∷ []))))) ≡ None
unfolding decode_label after number number_from all_zero within_limits padded
byte_after = refl

-- "M metadata pages, M = slots/240 rounded up", where it is a whole number and one past it
rounded_up : (meta_pages (label_of 240 8) ≡ 1) × (meta_pages (label_of 241 8) ≡ 2) × (meta_pages (label_of 480 8) ≡ 2)
    × (meta_pages (label_of 57600 8) ≡ 240)
unfolding meta_pages
rounded_up = (refl, refl, refl, refl)
