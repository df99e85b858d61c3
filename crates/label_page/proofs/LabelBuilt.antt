-- The stores that make a label page.
use Prim.Native.Nat.{ℕ, ◌+◌, ◌≤◌}
use mathlib.Core.Path.{◌≡◌, refl, ap, ◌∙◌}
use mathlib.Core.List.{List, [], ◌∷◌, ◌++◌, append_assoc}
use native.Mathlib.Omega.{arith}
use lib.ListN.{length, length-append}
use borrow.Rule.Slice.PartMut.{put_mid}
use Rattle.pages.specs.Pages.{padded}
use Rattle.pages.proofs.PadLaws.{padded_put, padded_full}
use Rattle.layout.specs.declared.Label.{Label}
use Rattle.layout.specs.LabelPage.{blocks_key, decimal, label_text, encode_label}
use Rattle.layout.proofs.Decimal.{decimal-size}
use Rattle.label_page.proofs.LabelReads.{head_text}

-- a number's line
abbrev pub line_of : ℕ → List ℕ
line_of n = decimal n ++ (10 ∷ [])

pub length-line : (n : ℕ) → length (line_of n) ≡ length (decimal n) + 1
length-line n = length-append (decimal n) (10 ∷ [])

-- a text stored after the text of a padded page
pub text_put : (text ys : List ℕ) (at k : ℕ) → length text ≡ at → length ys ≡ k → at + k ≤ 4096 → put_mid at k (padded 4096 text) ys ≡ padded 4096 (text ++ ys)
text_put text ys at k e f h = padded_put 4096 at k text ys (omega arith) f h ∙ ap (λ (t : List ℕ). padded 4096 (t ++ ys)) (padded_full at text e)

-- the four stores
pub label_built : (l : Label) (a : ℕ) → a ≡ 27 + (length (decimal l.slots) + 1)
    → put_mid (a + 7) (length (decimal l.blocks) + 1) (put_mid a 7 (put_mid 27 (length (decimal l.slots) + 1) (put_mid 0 27 (padded 4096 []) head_text) (line_of l.slots)) blocks_key) (line_of l.blocks)
    ≡ encode_label l
unfolding encode_label label_text
label_built l a e =
    let s : List ℕ = line_of l.slots in
    let t : List ℕ = line_of l.blocks in
    let n : ℕ = length (decimal l.slots) + 1 in
    let m : ℕ = length (decimal l.blocks) + 1 in
    let zs = decimal-size l.slots in
    let zb = decimal-size l.blocks in
    let l2 : length (head_text ++ s) ≡ a = omega (arith, length-append head_text s, length-line l.slots) in
    let l3 : length ((head_text ++ s) ++ blocks_key) ≡ a + 7 = length-append (head_text ++ s) blocks_key ∙ rw l2 in
    ap (λ (p : List ℕ). put_mid (a + 7) m (put_mid a 7 (put_mid 27 n p s) blocks_key) t) (text_put [] head_text 0 27 refl refl (omega arith))
    ∙ ap (λ (p : List ℕ). put_mid (a + 7) m (put_mid a 7 p blocks_key) t) (text_put head_text s 27 n refl (length-line l.slots) (omega arith))
    ∙ ap (λ (p : List ℕ). put_mid (a + 7) m p t) (text_put (head_text ++ s) blocks_key a 7 l2 refl (omega arith))
    ∙ text_put ((head_text ++ s) ++ blocks_key) t (a + 7) m l3 (length-line l.blocks) (omega arith)
    ∙ ap (padded 4096) (simp append_assoc)
