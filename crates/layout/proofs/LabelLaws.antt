-- The laws of the label page.
use Prim.Native.Nat.{ℕ, ◌-◌, ◌≤◌}
use mathlib.Core.Path.{◌≡◌, refl, sym, ap, ◌∙◌}
use mathlib.Core.Bool.{Bool, true, false, ◌&&◌}
use mathlib.Core.List.{List, [], ◌∷◌, ◌++◌, append_assoc}
use Rattle.std.specs.Prelude.{Option, Some, None}
use Rattle.std.proofs.lemmas.Option.{none-some, same_Some}
use native.Mathlib.Decide.{ℕ_discrete}
use native.Mathlib.Omega.{arith}
use lib.ListN.{length, replicate, length-append}
use borrow.Author.Tests.{eq-eqb, ne_eqb}
use Rattle.pages.specs.Pages.{padded}
use Rattle.pages.proofs.PadLaws.{length-padded}
use Rattle.layout.specs.declared.Label.{Label}
use Rattle.layout.specs.Places.{label_of, within_limits}
use Rattle.layout.specs.LabelPage.{cache_line, layout_line, slots_key, blocks_key, decimal, label_text, encode_label, after, Number, number, all_zero, then_bytes, then_number, legal_if, decode_label}
use Rattle.layout.proofs.PlaceLaws.{within}
use Rattle.layout.proofs.Booleans.{and_parts}
use Rattle.layout.proofs.ZeroLaws.{zeros_zero, zero_only}
use Rattle.layout.proofs.Decimal.{ReadOf, decimal-size, number_back, number_only}

-- A text is found where it stands, and nowhere else.

pub after_back : (text rest : List ℕ) → after text (text ++ rest) ≡ Some rest
unfolding after
after_back [] rest = refl
after_back (t ∷ text) rest = rw (eq-eqb t t refl, after) (after_back text rest)

pub after_only : (text bytes rest : List ℕ) → after text bytes ≡ Some rest → bytes ≡ text ++ rest
unfolding after
after_only [] bytes rest e = same_Some _ _ e
after_only (t ∷ text) [] rest e = absurd (none-some rest e)
after_only (t ∷ text) (b ∷ bytes) rest e = go (ℕ_discrete t b) (after_only text bytes rest)
  where
    go : Dec (t ≡ b) → (after text bytes ≡ Some rest → bytes ≡ text ++ rest) → b ∷ bytes ≡ t ∷ text ++ rest
    go (yes q) f = rw q (ap (λ (l : List ℕ). b ∷ l) (f (rw (eq-eqb t b q, after) at e)))
    go (no q) f = absurd (none-some rest (rw (ne_eqb t b q, after) at e))

-- The text of a label, and whatever stands after it.
abbrev text_then : Label → List ℕ → List ℕ
text_then l rest =
    cache_line
    ++ (layout_line ++ (slots_key ++ (decimal l.slots ++ (10 ∷ (blocks_key ++ (decimal l.blocks ++ (10 ∷ rest)))))))

text_then_lem : (l : Label) (rest : List ℕ) → label_text l ++ rest ≡ text_then l rest
unfolding label_text
text_then_lem l rest = simp append_assoc

text-size : (l : Label) → length (label_text l) ≤ 56
unfolding label_text
text-size l =
    let s = decimal-size l.slots in
    let b = decimal-size l.blocks in
    simp length-append (omega arith)

-- a label's page is a page
pub length_encode : (l : Label) → length (encode_label l) ≡ 4096
unfolding encode_label
length_encode l = length-padded 4096 (label_text l) (omega (arith, text-size l))

-- decoding an encoded label gives it back
pub label_back : (l : Label) → within_limits l ≡ true → decode_label (encode_label l) ≡ Some l
unfolding decode_label encode_label padded
label_back l h =
    let m = (within l).0 h in
    let zeros : List ℕ = replicate (4096 - length (label_text l)) 0 in
    let bytes : List ℕ = blocks_key ++ (decimal l.blocks ++ (10 ∷ zeros)) in
    rw (text_then_lem l zeros)
    (rw (
      after_back cache_line (layout_line ++ (slots_key ++ (decimal l.slots ++ (10 ∷ bytes)))),
      after_back layout_line (slots_key ++ (decimal l.slots ++ (10 ∷ bytes))),
      after_back slots_key (decimal l.slots ++ (10 ∷ bytes)),
      number_back l.slots bytes m.some_slot (omega arith),
      after_back blocks_key (decimal l.blocks ++ (10 ∷ zeros)),
      number_back l.blocks zeros m.some_block (omega arith),
      h,
      zeros_zero (4096 - length (label_text l)),
    ))

-- What was met on the way to a legal label.
bytes-met : (o : Option (List ℕ)) (f : List ℕ → Option Label) (l : Label) → then_bytes o f ≡ Some l → (bytes : List ℕ) × (o ≡ Some bytes) × (f bytes ≡ Some l)
bytes-met None f l e = let z : ◌≡◌ {A = ℕ} 0 1 = cc in absurd (omega arith)
bytes-met (Some bytes) f l e = (bytes, refl, e)

number-met : (o : Option Number) (f : ℕ → List ℕ → Option Label) (l : Label) → then_number o f ≡ Some l → (n : Number) × (o ≡ Some n) × (f n.value n.rest ≡ Some l)
number-met None f l e = let z : ◌≡◌ {A = ℕ} 0 1 = cc in absurd (omega arith)
number-met (Some n) f l e = (n, refl, e)

legal-met : (t : Bool) (k l : Label) → legal_if t k ≡ Some l → (t ≡ true) × (k ≡ l)
legal-met true k l e = (refl, cc)
legal-met false k l e = let z : ◌≡◌ {A = ℕ} 0 1 = cc in absurd (omega arith)

-- the readings one after the other: the text that they were made of
joined : (page b1 b2 b3 b4 : List ℕ) (s b : Number) → page ≡ cache_line ++ b1 → b1 ≡ layout_line ++ b2 → b2 ≡ slots_key ++ b3 → ReadOf b3 s
    → s.rest ≡ blocks_key ++ b4 → ReadOf b4 b → page ≡ text_then (label_of s.value b.value) b.rest
joined page b1 b2 b3 b4 s b e1 e2 e3 r e4 q = rw (e1, e2, e3, r.written, e4, q.written)

-- then zero bytes to the page's end
as_page : (page rest : List ℕ) (k l : Label) → page ≡ text_then k rest → k ≡ l → (within_limits k && all_zero rest) ≡ true → length page ≡ 4096
    → (page ≡ encode_label l) × (within_limits l ≡ true)
unfolding encode_label padded
as_page page rest k l w h t len =
    let r = and_parts (within_limits k) (all_zero rest) t in
    let text : List ℕ = label_text l in
    let e : page ≡ text ++ rest = w ∙ ap (λ (x : Label). text_then x rest) h ∙ sym (text_then_lem l rest) in
    let m : length rest ≡ 4096 - length text = omega (arith, ap length e ∙ length-append text rest) in
    (e ∙ ap (λ (x : List ℕ). text ++ x) (zero_only rest r.1 ∙ ap (λ (x : ℕ). replicate x 0) m), ap within_limits (sym h) ∙ r.0)

-- a page that decodes is the encoding of what it decodes to: a label has exactly one page, and everything else is refused
pub label_only : (page : List ℕ) (l : Label) → decode_label page ≡ Some l → length page ≡ 4096 → (page ≡ encode_label l) × (within_limits l ≡ true)
unfolding decode_label
label_only page l e len =
    let a = bytes-met (after cache_line page) _ l e in
    let b = bytes-met (after layout_line a.0) _ l a.2 in
    let d = bytes-met (after slots_key b.0) _ l b.2 in
    let s = number-met (number d.0) _ l d.2 in
    let k = bytes-met (after blocks_key s.0.rest) _ l s.2 in
    let n = number-met (number k.0) _ l k.2 in
    let found-label : Label = label_of s.0.value n.0.value in
    let t = legal-met (within_limits found-label && all_zero n.0.rest) found-label l n.2 in
    let w : page ≡ text_then found-label n.0.rest =
    joined page a.0 b.0 d.0 k.0 s.0 n.0
    (after_only cache_line page a.0 a.1)
    (after_only layout_line a.0 b.0 b.1)
    (after_only slots_key b.0 d.0 d.1)
    (number_only d.0 s.0 s.1)
    (after_only blocks_key s.0.rest k.0 k.1)
    (number_only k.0 n.0 n.1)
    in
    as_page page n.0.rest found-label l w t.1 t.0 len
