-- The limits as a test and as propositions; where pages lie; when two labels are one.
use Prim.Native.Nat.{ℕ, ◌+◌, ◌*◌, ◌/◌, ◌≤◌, ◌<◌}
use mathlib.Core.Path.{◌≡◌, ap, ◌∙◌}
use mathlib.Core.Logic.{◌↔◌, ◌≢◌}
use mathlib.Core.Bool.{Bool, true, ◌&&◌}
use native.Mathlib.Omega.{arith}
use lib.Dec.{eqb, leb}
use borrow.Author.Tests.{eq-eqb, ne_eqb, le-leb, lt-leb, le-ltb, lt-ltb, leb-true, eqb-true}
use Rattle.layout.specs.declared.Slot.{Slot}
use Rattle.layout.specs.declared.Label.{Label}
use Rattle.layout.specs.Places.{label_of, Limits, within_limits, meta_pages, meta_span, label_place, meta_place, data_place, ssd_length, meta_of}
use Rattle.layout.proofs.Booleans.{and_parts}
use Rattle.layout.proofs.LabelExamples as computed-first

-- a test from its fact
pub ruleset tests = (eq-eqb, ne_eqb, le-leb, lt-leb, le-ltb, lt-ltb)

-- a label is within the limits exactly if each of its numbers is
pub within : (l : Label) → (within_limits l ≡ true) ↔ Limits l
unfolding within_limits
within l = (
  λ h.
      let a = and_parts (leb 1 l.slots) _ h in
      let b = and_parts (leb l.slots 57600) _ a.1 in
      let d = and_parts (leb 1 l.blocks) _ b.1 in
      record {
        some_slot = leb-true 1 l.slots a.0;
        slots-most = leb-true l.slots 57600 b.0;
        some_block = leb-true 1 l.blocks d.0;
        blocks-most = leb-true l.blocks 16777216 d.1;
      },
  λ h. rw (le-leb 1 l.slots h.some_slot, le-leb l.slots 57600 h.slots-most, le-leb 1 l.blocks h.some_block, le-leb l.blocks 16777216 h.blocks-most),
)

-- a slot's metadata page is one of the box
pub meta_of-low : (l : Label) (s : Slot) → s.0 < l.slots → meta_of s < meta_pages l
unfolding meta_pages
meta_of-low l s h = omega arith

-- Where the pages of the SSD image lie: metadata above the label, each page at a place of its own, and below the data pages.
module _ (l : Label) where
  -- each metadata page has a place
  pub page-place : (p : ℕ) → p < meta_pages l → p < meta_span l
  unfolding meta_span
  page-place p h = h

  pub meta_not-label : (p : ℕ) → meta_place l p ≢ label_place
  unfolding meta_place
  meta_not-label p e = omega arith

  pub label-below_data : (s : Slot) → label_place < data_place l s
  unfolding data_place
  label-below_data s = omega arith

  pub metas_one : (p q : ℕ) → meta_place l p ≡ meta_place l q → p ≡ q
  unfolding meta_place
  metas_one p q e = omega arith

  pub metas_apart : (p q : ℕ) → p ≢ q → meta_place l p ≢ meta_place l q
  metas_apart p q n e = n (metas_one p q e)

  pub meta_below_data : (p : ℕ) → p < meta_span l → (s : Slot) → meta_place l p < data_place l s
  unfolding meta_place data_place
  meta_below_data p h s = omega arith

  pub datas_apart : (s t : Slot) → s.0 ≢ t.0 → data_place l s ≢ data_place l t
  unfolding data_place
  datas_apart s t n e = n (omega arith)

  -- and all of them within the image
  pub label_within : 4096 * label_place + 4096 ≤ ssd_length l
  unfolding ssd_length
  label_within = omega arith

  pub meta_within : (p : ℕ) → p < meta_span l → 4096 * meta_place l p + 4096 ≤ ssd_length l
  unfolding meta_place ssd_length
  meta_within p h = omega arith

  pub data_within : (s : Slot) → s.0 < l.slots → 4096 * data_place l s + 4096 ≤ ssd_length l
  unfolding data_place ssd_length
  data_within s h = omega arith

  -- and every number of these fits its type
  pub span_few : meta_span l ≤ l.slots / 2 + 2
  unfolding meta_span meta_pages
  span_few = omega arith

  pub meta_few : (p : ℕ) → p < meta_span l → meta_place l p ≤ l.slots / 2 + 2
  unfolding meta_place
  meta_few p h = omega (arith, span_few)

  pub data_few : (s : Slot) → data_place l s ≤ l.slots / 2 + s.0 + 3
  unfolding data_place
  data_few s = omega (arith, span_few)

  pub slots_within : 4096 * l.slots + 4096 ≤ ssd_length l
  unfolding ssd_length
  slots_within = omega arith

-- labels with the same numbers are one
unfoldable pub same_label : Label → Label → Bool
same_label k l = eqb k.slots l.slots && eqb k.blocks l.blocks

pub same-label : (k l : Label) → same_label k l ≡ true → k ≡ l
unfolding same_label
same-label k l h =
    let p = and_parts (eqb k.slots l.slots) (eqb k.blocks l.blocks) h in
    ap (λ (n : ℕ). label_of n k.blocks) (eqb-true k.slots l.slots p.0)
    ∙ ap (label_of l.slots) (eqb-true k.blocks l.blocks p.1)
