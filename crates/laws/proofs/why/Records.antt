-- 1 to 4: limits, label, record and lengths.
use Prim.Native.Nat.{ℕ, ◌≤◌}
use mathlib.Core.Path.{◌≡◌, refl, ap, ◌∙◌}
use mathlib.Core.Bool.{true, ◌&&◌}
use mathlib.Core.List.{List}
use native.Mathlib.Omega.{arith}
use lib.ListN.{length}
use lib.Dec.{eqb, leb}
use borrow.Author.Tests.{leb-true, eqb-true, le-leb, eq-eqb}
use Rattle.pages.specs.Pages.{page_at}
use Rattle.pages.proofs.PageLaws.{length-page}
use Rattle.layout.specs.declared.Label.{Label}
use Rattle.std.specs.Prelude.{Option, Some, None}
use Rattle.layout.specs.Places.{label_place, ssd_length, hdd_length}
use Rattle.layout.specs.LabelPage.{decode_label}
use Rattle.layout.proofs.PlaceLaws.{within}
use Rattle.layout.proofs.LabelLaws.{label_back, label_only}
use Rattle.layout.proofs.Booleans.{clash, and_of, and_parts}
use Rattle.layout.proofs.RuleLaws.{◌⇔◌}
use Rattle.record.specs.Record.{label_in}
use Rattle.protocol.specs.Box.{Box}
use Rattle.protocol.specs.Judge.{is_label, label_test, lengths_test, length_test}
use Rattle.protocol.specs.Why.{HasLabel, Lengths, LandLengths, CostLengths}
use Rattle.laws.proofs.why.Basics.{and_same, via, unit_same}

pub label_same : (ssd : List ℕ) → label_test ssd ⇔ HasLabel ssd
unfolding label_test
label_same ssd = (
  λ h.
      let p = and_parts (leb 4096 (length ssd)) (is_label (decode_label (page_at ssd label_place))) h in
      to (leb-true _ _ p.0) (decode_label (page_at ssd label_place)) refl p.1,
  λ h. and_of (le-leb _ _ h.whole) (ap (λ (p : List ℕ). is_label (decode_label p)) h.page
      ∙ ap is_label (label_back h.label ((within h.label).1 h.limits))),
)
  where
    to : 4096 ≤ length ssd → (r : Option Label) → decode_label (page_at ssd label_place) ≡ r → is_label r ≡ true → HasLabel ssd
    to w (Some l) e h =
        let q = label_only (page_at ssd label_place) l e (length-page ssd label_place (omega arith)) in
        record { label = l; limits = (within l).0 q.1; whole = w; page = q.0 }
    to w None e h = clash h refl

tables_same : (l : Label) (x : Box) → length_test l x.images x.table ⇔ Lengths l x
unfolding length_test lengths_test
tables_same l x = (
  λ h.
      let q = and_parts (eqb (length x.images.ssd) (ssd_length l)) _ h in
      let r = and_parts (eqb (length x.images.hdd) (hdd_length l)) _ q.1 in
      record { ssd_length_is = eqb-true _ _ q.0; hdd_length_is = eqb-true _ _ r.0; table_length_is = eqb-true _ _ r.1 },
  λ h. rw (eq-eqb _ _ h.ssd_length_is, eq-eqb _ _ h.hdd_length_is, eq-eqb _ _ h.table_length_is),
)

pub lengths_same : (l : Label) (x : Box) → (length_test l x.images x.table && true) ⇔ Lengths l x
lengths_same l x = via (and_same (tables_same l x) unit_same) (λ h. h.0) (λ h. (h, tt))

pub land_lengths_same : (page : List ℕ) (x : Box)
    → (length_test (label_in x.state) x.images x.table && eqb (length page) 4096) ⇔ LandLengths page x
land_lengths_same page x =
    via (and_same {Q = length page ≡ 4096} (tables_same (label_in x.state) x) (eqb-true _ _, eq-eqb _ _))
    (λ h. record { box = h.0; page-length = h.1 })
    (λ h. (h.box, h.page-length))

-- a scratch table "as long as the table" (document 02, N8)
pub cost_lengths_same : (n : ℕ) (x : Box)
    → (length_test (label_in x.state) x.images x.table && eqb n (length x.table)) ⇔ CostLengths n x
cost_lengths_same n x =
    via (and_same {Q = n ≡ length x.table} (tables_same (label_in x.state) x) (eqb-true _ _, eq-eqb _ _))
    (λ h. record { box = h.0; scratch-length = h.1 })
    (λ h. (h.box, h.scratch-length))
