-- Mending: the lowest page with a pending slot, and the pending slots of the others, place by place.
use Prim.Native.Nat.{ℕ, zero, suc, ◌+◌, ◌≤◌, ◌<◌}
use mathlib.Core.Path.{◌≡◌, refl, sym, ap, ◌∙◌}
use mathlib.Core.Logic.{◌≢◌}
use mathlib.Core.Bool.{Bool, true, false}
use mathlib.Core.List.{List, [], ◌∷◌, ◌++◌}
use native.Mathlib.Omega.{arith}
use native.Mathlib.Numerals.{add-one}
use lib.ListN.{length, get_or, take, drop, drop_of_length-le}
use lib.Seq.{take-suc}
use lib.Dec.{eqb, ltb}
use borrow.Author.Tests.{ltb-true}
use Rattle.layout.proofs.Booleans.{and_parts}
use Rattle.layout.specs.declared.Slot.{Slot}
use Rattle.layout.specs.declared.Label.{Label}
use Rattle.layout.specs.Places.{meta_pages, meta_of}
use Rattle.layout.specs.PageRule.{in_range}
use Rattle.record.specs.declared.Record.{Record}
use Rattle.record.specs.declared.Phase.{Phase}
use Rattle.record.specs.declared.Phase.TheVariants.{Recovering}
use Rattle.record.specs.Record.{label_in, window_of, window_in, with_phase, put_window}
use Rattle.layout.specs.Window.{slots_in, window_from}
use Rattle.protocol.specs.Recovery.{off_page, phase_of}
use Rattle.protocol.specs.Plan.{lowest_from, lowest_page}
use Rattle.protocol.specs.Perform.{mended_at}
use Rattle.record.specs.Rule.{record_test}
use Rattle.layout.proofs.Loops.{left}
use Rattle.record.proofs.WindowLaws.{take-array}
use Rattle.record.proofs.RecordLaws.{parts, window_is, window-length}
use Rattle.judging.specs.Fits.{FitsRecord}
use Rattle.layout.proofs.PlaceLaws.{meta_of-low}
use Rattle.layout.specs.Numbers.{choose, least}
use Rattle.layout.specs.declared.Window.{Window}
use Rattle.steps.specs.Pending.{more_if, more_off, phase_at}

-- the lowest page, by the slots that are left
module _ (w : List Slot) (i : ℕ) (d : Slot) (h : i < length w) where
  pub lowest-left : (p : ℕ) → lowest_from p (drop i w) ≡ lowest_from (least (meta_of (get_or w i d)) p) (drop (i + 1) w)
  unfolding lowest_from
  lowest-left p = rw (left w i d h) (go (ltb (meta_of (get_or w i d)) p))
    where
      rest : List Slot
      rest = drop (i + 1) w

      go : (b : Bool) → elim b [ true ↦ lowest_from (meta_of (get_or w i d)) rest | false ↦ lowest_from p rest ]
          ≡ lowest_from (choose b (meta_of (get_or w i d)) p) rest
      go true = refl
      go false = refl

pub lowest-first : (w : List Slot) (d : Slot) → 1 ≤ length w → lowest_from (meta_of (get_or w 0 d)) (drop 1 w) ≡ lowest_page w
lowest-first w d h = sym (ap lowest_page (left w 0 d (omega arith)))

pub lowest_end : (w : List Slot) (i p : ℕ) → length w ≤ i → lowest_from p (drop i w) ≡ p
unfolding lowest_from
lowest_end w i p h = rw (drop_of_length-le w {i = i} h)

-- one slot more
off_more : (p : ℕ) (w : List Slot) (s : Slot)
    → off_page p (w ++ (s ∷ [])) ≡ more_off p (off_page p w) s
unfolding off_page
off_more p [] s = go (eqb (meta_of s) p)
  where
    go : (b : Bool) → ◌≡◌ {A = List Slot} (elim b [ true ↦ [] | false ↦ s ∷ [] ]) (more_if b [] s)
    go true = refl
    go false = refl
off_more p (t ∷ w) s = go (eqb (meta_of t) p) (eqb (meta_of s) p) (off_more p w s)
  where
    go : (a b : Bool) → off_page p (w ++ (s ∷ [])) ≡ more_if b (off_page p w) s
        → ◌≡◌ {A = List Slot} (elim a [ true ↦ off_page p (w ++ (s ∷ [])) | false ↦ t ∷ off_page p (w ++ (s ∷ [])) ])
        (more_if b (elim a [ true ↦ off_page p w | false ↦ t ∷ off_page p w ]) s)
    go true true e = e
    go true false e = e
    go false true e = ap (λ (v : List Slot). t ∷ v) e
    go false false e = ap (λ (v : List Slot). t ∷ v) e

pub off_most : (p : ℕ) (w : List Slot) → length (off_page p w) ≤ length w
unfolding off_page
off_most p [] = omega arith
off_most p (t ∷ w) = go (eqb (meta_of t) p) (off_most p w)
  where
    go : (a : Bool) → length (off_page p w) ≤ length w
        → length {A = Slot} (elim a [ true ↦ off_page p w | false ↦ t ∷ off_page p w ]) ≤ suc (length w)
    go true e = omega arith
    go false e = omega arith

pub off_one : (p : ℕ) (slots : List Slot) (i : ℕ) (d : Slot) → i < length slots
    → more_off p (off_page p (take i slots)) (get_or slots i d) ≡ off_page p (take (i + 1) slots)
off_one p slots i d h =
    sym (off_more p (take i slots) (get_or slots i d))
    ∙ ap (off_page p) (sym (take-suc slots i d h) ∙ ap (λ (m : ℕ). take m slots) (sym (add-one i)))

pub more_from : (p : ℕ) (next left : Window) (w : List Slot) (s : Slot) → left ≡ window_from w
    → next ≡ window_from (more_off p (slots_in left) s) → next ≡ window_from (more_off p w s)
more_from p next left w s e f = f ∙ ap (λ (v : List Slot). window_from (more_off p v s)) (ap slots_in e ∙ take-array w)

pub phase_some : (n : ℕ) → n ≢ 0 → Recovering ≡ phase_at n
phase_some zero h = absurd (h refl)
phase_some (suc n) h = refl

pub phase_at_lem : (w : List Slot) → phase_at (length w) ≡ phase_of w
phase_at_lem [] = refl
phase_at_lem (s ∷ w) = refl

-- the lowest page is one of the box
low_from : (l : Label) (p : ℕ) (w : List Slot) → p < meta_pages l → in_range l w ≡ true → lowest_from p w < meta_pages l
unfolding lowest_from in_range
low_from l p [] h e = h
low_from l p (s ∷ w) h e =
    let low : s.0 < l.slots = ltb-true _ _ (and_parts (ltb s.0 l.slots) (in_range l w) e).0 in
    let e₂ = (and_parts (ltb s.0 l.slots) (in_range l w) e).1 in
    go (ltb (meta_of s) p) (low_from l (meta_of s) w (meta_of-low l s low) e₂) (low_from l p w h e₂)
  where
    go : (b : Bool) → lowest_from (meta_of s) w < meta_pages l → lowest_from p w < meta_pages l
        → elim b [ true ↦ lowest_from (meta_of s) w | false ↦ lowest_from p w ] < meta_pages l
    go true a b = a
    go false a b = b

pub lowest-low : (l : Label) (w : List Slot) → 1 ≤ length w → in_range l w ≡ true → lowest_page w < meta_pages l
unfolding in_range
lowest-low l [] h e = absurd (omega arith)
lowest-low l (s ∷ w) h e =
    let low : s.0 < l.slots = ltb-true _ _ (and_parts (ltb s.0 l.slots) (in_range l w) e).0 in
    low_from l (meta_of s) w (meta_of-low l s low) (and_parts (ltb s.0 l.slots) (in_range l w) e).1

-- the record with the pending slots of other pages
pub mended_is : (r next q : Record) (p : ℕ) (w left : Window) (phase : Phase) → w ≡ window_of r → left ≡ window_from (off_page p (slots_in w))
    → next ≡ put_window r r.unconfirmed left → phase ≡ phase_at left.count → q ≡ with_phase next phase → q ≡ mended_at p r
mended_is r next q p w left phase e f g h k = rw (k, h, g, f, e, window_is r, phase_at_lem (off_page p (window_in r)))

-- lengths fit it too
pub mended_fits : (ssd table : ℕ) (r next : Record) (p : ℕ) → FitsRecord ssd table r → record_test r ≡ true → next ≡ mended_at p r
    → FitsRecord ssd table next
mended_fits ssd table r next p F t e =
    let n : length (window_in r) ≡ r.count = window-length r (parts r t) in
    rw e (record {
      ssd-size = F.ssd-size;
      table-size = F.table-size;
      slots-most = F.slots-most;
      window_most_is = omega (arith, off_most p (window_in r), F.window_most_is);
    })

pub mends-low : (r : Record) → record_test r ≡ true → 1 ≤ r.count → lowest_page (window_in r) < meta_pages (label_in r)
mends-low r t h =
    let n : length (window_in r) ≡ r.count = window-length r (parts r t) in
    lowest-low (label_in r) (window_in r) (omega arith) (parts r t).ranged
