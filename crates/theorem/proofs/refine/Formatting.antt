-- A format from its first call to its last step: what each step finds, stores and leaves.
use Prim.Native.Nat.{ℕ, zero, suc, ◌+◌, ◌*◌, ◌≤◌, ◌<◌}
use mathlib.Core.Path.{◌≡◌, refl, sym, ap, ◌∙◌}
use mathlib.Core.Logic.{◌≢◌}
use mathlib.Core.Bool.{Bool, true, false, ◌&&◌}
use mathlib.Core.List.{List, []}
use Rattle.std.specs.Prelude.{Option, Some, None}
use native.Mathlib.Omega.{arith}
use native.Mathlib.Decide.{dec_lt, ℕ_discrete}
use native.Mathlib.Numerals.{add-one}
use lib.ListN.{length, replicate, length-take, length-replicate, get_or-replicate, drop}
use lib.Dec.{eqb, leb}
use borrow.Author.Tests.{le-leb, lt-leb, eq-eqb, lt-ltb, eqb-true, not-false}
use Rattle.pages.specs.Pages.{page_at, put_page, zero_page, Holds}
use Rattle.pages.proofs.PageLaws.{put_same, put_other, length_put, length_zero}
use Rattle.layout.specs.declared.Slot.{Slot}
use Rattle.layout.specs.declared.Label.{Label}
use Rattle.layout.specs.Places.{Limits, label_of, meta_span, format_steps, label_place, meta_place, data_place, ssd_length, hdd_length, table_length}
use Rattle.layout.specs.LabelPage.{encode_label}
use Rattle.layout.specs.MetaPage.{rows_on}
use Rattle.protocol.specs.Metadata.{meta_bytes}
use Rattle.layout.specs.PageRule.{in_range, distinct, pair_test, legal_flags}
use Rattle.layout.proofs.PlaceLaws.{within, meta_not-label, metas_apart, meta_below_data, label-below_data, label_within, meta_within}
use Rattle.layout.proofs.Booleans.{clash, and_parts}
use Rattle.layout.proofs.LabelLaws as label
use Rattle.layout.proofs.MetaLaws as meta
use Rattle.record.specs.declared.Phase.{Phase}
use Rattle.record.specs.declared.Phase.TheVariants.{Formatting, Ready}
use Rattle.protocol.specs.Reply.{refused, done}
use Rattle.record.specs.Record.{window_in, record_of}
use Rattle.protocol.specs.Rows.{each_row}
use Rattle.protocol.specs.Box.{Box, ssd_image, Store, Effect, left, box_after}
use Rattle.protocol.specs.Plan.{format, step, plan}
use Rattle.protocol.specs.Perform.{begun, format_store, format_state, perform}
use Rattle.protocol.specs.declared.Refusal.{Refusal}
use Rattle.protocol.specs.declared.Refusal.TheVariants.{BadLimits, WrongLength}
use Rattle.protocol.specs.Judge.{lengths_test, length_test, row_test, rows_test, test, judged}
use Rattle.record.specs.Rule.{record_test}
use Rattle.protocol.specs.Calls.{decided, effect_of, result_of}
use Rattle.protocol.specs.Events.{steps, formatted}
use Rattle.protocol.specs.Beside.{WholeFormat}
use Rattle.record.proofs.WindowLaws.{length-array, zero_past_lem}
use Rattle.record.proofs.CallerLaws.{zeros_test}
use Rattle.laws.proofs.refine.Tables.{each_of}
use Rattle.laws.proofs.Judged.{passed, accepted}

-- a table of free rows
abbrev pub free_table : Label → List ℕ
free_table l = replicate (table_length l) 0

-- a box while a format goes on, and when it ends: free rows, hand 0, newest stamp 0, settled, nothing open
abbrev pub format_box : Label → List ℕ → List ℕ → Phase → Box
format_box l ssd hdd phase = record {
  images = record { ssd = ssd; hdd = hdd };
  table = free_table l;
  state = record_of l (record { 0 = 0 }) 0 phase false [];
}

-- what the step after d others stores
abbrev pub store_at : Label → ℕ → Store
store_at l d = format_store l (free_table l) [] d

-- the phase after k steps
abbrev pub phase_after : Label → ℕ → Phase
phase_after l k = elim (leb (format_steps l) k) [ true ↦ Ready | false ↦ Formatting k ]

-- the SSD image after k steps
unfoldable pub format_ssd : Label → List ℕ → ℕ → List ℕ
format_ssd l ssd zero = ssd
format_ssd l ssd (suc d) = put_page (format_ssd l ssd d) (store_at l d).place (store_at l d).bytes

-- a test that free rows pass
free-each : (t : ℕ → ℕ → ℕ → Bool) (n : ℕ) → ((s : ℕ) → t s 0 0 ≡ true) → each_row t 0 (replicate n 0) ≡ true
free-each t n h = each_of t 0 (replicate n 0) λ s q.
    let i : 2 * s + 1 < n = omega (arith, length-replicate {A = ℕ} n 0) in
    rw (get_or-replicate {A = ℕ} n (2 * s) 0 0 (omega arith), get_or-replicate {A = ℕ} n (2 * s + 1) 0 0 i) (h (0 + s))

free-row : (l : Label) → row_test l 0 0 ≡ true
unfolding row_test pair_test legal_flags
free-row l = refl

no_window : (l : Label) (ph : Phase) → window_in (record_of l (record { 0 = 0 }) 0 ph false []) ≡ []
unfolding window_in
no_window l ph = refl

-- where each step stores
store_meta : (l : Label) (p : ℕ) → p < meta_span l
    → store_at l (suc p) ≡ record { image = ssd_image; place = meta_place l p; bytes = meta_bytes l 0 [] (rows_on p (free_table l)) }
store_meta l p h = rw (format_store, lt-leb (meta_span l) p h)

store-label : (l : Label) (p : ℕ) → meta_span l ≤ p
    → store_at l (suc p) ≡ record { image = ssd_image; place = label_place; bytes = encode_label l }
store-label l p h = rw (format_store, le-leb (meta_span l) p h)

on_ssd : (l : Label) (d : ℕ) → (store_at l d).image ≡ ssd_image
on_ssd l zero = refl
on_ssd l (suc p) = go (dec_lt p (meta_span l))
  where
    go : Dec (p < meta_span l) → (store_at l (suc p)).image ≡ ssd_image
    go (yes h) = ap (λ (s : Store). s.image) (store_meta l p h)
    go (no h) = ap (λ (s : Store). s.image) (store-label l p (omega arith))

-- a step of a format, after d others
module _ (l : Label) (ssd hdd : List ℕ) (d : ℕ) (L : Limits l) (hs : length ssd ≡ ssd_length l) (hh : length hdd ≡ hdd_length l)
    (hd : d ≤ meta_span l + 1) where
  box : Box
  box = format_box l ssd hdd (Formatting d)

  record_pass : record_test (record_of l (record { 0 = 0 }) 0 (Formatting d) false []) ≡ true
  unfolding record_test in_range distinct
  record_pass = rw (
    (within l).1 L,
    lt-ltb 0 l.slots (omega (arith, L.some_slot)),
    le-leb _ _ hd,
    length-array [] (omega arith),
    no_window l (Formatting d),
    zero_past_lem [],
  ) (zeros_test (Formatting d) 0)

  length_pass : length_test l (record { ssd = ssd; hdd = hdd }) (free_table l) ≡ true
  unfolding length_test lengths_test
  length_pass = rw (eq-eqb _ _ hs, eq-eqb _ _ hh, eq-eqb _ _ (length-replicate {A = ℕ} (table_length l) 0))

  rows_pass : rows_test (record_of l (record { 0 = 0 }) 0 (Formatting d) false []) (free_table l) ≡ true
  unfolding rows_test
  rows_pass =
      rw (free-each (λ s block flags. row_test l block flags) (table_length l) (λ s. free-row l), no_window l (Formatting d))
      (free-each (λ s block flags. eqb block 0 && eqb flags 0) (table_length l) (λ s. refl))

  step_judged : judged step (format_box l ssd hdd (Formatting d)) ≡ None
  unfolding test plan
  step_judged = accepted step (format_box l ssd hdd (Formatting d)) (rw record_pass, (rw length_pass, (rw rows_pass, (refl, tt)))) (refl, tt)

  state-after : format_state l (record_of l (record { 0 = 0 }) 0 (Formatting d) false []) d ≡ record_of l (record { 0 = 0 }) 0
      (phase_after l (suc d)) false []
  state-after = go (dec_lt d (meta_span l + 1))
    where
      go : Dec (d < meta_span l + 1) → format_state l (record_of l (record { 0 = 0 }) 0 (Formatting d) false []) d ≡ record_of l
          (record { 0 = 0 }) 0 (phase_after l (suc d)) false []
      go (yes h) = rw (format_state, lt-leb (meta_span l + 1) d h, phase_after, lt-leb (meta_span l + 2) (suc d) (omega arith), add-one d)
      go (no h) = rw (format_state, le-leb (meta_span l + 1) d (omega arith), phase_after, le-leb (meta_span l + 2) (suc d) (omega arith))

  -- it is not refused, and makes its one store
  pub step_effect : effect_of step (format_box l ssd hdd (Formatting d)) ≡ record {
    said = done;
    state = record_of l (record { 0 = 0 }) 0 (phase_after l (suc d)) false [];
    table = free_table l;
    store = Some (store_at l d);
  }
  unfolding effect_of plan perform
  step_effect = rw (step_judged, state-after, no_window l (Formatting d))

  pub step_box : box_after (result_of step (format_box l ssd hdd (Formatting d))) ≡ format_box l
      (put_page ssd (store_at l d).place (store_at l d).bytes) hdd (phase_after l (suc d))
  step_box = rw (step_effect, on_ssd l d)

store_else : (l : Label) (d p : ℕ) → p ≢ d → meta_place l p ≢ (store_at l (suc d)).place
store_else l d p n = go (dec_lt d (meta_span l))
  where
    go : Dec (d < meta_span l) → meta_place l p ≢ (store_at l (suc d)).place
    go (yes h) = rw (store_meta l d h) (metas_apart l p d n)
    go (no h) = rw (store-label l d (omega arith)) (meta_not-label l p)

-- one step more
pub steps_more : (n : ℕ) (x : Box) → steps (suc n) x ≡ box_after (result_of step (steps n x))
unfolding steps
steps_more zero x = refl
steps_more (suc n) x = steps_more n (box_after (result_of step x))

-- the page that a step stores is a page of the image
length_meta : (p : ℕ) (l : Label) → length (meta_bytes l 0 [] (rows_on p (free_table l))) ≡ 4096
unfolding meta_bytes
length_meta p l = meta.length_encode 0 [] (rows_on p (free_table l)) (omega arith)
    (omega (arith, length-take 480 (drop (480 * p) (free_table l))))

pub record StepFits (l : Label) (s : Store) : Type 0 where
  pub there : 4096 * s.place + 4096 ≤ ssd_length l
  pub below : (t : Slot) → s.place < data_place l t
  pub sized : length s.bytes ≡ 4096

store_fits : (l : Label) (d : ℕ) → StepFits l (store_at l d)
store_fits l zero = record { there = label_within l; below = label-below_data l; sized = length_zero }
store_fits l (suc p) = go (dec_lt p (meta_span l))
  where
    go : Dec (p < meta_span l) → StepFits l (store_at l (suc p))
    go (yes h) = rw (store_meta l p h) record { there = meta_within l p h; below = meta_below_data l p h; sized = length_meta p l }
    go (no h) =
        rw (store-label l p (omega arith)) record { there = label_within l; below = label-below_data l; sized = label.length_encode l }

going : (l : Label) (d : ℕ) → d < meta_span l + 2 → phase_after l d ≡ Formatting d
going l d h = rw (phase_after, lt-leb _ _ h)

-- the whole of a format, begun on images of the right lengths
module _ (l : Label) (ssd hdd : List ℕ) (L : Limits l) (hs : length ssd ≡ ssd_length l) (hh : length hdd ≡ hdd_length l) where
  pub length-format : (k : ℕ) → length (format_ssd l ssd k) ≡ ssd_length l
  unfolding format_ssd
  length-format zero = hs
  length-format (suc d) =
      length_put (format_ssd l ssd d) (store_at l d).bytes (store_at l d).place (rw (length-format d) (store_fits l d).there)
      (store_fits l d).sized ∙ length-format d

  step_there : (d : ℕ) → Holds (format_ssd l ssd d) (store_at l d).place
  step_there d = rw (length-format d) (store_fits l d).there

  -- the box after k steps
  pub after-steps : (k : ℕ) → k ≤ meta_span l + 2
      → steps k (format_box l ssd hdd (Formatting 0)) ≡ format_box l (format_ssd l ssd k) hdd (phase_after l k)
  unfolding format_ssd steps
  after-steps zero h = rw (going l 0 (omega arith))
  after-steps (suc d) h =
      steps_more d (format_box l ssd hdd (Formatting 0))
      ∙ ap (λ (y : Box). box_after (result_of step y))
      (after-steps d (omega arith) ∙ ap (format_box l (format_ssd l ssd d) hdd) (going l d (omega arith)))
      ∙ step_box l (format_ssd l ssd d) hdd d L (length-format d) hh (omega arith)

  -- each of its steps makes one store
  pub stores_at : (k : ℕ) → k < meta_span l + 2 → (effect_of step (steps k (format_box l ssd hdd (Formatting 0)))).store ≡ Some (store_at l k)
  stores_at k h =
      let y : Box = format_box l (format_ssd l ssd k) hdd (Formatting k) in
      let e : steps k (format_box l ssd hdd (Formatting 0)) ≡ y = after-steps k (omega arith)
      ∙ ap (format_box l (format_ssd l ssd k) hdd) (going l k h) in
      ap (λ (z : Box). (effect_of step z).store) e
      ∙ ap (λ (f : Effect). f.store) (step_effect l (format_ssd l ssd k) hdd k L (length-format k) hh (omega arith))

  -- a page that a step does not store is as before it
  keeps-page : (d q : ℕ) → q ≢ (store_at l d).place → page_at (format_ssd l ssd (suc d)) q ≡ page_at (format_ssd l ssd d) q
  unfolding format_ssd
  keeps-page d q n =
      put_other (format_ssd l ssd d) (store_at l d).bytes (store_at l d).place q (step_there d) (store_fits l d).sized n

  gets_page : (d : ℕ) → page_at (format_ssd l ssd (suc d)) (store_at l d).place ≡ (store_at l d).bytes
  unfolding format_ssd
  gets_page d =
      put_same (format_ssd l ssd d) (store_at l d).bytes (store_at l d).place (step_there d) (store_fits l d).sized

  -- the label page is zero till the last step
  pub format_zero : (d : ℕ) → d ≤ meta_span l → page_at (format_ssd l ssd (suc d)) 0 ≡ zero_page
  format_zero zero h = gets_page 0
  format_zero (suc p) h =
      let e = ap (λ (s : Store). s.place) (store_meta l p (omega arith)) in
      keeps-page (suc p) label_place (λ q. meta_not-label l p (sym e ∙ sym q)) ∙ format_zero p (omega arith)

  pub format_label_is : page_at (format_ssd l ssd (meta_span l + 2)) 0 ≡ encode_label l
  format_label_is =
      let n : meta_span l + 2 ≡ suc (suc (meta_span l)) = omega arith in
      let e = store-label l (meta_span l) (omega arith) in
      rw n (rw e at (gets_page (suc (meta_span l))))

  -- metadata page p is stored by the step after p + 1 others
  pub format_meta : (k p : ℕ) → p < meta_span l → p + 1 < k → page_at (format_ssd l ssd k) (meta_place l p)
      ≡ meta_bytes l 0 [] (rows_on p (free_table l))
  format_meta zero p h q = absurd (omega arith)
  format_meta (suc zero) p h q = absurd (omega arith)
  format_meta (suc (suc d)) p h q = go (ℕ_discrete p d) (format_meta (suc d) p h)
    where
      go : Dec (p ≡ d) → (p + 1 < suc d → page_at (format_ssd l ssd (suc d)) (meta_place l p) ≡ meta_bytes l 0 [] (rows_on p (free_table l)))
          → page_at (format_ssd l ssd (suc (suc d))) (meta_place l p) ≡ meta_bytes l 0 [] (rows_on p (free_table l))
      go (yes e) ih = rw (← e) (rw (store_meta l p h) at (gets_page (suc p)))
      go (no n) ih = keeps-page (suc d) (meta_place l p) (store_else l d p n) ∙ ih (omega arith)

  -- the data pages are untouched
  pub format_data : (k : ℕ) (s : Slot) → page_at (format_ssd l ssd k) (data_place l s) ≡ page_at ssd (data_place l s)
  unfolding format_ssd
  format_data zero s = refl
  format_data (suc d) s = keeps-page d (data_place l s) (λ e. omega (arith, (store_fits l d).below s)) ∙ format_data d s

-- a format that is not refused
pub record Begun (l : Label) (x : Box) (e : Effect) : Type 0 where
  pub limits : Limits l
  pub ssd-size : length x.images.ssd ≡ ssd_length l
  pub hdd-size : length x.images.hdd ≡ hdd_length l
  pub effect : e ≡ begun l

pub format-begun : (slots blocks : ℕ) (x : Box) → refused (result_of (format slots blocks) x).said ≡ false
    → Begun (label_of slots blocks) x (effect_of (format slots blocks) x)
unfolding effect_of judged test plan perform length_test lengths_test
format-begun slots blocks x = go (judged (format slots blocks) x) refl
  where
    l : Label
    l = label_of slots blocks

    go : (o : Option Refusal) → judged (format slots blocks) x ≡ o → refused (decided o (format slots blocks) x).said ≡ false
        → Begun l x (decided o (format slots blocks) x)
    go (Some r) e h = clash {b = true} refl h
    go None e h =
        let q = passed (format slots blocks) x e in
        let t = and_parts _ _ (not-false _ (q WrongLength refl)) in
        let a = and_parts (eqb (length x.images.ssd) (ssd_length l)) _ t.0 in
        let b = and_parts (eqb (length x.images.hdd) (hdd_length l)) _ a.1 in
        record {
          limits = (within l).0 (not-false _ (q BadLimits refl));
          ssd-size = eqb-true _ _ a.0;
          hdd-size = eqb-true _ _ b.0;
          effect = refl;
        }

-- what a whole format leaves: the HDD untouched, a label, every metadata page with stamp 0, no window and free entries
pub record Formatted (l : Label) (x y : Box) : Type 0 where
  pub limits : Limits l
  pub ssd : List ℕ
  pub is_box : y ≡ format_box l ssd x.images.hdd Ready
  pub ssd-size : length ssd ≡ ssd_length l
  pub hdd-size : length x.images.hdd ≡ hdd_length l
  pub label-page : page_at ssd label_place ≡ encode_label l
  pub meta_pages_is : (p : ℕ) → p < meta_span l → page_at ssd (meta_place l p) ≡ meta_bytes l 0 [] (rows_on p (free_table l))

-- the k-th step from a box stores this
abbrev pub StoresAt : ℕ → Box → Store → Type 0
StoresAt k x s = (effect_of step (steps k x)).store ≡ Some s

module _ (slots blocks : ℕ) (x : Box) (taken : refused (result_of (format slots blocks) x).said ≡ false) where
  abbrev l : Label
  l = label_of slots blocks

  B : Begun l x (effect_of (format slots blocks) x)
  B = format-begun slots blocks x taken

  pub begun-box : box_after (result_of (format slots blocks) x) ≡ format_box (label_of slots blocks) x.images.ssd x.images.hdd
      (Formatting 0)
  begun-box = ap (λ (e : Effect). box_after (left e x.images)) B.effect

  -- the box after k steps of it
  pub steps-box : (k : ℕ) → k ≤ format_steps (label_of slots blocks)
      → steps k (box_after (result_of (format slots blocks) x))
      ≡ format_box (label_of slots blocks) (format_ssd (label_of slots blocks) x.images.ssd k) x.images.hdd
      (phase_after (label_of slots blocks) k)
  steps-box k h = ap (steps k) begun-box ∙ after-steps l x.images.ssd x.images.hdd B.limits B.ssd-size B.hdd-size k h

  pub whole-format : Formatted (label_of slots blocks) x (formatted slots blocks x)
  unfolding formatted
  whole-format =
      let n : ℕ = meta_span l + 2 in
      let end : phase_after l n ≡ Ready = rw (phase_after, le-leb n n (omega arith)) in
      record {
        limits = B.limits;
        ssd = format_ssd l x.images.ssd n;
        is_box = steps-box n (omega arith) ∙ ap (format_box l (format_ssd l x.images.ssd n) x.images.hdd) end;
        ssd-size = length-format l x.images.ssd x.images.hdd B.limits B.ssd-size B.hdd-size n;
        hdd-size = B.hdd-size;
        label-page = format_label_is l x.images.ssd x.images.hdd B.limits B.ssd-size B.hdd-size;
        meta_pages_is = λ p h. format_meta l x.images.ssd x.images.hdd B.limits B.ssd-size B.hdd-size n p h (omega arith);
      }

  -- a whole format stores M + 2 pages: its call none, each of its M + 2 steps one
  pub format_stores : ((effect_of (format slots blocks) x).store ≡ None)
      × ((k : ℕ) → k < format_steps (label_of slots blocks)
      → StoresAt k (box_after (result_of (format slots blocks) x)) (store_at (label_of slots blocks) k))
  format_stores = (
    ap (λ (e : Effect). e.store) B.effect,
    λ k h. ap (λ (y : Box). (effect_of step (steps k y)).store) begun-box
        ∙ stores_at l x.images.ssd x.images.hdd B.limits B.ssd-size B.hdd-size k h,
  )

  -- and till the last of them the label page is zero
  zero_label : (k : ℕ) → 0 < k → k < format_steps (label_of slots blocks)
      → page_at (steps k (box_after (result_of (format slots blocks) x))).images.ssd label_place ≡ zero_page
  zero_label zero p h = absurd (omega arith)
  zero_label (suc d) p h =
      ap (λ (y : Box). page_at y.images.ssd label_place) (steps-box (suc d) (omega arith))
      ∙ format_zero l x.images.ssd x.images.hdd B.limits B.ssd-size B.hdd-size d (omega arith)

-- a whole format stores M + 2 pages
pub whole_stores : WholeFormat
whole_stores slots blocks x f = let q = format_stores slots blocks x f in
    record {
      none_first = q.0;
      one_each = λ k h. (store_at (label_of slots blocks) k, q.1 k h);
      zero_till_last = zero_label slots blocks x f;
    }
