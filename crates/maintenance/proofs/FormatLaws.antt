-- Format: the table cleared word by word, the store and the record of a step, and a format refused or begun.
use Prim.Native.Nat.{ℕ, zero, suc, ◌+◌, ◌-◌, ◌≤◌, ◌<◌}
use mathlib.Core.Path.{◌≡◌, refl, sym, ap, ◌∙◌}
use mathlib.Core.Logic.{◌≢◌}
use mathlib.Core.Bool.{true, false}
use mathlib.Core.List.{List, [], ◌∷◌, ◌++◌}
use Rattle.std.specs.Prelude.{Option, Some, None}
use Rattle.std.proofs.lemmas.Option.{none-some}
use Rattle.laws.proofs.Judged.{refused_as}
use Rattle.protocol.specs.declared.Refusal.{Refusal}
use native.Mathlib.Omega.{arith}
use native.Mathlib.Numerals.{add-one}
use lib.ListN.{length, set, take, replicate, replicate-append-replicate}
use lib.Seq.{take-suc-set, take_all}
use lib.Dec.{eqb}
use borrow.Author.Tests.{le-leb, lt-leb, eqb-true}
use Rattle.pages.specs.Pages.{put_page}
use Rattle.layout.specs.declared.Label.{Label}
use Rattle.layout.specs.Places.{label_of, within_limits, meta_pages, meta_span, ssd_length, hdd_length, table_length}
use Rattle.layout.specs.LabelPage.{encode_label}
use Rattle.layout.specs.MetaPage.{rows_on}
use Rattle.protocol.specs.Metadata.{store_place, meta_bytes}
use Rattle.record.specs.declared.Record.{Record}
use Rattle.record.specs.declared.Phase.TheVariants.{Formatting}
use Rattle.protocol.specs.declared.Stored.{Stored}
use Rattle.protocol.specs.declared.Stored.TheVariants.{Ssd}
use Rattle.protocol.specs.Reply.{Reply, refusal, done}
use Rattle.protocol.specs.Box.{Result}
use Rattle.record.specs.Record.{label_in, window_in, record_of}
use Rattle.protocol.specs.Plan.{format, plan}
use Rattle.protocol.specs.Perform.{format_store, perform}
use Rattle.protocol.specs.declared.Refusal.TheVariants.{BadLimits, WrongLength}
use Rattle.protocol.specs.Judge.{number_of, lengths_test, length_test, test, first_of, judged}
use Rattle.protocol.specs.Calls.{box_of, effect_of, format_of}
use Rattle.layout.proofs.Booleans.{Told, told, told_true, told_false, and_parts}
use Rattle.maintenance.specs.Format.{format_refusal}

-- one word more is zero
pub cleared_more : (table : List ℕ) (i : ℕ) → i < length table → take i table ≡ replicate i 0
    → take (i + 1) (set table i 0) ≡ replicate (i + 1) 0
cleared_more table i h e =
    ap (λ (n : ℕ). take n (set table i 0)) (add-one i) ∙ take-suc-set table i 0 h ∙ ap (λ (l : List ℕ). l ++ (0 ∷ [])) e
    ∙ replicate-append-replicate i 1 0

-- every word is zero
pub cleared_all : (table : List ℕ) (i n : ℕ) → length table ≤ i → i ≤ length table → length table ≡ n → take i table ≡ replicate i 0
    → table ≡ replicate n 0
cleared_all table i n h k e f =
    let q : i ≡ n = omega arith in
    sym (take_all i table h) ∙ f ∙ ap (λ (m : ℕ). replicate m 0) q

-- the label page is the store of the last step
pub label-stored : (ssd table after page : List ℕ) (state : Record) (pages d : ℕ) → d ≢ 0
    → pages ≡ meta_span (label_in state) → pages ≤ d - 1 → page ≡ encode_label (label_in state) → after ≡ put_page ssd 0 page
    → let f = format_store (label_in state) table (window_in state) d in (Ssd 0 ≡ Ssd f.place) × (after ≡ put_page ssd f.place f.bytes)
label-stored ssd table after page state pages zero n f h g k = absurd (n refl)
label-stored ssd table after page state pages (suc p) n f h g k =
    let m : meta_span (label_in state) ≤ p = rw (← f) (omega arith) in
    (rw (format_store, le-leb _ _ m), rw (k, g, format_store, le-leb _ _ m))

-- each place of metadata is a metadata page's
pub place-page : (l : Label) (p : ℕ) → p < meta_span l → p < meta_pages l
unfolding meta_span
place-page l p h = h

-- a metadata page is the store of a step before it
pub meta_step_stored : (ssd table after : List ℕ) (stored : Stored) (state : Record) (d : ℕ) → d ≢ 0 → d - 1 < meta_span (label_in state)
    → stored ≡ Ssd (store_place (label_in state) ssd (d - 1))
    → after ≡ put_page ssd (store_place (label_in state) ssd (d - 1)) (meta_bytes (label_in state) 0 (window_in state) (rows_on (d - 1) table))
    → let f = format_store (label_in state) table (window_in state) d in (stored ≡ Ssd f.place) × (after ≡ put_page ssd f.place f.bytes)
unfolding store_place
meta_step_stored ssd table after stored state zero n h t k = absurd (n refl)
meta_step_stored ssd table after stored state (suc p) n h t k =
    let q : suc p - 1 ≡ p = omega arith in
    let m : p < meta_span (label_in state) = omega arith in
    (rw (t, q, format_store, lt-leb _ _ m), rw (k, q, format_store, lt-leb _ _ m))

-- a format: refused by 1, refused by 4, begun
module _ (ssd hdd table : List ℕ) (state : Record) (slots blocks : ℕ) (l : Label) (L : l ≡ label_of slots blocks) where
  -- what a format leaves: it stores nothing
  abbrev answering : Reply → Record → List ℕ → Result
  answering said next after = record { said = said; stored = None; state = next; table = after; ssd = ssd; hdd = hdd }

  limits-judged : within_limits l ≡ false → judged (format slots blocks) (box_of ssd hdd table state) ≡ Some BadLimits
  unfolding judged first_of test
  limits-judged e = rw (first_of, ← L, e)

  module _ (e : within_limits l ≡ true) where
    length-judged : lengths_test l (length ssd) (length hdd) (length table) ≡ false
        → judged (format slots blocks) (box_of ssd hdd table state) ≡ Some WrongLength
    unfolding judged first_of test length_test lengths_test
    length-judged t = rw (first_of, ← L, e) (rw (first_of, rw L at t))

    begun-judged : lengths_test l (length ssd) (length hdd) (length table) ≡ true
        → judged (format slots blocks) (box_of ssd hdd table state) ≡ None
    unfolding judged first_of test length_test lengths_test
    begun-judged t = rw (first_of, ← L, e) (rw (first_of, rw L at t))

    table-size : lengths_test l (length ssd) (length hdd) (length table) ≡ true → length table ≡ table_length (label_of slots blocks)
    unfolding lengths_test
    table-size t =
        let h = (and_parts (eqb (length ssd) (ssd_length l)) _ t).1 in
        rw L at (eqb-true (length table) (table_length l) (and_parts (eqb (length hdd) (hdd_length l)) _ h).1)

    format-begun : (after : List ℕ) → lengths_test l (length ssd) (length hdd) (length table) ≡ true → after ≡ replicate (length table) 0
        → answering done (record_of l (record { 0 = 0 }) 0 (Formatting 0) false []) after ≡ format_of ssd hdd table state slots blocks
    unfolding effect_of plan perform
    format-begun after t h = rw (h, table-size t, begun-judged t, L)

  -- what refuses it, and what it leaves so
  abbrev refuses_it : Option Refusal
  refuses_it = format_refusal l (length ssd) (length hdd) (length table)

  format_judged : judged (format slots blocks) (box_of ssd hdd table state) ≡ refuses_it
  format_judged = go (told (within_limits l)) (told (lengths_test l (length ssd) (length hdd) (length table)))
    where
      go : Told (within_limits l) → Told (lengths_test l (length ssd) (length hdd) (length table))
          → judged (format slots blocks) (box_of ssd hdd table state) ≡ refuses_it
      go (told_false a) t = rw a (limits-judged a)
      go (told_true a) (told_false t) = rw (a, t) (length-judged a t)
      go (told_true a) (told_true t) = rw (a, t) (begun-judged a t)

  pub format-refused : (r : Refusal) → refuses_it ≡ Some r → answering (refusal (number_of r)) state table ≡ format_of ssd hdd table state slots blocks
  format-refused r e = refused_as (format slots blocks) (box_of ssd hdd table state) r (format_judged ∙ e)

  pub format-begins : refuses_it ≡ None
      → answering done (record_of l (record { 0 = 0 }) 0 (Formatting 0) false []) (replicate (length table) 0)
      ≡ format_of ssd hdd table state slots blocks
  format-begins e = go (told (within_limits l)) (told (lengths_test l (length ssd) (length hdd) (length table)))
    where
      go : Told (within_limits l) → Told (lengths_test l (length ssd) (length hdd) (length table))
          → answering done (record_of l (record { 0 = 0 }) 0 (Formatting 0) false []) (replicate (length table) 0)
          ≡ format_of ssd hdd table state slots blocks
      go (told_false a) t = absurd (none-some BadLimits (sym (rw a at e)))
      go (told_true a) (told_false t) = absurd (none-some WrongLength (sym (rw (a, t) at e)))
      go (told_true a) (told_true t) = format-begun a _ t refl
