-- The reports of Quick.antt, computed without counting the bytes of the images at each call: their lengths are known, and each
-- store is checked to keep them.
use Prim.Native.Nat.{ℕ, suc, ◌+◌, ◌*◌, ◌≤◌}
use mathlib.Core.Path.{◌≡◌, refl, ap, ◌∙◌}
use mathlib.Core.Bool.{Bool, true, false, not, ◌&&◌}
use mathlib.Core.List.{List, [], ◌∷◌}
use Rattle.std.specs.Prelude.{Option, Some, None}
use native.Mathlib.Omega.{arith}
use lib.ListN.{length}
use lib.Dec.{eqb, leb}
use borrow.Author.Tests.{eqb-true, eq-eqb, leb-true}
use Rattle.layout.proofs.PlaceLaws.{same_label, same-label}
use Rattle.pages.specs.Pages.{put_page, Holds, padded, page_at, zero_page}
use Rattle.pages.proofs.PageLaws.{length_put}
use Rattle.layout.specs.declared.Block.{Block}
use Rattle.layout.specs.declared.Label.{Label}
use Rattle.layout.specs.Places.{label_place, meta_pages, meta_span, meta_place, data_place, ssd_length, hdd_length, table_length, within_limits}
use Rattle.protocol.specs.Reply.{refused}
use Rattle.protocol.specs.Box.{Images, Box, Image, ssd_image, hdd_image, Store, applied, Effect}
use Rattle.protocol.specs.Condition.{condition_of, slot_from, closed_slots}
use Rattle.protocol.specs.Plan.{Call, reopen, view, lowest_from, placed, offers_from, plan}
use Rattle.protocol.specs.Kinds.{kind, aim, highest}
use Rattle.record.specs.Record.{label_in, window_in, callers_in}
use Rattle.record.specs.Callers.{open_by, caller_array}
use Rattle.layout.specs.Window.{array_of}
use Rattle.record.specs.Window.{without, beside, each_place, zero_slots}
use Rattle.protocol.specs.Rows.{each_row, open_rows}
use Rattle.protocol.specs.declared.Refusal.{Refusal}
use Rattle.protocol.specs.declared.Refusal.TheVariants.{NoLabel, WrongLength}
use Rattle.protocol.specs.Judge.{names, names_once, number_of, is_label, label_for, lengths_test, length_test, lent_test, test, chain, first_of, judged, label_test, row_test, rows_test}
use Rattle.record.specs.Rule.{record_test}
use Rattle.protocol.specs.Calls.{decided, effect_of, viewed, view_of}
use Rattle.protocol.specs.Events.{World, Memory, Arrival, old, new, Event, call, reopens, cut, lent, read_of, with_memory, survived, made}
use Rattle.layout.proofs.Booleans.{Told, told, told_true, told_false, and_parts}
use Rattle.protocol.proofs.Reasons.{number_is}
use Rattle.protocol.proofs.cases.Report.{Line, line_of, reads_of, Report, reported, report, disk_from, label_page, meta_page, pages, unformatted}
use Rattle.protocol.proofs.cases.Quick.{left_by_lem, reopened_if, reopens_from, struck_if, crashed_from, Moved, moved_by, Shown, shown_by, quick, quick_same}
use Rattle.pages.specs.Parts.{page_part}
use Rattle.pages.specs.Words.{le_bytes, le_number}
use Rattle.layout.specs.LabelPage.{after, all_zero, decode_label, digits, encode_label, label_text, number, number_from}
use Rattle.layout.specs.MetaPage.{count_of, decode_entry, encode_meta, entry_bytes, entry_part, firsts, rows_bytes, rows_from, slot_at, slots_bytes, stamp_of, window_of}
use Rattle.layout.specs.PageRule.{count_test, distinct, entries_from, entries_test, entry_test, in_range, legal_flags, listed, page_test, pair_test, passes, window_test, zero_test}
use Rattle.layout.specs.Stamps.{largest_stamp}
use Rattle.protocol.specs.Sweep.{sweep_from}
use Rattle.protocol.specs.Recovery.{all_open_in, block_in, each_legal, entry_in, metas_of, newest_from, none_twice, off_page, pages_test, recover, recover_from, stamp_in, stamps_differ}
use Rattle.protocol.specs.Metadata.{read_meta, store_place, meta_bytes}
use Rattle.protocol.specs.Perform.{confirmed, used_all, perform}

pub record Sized (l : Label) (im : Images) : Type 0 where
  pub ssd-size : length im.ssd ≡ ssd_length l
  pub hdd-size : length im.hdd ≡ hdd_length l

-- a store is a page within its image
unfoldable pub within : Label → Image → ℕ → List ℕ → Bool
within l ssd_image p bytes = leb (4096 * p + 4096) (ssd_length l) && eqb (length bytes) 4096
within l hdd_image p bytes = leb (4096 * p + 4096) (hdd_length l) && eqb (length bytes) 4096

unfoldable pub store_within : Label → Option Store → Bool
store_within l None = true
store_within l (Some s) = within l s.image s.place s.bytes

holds : (image : List ℕ) (n p : ℕ) → length image ≡ n → 4096 * p + 4096 ≤ n → Holds image p
holds image n p e h = omega (arith, e)

stored-size : (l : Label) (i : Image) (p : ℕ) (bytes : List ℕ) (im : Images) → Sized l im → within l i p bytes ≡ true
    → Sized l (applied (Some (record { image = i; place = p; bytes = bytes })) im)
unfolding within
stored-size l ssd_image p bytes im z h =
    let n : ℕ = ssd_length l in
    let hs = and_parts (leb (4096 * p + 4096) n) (eqb (length bytes) 4096) h in
    let h : Holds im.ssd p = holds im.ssd n p z.ssd-size (leb-true (4096 * p + 4096) n hs.0) in
    record { ssd-size = length_put im.ssd bytes p h (eqb-true (length bytes) 4096 hs.1) ∙ z.ssd-size; hdd-size = z.hdd-size }
stored-size l hdd_image p bytes im z h =
    let n : ℕ = hdd_length l in
    let hs = and_parts (leb (4096 * p + 4096) n) (eqb (length bytes) 4096) h in
    let h : Holds im.hdd p = holds im.hdd n p z.hdd-size (leb-true (4096 * p + 4096) n hs.0) in
    record { ssd-size = z.ssd-size; hdd-size = length_put im.hdd bytes p h (eqb-true (length bytes) 4096 hs.1) ∙ z.hdd-size }

applied-size : (l : Label) (store : Option Store) (im : Images) → Sized l im → store_within l store ≡ true → Sized l (applied store im)
unfolding store_within
applied-size l None im z h = z
applied-size l (Some s) im z h = stored-size l s.image s.place s.bytes im z h

-- judging with the lengths known: of 4 only table and data page are left, of 2 the label
unfoldable pub test_known : Label → Call → Box → Refusal → Bool
test_known l c x r =
    elim (eqb (number_of r) 2) [
      | true ↦ not (leb 4096 (ssd_length l) && is_label (decode_label (page_at x.images.ssd label_place)))
      | false ↦
          elim (eqb (number_of r) 4) [
            | true ↦ not (eqb (length x.table) (table_length l) && lent_test (aim c).purpose (length x.table))
            | false ↦ test r c x
          ]
    ]

length-known : (l : Label) (im : Images) (table : List ℕ) → Sized l im → length_test l im table ≡ eqb (length table) (table_length l)
unfolding length_test lengths_test
length-known l im table z =
    ap (λ (b : Bool). b && (eqb (length im.hdd) (hdd_length l) && eqb (length table) (table_length l)))
    (eq-eqb (length im.ssd) (ssd_length l) z.ssd-size)
    ∙ ap (λ (b : Bool). b && eqb (length table) (table_length l)) (eq-eqb (length im.hdd) (hdd_length l) z.hdd-size)

test_known_lem : (l : Label) (c : Call) (x : Box) → Sized l x.images → label_for (kind c) x ≡ l → (r : Refusal)
    → test r c x ≡ test_known l c x r
unfolding test_known
test_known_lem l c x z e r = go (told (eqb (number_of r) 2)) (told (eqb (number_of r) 4))
  where
    label-known : test NoLabel c x ≡ not (leb 4096 (ssd_length l) && is_label (decode_label (page_at x.images.ssd label_place)))
    label-known = unfold test label_test in
        (ap (λ (n : ℕ). not (leb 4096 n && is_label (decode_label (page_at x.images.ssd label_place)))) z.ssd-size)

    sizes-known : test WrongLength c x ≡ not (eqb (length x.table) (table_length l) && lent_test (aim c).purpose (length x.table))
    sizes-known = unfold test in
        (ap (λ (k : Label). not (length_test k x.images x.table && lent_test (aim c).purpose (length x.table))) e
        ∙ ap (λ (b : Bool). not (b && lent_test (aim c).purpose (length x.table))) (length-known l x.images x.table z))

    at : (s : Refusal) → eqb (number_of r) (number_of s) ≡ true → test r c x ≡ test s c x
    at s p = ap (λ (q : Refusal). test q c x) (number_is r s (eqb-true _ _ p))

    go : Told (eqb (number_of r) 2) → Told (eqb (number_of r) 4) → test r c x ≡ test_known l c x r
    go (told_true p) q = rw (test_known, p) (at NoLabel p ∙ label-known)
    go (told_false p) (told_true q) = rw (test_known, p, q) (at WrongLength q ∙ sizes-known)
    go (told_false p) (told_false q) = rw (test_known, p, q)

first-same : (rs : List Refusal) (f g : Refusal → Bool) → ((r : Refusal) → f r ≡ g r) → first_of rs f ≡ first_of rs g
unfolding first_of
first-same [] f g h = refl
first-same (r ∷ rs) f g h =
    ap (λ (b : Bool). elim b [ true ↦ Some r | false ↦ first_of rs f ]) (h r)
    ∙ ap (λ (o : Option Refusal). elim (g r) [ true ↦ Some r | false ↦ o ]) (first-same rs f g h)

unfoldable pub judged_known : Label → Call → Box → Option Refusal
judged_known l c x = first_of (chain c) (test_known l c x)

judged-known : (l : Label) (c : Call) (x : Box) → Sized l x.images → same_label (label_for (kind c) x) l ≡ true
    → judged c x ≡ judged_known l c x
unfolding judged judged_known
judged-known l c x z h =
    first-same (chain c) (λ r. test r c x) (test_known l c x) (test_known_lem l c x z (same-label (label_for (kind c) x) l h))

unfoldable pub effect_known : Label → Call → Box → Effect
effect_known l c x = decided (judged_known l c x) c x

pub effect_known_lem : (l : Label) (c : Call) (x : Box) → Sized l x.images → same_label (label_for (kind c) x) l ≡ true
    → effect_of c x ≡ effect_known l c x
unfolding effect_of effect_known
effect_known_lem l c x z h = ap (λ (o : Option Refusal). decided o c x) (judged-known l c x z h)

-- the box that an effect leaves, its images computed once: without the `let`s each reading would store anew
abbrev pub left_by : Effect → Box → Box
left_by e x =
    let ssd : List ℕ = (applied e.store x.images).ssd in
    let hdd : List ℕ = (applied e.store x.images).hdd in
    record { images = record { ssd = ssd; hdd = hdd }; table = e.table; state = e.state }

abbrev pub reopened_by : Bool → Box → Effect → Box → Box
reopened_by true x e y = x
reopened_by false x e y = left_by e y

-- an event, computed so, and whether the lengths stay known
pub record Known : Type 0 where
  pub line : Line
  pub box : Box
  pub fine : Bool

abbrev moved_of : Known → Moved
moved_of k = record { line = k.line; box = k.box }

unfoldable pub reopens_known : Label → Memory → Box → Known
reopens_known l j x =
    let e = effect_known l reopen (with_memory j x) in
    record {
      line = line_of l e;
      box = reopened_by (refused e.said) x e (with_memory j x);
      fine = same_label (label_for (kind reopen) (with_memory j x)) l && store_within l e.store;
    }

pub record Struck : Type 0 where
  pub box : Box
  pub fine : Bool

unfoldable pub struck_known : Label → Call → Arrival → Box → Struck
struck_known l c a x =
    let e = effect_known l c x in
    record {
      box = struck_if (made a e.store) (survived a e.store x.images) e x;
      fine = same_label (label_for (kind c) x) l && store_within l e.store;
    }

unfoldable pub moved_known : Label → Event → Box → Known
moved_known l (call c) x =
    let e = effect_known l c x in
    record { line = line_of l e; box = left_by e x; fine = same_label (label_for (kind c) x) l && store_within l e.store }
moved_known l (reopens j) x = reopens_known l j x
moved_known l (cut c a j) x =
    let s = struck_known l c a x in
    let r = reopens_known l j s.box in
    record { line = r.line; box = r.box; fine = s.fine && r.fine }

pub record KnownAll : Type 0 where
  pub lines : List Line
  pub box : Box
  pub fine : Bool

abbrev shown_of : KnownAll → Shown
shown_of k = record { lines = k.lines; box = k.box }

unfoldable pub shown_known : Label → List Event → Box → KnownAll
shown_known l [] x = record { lines = []; box = x; fine = true }
shown_known l (e ∷ es) x =
    let m = moved_known l e x in
    let r = shown_known l es m.box in
    record { lines = m.line ∷ r.lines; box = r.box; fine = m.fine && r.fine }

-- the bytes that a view hands back, judged so
abbrev pub bytes_of : Option Refusal → Block → Box → List ℕ
bytes_of o b x = (viewed o (lent x.images.ssd) (lent x.images.hdd) (label_in x.state) b (condition_of x.table b)).handed.bytes

unfoldable pub reads_known : Label → List Block → Box → List (List ℕ)
reads_known l [] x = []
reads_known l (b ∷ bs) x = bytes_of (judged_known l (view b) x) b x ∷ reads_known l bs x

pub record Checked : Type 0 where
  pub shown : Report
  pub fine : Bool

-- On its line stands everything recursive that the definitions compute with, so that a case unfolds `known` alone.
unfoldable pub known : Label → List Event → List Block → Box → Checked
unfolding same_label within store_within test_known judged_known effect_known reopens_known struck_known moved_known shown_known reads_known
    disk_from unformatted meta_page label_page pages page_at put_page zero_page padded page_part le_bytes le_number within_limits meta_pages meta_span
    meta_place data_place ssd_length largest_stamp digits
    label_text encode_label after number_from number all_zero decode_label slots_bytes entry_bytes rows_bytes encode_meta stamp_of count_of slot_at
    firsts window_of entry_part decode_entry rows_from count_test zero_test listed distinct in_range window_test legal_flags pair_test entry_test
    entries_from entries_test passes page_test window_in array_of without slot_from condition_of closed_slots sweep_from lowest_from plan highest
    read_meta store_place meta_bytes metas_of entry_in newest_from each_legal stamp_in stamps_differ block_in none_twice all_open_in pages_test recover
    recover_from off_page confirmed
    used_all perform label_test zero_slots record_test row_test each_row each_place rows_test open_rows test first_of
    beside open_by caller_array callers_in placed offers_from names names_once
known l es bs x =
    let ssd : List ℕ = x.images.ssd in
    let hdd : List ℕ = x.images.hdd in
    let r = shown_known l es (record { images = record { ssd = ssd; hdd = hdd }; table = x.table; state = x.state }) in
    record {
      shown = record {
        lines = r.lines;
        state = r.box.state;
        table = r.box.table;
        ssd = r.box.images.ssd;
        hdd = r.box.images.hdd;
        reads = reads_known l bs r.box;
      };
      fine = r.fine && same_label (label_in r.box.state) l;
    }

abbrev read_as : List Line → Box → List (List ℕ) → Report
read_as lines x reads = record {
  lines = lines;
  state = x.state;
  table = x.table;
  ssd = x.images.ssd;
  hdd = x.images.hdd;
  reads = reads;
}

-- It is the same.
reopened_if_size : (l : Label) (b : Bool) (x y : Box) (e : Effect) → Sized l x.images → Sized l (applied e.store y.images)
    → Sized l (reopened_if b x e y).images
reopened_if_size l true x y e z u = z
reopened_if_size l false x y e z u = record { ssd-size = u.ssd-size; hdd-size = u.hdd-size }

reopens-known : (l : Label) (j : Memory) (x : Box) → Sized l x.images → (reopens_known l j x).fine ≡ true
    → (reopens_from l j x ≡ moved_of (reopens_known l j x)) × Sized l (reopens_known l j x).box.images
unfolding reopens_known reopens_from
reopens-known l j x z h =
    let e : Effect = effect_known l reopen (with_memory j x) in
    let hs = and_parts (same_label (label_for (kind reopen) (with_memory j x)) l) (store_within l e.store) h in (
      ap {B = Moved} (λ (f : Effect). record { line = line_of l f; box = reopened_if (refused f.said) x f (with_memory j x) })
          (effect_known_lem l reopen (with_memory j x) z hs.0),
      reopened_if_size l (refused e.said) x (with_memory j x) e z (applied-size l e.store x.images z hs.1),
    )

struck_if_size : (l : Label) (b : Bool) (im : Images) (e : Effect) (x : Box) → Sized l im → Sized l (struck_if b im e x).images
struck_if_size l true im e x z = z
struck_if_size l false im e x z = z

survived-size : (l : Label) (a : Arrival) (store : Option Store) (im : Images) → Sized l im → store_within l store ≡ true
    → Sized l (survived a store im)
survived-size l old store im z h = z
survived-size l new store im z h = applied-size l store im z h

crashed-known : (l : Label) (c : Call) (a : Arrival) (x : Box) → Sized l x.images → (struck_known l c a x).fine ≡ true
    → (crashed_from c a x ≡ (struck_known l c a x).box) × Sized l (struck_known l c a x).box.images
unfolding struck_known crashed_from
crashed-known l c a x z h =
    let e : Effect = effect_known l c x in
    let hs = and_parts (same_label (label_for (kind c) x) l) (store_within l e.store) h in (
      ap (λ (f : Effect). struck_if (made a f.store) (survived a f.store x.images) f x) (effect_known_lem l c x z hs.0),
      struck_if_size l (made a e.store) (survived a e.store x.images) e x (survived-size l a e.store x.images z hs.1),
    )

moved_known_lem : (l : Label) (v : Event) (x : Box) → Sized l x.images → (moved_known l v x).fine ≡ true
    → (moved_by l v x ≡ moved_of (moved_known l v x)) × Sized l (moved_known l v x).box.images
unfolding moved_known moved_by
moved_known_lem l (call c) x z h =
    let e : Effect = effect_known l c x in
    let hs = and_parts (same_label (label_for (kind c) x) l) (store_within l e.store) h in
    let u : Sized l (applied e.store x.images) = applied-size l e.store x.images z hs.1 in (
      ap {B = Moved} (λ (f : Effect). record { line = line_of l f; box = left_by_lem f x }) (effect_known_lem l c x z hs.0),
      record { ssd-size = u.ssd-size; hdd-size = u.hdd-size },
    )
moved_known_lem l (reopens j) x z h = reopens-known l j x z h
moved_known_lem l (cut c a j) x z h =
    let hs = and_parts (struck_known l c a x).fine (reopens_known l j (struck_known l c a x).box).fine h in
    let s : (crashed_from c a x ≡ (struck_known l c a x).box) × Sized l (struck_known l c a x).box.images = crashed-known l c a x z hs.0 in
    let y : Box = (struck_known l c a x).box in
    let r : (reopens_from l j y ≡ moved_of (reopens_known l j y)) × Sized l (reopens_known l j y).box.images =
    reopens-known l j (struck_known l c a x).box s.1 hs.1 in
    (ap (reopens_from l j) s.0 ∙ r.0, r.1)

shown_known_lem : (l : Label) (es : List Event) (x : Box) → Sized l x.images → (shown_known l es x).fine ≡ true
    → (shown_by l es x ≡ shown_of (shown_known l es x)) × Sized l (shown_known l es x).box.images
unfolding shown_known shown_by
shown_known_lem l [] x z h = (refl, z)
shown_known_lem l (v ∷ es) x z h =
    let m : Known = moved_known l v x in
    let hs = and_parts m.fine (shown_known l es m.box).fine h in
    let one : (moved_by l v x ≡ moved_of m) × Sized l m.box.images = moved_known_lem l v x z hs.0 in
    let rest : (shown_by l es m.box ≡ shown_of (shown_known l es m.box)) × Sized l (shown_known l es m.box).box.images =
    shown_known_lem l es m.box one.1 hs.1 in (
      ap {B = Shown} (λ (k : Moved). record { lines = k.line ∷ (shown_by l es k.box).lines; box = (shown_by l es k.box).box }) one.0
          ∙ ap {B = Shown} (λ (r : Shown). record { lines = m.line ∷ r.lines; box = r.box }) rest.0,
      rest.1,
    )

reads_known_lem : (l : Label) (bs : List Block) (x : Box) → Sized l x.images → same_label (label_in x.state) l ≡ true
    → reads_of bs x ≡ reads_known l bs x
unfolding reads_known reads_of read_of view_of
reads_known_lem l [] x z h = refl
reads_known_lem l (b ∷ bs) x z h =
    ap (λ (o : Option Refusal). bytes_of o b x ∷ reads_of bs x) (judged-known l (view b) x z h)
    ∙ ap (λ (rest : List (List ℕ)). bytes_of (judged_known l (view b) x) b x ∷ rest) (reads_known_lem l bs x z h)

quick_known : (l : Label) (es : List Event) (bs : List Block) (x : Box) → Sized l x.images → (known l es bs x).fine ≡ true
    → quick l es bs x ≡ (known l es bs x).shown
unfolding known quick
quick_known l es bs x z h =
    let k : KnownAll = shown_known l es x in
    let hs = and_parts k.fine (same_label (label_in k.box.state) l) h in
    let s : (shown_by l es x ≡ shown_of k) × Sized l k.box.images = shown_known_lem l es x z hs.0 in
    ap (λ (r : Shown). reported r.lines bs r.box) s.0
    ∙ ap (λ (reads : List (List ℕ)). read_as k.lines k.box reads) (reads_known_lem l bs k.box s.1 hs.1)

-- so a script from a world whose box is known, of the right lengths, shows what is computed of that box
pub known_shows : (l : Label) (es : List Event) (bs : List Block) (w : World) (x : Box) (r : Report)
    → w.box ≡ x → Sized l x.images → known l es bs x ≡ record { shown = r; fine = true } → report l es bs w ≡ r
known_shows l es bs w x r e z h =
    quick_same l es bs w
    ∙ ap (quick l es bs) e
    ∙ quick_known l es bs x z (ap (λ (k : Checked). k.fine) h)
    ∙ ap (λ (k : Checked). k.shown) h
