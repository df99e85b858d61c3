-- What an import would cost is what doing it stores (document 02, N8): answer, record, table and the kind of a store depend on the images'
-- lengths alone.
use Prim.Native.Nat.{ℕ, suc, ◌+◌, ◌<◌}
use mathlib.Core.Path.{◌≡◌, refl, sym, ap, subst, ◌∙◌}
use mathlib.Core.Bool.{Bool, true, false, not, ◌&&◌}
use mathlib.Core.List.{List, [], ◌∷◌, ◌++◌}
use Rattle.std.specs.Prelude.{Option, Some, None, Ok}
use native.Mathlib.Omega.{arith}
use lib.ListN.{length}
use lib.Dec.{eqb, leb}
use borrow.Author.Tests.{eq-eqb, leb-false, not-false}
use Rattle.pages.specs.Pages.{zero_page}
use Rattle.pages.proofs.PageLaws.{length_put, length_zero}
use Rattle.layout.specs.declared.Slot.{Slot}
use Rattle.layout.specs.declared.Block.{Block}
use Rattle.layout.specs.declared.Label.{Label}
use Rattle.layout.specs.Places.{meta_of, meta_place, data_place, block_place}
use Rattle.layout.specs.Stamps.{opening_bound}
use Rattle.layout.proofs.PlaceLaws.{meta_of-low, page-place, meta_within, data_within}
use Rattle.layout.proofs.Booleans.{Told, told, told_true, told_false, clash}
use Rattle.record.specs.declared.Record.{Record}
use Rattle.record.specs.Record.{label_in}
use Rattle.protocol.specs.declared.Counts.{Counts}
use Rattle.protocol.specs.declared.Cost.{Cost}
use Rattle.protocol.specs.declared.Cost.TheVariants.{Counted, Met}
use Rattle.protocol.specs.declared.Condition.{Condition}
use Rattle.protocol.specs.declared.Condition.TheVariants.{NotCached, Clean, Dirty, Writing, Fetching}
use Rattle.protocol.specs.declared.Stored.{Stored}
use Rattle.protocol.specs.declared.Stored.TheVariants.{Ssd, Hdd}
use Rattle.protocol.specs.Reply.{Reply, refusal, answer, dealt, refused}
use Rattle.protocol.specs.Rows.{row_block, row_flags}
use Rattle.protocol.specs.Box.{Images, Box, Image, ssd_image, hdd_image, Store, applied, stored_of, Effect, refusing}
use Rattle.protocol.specs.Condition.{condition_of, takes_write}
use Rattle.protocol.specs.Plan.{Call, offer, land, ask, cost, Move, offering, landing, plan, stores_meta}
use Rattle.protocol.specs.Metadata.{store_place}
use Rattle.protocol.specs.Perform.{confirmed, perform}
use Rattle.protocol.specs.Kinds.{Purpose, to_write, to_land, aim}
use Rattle.protocol.specs.declared.Refusal.{Refusal}
use Rattle.protocol.specs.declared.Refusal.TheVariants.{SlotOpen, WindowFull, ImportFull, UnknownCaller, BlockTooHigh, WrongState}
use Rattle.protocol.specs.Judge.{number_of, length_test, lengths_test, test, chain, first_of, judged}
use Rattle.protocol.specs.Calls.{decided, effect_of, result_of}
use Rattle.protocol.specs.Cost.{PageKind, copy_out, metadata, data_page, image_kind, page_kind, counts_with, no_stores, counts_after, Tally, tallied, tallies, is_copied_out, repeats, offers_to, lands_unless, imports, CostLeft, met_or, cost_from, not_started, cost_by, cost_in}
use Rattle.protocol.specs.Beside.{Made, kinds_stored, makes_of, makes, joins, makes_if, offers_really, imports_really, Meeting, Import, import_then, import_all, is_kind, how_many, counts_of, answer_by, AsDoing, CostIsDoing}
use Rattle.laws.proofs.refine.Flags.{dirty_holds}
use Rattle.laws.proofs.refine.Conditions.{Stands, absent, is_clean, is_dirty, is_writing_is, is_fetching}
use Rattle.laws.proofs.Judged.{passed, refuses, does}
use Rattle.laws.proofs.Accepted.{Legal, service_legal}
use Rattle.laws.proofs.Does.{Taken, taken-stay, taken_open, taken_copy, fit, here, offers}
use Rattle.theorem.proofs.StoresLegally.{stores_whole}
use Rattle.theorem.proofs.UpdateFirst.{none_of}

-- images of the same lengths
record Sizes (im jm : Images) : Type 0 where
  ssd-size : length im.ssd ≡ length jm.ssd
  hdd-size : length im.hdd ≡ length jm.hdd

abbrev boxed : Images → List ℕ → Record → Box
boxed im t r = record { images = im; table = t; state = r }

-- what a call does in two boxes is alike; the second's store is made, and the first's is not
record Alike (im jm : Images) (e f : Effect) : Type 0 where
  said : e.said ≡ f.said
  state : e.state ≡ f.state
  table : e.table ≡ f.table
  stored : stored_of e.store ≡ stored_of f.store
  sizes : Sizes im (applied f.store jm)

-- two chains whose tests agree
abbrev AllSame : List Refusal → (Refusal → Bool) → (Refusal → Bool) → Type 0
AllSame [] f g = Unit {0}
AllSame (r ∷ rs) f g = (f r ≡ g r) × AllSame rs f g

first_alike : (rs : List Refusal) (f g : Refusal → Bool) → AllSame rs f g → first_of rs f ≡ first_of rs g
unfolding first_of
first_alike [] f g h = refl
first_alike (r ∷ rs) f g h =
    ap (λ (b : Bool). elim b [ true ↦ Some r | false ↦ first_of rs f ]) h.0
    ∙ ap (λ (o : Option Refusal). elim (g r) [ true ↦ Some r | false ↦ o ]) (first_alike rs f g h.1)

module _ (im jm : Images) (z : Sizes im jm) (t : List ℕ) (r : Record) where
  abbrev x : Box
  x = boxed im t r

  abbrev y : Box
  y = boxed jm t r

  abbrev l : Label
  l = label_in r

  lengths_alike : length_test l im t ≡ length_test l jm t
  unfolding length_test
  lengths_alike = rw (z.ssd-size, z.hdd-size)

  -- an offer
  module _ (b : Block) (c : ℕ) where
    offering-alike : (k : Condition) → offering x b c k ≡ offering y b c k
    offering-alike NotCached = refl
    offering-alike (Clean s) = refl
    offering-alike (Dirty s) = refl
    offering-alike (Writing s) = refl
    offering-alike (Fetching s) = refl

    offer_judged : judged (offer b c) x ≡ judged (offer b c) y
    unfolding judged test plan
    offer_judged = first_alike (chain (offer b c)) (λ q. test q (offer b c) x) (λ q. test q (offer b c) y) (
      refl,
      (
        ap (λ (n : Bool). not (n && true)) lengths_alike,
        (
          refl,
          (
            refl,
            (
              refl,
              (
                refl,
                (
                  refl,
                  (
                    refl,
                    (
                      refl,
                      (
                        refl,
                        (
                          ap (λ (m : Move). stores_meta m && leb (opening_bound (label_in r)) r.newest)
                              (offering-alike (condition_of t b)),
                          tt,
                        ),
                      ),
                    ),
                  ),
                ),
              ),
            ),
          ),
        ),
      ),
    )

    by_turn : Legal y → {m : Move} → Taken y m → ((s : Store) → (perform m y).store ≡ Some s → length s.bytes ≡ 4096)
        → Alike im jm (perform m x) (perform m y)
    unfolding perform confirmed store_place
    by_turn L (taken-stay n) W = record { said = refl; state = refl; table = refl; stored = refl; sizes = z }
    by_turn L (taken_open {s = s} O) W = record {
      said = refl;
      state = refl;
      table = refl;
      stored = refl;
      sizes = record {
        ssd-size = z.ssd-size
            ∙ sym (length_put jm.ssd _ (meta_place l (meta_of s))
            (rw L.ssd-size (meta_within l (meta_of s) (page-place l (meta_of s) (meta_of-low l s O.low)))) (W _ refl));
        hdd-size = z.hdd-size;
      };
    }
    by_turn L (taken_copy {s = s} {v = v} C) W = record {
      said = refl;
      state = refl;
      table = refl;
      stored = refl;
      sizes = record {
        ssd-size = z.ssd-size;
        hdd-size = z.hdd-size
            ∙ sym (length_put jm.hdd _ (block_place l (row_block v s))
            (omega (arith, L.hdd-size, (C.alike.legal s.0 C.low).low (dirty_holds (C.alike.legal s.0 C.low).flags C.is_dirty)))
            (W _ refl));
      };
    }

    offer_alike : Alike im jm (effect_of (offer b c) x) (effect_of (offer b c) y)
    unfolding test plan
    offer_alike = go (judged (offer b c) y) refl
      where
        go : (o : Option Refusal) → judged (offer b c) y ≡ o → Alike im jm (effect_of (offer b c) x) (effect_of (offer b c) y)
        go (Some q) e = rw (refuses (offer b c) x q (offer_judged ∙ e), refuses (offer b c) y q e)
            (record { said = refl; state = refl; table = refl; stored = refl; sizes = z })
        go None e =
            let L = service_legal (offer b c) y refl e in
            let q = passed (offer b c) y e in
            let m : Move = offering y b c (condition_of t b) in
            let ey : effect_of (offer b c) y ≡ perform m y = does (offer b c) y m e refl in
            rw (does (offer b c) x m (offer_judged ∙ e) (offering-alike (condition_of t b)), ey)
            (by_turn L
            (offers y (fit L) b c (q UnknownCaller refl) (leb-false _ _ (q BlockTooHigh refl)) (here y (fit L) b) (q SlotOpen refl)
            (q ImportFull refl) (q WindowFull refl))
            (λ s h. stores_whole (offer b c) y s (ap (λ (f : Effect). f.store) ey ∙ h)))

  -- a landing, whatever its page
  module _ (b : Block) (p q : List ℕ) (p-size : length p ≡ 4096) (q-size : length q ≡ 4096) where
    land-judged : judged (land b p) x ≡ judged (land b q) y
    unfolding judged test
    land-judged = first_alike (chain (land b p)) (λ n. test n (land b p) x) (λ n. test n (land b q) y)
        (refl, (rw (lengths_alike, p-size, q-size), (refl, (refl, (refl, (refl, tt))))))

    landed : (s : ℕ) → s < r.label.slots → Legal y
        → Sizes im (applied (Some (record { image = ssd_image; place = data_place l (record { 0 = s }); bytes = q })) jm)
    landed s h L = record {
      ssd-size = z.ssd-size ∙ sym (length_put jm.ssd q (data_place l (record { 0 = s }))
          (rw L.ssd-size (data_within l (record { 0 = s }) h)) q-size);
      hdd-size = z.hdd-size;
    }

    by_condition : Legal y → {k : Condition} → Stands l t b.0 k → takes_write k ≡ true
        → Alike im jm (perform (landing p k) x) (perform (landing q k) y)
    unfolding perform
    by_condition L (absent h) e = clash {b = false} e refl
    by_condition L (is_clean s H w d) e = clash {b = false} e refl
    by_condition L (is_dirty s H w d) e = record { said = refl; state = refl; table = refl; stored = refl; sizes = landed s H.low L }
    by_condition L (is_writing_is s H w d) e = record { said = refl; state = refl; table = refl; stored = refl; sizes = landed s H.low L }
    by_condition L (is_fetching s H w d) e = clash {b = false} e refl

    land-alike : Alike im jm (effect_of (land b p) x) (effect_of (land b q) y)
    unfolding test plan
    land-alike = go (judged (land b q) y) refl
      where
        go : (o : Option Refusal) → judged (land b q) y ≡ o → Alike im jm (effect_of (land b p) x) (effect_of (land b q) y)
        go (Some n) e = rw (refuses (land b p) x n (land-judged ∙ e), refuses (land b q) y n e)
            (record { said = refl; state = refl; table = refl; stored = refl; sizes = z })
        go None e =
            let L = service_legal (land b q) y refl e in
            rw (
              does (land b p) x (landing p (condition_of t b)) (land-judged ∙ e) refl,
              does (land b q) y (landing q (condition_of t b)) e refl,
            ) (by_condition L (here y (fit L) b) (not-false _ (passed (land b q) y e WrongState refl)))

-- boxes with the same table and record, and images of the same lengths
record Twin (x y : Box) : Type 0 where
  table : x.table ≡ y.table
  state : x.state ≡ y.state
  sizes : Sizes x.images y.images

twin_box : {x y : Box} → Twin x y → boxed y.images x.table x.state ≡ y
twin_box {x} {y} T = λ i. record { images = y.images; table = T.table i; state = T.state i }

-- counts one after the other
abbrev plus : Counts → Counts → Counts
plus n m = record { copies = n.copies + m.copies; metadata = n.metadata + m.metadata; landings = n.landings + m.landings }

counts_same : {n m : Counts} → n.copies ≡ m.copies → n.metadata ≡ m.metadata → n.landings ≡ m.landings → n ≡ m
counts_same a b c = λ i. record { copies = a i; metadata = b i; landings = c i }

many_append : (k : PageKind) (xs ys : List PageKind) → how_many k (xs ++ ys) ≡ how_many k xs + how_many k ys
unfolding how_many
many_append k [] ys = omega arith
many_append k (j ∷ xs) ys = go (is_kind k j) (many_append k xs ys)
  where
    go : (b : Bool) → how_many k (xs ++ ys) ≡ how_many k xs + how_many k ys
        → elim b [ true ↦ suc (how_many k (xs ++ ys)) | false ↦ how_many k (xs ++ ys) ]
        ≡ elim b [ true ↦ suc (how_many k xs) | false ↦ how_many k xs ] + how_many k ys
    go true e = omega arith
    go false e = e

counts-append : (n : Counts) (xs ys : List PageKind) → plus (plus n (counts_of xs)) (counts_of ys) ≡ plus n (counts_of (xs ++ ys))
counts-append n xs ys = counts_same
    (omega (arith, many_append copy_out xs ys)) (omega (arith, many_append metadata xs ys)) (omega (arith, many_append data_page xs ys))

counts_none : (n : Counts) → n ≡ plus n (counts_of [])
unfolding how_many
counts_none n = counts_same (omega arith) (omega arith) (omega arith)

counts-one : (k : PageKind) (n : Counts) → counts_with k n ≡ plus n (counts_of (k ∷ []))
unfolding how_many
counts-one copy_out n = counts_same refl (omega arith) (omega arith)
counts-one metadata n = counts_same (omega arith) refl (omega arith)
counts-one data_page n = counts_same (omega arith) (omega arith) refl

-- a page is counted by the image that it is on
counts-stored : (p : Purpose) (o : Option Store) (n : Counts) → counts_after p o n ≡ plus n (counts_of (kinds_stored p (stored_of o)))
counts-stored p None n = counts_none n
counts-stored p (Some s) n = go s.image
  where
    go : (i : Image) → counts_with (page_kind p i) n ≡ plus n (counts_of (kinds_stored p (stored_of (Some (record { image = i; place = s.place; bytes = s.bytes })))))
    go ssd_image = counts-one (page_kind p ssd_image) n
    go hdd_image = counts-one (page_kind p hdd_image) n

-- what calls in memory leave, and what they leave really made, from so many counted
record Kept (n : Counts) (w : Tally) (d : Made) : Type 0 where
  said : w.said ≡ d.said
  twin : Twin w.box d.box
  counts : w.counts ≡ plus n (counts_of d.kinds)

-- a call more
call_kept : (c e : Call) (w : Tally) (y : Box) → Alike w.box.images y.images (effect_of c w.box) (effect_of e y)
    → ((o : Option Stored) → kinds_stored (aim c).purpose o ≡ kinds_stored (aim e).purpose o) → Kept w.counts (tallies c w) (makes e y)
unfolding tallies makes
call_kept c e w y A k = record {
  said = A.said;
  twin = record { table = A.table; state = A.state; sizes = A.sizes };
  counts =
      counts-stored (aim c).purpose (effect_of c w.box).store w.counts
      ∙ ap (λ (o : Option Stored). plus w.counts (counts_of (kinds_stored (aim c).purpose o))) A.stored
      ∙ ap (λ (kinds : List PageKind). plus w.counts (counts_of kinds)) (k (stored_of (effect_of e y).store));
}

join_kept : {n : Counts} {w v : Tally} {d e : Made} → Kept n w d → Kept w.counts v e → Kept n v (joins d e)
join_kept {n} {w} {v} {d} {e} K M = record {
  said = M.said;
  twin = M.twin;
  counts = M.counts ∙ ap (λ (m : Counts). plus m (counts_of e.kinds)) K.counts ∙ counts-append n d.kinds e.kinds;
}

offer_kept : (b : Block) (c : ℕ) (w : Tally) (y : Box) → Twin w.box y → Kept w.counts (tallies (offer b c) w) (makes (offer b c) y)
offer_kept b c w y T = call_kept (offer b c) (offer b c) w y
    (subst (λ (v : Box). Alike w.box.images v.images (effect_of (offer b c) w.box) (effect_of (offer b c) v)) (twin_box T)
    (offer_alike w.box.images y.images T.sizes w.box.table w.box.state b c))
    (λ o. refl)

land-kept : (b : Block) (page : List ℕ) → length page ≡ 4096 → (w : Tally) (y : Box) → Twin w.box y
    → Kept w.counts (tallies (land b zero_page) w) (makes (land b page) y)
land-kept b page size w y T = call_kept (land b zero_page) (land b page) w y
    (subst (λ (v : Box). Alike w.box.images v.images (effect_of (land b zero_page) w.box) (effect_of (land b page) v)) (twin_box T)
    (land-alike w.box.images y.images T.sizes w.box.table w.box.state b zero_page page length_zero size))
    same_kind
  where
    same_kind : (o : Option Stored) → kinds_stored (to_land zero_page) o ≡ kinds_stored (to_land page) o
    same_kind None = refl
    same_kind (Some (Ssd i)) = refl
    same_kind (Some (Hdd i)) = refl

-- the calls of one block
module _ (b : Block) (c : ℕ) (page : List ℕ) (size : length page ≡ 4096) (w : Tally) (y : Box) (T : Twin w.box y) where
  once : Kept w.counts (tallies (offer b c) w) (makes (offer b c) y)
  once = offer_kept b c w y T

  offers_kept : Kept w.counts (offers_to c b w) (offers_really c b y)
  unfolding offers_to offers_really
  offers_kept =
      subst (λ (s : Reply). Kept w.counts (offers_to c b w) (makes_if (is_copied_out s) (offer b c) (makes (offer b c) y))) once.said
      (go (is_copied_out (tallies (offer b c) w).said))
    where
      go : (o : Bool) → Kept w.counts (repeats o (offer b c) (tallies (offer b c) w)) (makes_if o (offer b c) (makes (offer b c) y))
      go true = join_kept once (offer_kept b c (tallies (offer b c) w) (makes (offer b c) y).box once.twin)
      go false = once

  imports-kept : Kept w.counts (imports c b w) (imports_really c b page y)
  unfolding imports imports_really
  imports-kept =
      subst (λ (s : Reply). Kept w.counts (imports c b w) (makes_if (not (refused s)) (land b page) (offers_really c b y))) offers_kept.said
      (go (refused (offers_to c b w).said))
    where
      go : (o : Bool) → Kept w.counts (lands_unless o b (offers_to c b w)) (makes_if (not o) (land b page) (offers_really c b y))
      go true = offers_kept
      go false = join_kept offers_kept (land-kept b page size (offers_to c b w) (offers_really c b y).box offers_kept.twin)

-- a list
record Ended (n : Counts) (e : CostLeft) (m : Import) : Type 0 where
  answer_is : e.answer ≡ Ok (answer_by m.met (plus n (counts_of m.kinds)))
  table_is : e.scratch ≡ m.box.table

module _ (c : ℕ) (pages : ℕ → List ℕ) (size : (k : ℕ) → length (pages k) ≡ 4096) where
  -- from the counts after a place
  later : {n : Counts} {w : Tally} {d : Made} → Kept n w d → {e : CostLeft} {m : Import} → Ended w.counts e m
      → Ended n e (record { kinds = d.kinds ++ m.kinds; box = m.box; met = m.met })
  later {n} {w} {d} K {e} {m} E = record {
    answer_is = E.answer_is
        ∙ ap (λ (k : Counts). Ok (answer_by m.met (plus k (counts_of m.kinds)))) K.counts
        ∙ ap (λ (k : Counts). Ok (answer_by m.met k)) (counts-append n d.kinds m.kinds);
    table_is = E.table_is;
  }

  place-ends : {n : Counts} {w : Tally} {d : Made} → Kept n w d → (place : ℕ) {e : CostLeft} {m : Import} → Ended w.counts e m
      → (p : Reply) → Ended n (met_or p place w e) (import_then p place d m)
  place-ends K place E (refusal k) = record { answer_is = ap (λ (n : Counts). Ok (Met k place n)) K.counts; table_is = K.twin.table }
  place-ends K place E (answer k s) = later K E
  place-ends K place E (dealt k) = later K E

  run_ends : (blocks : List ℕ) (place : ℕ) (w : Tally) (y : Box) → Twin w.box y
      → Ended w.counts (cost_from c place blocks w) (import_all c pages place blocks y)
  unfolding cost_from import_all
  run_ends [] place w y T = record { answer_is = ap (λ (n : Counts). Ok (Counted n)) (counts_none w.counts); table_is = T.table }
  run_ends (b ∷ blocks) place w y T =
      let a : Block = record { 0 = b } in
      let K = imports-kept a c (pages place) (size place) w y T in
      let v : Tally = imports c a w in
      let d : Made = imports_really c a (pages place) y in
      subst
      (λ (p : Reply). Ended w.counts (met_or v.said place v (cost_from c (suc place) blocks v))
      (import_then p place d (import_all c pages (suc place) blocks d.box)))
      K.said (place-ends K place (run_ends blocks (suc place) v d.box K.twin) v.said)

twin_self : (x : Box) → Twin x x
twin_self x = record { table = refl; state = refl; sizes = record { ssd-size = refl; hdd-size = refl } }

none_plus : (n : Counts) → plus no_stores n ≡ n
none_plus n = counts_same (omega arith) (omega arith) (omega arith)

pub cost_is_doing : CostIsDoing
unfolding cost_in effect_of plan perform
cost_is_doing blocks caller scratch pages x size = record {
  same_answer = λ h. (run (judged q x) (none_of q x h)).0;
  same-table = λ h. (run (judged q x) (none_of q x h)).1;
  scratch_stays = λ h. stays (judged q x) h;
}
  where
    q : Call
    q = ask (cost blocks caller (length scratch))

    run : (o : Option Refusal) → o ≡ None
        → ((cost_by o blocks caller scratch x).answer
        ≡ Ok (answer_by (import_all caller pages 0 blocks x).met (counts_of (import_all caller pages 0 blocks x).kinds)))
        × ((cost_by o blocks caller scratch x).scratch ≡ (import_all caller pages 0 blocks x).box.table)
    run (Some n) e = clash {b = true} refl (ap is_some e)
      where
        is_some : Option Refusal → Bool
        is_some (Some r) = true
        is_some None = false
    run None e =
        let E = run_ends caller pages size blocks 0 (not_started x) x (twin_self x) in
        (E.answer_is ∙ ap (λ (k : Counts). Ok (answer_by (import_all caller pages 0 blocks x).met k)) (none_plus _), E.table_is)

    stays : (o : Option Refusal) → refused (decided o q x).said ≡ true → (cost_by o blocks caller scratch x).scratch ≡ scratch
    stays (Some n) h = refl
    stays None h = clash {b = false} h refl
