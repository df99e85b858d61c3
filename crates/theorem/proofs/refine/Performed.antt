-- Each move on a reachable box: the box that it leaves, and that the crash argument sees the model's move.
use Prim.Native.Nat.{ℕ, ◌+◌, ◌*◌, ◌/◌, ◌%◌, ◌^◌, ◌<◌}
use mathlib.Core.Path.{◌≡◌, refl, sym, ap, ◌∙◌}
use mathlib.Core.Bool.{Bool, true, false, cond, not, ◌||◌, or-true, or-false}
use mathlib.Core.List.{List, [], ◌∷◌}
use native.Mathlib.Omega.{arith}
use native.Mathlib.Numerals.{add-one}
use native.Mathlib.Decide.{ℕ_discrete}
use lib.ListN.{length, get_or, set, take, length-set}
use lib.Dec.{eqb}
use Rattle.pages.specs.Pages.{page_at, put_page}
use Rattle.pages.proofs.PageLaws.{length-page}
use Rattle.layout.specs.declared.Slot.{Slot}
use Rattle.layout.specs.declared.Label.{Label}
use Rattle.layout.specs.Places.{meta_pages, data_place, table_length}
use Rattle.layout.proofs.PlaceLaws.{data_within}
use Rattle.layout.specs.MetaPage.{rows_on}
use Rattle.protocol.specs.Metadata.{store_place, meta_bytes}
use Rattle.layout.specs.PageRule.{distinct}
use Rattle.layout.specs.Stamps.{largest_stamp}
use Rattle.layout.proofs.StampLaws.{stamp_fits}
use Rattle.record.specs.declared.Record.{Record}
use Rattle.record.specs.declared.Phase.{Phase}
use Rattle.protocol.specs.Reply.{Reply}
use Rattle.protocol.specs.Rows.{row_flags, set_flags, valid, writing, with_used, without_dirty}
use Rattle.record.specs.Callers.{caller_array}
use Rattle.record.specs.Record.{window_in, callers_in, record_of, put_callers}
use Rattle.record.specs.Window.{without, beside}
use Rattle.protocol.specs.Box.{Box, left, box_after}
use Rattle.protocol.specs.Recovery.{metas_of, Newest, newest_of, spent_stamp, phase_of, off_page}
use Rattle.protocol.specs.Plan.{Move, uses, uses_all, announces, lands, copies, confirms, mends}
use Rattle.protocol.specs.Perform.{confirmed, landed_flags, landed_state, used_all, perform}
use Rattle.protocol.specs.Judge.{is_empty}
use Rattle.record.proofs.RecordLaws.{window_in_lem}
use Rattle.laws.proofs.model.Base as base
use Rattle.laws.proofs.model.Base.{upd, upd_same, upd_other, Window, meta_no}
use Rattle.laws.proofs.model.Model as model
use Rattle.laws.proofs.model.Model.{Row, block_of, shut, cleaned, stored, landed, copied, mended, same_path}
use Rattle.laws.proofs.refine.Windows.{keep_all, nums, nums_off, nums_without, empty_nums}
use Rattle.laws.proofs.refine.Flags.{row_of, Changed, changed_row, changed_clean, changed_used, changed_landed}
use Rattle.laws.proofs.refine.Tables.{row_at, Rows, flags_at, flags_rows, at_open, at_block}
use Rattle.laws.proofs.refine.Sweeps.{Alike, alike_flags, alike_same}
use Rattle.theorem.proofs.refine.Stores.{put_kept, put_entry, put_newest, put_page_lem, data_kept, data_metas, data_page, disk-kept, disk-page}
use Rattle.laws.proofs.refine.Abstract.{Core, phase_for, box_of_core, entry_row, abs, CallersKept, Shape}

-- the box that a move leaves
abbrev pub after : Label → Core → Move → Box
after l k v = box_after (left (perform v (box_of_core l k)) (record { ssd = k.ssd; hdd = k.hdd }))

-- another table and hand
abbrev pub tabled : Core → List ℕ → Slot → Core
tabled k v hand = record {
  ssd = k.ssd;
  hdd = k.hdd;
  table = v;
  hand = hand;
  newest = k.newest;
  recovering = k.recovering;
  unconfirmed = k.unconfirmed;
  window = k.window;
  callers = k.callers;
}

module _ (l : Label) (k : Core) (S : Shape l k) where
  pub tabled_abs : (v : List ℕ) (hand : Slot) → Alike l k.table v → abs l (tabled k v hand) ≡ abs l k
  unfolding abs
  tabled_abs v hand A =
      same_path _ _ record {
        slots = refl;
        blocks = refl;
        top = refl;
        row = A.row;
        entry = λ s. refl;
        hdd = λ b. refl;
        slot_page = λ s. refl;
        window = refl;
        stored_window = refl;
        newest = refl;
        stamp = refl;
        unconfirmed = refl;
        recovering = refl;
      }

  pub tabled_shape : (v : List ℕ) (hand : Slot) → Alike l k.table v → hand.0 < l.slots → Shape l (tabled k v hand)
  tabled_shape v hand A h = record { images = S.images; table-size = A.size; hand_ok = h; rows = A.legal; callers = S.callers }

  -- a look-up sets a used flag
  pub uses-box : (s : ℕ) (said : Reply) → after l k (uses (record { 0 = s }) said) ≡ box_of_core l
      (tabled k (set_flags k.table (record { 0 = s }) (with_used (row_flags k.table (record { 0 = s })))) k.hand)
  unfolding perform
  uses-box s said = refl

  pub all-box : (ss : List Slot) → after l k (uses_all ss) ≡ box_of_core l (tabled k (used_all ss k.table) k.hand)
  unfolding perform
  all-box ss = refl

  pub uses-alike : (s : ℕ) → s < l.slots → valid (get_or k.table (2 * s + 1) 0) ≡ true
      → Alike l k.table (set_flags k.table (record { 0 = s }) (with_used (row_flags k.table (record { 0 = s }))))
  uses-alike s h v =
      alike_flags l k.table k.table (alike_same l k.table S.table-size S.rows) s _ h (changed_used (S.rows s h).flags _ v)

-- a metadata store: page p, of the table v, with the window w, whose places have these callers
abbrev pub stored_core : Label → Core → List ℕ → Slot → List Slot → List ℕ → ℕ → Bool → Core
stored_core l k v hand w cs p r = record {
  ssd = put_page k.ssd (store_place l k.ssd p) (meta_bytes l (k.newest + 1) w (rows_on p v));
  hdd = k.hdd;
  table = v;
  hand = hand;
  newest = k.newest + 1;
  recovering = r;
  unconfirmed = false;
  window = w;
  callers = cs;
}

module _
    (l : Label)
    (k : Core)
    (S : Shape l k)
    (stamps : spent_stamp l k.ssd ≡ k.newest)
    (left_over : k.newest < largest_stamp l)
    (v : List ℕ)
    (size : length v ≡ table_length l)
    (R : Rows l v)
    (hand : Slot)
    (hand_ok : hand.0 < l.slots)
    (w : List Slot)
    (W : Window l.slots (nums w))
    (cs : List ℕ)
    (p : ℕ)
    (p-page : p < meta_pages l)
    (r : Bool)
  where
    newer : (newest_of (metas_of l k.ssd)).stamp < k.newest + 1
    newer = omega arith

    fits : k.newest + 1 < 2 ^ 32
    fits = omega (arith, stamp_fits l)

    pub stored_shape : CallersKept r w cs → Shape l (stored_core l k v hand w cs p r)
    stored_shape C = record {
      images = put_kept l k.ssd k.hdd S.images v size R (k.newest + 1) fits newer w W p p-page;
      table-size = size;
      hand_ok = hand_ok;
      rows = R;
      callers = C;
    }

    ents : (s : ℕ) → entry_row l (metas_of l (put_page k.ssd (store_place l k.ssd p)
        (meta_bytes l (k.newest + 1) w (rows_on p v)))) s ≡ cond (eqb (s / 240) p)
        (row_at v s) (entry_row l (metas_of l k.ssd) s)
    ents = put_entry l k.ssd k.hdd S.images v size R (k.newest + 1) fits newer w W p p-page

    dats : (s : ℕ) → page_at (put_page k.ssd (store_place l k.ssd p) (meta_bytes l (k.newest + 1) w (rows_on p v)))
        (data_place l (record { 0 = s })) ≡ page_at k.ssd
        (data_place l (record { 0 = s }))
    dats = put_page_lem l k.ssd k.hdd S.images v size R (k.newest + 1) fits newer w W p p-page

    news : newest_of (metas_of l (put_page k.ssd (store_place l k.ssd p) (meta_bytes l (k.newest + 1) w (rows_on p v)))) ≡
        record { stamp = k.newest + 1; window = w }
    news = put_newest l k.ssd k.hdd S.images v size R (k.newest + 1) fits newer w W p p-page

    pub stored_abs : r ≡ k.recovering → abs l (stored_core l k v hand w cs p r) ≡ stored p (row_at v) (nums w) (abs l k)
    unfolding abs stored meta_no
    stored_abs e =
        same_path _ _ record {
          slots = refl;
          blocks = refl;
          top = refl;
          row = λ s. refl;
          entry = ents;
          hdd = λ b. refl;
          slot_page = dats;
          window = refl;
          stored_window = ap (λ (n : Newest). nums n.window) news;
          newest = add-one k.newest;
          stamp = ap (λ (n : Newest). n.stamp) news ∙ add-one k.newest;
          unconfirmed = refl;
          recovering = e;
        }

    pub mended_abs : v ≡ k.table → w ≡ off_page p k.window → r ≡ not (is_empty (off_page p k.window))
        → abs l (stored_core l k v hand w cs p r) ≡ mended p (abs l k)
    unfolding abs mended meta_no
    mended_abs ev ew e =
        same_path _ _ record {
          slots = refl;
          blocks = refl;
          top = refl;
          row = λ s. ap (λ (t : List ℕ). row_at t s) ev;
          entry = λ s. ents s ∙ ap (λ (t : List ℕ). cond (eqb (s / 240) p) (row_at t s) (entry_row l (metas_of l k.ssd) s)) ev;
          hdd = λ b. refl;
          slot_page = dats;
          window = ap nums ew ∙ nums_off p k.window;
          stored_window = ap (λ (n : Newest). nums n.window) news ∙ ap nums ew ∙ nums_off p k.window;
          newest = add-one k.newest;
          stamp = ap (λ (n : Newest). n.stamp) news ∙ add-one k.newest;
          unconfirmed = refl;
          recovering = e ∙ ap not (sym (empty_nums (off_page p k.window)) ∙ ap model.empty (nums_off p k.window));
        }

-- what a metadata store leaves, with the window of the record and that of the page
abbrev two_windows : Label → Core → List ℕ → Slot → ℕ → Phase → List ℕ → List Slot → List Slot → Box
two_windows l k v hand p ph cs w z = record {
  images = record { ssd = put_page k.ssd (store_place l k.ssd p) (meta_bytes l (k.newest + 1) z (rows_on p v)); hdd = k.hdd };
  table = v;
  state = put_callers (record_of l hand (k.newest + 1) ph false w) cs;
}

-- slots are opened
pub announces-box : (l : Label) (k : Core) (said : Reply) (q : ℕ) (t : List ℕ) (h : Slot) (w : List Slot) (cs : List ℕ)
    → after l k (announces said q t h w cs) ≡ box_of_core l (stored_core l k t h w (caller_array cs) q k.recovering)
unfolding perform confirmed
announces-box l k said q t h w cs =
    let ph : Phase = phase_for k.recovering in
    ap (λ (z : List Slot). two_windows l k t h q ph (caller_array cs) w z)
    (window_in_lem l h k.newest ph k.unconfirmed w (caller_array cs))

-- a flush stores page 0
pub confirms-box : (l : Label) (k : Core)
    → after l k confirms ≡ box_of_core l (stored_core l k k.table k.hand k.window k.callers 0 k.recovering)
unfolding perform confirmed
confirms-box l k =
    let ph : Phase = phase_for k.recovering in
    ap (λ (z : List Slot). two_windows l k k.table k.hand 0 ph k.callers k.window z)
    (window_in_lem l k.hand k.newest ph k.unconfirmed k.window k.callers)

pub phase_empty : (w : List Slot) → phase_of w ≡ phase_for (not (is_empty w))
phase_empty [] = refl
phase_empty (s ∷ w) = refl

-- a mending step
pub mends-box : (l : Label) (k : Core) (p : ℕ)
    → after l k (mends p) ≡ box_of_core l (stored_core l k k.table k.hand (off_page p k.window) k.callers p
    (not (is_empty (off_page p k.window))))
unfolding perform confirmed
mends-box l k p =
    let ph : Phase = phase_for k.recovering in
    let rest : List Slot = off_page p k.window in
    ap (λ (w : List Slot). two_windows l k k.table k.hand p (phase_of (off_page p w)) k.callers (off_page p w)
    (window_in (put_callers (record_of l k.hand k.newest (phase_of (off_page p w)) k.unconfirmed (off_page p w)) k.callers)))
    (window_in_lem l k.hand k.newest ph k.unconfirmed k.window k.callers)
    ∙ ap (λ (z : List Slot). two_windows l k k.table k.hand p (phase_of rest) k.callers rest z)
    (window_in_lem l k.hand k.newest (phase_of rest) k.unconfirmed rest k.callers)
    ∙ ap (λ (q : Phase). two_windows l k k.table k.hand p q k.callers rest rest) (phase_empty rest)

-- a landing: the page and the row's flags; of an open slot the window and unsettled too
abbrev pub left_window : Bool → ℕ → List Slot → List Slot
left_window true s w = without (record { 0 = s }) w
left_window false s w = w

abbrev pub left_callers : Bool → ℕ → List Slot → List ℕ → List ℕ
left_callers true s w cs = caller_array (beside (record { 0 = s }) w (take (length w) cs))
left_callers false s w cs = cs

abbrev pub left_unconfirmed : Bool → Bool → Bool
left_unconfirmed true u = true
left_unconfirmed false u = u

abbrev pub landed_core : Bool → Bool → Label → Core → ℕ → List ℕ → Core
landed_core o write l k s d = record {
  ssd = put_page k.ssd (data_place l (record { 0 = s })) d;
  hdd = k.hdd;
  table = set k.table (2 * s + 1) (landed_flags write (get_or k.table (2 * s + 1) 0));
  hand = k.hand;
  newest = k.newest;
  recovering = k.recovering;
  unconfirmed = left_unconfirmed o k.unconfirmed;
  window = left_window o s k.window;
  callers = left_callers o s k.window k.callers;
}

pub lands-box : (l : Label) (k : Core) (s : ℕ) (d : List ℕ) (o write : Bool) → writing (get_or k.table (2 * s + 1) 0) ≡ o
    → after l k (lands write (record { 0 = s }) d) ≡ box_of_core l (landed_core o write l k s d)
unfolding perform callers_in
lands-box l k s d o write e = ap (λ (b : Bool). landing (landed_state b (record { 0 = s }) (box_of_core l k).state)) e ∙ by o
  where
    landing : Record → Box
    landing r = record {
      images = record { ssd = put_page k.ssd (data_place l (record { 0 = s })) d; hdd = k.hdd };
      table = set k.table (2 * s + 1) (landed_flags write (get_or k.table (2 * s + 1) 0));
      state = r;
    }

    closing : List Slot → Record
    closing w = put_callers (record_of l k.hand k.newest (phase_for k.recovering) true (without (record { 0 = s }) w))
        (caller_array (beside (record { 0 = s }) w (take (length k.window) k.callers)))

    by : (o : Bool) → landing (landed_state o (record { 0 = s }) (box_of_core l k).state) ≡ box_of_core l (landed_core o write l k s d)
    by true = ap (λ (w : List Slot). landing (closing w))
        (window_in_lem l k.hand k.newest (phase_for k.recovering) k.unconfirmed k.window k.callers)
    by false = refl

module _
    (l : Label)
    (k : Core)
    (S : Shape l k)
    (s : ℕ)
    (s-slot : s < l.slots)
    (d : List ℕ)
    (d-size : length d ≡ 4096)
    (write : Bool)
    (is_valid : valid (get_or k.table (2 * s + 1) 0) ≡ true)
  where
    landed_row_is : Changed (get_or k.table (2 * s) 0) (get_or k.table (2 * s + 1) 0) (landed_flags write (get_or k.table (2 * s + 1) 0))
        (shut (row_of (get_or k.table (2 * s) 0) (get_or k.table (2 * s + 1) 0 % 8)))
    landed_row_is = changed_landed write (S.rows s s-slot).flags _ is_valid

    pub lands_shape : (o : Bool) → CallersKept k.recovering (left_window o s k.window) (left_callers o s k.window k.callers)
        → Shape l (landed_core o write l k s d)
    lands_shape o C = record {
      images = data_kept l k.ssd k.hdd S.images s s-slot d d-size;
      table-size = length-set k.table (2 * s + 1) _ ∙ S.table-size;
      hand_ok = S.hand_ok;
      rows = flags_rows l k.table S.table-size s _ s-slot S.rows (changed_row (S.rows s s-slot) landed_row_is);
      callers = C;
    }

    landed_metas : metas_of l (put_page k.ssd (data_place l (record { 0 = s })) d) ≡ metas_of l k.ssd
    landed_metas = data_metas l k.ssd k.hdd S.images s s-slot d d-size

    landed-rows : (u : ℕ) → row_at (set k.table (2 * s + 1) (landed_flags write (get_or k.table (2 * s + 1) 0))) u
        ≡ upd (row_at k.table) s (shut (row_at k.table s)) u
    unfolding row_at
    landed-rows u = flags_at l k.table S.table-size s _ s-slot u ∙ ap (λ (r : Row). upd (row_at k.table) s r u) landed_row_is.row

    pub lands_abs : (o : Bool) → writing (get_or k.table (2 * s + 1) 0) ≡ o → distinct k.window ≡ true
        → base.has (nums k.window) s ≡ o → abs l (landed_core o write l k s d) ≡ landed s d (abs l k)
    unfolding abs landed
    lands_abs o e di h =
        same_path _ _ record {
          slots = refl;
          blocks = refl;
          top = refl;
          row = landed-rows;
          entry = λ u. ap (λ (m : List (List ℕ)). entry_row l m u) landed_metas;
          hdd = λ b. refl;
          slot_page = data_page l k.ssd k.hdd S.images s s-slot d d-size;
          window = windowed o h;
          stored_window = ap (λ (m : List (List ℕ)). nums (newest_of m).window) landed_metas;
          newest = refl;
          stamp = ap (λ (m : List (List ℕ)). (newest_of m).stamp) landed_metas;
          unconfirmed = sym (ap (λ (b : Bool). k.unconfirmed || b) (at_open l k.table S.rows s s-slot ∙ e) ∙ joins o);
          recovering = refl;
        }
      where
        windowed : (o : Bool) → base.has (nums k.window) s ≡ o → nums (left_window o s k.window) ≡ base.without (nums k.window) s
        windowed true h = nums_without (record { 0 = s }) k.window di
        windowed false h = sym (keep_all (nums k.window) s h)

        joins : (o : Bool) → (k.unconfirmed || o) ≡ left_unconfirmed o k.unconfirmed
        joins true = or-true k.unconfirmed
        joins false = or-false k.unconfirmed

-- a copy to the disk
abbrev pub copied_core : Label → Core → ℕ → List ℕ → Slot → Core
copied_core l k s v hand = record {
  ssd = k.ssd;
  hdd = put_page k.hdd (get_or v (2 * s) 0) (page_at k.ssd (data_place l (record { 0 = s })));
  table = set v (2 * s + 1) (without_dirty (get_or v (2 * s + 1) 0));
  hand = hand;
  newest = k.newest;
  recovering = k.recovering;
  unconfirmed = k.unconfirmed;
  window = k.window;
  callers = k.callers;
}

pub copies-box : (l : Label) (k : Core) (s : ℕ) (said : Reply) (v : List ℕ) (hand : Slot)
    → after l k (copies (record { 0 = s }) said v hand) ≡ box_of_core l (copied_core l k s v hand)
unfolding perform
copies-box l k s said v hand = refl

module _
    (l : Label)
    (k : Core)
    (S : Shape l k)
    (s : ℕ)
    (s-slot : s < l.slots)
    (v : List ℕ)
    (A : Alike l k.table v)
    (hand : Slot)
    (hand_ok : hand.0 < l.slots)
    (is_shut : writing (get_or v (2 * s + 1) 0) ≡ false)
    (is_valid : valid (get_or v (2 * s + 1) 0) ≡ true)
  where
    block-low : get_or v (2 * s) 0 < l.blocks
    block-low = (A.legal s s-slot).low is_valid

    page_sized : length (page_at k.ssd (data_place l (record { 0 = s }))) ≡ 4096
    page_sized = length-page k.ssd (data_place l (record { 0 = s }))
        (rw S.images.ssd-size (data_within l (record { 0 = s }) s-slot))

    clean-row : Changed (get_or v (2 * s) 0) (get_or v (2 * s + 1) 0) (without_dirty (get_or v (2 * s + 1) 0))
        (cleaned (row_of (get_or v (2 * s) 0) (get_or v (2 * s + 1) 0 % 8)))
    clean-row = changed_clean (A.legal s s-slot).flags (get_or v (2 * s) 0) is_shut

    pub copies_shape : Shape l (copied_core l k s v hand)
    copies_shape = record {
      images = disk-kept l k.ssd k.hdd S.images (get_or v (2 * s) 0) block-low _ page_sized;
      table-size = length-set v (2 * s + 1) _ ∙ A.size;
      hand_ok = hand_ok;
      rows = flags_rows l v A.size s _ s-slot A.legal (changed_row (A.legal s s-slot) clean-row);
      callers = S.callers;
    }

    block_is : block_of (row_at k.table s) ≡ get_or v (2 * s) 0
    block_is = ap block_of (sym (A.row s)) ∙ at_block l v A.legal s s-slot is_valid

    rows_are : (u : ℕ) → row_at (set v (2 * s + 1) (without_dirty (get_or v (2 * s + 1) 0))) u ≡ upd (row_at k.table) s
        (cleaned (row_at k.table s)) u
    unfolding row_at
    rows_are u = flags_at l v A.size s _ s-slot u ∙ go (ℕ_discrete u s)
      where
        go : Dec (u ≡ s) → upd (row_at v) s (row_of (get_or v (2 * s) 0) (without_dirty (get_or v (2 * s + 1) 0) % 8)) u ≡ upd
            (row_at k.table) s (cleaned (row_at k.table s)) u
        go (yes e) = rw (e, upd_same, upd_same) (clean-row.row ∙ ap cleaned (A.row s))
        go (no n) = upd_other (row_at v) s _ u n ∙ A.row u ∙ sym (upd_other (row_at k.table) s _ u n)

    pub copies_abs : abs l (copied_core l k s v hand) ≡ copied s (abs l k)
    unfolding abs copied
    copies_abs =
        same_path _ _ record {
          slots = refl;
          blocks = refl;
          top = refl;
          row = rows_are;
          entry = λ u. refl;
          hdd = λ b. rw block_is (disk-page l k.ssd k.hdd S.images (get_or v (2 * s) 0) block-low _ page_sized b);
          slot_page = λ u. refl;
          window = refl;
          stored_window = refl;
          newest = refl;
          stamp = refl;
          unconfirmed = refl;
          recovering = refl;
        }
