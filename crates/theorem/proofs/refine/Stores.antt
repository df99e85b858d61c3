-- A metadata page stored: what entries, newest window, data pages and page rules are then.
use Prim.Native.Nat.{ℕ, ◌+◌, ◌-◌, ◌*◌, ◌/◌, ◌%◌, ◌^◌, ◌≤◌, ◌<◌, min}
use mathlib.Core.Path.{◌≡◌, refl, sym, ap, ◌∙◌}
use mathlib.Core.Logic.{◌≢◌}
use mathlib.Core.Bool.{true, cond}
use mathlib.Core.List.{List, []}
use native.Mathlib.Omega.{arith}
use native.Mathlib.Decide.{ℕ_discrete, dec_lt}
use native.Mathlib.Nat.{add-zero}
use lib.ListN.{length, get_or, set, drop, length-take, length-drop, get_or-eq_default}
use lib.Seq.{get_or-take, get_or-drop, get_or-set_same, get_or-set_other}
use lib.Dec.{eqb, ltb}
use borrow.Author.Tests.{ltb-false, eqb-true}
use Rattle.pages.specs.Pages.{page_at, put_page, Holds}
use Rattle.pages.proofs.PageLaws.{put_same, put_other, length_put}
use Rattle.layout.specs.declared.Slot.{Slot}
use Rattle.layout.specs.declared.Label.{Label}
use Rattle.layout.specs.Places.{Limits, meta_pages, data_place, table_length}
use Rattle.layout.specs.MetaPage.{encode_meta, rows_on, stamp_of, window_of, entry_at}
use Rattle.layout.specs.PageRule.{page_test, pair_test, in_range}
use Rattle.layout.proofs.PlaceLaws.{label-below_data, meta_below_data, datas_apart, data_within}
use Rattle.layout.proofs.RoundTrip.{encoded_legal, range_fit}
use Rattle.layout.proofs.MetaLaws.{length_encode, encode_stamp, encode_window, encode_entry}
use Rattle.protocol.specs.Recovery.{metas_of, entry_in, newest_of}
use Rattle.protocol.specs.Rows.{valid}
use Rattle.protocol.specs.Judge.{row_test}
use Rattle.layout.proofs.Booleans.{Told, told, told_true, told_false, and_parts}
use Rattle.laws.proofs.model.Base.{Window}
use Rattle.laws.proofs.model.Base as base
use Rattle.laws.proofs.model.Model.{Row}
use Rattle.laws.proofs.refine.Windows.{nums, length_nums, distinct_nums, below_nums}
use Rattle.laws.proofs.refine.Flags.{row_of, LegalRow, row-legal}
use Rattle.laws.proofs.refine.Tables.{row_at, row_at_out, Rows}
use Rattle.protocol.specs.Metadata.{store_place, meta_bytes}
use Rattle.laws.proofs.refine.Metas.{metas_put, metas_else, length_metas, entry_set, newest-set, stamp-most, store_within_is, store-not-label, store-below_data, length-bytes}
use Rattle.laws.proofs.refine.Abstract.{entry_row, Pages, ImagesKept}

-- the row of slot s stands in the rows of its page
module _ (l : Label) (table : List ℕ) (size : length table ≡ table_length l) (p : ℕ) where
  row_word : (i k : ℕ) → i < 240 → k < 2 → get_or (rows_on p table) (2 * i + k) 0 ≡ get_or table (2 * (240 * p + i) + k) 0
  row_word i k h q =
      let e : 480 * p + (2 * i + k) ≡ 2 * (240 * p + i) + k = omega arith in
      get_or-take 480 (drop (480 * p) table) (2 * i + k) 0 (omega arith) ∙ get_or-drop (480 * p) table (2 * i + k) 0
      ∙ ap (λ (n : ℕ). get_or table n 0) e

  row_block_is : (i : ℕ) → i < 240 → get_or (rows_on p table) (2 * i) 0 ≡ get_or table (2 * (240 * p + i)) 0
  row_block_is i h = rw (← add-zero (2 * i), ← add-zero (2 * (240 * p + i))) (row_word i 0 h (omega arith))

  pub rows-length : length (rows_on p table) ≡ 2 * min 240 (l.slots - 240 * p)
  rows-length = simp (length-take, length-drop, size) (omega arith)

-- a legal row, as its entry is judged
pair-legal : (l : Label) (b f : ℕ) → LegalRow l b f → pair_test l b (f % 8) ≡ true
unfolding row_test
pair-legal l b f r = (and_parts (pair_test l b (f % 8)) _ (row-legal l b f r)).0

-- a page of a stamp, a window and the rows of a table
module _
    (l : Label)
    (limits : Limits l)
    (table : List ℕ)
    (size : length table ≡ table_length l)
    (R : Rows l table)
    (t : ℕ)
    (t-fits : t < 2 ^ 32)
    (w : List Slot)
    (W : Window l.slots (nums w))
    (p : ℕ)
  where
    few : length w ≤ 63
    few = omega (arith, W.fits, length_nums w)

    rows_few : length (rows_on p table) ≤ 480
    rows_few = omega (arith, rows-length l table size p)

    rows_even : length (rows_on p table) % 2 ≡ 0
    rows_even = omega (arith, rows-length l table size p)

    ranged : in_range l w ≡ true
    ranged = sym (below_nums l w) ∙ W.in_slots

    pub page-size : length (encode_meta t w (rows_on p table)) ≡ 4096
    page-size = length_encode t w (rows_on p table) few rows_few

    pub page-stamp : stamp_of (encode_meta t w (rows_on p table)) ≡ t
    page-stamp = encode_stamp t w (rows_on p table) few rows_few t-fits

    pub page-window : window_of (encode_meta t w (rows_on p table)) ≡ w
    page-window = encode_window t w (rows_on p table) few rows_few (range_fit l w limits.slots-most ranged)

    -- a block in a table is a number of 4 bytes
    block_small : (s : ℕ) → get_or table (2 * s) 0 < 2 ^ 32
    block_small s = go (dec_lt s l.slots)
      where
        by : (b f : ℕ) → LegalRow l b f → Told (valid f) → b < 2 ^ 32
        by b f r (told_true v) = let k = r.low v in omega (arith, limits.blocks-most)
        by b f r (told_false v) = omega (arith, r.free v)

        go : Dec (s < l.slots) → get_or table (2 * s) 0 < 2 ^ 32
        go (yes h) = by _ _ (R s h) (told (valid (get_or table (2 * s + 1) 0)))
        go (no h) = rw (get_or-eq_default table 0 {n = 2 * s} (omega arith)) (omega arith)

    pub page_entry : (i : ℕ) → i < 240 → entry_at
        (encode_meta t w (rows_on p table)) i ≡ record {
          block = record { 0 = get_or table (2 * (240 * p + i)) 0 };
          flags =
              get_or table (2 * (240 * p + i) + 1) 0 % 8;
        }
    page_entry i h =
        encode_entry t w (rows_on p table) few rows_few rows_even i h (rw (row_block_is l table size p i h) (block_small (240 * p + i)))
        ∙ rw (row_block_is l table size p i h, row_word l table size p i 1 h (omega arith))

    pub page-legal : (t ≡ 0 → w ≡ []) → page_test l p (encode_meta t w (rows_on p table)) ≡ true
    page-legal z =
        encoded_legal l p t w (rows_on p table) record {
          slots-most = limits.slots-most;
          blocks-most = limits.blocks-most;
          stamp_fits = t-fits;
          stamp_zero_is = z;
          window_most_is = few;
          in_range_is = ranged;
          apart = sym (distinct_nums w) ∙ W.apart;
          row_count = rows-length l table size p;
          pairs = λ i h.
              let j : i < 240 = omega (arith, rows-length l table size p) in
              let s : 240 * p + i < l.slots = omega (arith, rows-length l table size p) in
              rw (row_block_is l table size p i j, row_word l table size p i 1 j (omega arith)) (pair-legal l _ _ (R (240 * p + i) s));
        }

-- such a page stored, with a larger stamp than all
module _
    (l : Label)
    (ssd hdd : List ℕ)
    (K : ImagesKept l ssd hdd)
    (table : List ℕ)
    (size : length table ≡ table_length l)
    (R : Rows l table)
    (t : ℕ)
    (t-fits : t < 2 ^ 32)
    (newer : (newest_of (metas_of l ssd)).stamp < t)
    (w : List Slot)
    (W : Window l.slots (nums w))
    (p : ℕ)
    (p-page : p < meta_pages l)
  where
    page : List ℕ
    page = encode_meta t w (rows_on p table)

    sized : length page ≡ 4096
    unfolding page
    sized = page-size l K.limits table size R t t-fits w W p

    new : List ℕ
    new = put_page ssd (store_place l ssd p) (meta_bytes l t w (rows_on p table))

    fits : Holds ssd (store_place l ssd p)
    fits = store_within_is l ssd p p-page K.ssd-size

    bytes_sized : length (meta_bytes l t w (rows_on p table)) ≡ 4096
    unfolding page
    bytes_sized = length-bytes l ssd K.ssd-size t w (rows_on p table) sized

    new_metas : metas_of l new ≡ set (metas_of l ssd) p page
    unfolding new page
    new_metas = metas_put l ssd K.ssd-size t w (rows_on p table) sized p p-page

    p_there : p < length (metas_of l ssd)
    p_there = omega (arith, length_metas l ssd)

    new_entry : (s : ℕ) → entry_row l (metas_of l new) s ≡ cond (eqb (s / 240) p) (row_at table s) (entry_row l (metas_of l ssd) s)
    unfolding entry_row
    new_entry s = rw (new_metas, entry_set (metas_of l ssd) p page (record { 0 = s }) p_there)
        (go (told (ltb s l.slots)) (told (eqb (s / 240) p)))
      where
        go : Told (ltb s l.slots) → Told (eqb (s / 240) p)
            → cond (ltb s l.slots) (row_of (cond (eqb (s / 240) p) (entry_at page (s % 240))
            (entry_in (metas_of l ssd) (record { 0 = s }))).block.0
            (cond (eqb (s / 240) p) (entry_at page (s % 240)) (entry_in (metas_of l ssd) (record { 0 = s }))).flags) Row.free
            ≡ cond (eqb (s / 240) p) (row_at table s)
            (cond (ltb s l.slots) (row_of (entry_in (metas_of l ssd) (record { 0 = s })).block.0
            (entry_in (metas_of l ssd) (record { 0 = s })).flags) Row.free)
        go (told_true h) (told_true e) =
            let f : s / 240 ≡ p = eqb-true _ _ e in
            let g : 240 * p + s % 240 ≡ s = omega arith in
            let e₀ : entry_at page (s % 240) ≡ record {
              block = record { 0 = get_or table (2 * (240 * p + s % 240)) 0 };
              flags =
                  get_or table (2 * (240 * p + s % 240) + 1) 0 % 8;
            } =
            unfold page in page_entry l K.limits table size R t t-fits w W p (s % 240) (omega arith) in
            let en : entry_at page (s % 240) ≡ record {
              block = record { 0 = get_or table (2 * s) 0 };
              flags =
                  get_or table (2 * s + 1) 0 % 8;
            } = rw g at e₀ in
            rw (h, e, en) (unfold row_at in refl)
        go (told_true h) (told_false e) = rw (h, e)
        go (told_false h) (told_true e) = rw (h, e) (sym (row_at_out table s (omega (arith, ltb-false s l.slots h))))
        go (told_false h) (told_false e) = rw (h, e)

    new_newest : newest_of (metas_of l new) ≡ record { stamp = t; window = w }
    new_newest =
        let st : stamp_of page ≡ t = unfold page in page-stamp l K.limits table size R t t-fits w W p in
        let wi : window_of page ≡ w = unfold page in page-window l K.limits table size R t t-fits w W p in
        rw (new_metas, newest-set (metas_of l ssd) p page p_there (rw st newer), st, wi)

    new_else : (q : ℕ) → q ≢ store_place l ssd p → page_at new q ≡ page_at ssd q
    unfolding new
    new_else q n = put_other ssd _ (store_place l ssd p) q fits bytes_sized n

    old_stamp : (q : ℕ) → q < meta_pages l → stamp_of (get_or (metas_of l ssd) q []) < t
    old_stamp q h = omega (arith, stamp-most (record { stamp = 0; window = [] }) (metas_of l ssd) q (omega (arith, length_metas l ssd)))

    new_pages : Pages l (metas_of l new)
    new_pages = rw new_metas record {
      each = λ q h. each q h (ℕ_discrete q p);
      apart =
          λ q r h k. apart q r h k (ℕ_discrete q p) (ℕ_discrete r p);
    }
      where
        here : get_or (set (metas_of l ssd) p page) p [] ≡ page
        here = get_or-set_same (metas_of l ssd) p page [] p_there

        there : (q : ℕ) → q ≢ p → get_or (set (metas_of l ssd) p page) q [] ≡ get_or (metas_of l ssd) q []
        there q n = get_or-set_other (metas_of l ssd) p q page [] n

        st : stamp_of page ≡ t
        st = unfold page in page-stamp l K.limits table size R t t-fits w W p

        each : (q : ℕ) → q < meta_pages l → Dec (q ≡ p) → page_test l q (get_or (set (metas_of l ssd) p page) q []) ≡ true
        each q h (yes e) = rw (e, here) (unfold page in page-legal l K.limits table size R t t-fits w W p (λ z. absurd (omega arith)))
        each q h (no n) = rw (there q n) (K.pages.each q h)

        apart : (q r : ℕ) → q < meta_pages l → r < meta_pages l → Dec (q ≡ p) → Dec (r ≡ p) → q ≢ r
            → stamp_of (get_or (set (metas_of l ssd) p page) q []) ≢ 0
            → stamp_of (get_or (set (metas_of l ssd) p page) q []) ≢ stamp_of (get_or (set (metas_of l ssd) p page) r [])
        apart q r h k (yes e) (yes f) d z = absurd (d (e ∙ sym f))
        apart q r h k (yes e) (no f) d z = rw (e, here, there r f, st) (omega (arith, old_stamp r k))
        apart q r h k (no e) (yes f) d z = rw (f, here, there q e, st) (omega (arith, old_stamp q h))
        apart q r h k (no e) (no f) d z = rw (there q e, there r f) (K.pages.apart q r h k d (rw (there q e) at z))

    -- the same, with the page written out
    pub put_kept : ImagesKept l (put_page ssd (store_place l ssd p) (meta_bytes l t w (rows_on p table))) hdd
    unfolding new page
    put_kept = record {
      limits = K.limits;
      ssd-size = length_put ssd _ (store_place l ssd p) fits bytes_sized ∙ K.ssd-size;
      hdd-size = K.hdd-size;
      label-page = new_else 0 (λ e. store-not-label l ssd p p-page (sym e)) ∙ K.label-page;
      pages = new_pages;
    }

    pub put_entry : (s : ℕ) → entry_row l (metas_of l (put_page ssd (store_place l ssd p) (meta_bytes l t w (rows_on p table)))) s
        ≡ cond (eqb (s / 240) p)
        (row_at table s) (entry_row l (metas_of l ssd) s)
    unfolding new page
    put_entry = new_entry

    pub put_newest : newest_of (metas_of l (put_page ssd (store_place l ssd p) (meta_bytes l t w (rows_on p table))))
        ≡ record { stamp = t; window = w }
    unfolding new page
    put_newest = new_newest

    pub put_page_lem : (s : ℕ) → page_at (put_page ssd (store_place l ssd p) (meta_bytes l t w (rows_on p table)))
        (data_place l (record { 0 = s })) ≡ page_at ssd
        (data_place l (record { 0 = s }))
    unfolding new page
    put_page_lem s = new_else (data_place l (record { 0 = s }))
        (λ e. omega (arith, e, store-below_data l ssd p p-page (record { 0 = s })))

-- a data page stored
module _ (l : Label) (ssd hdd : List ℕ) (K : ImagesKept l ssd hdd) (s : ℕ) (s-slot : s < l.slots) (d : List ℕ)
    (d-size : length d ≡ 4096) where
  data_fits : Holds ssd (data_place l (record { 0 = s }))
  data_fits = rw K.ssd-size (data_within l (record { 0 = s }) s-slot)

  data_else : (q : ℕ) → q ≢ data_place l (record { 0 = s }) → page_at (put_page ssd (data_place l (record { 0 = s })) d) q ≡ page_at ssd q
  data_else q n = put_other ssd d (data_place l (record { 0 = s })) q data_fits d-size n

  pub data_metas : metas_of l (put_page ssd (data_place l (record { 0 = s })) d) ≡ metas_of l ssd
  data_metas = metas_else l ssd d d-size (data_place l (record { 0 = s })) data_fits
      (λ k h e. omega (arith, e, meta_below_data l k h (record { 0 = s })))

  pub data_kept : ImagesKept l (put_page ssd (data_place l (record { 0 = s })) d) hdd
  data_kept = record {
    limits = K.limits;
    ssd-size = length_put ssd d (data_place l (record { 0 = s })) data_fits d-size ∙ K.ssd-size;
    hdd-size = K.hdd-size;
    label-page = data_else 0 (λ e. omega (arith, e, label-below_data l (record { 0 = s }))) ∙ K.label-page;
    pages = rw data_metas K.pages;
  }

  pub data_page : (u : ℕ) → page_at (put_page ssd (data_place l (record { 0 = s })) d) (data_place l (record { 0 = u })) ≡ base.upd
      (λ v. page_at ssd (data_place l (record { 0 = v }))) s d u
  data_page u = go (ℕ_discrete u s)
    where
      go : Dec (u ≡ s) → page_at (put_page ssd (data_place l (record { 0 = s })) d) (data_place l (record { 0 = u })) ≡ base.upd
          (λ v. page_at ssd (data_place l (record { 0 = v }))) s d u
      go (yes e) = rw (e, base.upd_same) (put_same ssd d (data_place l (record { 0 = s })) data_fits d-size)
      go (no n) = rw base.upd_other (data_else (data_place l (record { 0 = u })) (datas_apart l (record { 0 = u }) (record { 0 = s }) n))

-- a page of the HDD stored
module _ (l : Label) (ssd hdd : List ℕ) (K : ImagesKept l ssd hdd) (b : ℕ) (b-block : b < l.blocks) (d : List ℕ)
    (d-size : length d ≡ 4096) where
  disk_fits : Holds hdd b
  disk_fits = omega (arith, K.hdd-size)

  pub disk-kept : ImagesKept l ssd (put_page hdd b d)
  disk-kept = record {
    limits = K.limits;
    ssd-size = K.ssd-size;
    hdd-size = length_put hdd d b disk_fits d-size ∙ K.hdd-size;
    label-page = K.label-page;
    pages = K.pages;
  }

  pub disk-page : (c : ℕ) → page_at (put_page hdd b d) c ≡ base.upd (λ e. page_at hdd e) b d c
  disk-page c = go (ℕ_discrete c b)
    where
      go : Dec (c ≡ b) → page_at (put_page hdd b d) c ≡ base.upd (λ e. page_at hdd e) b d c
      go (yes e) = rw (e, base.upd_same) (put_same hdd d b disk_fits d-size)
      go (no n) = rw base.upd_other (put_other hdd d b c disk_fits d-size n)
