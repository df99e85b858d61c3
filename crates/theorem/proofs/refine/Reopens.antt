-- A reopening of images that keep their rules: it is taken, and fills table and record as the model says.
use Prim.Native.Nat.{ℕ, ◌+◌, ◌*◌, ◌%◌, ◌<◌}
use mathlib.Core.Path.{◌≡◌, refl, sym, ap, ◌∙◌}
use mathlib.Core.Logic.{◌≢◌}
use mathlib.Core.Bool.{Bool, true, false, not}
use mathlib.Core.List.{List}
use Rattle.std.specs.Prelude.{Some, None}
use native.Mathlib.Omega.{arith}
use native.Mathlib.Decide.{dec_lt}
use lib.ListN.{length, get_or, replicate}
use borrow.Author.Tests.{le-leb, eq-eqb, le-ltb}
use Rattle.pages.specs.Pages.{page_at}
use Rattle.layout.specs.declared.Slot.{Slot}
use Rattle.layout.specs.declared.Label.{Label}
use Rattle.layout.specs.declared.Entry.{Entry}
use Rattle.layout.specs.Places.{table_length}
use Rattle.layout.specs.LabelPage.{decode_label}
use Rattle.layout.specs.MetaPage.{rows_from}
use Rattle.layout.specs.PageRule.{listed}
use Rattle.layout.proofs.PlaceLaws.{within, label_within}
use Rattle.layout.proofs.LabelLaws.{label_back}
use Rattle.record.specs.declared.Phase.{Phase}
use Rattle.protocol.specs.Rows.{valid, dirty, writing}
use Rattle.record.specs.Record.{record_of}
use Rattle.protocol.specs.Box.{Images, Box, left, box_after}
use Rattle.protocol.specs.Recovery.{label_read, label_at, metas_of, entry_in, newest_of, spent_stamp, stored_rows, pages_test, recovered, recover}
use Rattle.protocol.specs.Plan.{reopen, recovers}
use Rattle.protocol.specs.Perform.{perform}
use Rattle.protocol.specs.Judge.{label_test, lengths_test, length_test, test, judged, is_empty}
use Rattle.laws.proofs.model.Base.{has}
use Rattle.laws.proofs.model.Model as model
use Rattle.laws.proofs.model.Model.{Row, Plain, Stored, dirty_row, open_row, block_of, revived, reopened, same_path}
use Rattle.laws.proofs.model.Rows.{open_valid}
use Rattle.laws.proofs.refine.Windows.{nums, has_nums, empty_nums}
use Rattle.laws.proofs.refine.Flags.{row_of}
use Rattle.laws.proofs.refine.Tables.{row_at, row_at_out, Rows}
use Rattle.laws.proofs.refine.Metas.{length_metas}
use Rattle.laws.proofs.refine.Entries.{length-rows, rows-block, rows_flags, LegalEntry, legal_entry, SameEntry, same_entry, entry_in_lem, recovered-row, recovered-legal, each_legal_lem, stamps_differ_lem, none_twice_lem, all_open_lem}
use Rattle.laws.proofs.Judged.{accepted}
use Rattle.theorem.proofs.refine.Performed.{phase_empty}
use Rattle.laws.proofs.refine.Callers.{nobody_kept}
use Rattle.laws.proofs.refine.Abstract.{Core, box_of_core, entry_row, abs, ImagesKept, Shape}

revived_free : (h : Bool) → revived h Row.free ≡ Row.free
revived_free true = refl
revived_free false = refl

-- the core that a reopening makes of the images of k
abbrev pub reopened_core : Label → Core → Core
reopened_core l k =
    let n = newest_of (metas_of l k.ssd) in
    record {
      ssd = k.ssd;
      hdd = k.hdd;
      table = rows_from l.slots (λ s. recovered n.window (record { 0 = s }) (entry_in (metas_of l k.ssd) (record { 0 = s })));
      hand = record { 0 = 0 };
      newest = spent_stamp l k.ssd;
      recovering = not (is_empty n.window);
      unconfirmed = false;
      window = n.window;
      callers = replicate 63 0;
    }

module _ (l : Label) (k : Core) (p : Plain) (K : ImagesKept l k.ssd k.hdd) (St : Stored (abs l k) p) where
  pages : List (List ℕ)
  pages = metas_of l k.ssd

  window : List Slot
  window = (newest_of (metas_of l k.ssd)).window

  entry : ℕ → Entry
  entry s = entry_in (metas_of l k.ssd) (record { 0 = s })

  -- the slots of the newest window are open in the pages
  window-low : (s : ℕ) → listed (record { 0 = s }) window ≡ true → s < l.slots
  unfolding abs window
  window-low s h = St.in_range_is s (open_valid (entry_row l (metas_of l k.ssd) s) (St.stored_open s (has_nums window s ∙ h)))

  legal : (s : ℕ) → s < l.slots → LegalEntry l (entry s)
  unfolding entry
  legal s h = legal_entry l (metas_of l k.ssd) K.pages s h

  same : (s : ℕ) → s < l.slots → SameEntry (entry s)
  same s h = same_entry (entry s) (legal s h).sums

  entry_is : (s : ℕ) → s < l.slots → entry_row l (metas_of l k.ssd) s ≡ row_of (entry s).block.0 (entry s).flags
  unfolding entry
  entry_is s h = entry_in_lem l (metas_of l k.ssd) s h

  window_open : (s : ℕ) → listed (record { 0 = s }) window ≡ true → (valid (entry s).flags ≡ true) × (writing (entry s).flags ≡ true)
  unfolding abs window
  window_open s h =
      let i = window-low s h in
      let o : open_row (entry_row l (metas_of l k.ssd) s) ≡ true = St.stored_open s (has_nums window s ∙ h) in
      let o' : open_row (row_of (entry s).block.0 (entry s).flags) ≡ true = sym (ap open_row (entry_is s i)) ∙ o in
      (sym (same s i).same-valid ∙ open_valid (row_of (entry s).block.0 (entry s).flags) o', sym (same s i).same_open ∙ o')

  -- a stored entry and the model's
  pub valid_entry : (s : ℕ) → s < l.slots → model.valid (entry_row l (metas_of l k.ssd) s) ≡ valid
      (entry_in (metas_of l k.ssd) (record { 0 = s })).flags
  unfolding entry
  valid_entry s h = ap model.valid (entry_is s h) ∙ (same s h).same-valid

  pub block_entry : (s : ℕ) → s < l.slots → valid (entry_in (metas_of l k.ssd) (record { 0 = s })).flags ≡ true
      → block_of (entry_row l (metas_of l k.ssd) s) ≡ (entry_in (metas_of l k.ssd) (record { 0 = s })).block.0
  unfolding entry
  block_entry s h v = ap block_of (entry_is s h) ∙ (same s h).same_block v

  pub dirty_entry : (s : ℕ) → s < l.slots → dirty_row (entry_row l (metas_of l k.ssd) s) ≡ dirty
      (entry_in (metas_of l k.ssd) (record { 0 = s })).flags
  unfolding entry
  dirty_entry s h = ap dirty_row (entry_is s h) ∙ (same s h).same-dirty

  pub open_entry : (s : ℕ) → s < l.slots → open_row (entry_row l (metas_of l k.ssd) s) ≡ writing
      (entry_in (metas_of l k.ssd) (record { 0 = s })).flags
  unfolding entry
  open_entry s h = ap open_row (entry_is s h) ∙ (same s h).same_open

  -- the slots of the newest window
  pub window-block : (s : ℕ) → listed (record { 0 = s }) (newest_of (metas_of l k.ssd)).window ≡ true
      → block_of (entry_row l (metas_of l k.ssd) s) ≡ (entry_in (metas_of l k.ssd) (record { 0 = s })).block.0
  unfolding window entry
  window-block s h = block_entry s (window-low s h) (window_open s h).0

  -- no block is in two entries
  apart-rows : (s u : ℕ) → s < u → u < l.slots → valid (entry s).flags ≡ true → valid (entry u).flags ≡ true
      → (entry s).block.0 ≢ (entry u).block.0
  unfolding abs
  apart-rows s u i j v w e =
      let h : s < l.slots = omega arith in
      let ev : (t : ℕ) → t < l.slots → valid (entry t).flags ≡ true
      → model.valid (entry_row l (metas_of l k.ssd) t) ≡ true = λ t q z. ap model.valid (entry_is t q) ∙ (same t q).same-valid ∙ z in
      let eb : (t : ℕ) → t < l.slots → valid (entry t).flags ≡ true
      → block_of (entry_row l (metas_of l k.ssd) t) ≡ (entry t).block.0 = λ t q z. ap block_of (entry_is t q) ∙ (same t q).same_block z in
      let q : s ≡ u = St.once s u (ev s h v) (ev u j w) (eb s h v ∙ e ∙ sym (eb u j w)) in
      omega arith

  stored_is : stored_rows l (metas_of l k.ssd) ≡ rows_from l.slots entry
  unfolding entry
  stored_is = refl

  -- no rule between pages is broken
  pub pages_pass : pages_test l (metas_of l k.ssd) ≡ true
  unfolding pages_test
  pages_pass = rw (each_pass, stamps_pass, once_pass, open_pass)
    where
      each_pass : Rattle.protocol.specs.Recovery.each_legal l 0 (metas_of l k.ssd) ≡ true
      each_pass = each_legal_lem l 0 (metas_of l k.ssd)
          (λ q h. let e : q ≡ 0 + q = omega arith in rw (← e) (K.pages.each q (omega (arith, length_metas l k.ssd))))

      stamps_pass : Rattle.protocol.specs.Recovery.stamps_differ (metas_of l k.ssd) ≡ true
      stamps_pass = stamps_differ_lem (metas_of l k.ssd)
          (λ q r i j. K.pages.apart q r (omega (arith, length_metas l k.ssd)) (omega (arith, length_metas l k.ssd)) (omega arith))

      once_pass : Rattle.protocol.specs.Recovery.none_twice (stored_rows l (metas_of l k.ssd)) ≡ true
      once_pass = rw stored_is (none_twice_lem (rows_from l.slots entry) each)
        where
          each : (s u : ℕ) → s < u → 2 * u + 1 < length (rows_from l.slots entry)
              → valid (get_or (rows_from l.slots entry) (2 * s + 1) 0) ≡ true
              → valid (get_or (rows_from l.slots entry) (2 * u + 1) 0) ≡ true
              → get_or (rows_from l.slots entry) (2 * s) 0 ≢ get_or (rows_from l.slots entry) (2 * u) 0
          each s u i j v w e =
              let hu : u < l.slots = omega (arith, length-rows l.slots entry) in
              let hs : s < l.slots = omega arith in
              let f = rows_flags l.slots entry in
              let b = rows-block l.slots entry in
              apart-rows s u i hu (sym (ap valid (f s hs)) ∙ v) (sym (ap valid (f u hu)) ∙ w) (sym (b s hs) ∙ e ∙ b u hu)

      open_pass : Rattle.protocol.specs.Recovery.all_open_in (metas_of l k.ssd) (newest_of (metas_of l k.ssd)).window ≡ true
      open_pass = unfold window entry in (all_open_lem (metas_of l k.ssd) (newest_of (metas_of l k.ssd)).window
          (λ s h. window_open s.0 h))

  -- it is taken
  pub label_is : label_at k.ssd ≡ l
  label_is = ap (λ (q : List ℕ). label_read (decode_label q)) K.label-page ∙ ap label_read (label_back l ((within l).1 K.limits))

  label_pass : label_test k.ssd ≡ true
  unfolding label_test
  label_pass =
      let d : decode_label (page_at k.ssd 0) ≡ Some l = ap decode_label K.label-page ∙ label_back l ((within l).1 K.limits) in
      rw (d, le-leb 4096 (length k.ssd) (rw K.ssd-size (label_within l)))

  length_pass : (table : List ℕ) → length table ≡ table_length l → length_test l (record { ssd = k.ssd; hdd = k.hdd }) table ≡ true
  unfolding length_test lengths_test
  length_pass table h = rw (eq-eqb _ _ K.ssd-size, eq-eqb _ _ K.hdd-size, eq-eqb _ _ h)

  pub reopen_judged : (x : Box) → x.images ≡ record { ssd = k.ssd; hdd = k.hdd } → length x.table ≡ table_length l
      → judged reopen x ≡ None
  unfolding test
  reopen_judged x e h =
      ap (λ (im : Images). judged reopen (record { images = im; table = x.table; state = x.state })) e
      ∙ accepted reopen (record { images = record { ssd = k.ssd; hdd = k.hdd }; table = x.table; state = x.state })
      (rw label_pass, (rw (label_is, length_pass x.table h), (rw (label_is, pages_pass), tt))) tt

  -- what it leaves
  pub reopen_box : (x : Box) → x.images ≡ record { ssd = k.ssd; hdd = k.hdd }
      → box_after (left (perform recovers x) x.images) ≡ box_of_core l (reopened_core l k)
  unfolding perform recover
  reopen_box x e =
      ap (λ (im : Images). made im (label_at im.ssd)) e
      ∙ ap (λ (a : Label). made (record { ssd = k.ssd; hdd = k.hdd }) a) label_is
      ∙ ap (λ (q : Phase). phased q) (phase_empty (newest_of (metas_of l k.ssd)).window)
    where
      made : Images → Label → Box
      made im a = let r = recover a (metas_of a im.ssd) (spent_stamp a im.ssd) in
          record { images = im; table = r.table; state = r.state }

      phased : Phase → Box
      phased q = record {
        images = record { ssd = k.ssd; hdd = k.hdd };
        table = (reopened_core l k).table;
        state = record_of l (record { 0 = 0 }) (spent_stamp l k.ssd) q false (newest_of (metas_of l k.ssd)).window;
      }

  recover_entry : ℕ → Entry
  recover_entry s = recovered window (record { 0 = s }) (entry s)

  table_is : (reopened_core l k).table ≡ rows_from l.slots recover_entry
  unfolding recover_entry window entry
  table_is = refl

  table-size : length (reopened_core l k).table ≡ table_length l
  table-size = rw table_is (length-rows l.slots recover_entry)

  rows-legal : Rows l (reopened_core l k).table
  rows-legal s h =
      rw (table_is, rows-block l.slots recover_entry s h, rows_flags l.slots recover_entry s h)
      (unfold recover_entry in (recovered-legal l window s (entry s) (legal s h)))

  pub reopen_shape : Shape l (reopened_core l k)
  reopen_shape = record { images = K; table-size = table-size; hand_ok = K.limits.some_slot; rows = rows-legal; callers = nobody_kept _ _ }

  row_is : (s : ℕ) → row_at (reopened_core l k).table s ≡ revived (has (nums window) s) (entry_row l (metas_of l k.ssd) s)
  row_is s = go (dec_lt s l.slots)
    where
      go : Dec (s < l.slots) → row_at (reopened_core l k).table s ≡ revived (has (nums window) s) (entry_row l (metas_of l k.ssd) s)
      go (yes h) =
          let e : row_at (rows_from l.slots recover_entry) s ≡ row_of (recover_entry s).block.0 ((recover_entry s).flags % 8) =
          unfold row_at in (rw (rows-block l.slots recover_entry s h, rows_flags l.slots recover_entry s h)) in
          let r : row_of (recover_entry s).block.0 ((recover_entry s).flags % 8) ≡ revived (has (nums window) s)
          (row_of (entry s).block.0 (entry s).flags) = unfold recover_entry in
          (recovered-row window s (entry s) (legal s h).sums (λ q. (window_open s q).1)) in
          ap (λ (t : List ℕ). row_at t s) table_is ∙ e ∙ r ∙ ap (λ (q : Row). revived (has (nums window) s) q) (sym (entry_is s h))
      go (no h) =
          let f : entry_row l (metas_of l k.ssd) s ≡ Row.free = unfold entry_row in (rw (le-ltb s l.slots (omega arith))) in
          row_at_out (reopened_core l k).table s (omega (arith, table-size))
          ∙ sym (ap (λ (q : Row). revived (has (nums window) s) q) f ∙ revived_free (has (nums window) s))

  pub reopen_abs : abs l (reopened_core l k) ≡ reopened (abs l k)
  unfolding abs reopened window
  reopen_abs =
      same_path _ _ record {
        slots = refl;
        blocks = refl;
        top = refl;
        row = row_is;
        entry = λ s. refl;
        hdd = λ b. refl;
        slot_page = λ s. refl;
        window = refl;
        stored_window = refl;
        newest = refl;
        stamp = refl;
        unconfirmed = refl;
        recovering = ap not (sym (empty_nums (newest_of (metas_of l k.ssd)).window));
      }
