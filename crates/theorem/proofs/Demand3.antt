-- Demand 3, proved: from what a format's last step leaves, every event keeps the invariant, and the invariant is safe.
use Prim.Native.Nat.{ℕ, ◌+◌, ◌*◌, ◌%◌, ◌/◌, ◌≤◌, ◌<◌}
use mathlib.Core.Path.{◌≡◌, refl, sym, ap, subst, ◌∙◌}
use mathlib.Core.Bool.{Bool, true, false, cond}
use mathlib.Core.List.Memᴰ
use mathlib.Core.List.{List, [], ◌∷◌}
use native.Mathlib.Omega.{arith}
use borrow.Author.Tests.{lt-ltb, le-ltb}
use lib.ListN.{length, get_or, replicate, length-take, length-replicate, get_or-eq_default, get_or-replicate}
use lib.Dec.{ltb}
use native.Mathlib.Decide.{dec_lt}
use Rattle.pages.specs.Pages.{page_at}
use Rattle.layout.proofs.PlaceLaws.{meta_of-low, page-place}
use Rattle.layout.specs.declared.Label.{Label}
use Rattle.layout.specs.Places.{meta_pages, table_length}
use Rattle.layout.specs.MetaPage.{encode_meta, rows_on, stamp_of}
use Rattle.record.specs.declared.Phase.TheVariants.{Ready}
use Rattle.record.specs.Record.{label_in, window_in, callers_in}
use Rattle.record.proofs.WindowLaws.{take-array}
use Rattle.record.proofs.CallerLaws.{named_of}
use Rattle.protocol.specs.Reply.{refused}
use Rattle.protocol.specs.Rows.{valid}
use Rattle.protocol.specs.Box.{Box}
use Rattle.protocol.specs.Metadata.{read_meta, meta_bytes}
use Rattle.protocol.specs.Recovery.{metas_of, entry_in, Newest, newest_of}
use Rattle.protocol.specs.Plan.{format, format_label}
use Rattle.protocol.specs.Calls.{result_of}
use Rattle.protocol.specs.ReferenceDisk.{durable}
use Rattle.protocol.specs.Events.{World, Event, run, formatted, start_of, AllFit}
use Rattle.protocol.specs.Demand3.{own_label, Safe, Demand3}
use Rattle.protocol.specs.Beside.{UpdateBeforeData, Bounded, ImportBounded}
use Rattle.layout.proofs.Booleans.{clash}
use Rattle.laws.proofs.model.Base.{Window, nil_window, has_nil}
use Rattle.laws.proofs.model.Model as model
use Rattle.laws.proofs.model.Model.{Row, Plain}
use Rattle.laws.proofs.refine.Windows.{nums, length_nums}
use Rattle.laws.proofs.refine.Flags.{row_of, f0}
use Rattle.laws.proofs.refine.Tables.{row_at, Rows}
use Rattle.laws.proofs.refine.Metas.{metas_at, length_metas, newest_none}
use Rattle.theorem.proofs.refine.Stores.{page-stamp, page_entry, page-legal}
use Rattle.theorem.proofs.refine.Formatting.{free_table, Formatted, whole-format}
use Rattle.theorem.proofs.Reachable.{inv_held, held_label, run_inv}
use Rattle.theorem.proofs.Claims.{views_of, reads_of, looks_of, allowed_of, taken_of, mends_of, flushes_of}
use Rattle.theorem.proofs.Keeps.{keeps_of}
use Rattle.theorem.proofs.UpdateFirst.{update_first}
use Rattle.laws.proofs.refine.Callers.{nobody_kept}
use Rattle.theorem.proofs.refine.Passes.{pending_rule}
use Rattle.laws.proofs.refine.Abstract.{Core, phase_for, box_of_core, entry_row, abs, Pages, Shape, ready_sound, Phased, is_ready_is, is_mending, Inv}

-- what is safe of every reachable world
pub safe : (l : Label) (w : World) → Inv l w → Safe l w
safe l w I = record {
  label = own;
  stored-label = held_label l w (inv_held I) w.box refl;
  views = λ r b h. views_of l w I r b (low h);
  reads = λ r b h. reads_of l w I r b (low h);
  looks = λ r b h s e. rw own (looks_of l w I r b (low h) s e);
  allowed = λ e f g b h. allowed_of l w I e f g b (low h);
  taken = taken_of l w I;
  mends = mends_of l w I;
  flushes = flushes_of l w I;
  keeps = λ e f r b h. keeps_of l w I e f r b (low h);
}
  where
    own : own_label w ≡ l
    own = ap (λ (x : Box). label_in x.state) I.is_core

    low : {b : ℕ} → b < (own_label w).blocks → b < l.blocks
    low h = rw own at h

-- a table of free rows
free_word : (n k : ℕ) → get_or {A = ℕ} (replicate n 0) k 0 ≡ 0
free_word n k = go (dec_lt k n)
  where
    go : Dec (k < n) → get_or {A = ℕ} (replicate n 0) k 0 ≡ 0
    go (yes h) = get_or-replicate n k 0 0 h
    go (no h) = get_or-eq_default (replicate n 0) 0 {n = k} (rw length-replicate (omega arith))

free-size : (l : Label) → length (free_table l) ≡ table_length l
free-size l = length-replicate {A = ℕ} (table_length l) 0

free-rows : (l : Label) → Rows l (free_table l)
free-rows l s h = rw (free_word (table_length l) (2 * s), free_word (table_length l) (2 * s + 1))
    record { flags = f0; low = λ v. clash {b = false} v refl; free = λ v. refl }

free-row : (l : Label) (s : ℕ) → row_at (free_table l) s ≡ Row.free
unfolding row_at row_of
free-row l s = rw (free_word (table_length l) (2 * s), free_word (table_length l) (2 * s + 1))

-- what a format's last step leaves
module _ (l : Label) (x y : Box) (F : Formatted l x y) where
  abbrev core : Core
  core = record {
    ssd = F.ssd;
    hdd = x.images.hdd;
    table = free_table l;
    hand = record { 0 = 0 };
    newest = 0;
    recovering = false;
    unconfirmed = false;
    window = [];
    callers = replicate 63 0;
  }

  none_open : Window l.slots (nums [])
  unfolding nums
  none_open = nil_window l.slots

  page_is : (p : ℕ) → p < meta_pages l → get_or (metas_of l F.ssd) p [] ≡ encode_meta 0 [] (rows_on p (free_table l))
  unfolding read_meta meta_bytes
  page_is p h = metas_at l F.ssd p h ∙ F.meta_pages_is p (page-place l p h)

  stamp_zero_is : (p : ℕ) → p < meta_pages l → stamp_of (get_or (metas_of l F.ssd) p []) ≡ 0
  stamp_zero_is p h = ap stamp_of (page_is p h)
      ∙ page-stamp l F.limits (free_table l) (free-size l) (free-rows l) 0 (omega arith) [] none_open p

  pages : Pages l (metas_of l F.ssd)
  pages = record {
    each = λ p h. rw (page_is p h) (page-legal l F.limits (free_table l) (free-size l) (free-rows l) 0 (omega arith) [] none_open p
        (λ _. refl));
    apart = λ p q h k n z. absurd (z (stamp_zero_is p h));
  }

  newest_is : newest_of (metas_of l F.ssd) ≡ record { stamp = 0; window = [] }
  newest_is = newest_none (metas_of l F.ssd) (λ p h. stamp_zero_is p (omega (arith, length_metas l F.ssd)))

  entry_is : (s : ℕ) → s < l.slots → entry_in (metas_of l F.ssd) (record { 0 = s }) ≡ record { block = record { 0 = 0 }; flags = 0 }
  unfolding entry_in
  entry_is s h =
      let e = page_entry l F.limits (free_table l) (free-size l) (free-rows l) 0 (omega arith) [] none_open (s / 240) (s % 240)
      (omega arith) in
      rw (page_is (s / 240) (meta_of-low l (record { 0 = s }) h))
      (e ∙ rw (
        free_word (table_length l) (2 * (240 * (s / 240) + s % 240)),
        free_word (table_length l) (2 * (240 * (s / 240) + s % 240) + 1),
      ))

  entry_free : (s : ℕ) → entry_row l (metas_of l F.ssd) s ≡ Row.free
  unfolding entry_row row_of
  entry_free s = go (dec_lt s l.slots)
    where
      go : Dec (s < l.slots) → cond (ltb s l.slots)
          (row_of (entry_in (metas_of l F.ssd) (record { 0 = s })).block.0 (entry_in (metas_of l F.ssd) (record { 0 = s })).flags)
          Row.free ≡ Row.free
      go (yes h) = rw (lt-ltb s l.slots h, entry_is s h)
      go (no h) = rw (le-ltb s l.slots (omega arith))

  plain : Plain
  plain = record { page = λ b. page_at x.images.hdd b; may = λ b. page_at x.images.hdd b ∷ [] }

  shape : Shape l core
  shape = record {
    images = record { limits = F.limits; ssd-size = F.ssd-size; hdd-size = F.hdd-size; label-page = F.label-page; pages = pages };
    table-size = free-size l;
    hand_ok = F.limits.some_slot;
    rows = free-rows l;
    callers = nobody_kept false [];
  }

  stored_window_nil : (abs l core).stored_window ≡ []
  unfolding abs nums
  stored_window_nil = ap (λ (n : Newest). nums n.window) newest_is

  no_row : {A : Type 0} (f : Row → Bool) → f Row.free ≡ false → (s : ℕ) → f ((abs l core).row s) ≡ true → A
  unfolding abs
  no_row f e s v = clash v (ap f (free-row l s) ∙ e)

  ready : model.Ready (abs l core) plain
  unfolding abs plain nums
  ready = record {
    phase = refl;
    in_range_is = λ s v. no_row model.valid refl s v;
    in_blocks = λ s v. no_row model.valid refl s v;
    window-rule = nil_window l.slots;
    stored_window-rule = rw stored_window_nil (nil_window l.slots);
    same-valid = λ s. rw (free-row l s, entry_free s);
    same_block = λ s. rw (free-row l s, entry_free s);
    dirty-below = λ s v. no_row model.dirty_row refl s v;
    open_row_is = λ s. ap model.open_row (free-row l s) ∙ sym (has_nil s);
    window-stored = λ s h. clash h (has_nil s);
    stored_open = λ s h. clash (rw stored_window_nil at h) (has_nil s);
    settled = λ _ s h. clash (rw stored_window_nil at h) (has_nil s);
    once = λ s t v. no_row model.valid refl s v;
    cached = λ s v. no_row model.valid refl s v;
    on_disk = λ b _. refl;
    may_page = λ b. Memᴰ.head refl;
    loose = λ b _. Memᴰ.head refl;
    stamps = ap (λ (n : Newest). n.stamp) newest_is;
    short = omega arith;
    budget = omega (arith, ap length stored_window_nil);
  }

  start_inv : Inv l (start_of l (box_of_core l core))
  unfolding plain
  start_inv = record {
    core = core;
    is_core = refl;
    shape = shape;
    plain = plain;
    agrees = record { page = λ b h. refl; contents = λ b h. refl };
    phased = is_ready_is ready;
  }

  pub formatted_inv : Inv l (start_of l y)
  formatted_inv = subst (λ (z : Box). Inv l (start_of l z)) (sym F.is_box) start_inv

-- every list of demand 3 leads to a reachable world
pub reached : (slots blocks : ℕ) (x : Box) → refused (result_of (format slots blocks) x).said ≡ false → (es : List Event)
    → AllFit es (start_of (format_label slots blocks) (formatted slots blocks x))
    → Inv (format_label slots blocks) (run es (start_of (format_label slots blocks) (formatted slots blocks x)))
reached slots blocks x f es g =
    run_inv (format_label slots blocks) es _ g (formatted_inv (format_label slots blocks) x (formatted slots blocks x)
    (whole-format slots blocks x f))

-- Demand 3.
pub demand3 : Demand3
demand3 slots blocks x f es g = safe (format_label slots blocks) _ (reached slots blocks x f es g)

-- Update before data.
pub update_before_data : UpdateBeforeData
update_before_data slots blocks x f es g = update_first (format_label slots blocks) _ (reached slots blocks x f es g)

-- The import's share of the window.
core_bounded : (l : Label) (k : Core) → Shape l k → Window l.slots (nums k.window) → Bounded (box_of_core l k).state
unfolding window_in callers_in
core_bounded l k S W =
    let few : length k.window ≤ 63 = omega (arith, W.fits, length_nums k.window) in
    let N = named_of (phase_for k.recovering) (length k.window) k.callers S.callers.rule in
    record {
      import_few = S.callers.few;
      all_few = rw (take-array k.window) few;
      one_each =
          rw (take-array k.window) (length-take (length k.window) k.callers ∙ omega (arith, N.size, few));
    }

window-kept : (l : Label) (k : Core) → Shape l k → (p : Plain) → Phased (abs l k) p → Window l.slots (nums k.window)
window-kept l k S p (is_ready_is R) = (ready_sound l k S p R).rule
window-kept l k S p (is_mending on M) = pending_rule l k S p M (unfold abs in on)

pub import_bounded : ImportBounded
import_bounded slots blocks x f es g =
    let I = reached slots blocks x f es g in
    subst (λ (y : Box). Bounded y.state) (sym I.is_core)
    (core_bounded (format_label slots blocks) I.core I.shape (window-kept _ I.core I.shape I.plain I.phased))
