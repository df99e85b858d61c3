-- A reachable box passes 3, 4 and 5; and the calls that are never refused.
use Prim.Native.Nat.{ℕ, ◌+◌, ◌*◌, ◌%◌, ◌≤◌, ◌<◌}
use mathlib.Core.Path.{◌≡◌, refl, sym, ap, ◌∙◌}
use mathlib.Core.Bool.{Bool, true, false, not, ◌&&◌}
use mathlib.Core.List.{List}
use Rattle.std.specs.Prelude.{None}
use native.Mathlib.Omega.{arith}
use lib.ListN.{length, get_or}
use lib.Dec.{eqb, leb}
use borrow.Author.Tests.{lt-leb, not-true}
use Rattle.layout.specs.declared.Slot.{Slot}
use Rattle.layout.specs.declared.Block.{Block}
use Rattle.layout.specs.declared.Label.{Label}
use Rattle.layout.specs.PageRule.{listed}
use Rattle.record.specs.declared.Phase.TheVariants.{Ready}
use Rattle.protocol.specs.Rows.{row_block, row_flags, valid, dirty, writing}
use Rattle.record.specs.Record.{window_in}
use Rattle.layout.specs.Window.{array_of}
use Rattle.layout.specs.Stamps.{largest_stamp}
use Rattle.protocol.specs.Plan.{step, flush, look_up, view, flushing, plan, stores_meta, Call}
use Rattle.record.specs.Rule.{steps_test}
use Rattle.protocol.specs.Judge.{is_empty, agree_test, test, judged, lent_test, asked_first}
use Rattle.laws.proofs.model.Base as base
use Rattle.protocol.specs.Kinds.{Aim, a_service, kind}
use Rattle.layout.proofs.Booleans.{Told, told, told_true, told_false, clash}
use Rattle.laws.proofs.model.Base.{has, Window}
use Rattle.laws.proofs.model.Model as model
use Rattle.laws.proofs.model.Model.{Row, Plain, Mending, open_row, revived}
use Rattle.laws.proofs.model.Rows.{open_valid, shut_open}
use Rattle.laws.proofs.refine.Windows.{nums, length_nums, has_nums, empty_nums, some_length}
use Rattle.laws.proofs.refine.Flags.{row_of, Flags, f0, f1, f3, f5, f7, f9, f11, f13, f15, LegalRow}
use Rattle.laws.proofs.refine.Tables.{row_at, each_of, at_open}
use Rattle.laws.proofs.Judged.{NoneHold, accepted}
use Rattle.laws.proofs.Accepted.{Legal, legal_record, legal_lengths, legal_rows_is, legal-first}
use Rattle.record.proofs.RecordLaws.{window_in_lem}
use Rattle.laws.proofs.refine.Abstract.{Core, phase_for, box_of_core, abs, Shape, ready_sound}
use Rattle.laws.proofs.Sound.{Sound, sound_agree}
use Rattle.record.proofs.Each.{listed_same}
use Rattle.laws.proofs.why.RowsRules.{agree_same}

-- a legal row that is free is zero
free_zero_lem : {l : Label} {b f : ℕ} → LegalRow l b f → row_of b (f % 8) ≡ Row.free → (b ≡ 0) × (f ≡ 0)
unfolding row_of
free_zero_lem {l} {b} {f} r = by r.flags r.free
  where
    not_free : {q : Row} {A : Type 0} → model.valid q ≡ true → q ≡ Row.free → A
    not_free v e = clash v (ap model.valid e)

    by : {g : ℕ} → Flags g → (valid g ≡ false → b ≡ 0) → row_of b (g % 8) ≡ Row.free → (b ≡ 0) × (g ≡ 0)
    by f0 z e = (z refl, refl)
    by f1 z e = not_free {q = Row.clean b} refl e
    by f3 z e = not_free {q = Row.dirty b} refl e
    by f5 z e = not_free {q = Row.fetching b} refl e
    by f7 z e = not_free {q = Row.writing b} refl e
    by f9 z e = not_free {q = Row.clean b} refl e
    by f11 z e = not_free {q = Row.dirty b} refl e
    by f13 z e = not_free {q = Row.fetching b} refl e
    by f15 z e = not_free {q = Row.writing b} refl e

-- a reachable box whose window keeps its rule, and agrees with rows and phase, is legal
module _ (l : Label) (k : Core) (S : Shape l k) (W : Window l.slots (nums k.window))
    (a : agree_test (phase_for k.recovering) k.table k.window ≡ true) where
  steps_pass : (r : Bool) → steps_test l (phase_for r) ≡ true
  steps_pass true = refl
  steps_pass false = refl

  window_is : window_in (box_of_core l k).state ≡ k.window
  window_is = window_in_lem l k.hand k.newest (phase_for k.recovering) k.unconfirmed k.window k.callers

  core_legal : Legal (box_of_core l k)
  core_legal = record {
    limits = S.images.limits;
    hand-low = S.hand_ok;
    steps = steps_pass k.recovering;
    count_is = sym (ap length window_is);
    array_is = sym (ap array_of window_is);
    named = S.callers.rule;
    window-rule = rw window_is W;
    ssd-size = S.images.ssd-size;
    hdd-size = S.images.hdd-size;
    table-size = S.table-size;
    rows = S.rows;
    agree = rw window_is a;
  }

-- a ready box with a sound table and window
module _ (l : Label) (k : Core) (S : Shape l k) (T : Sound l k.table k.window) (on : k.recovering ≡ false) where
  agree-ready : agree_test (phase_for k.recovering) k.table k.window ≡ true
  agree-ready = rw on ((agree_same Ready k.table k.window).1 (sound_agree T))

  -- so no service is refused by what is asked first
  ready-first : (c : Call) {a : Aim} → kind c ≡ a_service a → lent_test a.purpose (length k.table) ≡ true
      → NoneHold (asked_first (kind c)) (λ r. test r c (box_of_core l k))
  ready-first c q m = legal-first (box_of_core l k) (core_legal l k S T.rule agree-ready) (ap phase_for on) c q m

  pub view_judged : (b : Block) → b.0 < l.blocks → judged (view b) (box_of_core l k) ≡ None
  view_judged b h = accepted (view b) (box_of_core l k) (ready-first (view b) refl refl) (unfold test in (lt-leb _ _ h, tt))

  pub look_judged : (b : Block) → b.0 < l.blocks → judged (look_up b) (box_of_core l k) ≡ None
  look_judged b h = accepted (look_up b) (box_of_core l k) (ready-first (look_up b) refl refl) (unfold test in (lt-leb _ _ h, tt))

-- and its stamps
module _ (l : Label) (k : Core) (S : Shape l k) (p : Plain) (R : model.Ready (abs l k) p) where
  -- a flush has a stamp left
  flush_left : k.unconfirmed ≡ true → k.newest < largest_stamp l
  unfolding abs
  flush_left u = omega (arith, R.budget, rw u at R.short)

  pub flush_judged : judged flush (box_of_core l k) ≡ None
  unfolding test plan
  flush_judged = accepted flush (box_of_core l k)
      (ready-first l k S (ready_sound l k S p R) (unfold abs in R.phase) flush refl refl) (go (told k.unconfirmed), tt)
    where
      go : Told k.unconfirmed → (stores_meta (flushing k.unconfirmed) && leb (largest_stamp l) k.newest) ≡ false
      go (told_true u) = rw (u, lt-leb _ _ (flush_left u))
      go (told_false u) = rw u

-- a mending box
module _ (l : Label) (k : Core) (S : Shape l k) (p : Plain) (M : Mending (abs l k) p) (on : k.recovering ≡ true) where
  pub pending_rule : Window l.slots (nums k.window)
  unfolding abs
  pending_rule = rw M.window M.images.stored_window-rule

  row_is : (s : ℕ) → row_at k.table s ≡ revived (has (nums k.window) s) ((abs l k).entry s)
  unfolding abs
  row_is s = M.rows s ∙ ap (λ (w : List ℕ). revived (has w s) ((abs l k).entry s)) (sym M.window)

  pub some_pending : is_empty k.window ≡ false
  unfolding abs
  some_pending = sym (empty_nums k.window) ∙ not-true (model.empty (nums k.window)) (sym M.phase ∙ on)

  pending_low : (s : ℕ) → listed (record { 0 = s }) k.window ≡ true → s < l.slots
  unfolding abs
  pending_low s h = M.images.in_range_is s (open_valid ((abs l k).entry s)
      (M.images.stored_open s (ap (λ (w : List ℕ). has w s) (sym M.window) ∙ has_nums k.window s ∙ h)))

  pending_free : (s : Slot) → listed s k.window ≡ true
      → row_of (get_or k.table (2 * s.0) 0) (get_or k.table (2 * s.0 + 1) 0 % 8) ≡ Row.free
  unfolding row_at
  pending_free s h = row_is s.0 ∙ ap (λ (b : Bool). revived b ((abs l k).entry s.0)) (has_nums k.window s.0 ∙ h)

  pending_zero : (s : Slot) → listed s k.window ≡ true → (eqb (row_block k.table s).0 0 && eqb (row_flags k.table s) 0) ≡ true
  pending_zero s h =
      let z = free_zero_lem (S.rows s.0 (pending_low s.0 h)) (pending_free s h) in
      rw (z.0, z.1)

  pub shut_row : (s : ℕ) → open_row (row_at k.table s) ≡ false
  shut_row s = ap open_row (row_is s) ∙ go (has (nums k.window) s)
    where
      go : (h : Bool) → open_row (revived h ((abs l k).entry s)) ≡ false
      go true = refl
      go false = shut_open ((abs l k).entry s)

  agree_mending : agree_test (phase_for k.recovering) k.table k.window ≡ true
  agree_mending =
      rw (
        on,
        some_pending,
        (listed_same (λ s. eqb (row_block k.table s).0 0 && eqb (row_flags k.table s) 0) k.window).1 pending_zero,
      )
      (each_of (λ s block flags. not (writing flags)) 0 k.table
      (λ s h. rw (sym (at_open l k.table S.rows s (omega (arith, S.table-size))) ∙ shut_row s)))

  pub mending_left : k.newest < largest_stamp l
  unfolding abs
  mending_left = omega (
    arith,
    M.images.budget,
    M.stamps,
    ap length M.window,
    some_length k.window some_pending,
    length_nums k.window,
  )

  pub step_judged : judged step (box_of_core l k) ≡ None
  unfolding test plan
  step_judged =
      let L = core_legal l k S pending_rule agree_mending in
      let x = box_of_core l k in
      accepted step x (rw (legal_record x L), (rw (legal_lengths x L), (rw (legal_rows_is x L), (rw on, tt))))
      (rw (on, lt-leb _ _ mending_left), tt)
