-- A reopening, and the steps of mending, keep the invariant.
use Prim.Native.Nat.{ℕ, ◌<◌}
use mathlib.Core.Path.{◌≡◌, refl, sym, ap, subst, ◌∙◌}
use mathlib.Core.Bool.{Bool, true, false, not, or-true}
use mathlib.Core.List.{List, [], ◌∷◌, Memᴰ}
use Rattle.std.specs.Prelude.{Option}
use native.Mathlib.Omega.{arith}
use lib.ListN.{length}
use lib.Dec.{eqb, ltb}
use Rattle.layout.specs.declared.Slot.{Slot}
use Rattle.layout.proofs.PlaceLaws.{meta_of-low}
use Rattle.layout.specs.declared.Label.{Label}
use Rattle.layout.specs.Places.{meta_pages, table_length, meta_of}
use Rattle.layout.specs.PageRule.{listed}
use Rattle.protocol.specs.Box.{Box, left, box_after}
use Rattle.protocol.specs.Recovery.{spent_stamp, off_page}
use Rattle.protocol.specs.Plan.{step, reopen, Move, mends, recovers, lowest_from, lowest_page, plan}
use Rattle.protocol.specs.Perform.{confirmed, perform}
use Rattle.protocol.specs.declared.Refusal.{Refusal}
use Rattle.protocol.specs.Judge.{is_empty, is_ready}
use Rattle.protocol.specs.Calls.{decided}
use Rattle.protocol.specs.ReferenceDisk.{Disk, durable, fed}
use Rattle.protocol.specs.Events.{World, reads_if, read_of, called}
use Rattle.layout.proofs.Booleans.{clash}
use Rattle.laws.proofs.model.Base.{has, meta_no, eqb_same, length_keep_lt}
use Rattle.laws.proofs.model.Model as model
use Rattle.laws.proofs.model.Model.{Model, Plain, Stored, Mending, mended}
use Rattle.laws.proofs.model.Rows.{open_valid}
use Rattle.theorem.proofs.model.View as seen
use Rattle.theorem.proofs.model.Reopened.{ready-stored, fixed}
use Rattle.theorem.proofs.model.Mended.{reopened_mending, mended_mending}
use Rattle.theorem.proofs.model.Finished.{over_ready, over_allowed}
use Rattle.laws.proofs.refine.Windows.{nums, length_nums, has_nums, nums_off}
use Rattle.theorem.proofs.refine.Performed.{after, stored_core, stored_shape, mended_abs, mends-box}
use Rattle.record.proofs.RecordLaws.{window_in_lem}
use Rattle.theorem.proofs.refine.ReadyCalls.{called_as, called_as_lem, world_of}
use Rattle.theorem.proofs.refine.Reopens.{reopened_core, reopen_judged, reopen_box, reopen_shape, reopen_abs}
use Rattle.theorem.proofs.refine.Passes.{mending_left, step_judged, pending_rule, some_pending}
use Rattle.theorem.proofs.refine.Views.{ready_legible, read_view}
use Rattle.laws.proofs.refine.Callers.{mended_kept}
use Rattle.laws.proofs.refine.Abstract.{Core, phase_for, box_of_core, abs, ImagesKept, Shape, Agrees, Phased, is_ready_is, is_mending, Inv}

-- the images of either phase
pub phased_stored : (x : Model) (p : Plain) → Phased x p → Stored x p
phased_stored x p (is_ready_is R) = ready-stored x p R
phased_stored x p (is_mending on M) = M.images

-- the reference disk after a call that may finish a reopening
abbrev pub finished_disk : Disk → Box → Disk
finished_disk d x = fed step false (reads_if (is_ready x.state.phase) x) d

abbrev pub finished_world : Box → Disk → World
finished_world x d = record { box = x; disk = finished_disk d x }

module _ (l : Label) (k : Core) (S : Shape l k) (p : Plain) (d : Disk) (A : Agrees l d p) (M : Mending (abs l k) p) where
  -- a box that is still to be mended, or finished
  pub finish_inv : Inv l (record { box = box_of_core l k; disk = finished_disk d (box_of_core l k) })
  finish_inv = go k.recovering refl
    where
      still : k.recovering ≡ true → Agrees l (finished_disk d (box_of_core l k)) p
      still e = subst (λ (z : Bool). Agrees l (fed step false (reads_if z (box_of_core l k)) d) p)
          (sym (ap (λ (r : Bool). is_ready (phase_for r)) e)) A

      over : (e : k.recovering ≡ false) → Agrees l (finished_disk d (box_of_core l k)) (fixed (abs l k))
      over e =
          let R = over_ready (abs l k) p M (unfold abs in e) in
          subst (λ (z : Bool). Agrees l (fed step false (reads_if z (box_of_core l k)) d) (fixed (abs l k)))
          (sym (ap (λ (r : Bool). is_ready (phase_for r)) e)) (settled_agrees
          (λ b h. read_view l k S (ready_legible l k S (fixed (abs l k)) R) b h))
        where
          settled_agrees : ((b : ℕ) → b < l.blocks → read_of (box_of_core l k) (record { 0 = b }) ≡ seen.view (abs l k) b)
              → Agrees l (durable (read_of (box_of_core l k))) (fixed (abs l k))
          settled_agrees h = unfold fixed in record { page = h; contents = λ b q. ap (λ (r : List ℕ). r ∷ []) (h b q) }

      go : (r : Bool) → k.recovering ≡ r → Inv l (record { box = box_of_core l k; disk = finished_disk d (box_of_core l k) })
      go true e = record { core = k; is_core = refl; shape = S; plain = p; agrees = still e; phased = is_mending (unfold abs in e) M }
      go false e = record {
        core = k;
        is_core = refl;
        shape = S;
        plain = fixed (abs l k);
        agrees = over e;
        phased =
            is_ready_is (over_ready (abs l k) p M (unfold abs in e));
      }

  -- as it is finished, each block reads as one of its contents
  pub finish_allowed : k.recovering ≡ false → (b : ℕ) → b < l.blocks
      → Memᴰ (read_of (box_of_core l k) (record { 0 = b })) (d.contents (record { 0 = b }))
  finish_allowed e b h =
      let R = over_ready (abs l k) p M (unfold abs in e) in
      rw (read_view l k S (ready_legible l k S (fixed (abs l k)) R) b h, A.contents b h) (over_allowed (abs l k) p M (unfold abs in e) b)

-- the page of a mending step has a pending slot
pub record Pending (w : List Slot) (q : ℕ) : Type 0 where
  pub slot : Slot
  pub there : listed slot w ≡ true
  pub onto : meta_of slot ≡ q

lowest_pending : (v w : List Slot) (q : ℕ) → Pending v q → ((s : Slot) → listed s w ≡ true → listed s v ≡ true) → Pending v (lowest_from q w)
unfolding lowest_from listed
lowest_pending v [] q P h = P
lowest_pending v (s ∷ w) q P h =
    go (ltb (meta_of s) q)
    (lowest_pending v w (meta_of s) (record { slot = s; there = h s (rw (eqb_same s.0)); onto = refl })
    (λ t k. h t (rw k (or-true (eqb t.0 s.0)))))
    (lowest_pending v w q P (λ t k. h t (rw k (or-true (eqb t.0 s.0)))))
  where
    go : (b : Bool) → Pending v (lowest_from (meta_of s) w) → Pending v (lowest_from q w)
        → Pending v (elim b [ true ↦ lowest_from (meta_of s) w | false ↦ lowest_from q w ])
    go true x y = x
    go false x y = y

pub page_pending : (w : List Slot) → is_empty w ≡ false → Pending w (lowest_page w)
unfolding listed
page_pending [] e = clash {b = true} refl e
page_pending (s ∷ w) e = lowest_pending (s ∷ w) w (meta_of s) (record { slot = s; there = rw (eqb_same s.0); onto = refl })
    (λ t k. rw k (or-true (eqb t.0 s.0)))

-- so fewer are pending after it
pub fewer : (w : List Slot) → is_empty w ≡ false → length (off_page (lowest_page w) w) < length w
unfolding meta_no
fewer w e =
    let q = page_pending w e in
    let h : has (nums w) q.slot.0 ≡ true = has_nums w q.slot.0 ∙ q.there in
    let off_it : not (eqb (meta_no q.slot.0) (lowest_page w)) ≡ false = rw q.onto (rw (eqb_same (lowest_page w))) in
    omega (
      arith,
      length_nums w,
      length_nums (off_page (lowest_page w) w),
      ap length (nums_off (lowest_page w) w),
      length_keep_lt (λ t. not (eqb (meta_no t) (lowest_page w))) (nums w) q.slot.0 h off_it,
    )

-- a mending step
abbrev pub mended_core : Label → Core → Core
mended_core l k =
    let q = lowest_page k.window in
    stored_core l k k.table k.hand (off_page q k.window) k.callers q (not (is_empty (off_page q k.window)))

module _ (l : Label) (k : Core) (S : Shape l k) (p : Plain) (M : Mending (abs l k) p) (on : k.recovering ≡ true) where
  pend : Pending k.window (lowest_page k.window)
  pend = page_pending k.window (some_pending l k S p M on)

  pend_has : has (nums k.window) pend.slot.0 ≡ true
  pend_has = has_nums k.window pend.slot.0 ∙ pend.there

  slot-low : pend.slot.0 < l.slots
  unfolding abs
  slot-low = M.images.in_range_is pend.slot.0
      (open_valid ((abs l k).entry pend.slot.0)
      (M.images.stored_open pend.slot.0 (ap (λ (w : List ℕ). has w pend.slot.0) (sym M.window) ∙ pend_has)))

  on_page_is : lowest_page k.window < meta_pages l
  on_page_is = rw (← pend.onto) (meta_of-low l pend.slot slot-low)

  newest_is : spent_stamp l k.ssd ≡ k.newest
  newest_is = unfold abs in M.stamps

  pub mended_here : Mending (mended (lowest_page k.window) (abs l k)) p
  mended_here = mended_mending (abs l k) p M (lowest_page k.window) pend.slot.0 (unfold abs in pend_has)
      (unfold meta_no in pend.onto)

  rest-rule : Rattle.laws.proofs.model.Base.Window l.slots (nums (off_page (lowest_page k.window) k.window))
  rest-rule = rw (nums_off (lowest_page k.window) k.window)
      (Rattle.laws.proofs.model.Base.keep_window _ l.slots (nums k.window) (pending_rule l k S p M on))

  pub mended_core_shape : Shape l (mended_core l k)
  mended_core_shape =
      stored_shape l k S newest_is (mending_left l k S p M on) k.table S.table-size S.rows k.hand S.hand_ok _ rest-rule
      k.callers (lowest_page k.window) on_page_is _ (mended_kept (rw on at S.callers) _ _)

  pub mended_core_abs : abs l (mended_core l k) ≡ mended (lowest_page k.window) (abs l k)
  mended_core_abs =
      mended_abs l k S newest_is (mending_left l k S p M on) k.table S.table-size S.rows k.hand S.hand_ok _ rest-rule
      k.callers (lowest_page k.window) on_page_is _ refl refl refl

  pub step_plan : plan step (box_of_core l k) ≡ mends (lowest_page k.window)
  unfolding plan
  step_plan = rw (on, window_in_lem l k.hand k.newest (phase_for true) k.unconfirmed k.window k.callers)

  mends_as : (d : Disk) (q : ℕ) → called_as step (perform (mends q) (box_of_core l k)) (world_of l k d) ≡ finished_world (after l k (mends q)) d
  unfolding called_as perform confirmed
  mends_as d q = refl

  -- the world that a step leaves
  pub step_world : (d : Disk) → called step (world_of l k d) ≡ finished_world (box_of_core l (mended_core l k)) d
  step_world d =
      called_as_lem step (world_of l k d)
      ∙ ap (λ (o : Option Refusal). called_as step (decided o step (box_of_core l k)) (world_of l k d)) (step_judged l k S p M on)
      ∙ ap (λ (v : Move). called_as step (perform v (box_of_core l k)) (world_of l k d)) step_plan
      ∙ mends_as d (lowest_page k.window)
      ∙ ap (λ (x : Box). finished_world x d) (mends-box l k (lowest_page k.window))

  pub step_inv : (d : Disk) → Agrees l d p → Inv l (called step (world_of l k d))
  step_inv d A = rw (step_world d) (finish_inv l (mended_core l k) mended_core_shape p d A (rw mended_core_abs mended_here))

-- a reopening of the images of k, whatever table of the right length and record it is handed
module _ (l : Label) (k : Core) (p : Plain) (K : ImagesKept l k.ssd k.hdd) (St : Stored (abs l k) p) (x : Box)
    (im : x.images ≡ record { ssd = k.ssd; hdd = k.hdd }) (h : length x.table ≡ table_length l) where
  pub reopened_here : Mending (abs l (reopened_core l k)) p
  reopened_here = rw (reopen_abs l k p K St) (reopened_mending (abs l k) p St)

  fed-alike : (z : Bool) (y : Box) (d : Disk) → fed reopen false (reads_if z y) d ≡ fed step false (reads_if z y) d
  fed-alike true y d = refl
  fed-alike false y d = refl

  recovers_as : (d : Disk) → called_as reopen (perform recovers x) (record { box = x; disk = d }) ≡ finished_world
      (box_after (left (perform recovers x) x.images)) d
  unfolding called_as perform
  recovers_as d = ap (λ (e : Disk). record { box = box_after (left (perform recovers x) x.images); disk = e })
      (fed-alike (is_ready (perform recovers x).state.phase) (box_after (left (perform recovers x) x.images)) d)

  pub reopen_world : (d : Disk) → called reopen (record { box = x; disk = d }) ≡ finished_world (box_of_core l (reopened_core l k)) d
  unfolding plan
  reopen_world d =
      called_as_lem reopen (record { box = x; disk = d })
      ∙ ap (λ (o : Option Refusal). called_as reopen (decided o reopen x) (record { box = x; disk = d })) (reopen_judged l k p K St x im h)
      ∙ recovers_as d
      ∙ ap (λ (y : Box). finished_world y d) (reopen_box l k p K St x im)

  pub reopen_inv : (d : Disk) → Agrees l d p → Inv l (called reopen (record { box = x; disk = d }))
  reopen_inv d A = rw (reopen_world d) (finish_inv l (reopened_core l k) (reopen_shape l k p K St) p d A reopened_here)
