-- What holds of every reachable world: reads, look-ups, flushes and mending; and of every held one: its reopening.
use Prim.Native.Nat.{ℕ, zero, suc, ◌≤◌, ◌<◌}
use mathlib.Core.Path.{◌≡◌, refl, sym, ap, subst, ◌∙◌}
use mathlib.Core.Bool.{Bool, true, false, not, ◌&&◌}
use mathlib.Core.List.{[]}
use Rattle.std.specs.Prelude.{Option, Some, None}
use native.Mathlib.Omega.{arith}
use lib.ListN.{length}
use borrow.Author.Tests.{not-true}
use Rattle.pages.specs.Pages.{page_at}
use Rattle.layout.specs.declared.Slot.{Slot}
use Rattle.layout.specs.declared.Block.{Block}
use Rattle.layout.specs.declared.Label.{Label}
use Rattle.layout.specs.Places.{data_place, table_length}
use Rattle.protocol.specs.Reply.{refused}
use Rattle.protocol.specs.Box.{Box, box_after}
use Rattle.protocol.specs.Plan.{Call, format, step, flush, reopen, look_up, flushing, plan}
use Rattle.protocol.specs.Kinds.{kind}
use Rattle.protocol.specs.Perform.{confirmed, perform}
use Rattle.protocol.specs.declared.Refusal.{Refusal}
use Rattle.protocol.specs.declared.Refusal.TheVariants.{WrongPhase}
use Rattle.protocol.specs.Judge.{is_ready, judged, test}
use Rattle.protocol.specs.Calls.{decided, effect_of, result_of, view_of}
use Rattle.protocol.specs.ReferenceDisk.{MayBe}
use Rattle.protocol.specs.Events.{World, Memory, Event, call, reopens, cut, called, lent, read_of, may_finish, finished, with_memory, reopened, crashed, steps, apply, Fits}
use Rattle.protocol.specs.Demand3.{Reopening, own, whole, broken, slot_said, before, reopened_box, finishes, Mends}
use Rattle.layout.proofs.Booleans.{clash, and_parts}
use Rattle.laws.proofs.model.Model as model
use Rattle.laws.proofs.model.Model.{Plain, Mending}
use Rattle.theorem.proofs.model.View as seen
use Rattle.laws.proofs.refine.Windows.{length_nums}
use Rattle.laws.proofs.Judged.{passed}
use Rattle.laws.proofs.Sorted.{Sorted, is_format, is_reopen, is_step, is_service, sorted}
use Rattle.theorem.proofs.refine.ReadyCalls.{world_of}
use Rattle.theorem.proofs.refine.Passes.{flush_judged, step_judged, some_pending, pending_rule}
use Rattle.theorem.proofs.refine.Views.{ready_legible, view_number, read_view, look_page}
use Rattle.theorem.proofs.refine.Reopens.{reopened_core, reopen_shape}
use Rattle.theorem.proofs.refine.MendingCalls.{finished_world, finish_allowed, fewer, mended_core, mended_here, mended_core_shape, mended_core_abs, step_plan, step_world, reopened_here, reopen_world}
use Rattle.theorem.proofs.Reachable.{at_core, inv_held, held_images, held_right, held_taken, held_size, reopened-taken, crashed_held}
use Rattle.laws.proofs.refine.Abstract.{Core, phase_for, box_of_core, abs, Shape, Phased, is_ready_is, is_mending, Held, Inv}

pub ready_off : (r : Bool) → is_ready (phase_for r) ≡ true → r ≡ false
ready_off true e = sym e
ready_off false e = refl

pub unready_on : (r : Bool) → is_ready (phase_for r) ≡ false → r ≡ true
unready_on true e = refl
unready_on false e = sym e

-- a reachable world that is ready, or is not
pub ready_of : (l : Label) (k : Core) (p : Plain) → Phased (abs l k) p → is_ready (phase_for k.recovering) ≡ true → model.Ready (abs l k) p
unfolding abs
ready_of l k p (is_ready_is R) e = R
ready_of l k p (is_mending on M) e = clash on (ready_off k.recovering e)

pub mending_of : (l : Label) (k : Core) (p : Plain) → Phased (abs l k) p → is_ready (phase_for k.recovering) ≡ false → Mending (abs l k) p
unfolding abs
mending_of l k p (is_ready_is R) e = clash (unready_on k.recovering e) R.phase
mending_of l k p (is_mending on M) e = M

module _ (l : Label) (w : World) (I : Inv l w) where
  -- reads
  pub views_of : is_ready w.box.state.phase ≡ true → (b : Block) → b.0 < l.blocks
      → (view_of (lent w.box.images.ssd) (lent w.box.images.hdd) w.box.table w.box.state b).number ≡ 0
  views_of r b h =
      at_core (λ v. is_ready v.box.state.phase ≡ true
      → (view_of (lent v.box.images.ssd) (lent v.box.images.hdd) v.box.table v.box.state b).number ≡ 0) I
      (λ q. let R = ready_of l I.core I.plain I.phased q in
      view_number l I.core I.shape (ready_legible l I.core I.shape I.plain R) b.0 h) r

  pub reads_of : is_ready w.box.state.phase ≡ true → (b : Block) → b.0 < l.blocks → read_of w.box b ≡ w.disk.page b
  reads_of r b h =
      at_core (λ v. is_ready v.box.state.phase ≡ true → read_of v.box b ≡ w.disk.page b) I
      (λ q. let R = ready_of l I.core I.plain I.phased q in
      read_view l I.core I.shape (ready_legible l I.core I.shape I.plain R) b.0 h
      ∙ seen.view_page (abs l I.core) I.plain R b.0
      ∙ sym (I.agrees.page b.0 h)) r

  pub looks_of : is_ready w.box.state.phase ≡ true → (b : Block) → b.0 < l.blocks → (s : Slot)
      → slot_said (result_of (look_up b) w.box).said ≡ Some s → page_at w.box.images.ssd (data_place l s) ≡ w.disk.page b
  looks_of r b h s =
      at_core (λ v. is_ready v.box.state.phase ≡ true → slot_said (result_of (look_up b) v.box).said ≡ Some s
      → page_at v.box.images.ssd (data_place l s) ≡ w.disk.page b) I
      (λ q e. let R = ready_of l I.core I.plain I.phased q in
      sym (look_page l I.core I.shape (ready_legible l I.core I.shape I.plain R) b.0 h s e)
      ∙ seen.view_page (abs l I.core) I.plain R b.0
      ∙ sym (I.agrees.page b.0 h)) r

  -- flushes
  flush_said : model.Ready (abs l I.core) I.plain → refused (result_of flush (box_of_core l I.core)).said ≡ false
  unfolding effect_of plan perform confirmed
  flush_said R = ap (λ (o : Option Refusal). refused (decided o flush (box_of_core l I.core)).said)
      (flush_judged l I.core I.shape I.plain R) ∙ go I.core.unconfirmed
    where
      go : (u : Bool) → refused (perform (flushing u) (box_of_core l I.core)).said ≡ false
      go true = refl
      go false = refl

  pub flushes_of : is_ready w.box.state.phase ≡ true → refused (result_of flush w.box).said ≡ false
  flushes_of r = at_core (λ v. is_ready v.box.state.phase ≡ true → refused (result_of flush v.box).said ≡ false) I
      (λ q. flush_said (ready_of l I.core I.plain I.phased q)) r

-- mending: the steps that are left
module _ (l : Label) (k : Core) (S : Shape l k) (p : Plain) (M : Mending (abs l k) p) (on : k.recovering ≡ true) where
  step_said : refused (result_of step (box_of_core l k)).said ≡ false
  unfolding effect_of perform confirmed
  step_said =
      ap (λ (o : Option Refusal). refused (decided o step (box_of_core l k)).said) (step_judged l k S p M on)
      ∙ ap (λ v. refused (perform v (box_of_core l k)).said) (step_plan l k S p M on)

  step_box : box_after (result_of step (box_of_core l k)) ≡ box_of_core l (mended_core l k)
  unfolding called
  step_box = ap (λ (v : World). v.box) (step_world l k S p M on (record { page = λ b. []; contents = λ b. [] }))

  -- a step leaves fewer pending slots
  step_fewer : length (mended_core l k).window < length k.window
  step_fewer = fewer k.window (some_pending l k S p M on)

-- at most as many steps as slots are pending
record Ends (n : ℕ) (x : Box) : Type 0 where
  number : ℕ
  most : number ≤ n
  none_refused : (k : ℕ) → k < number → refused (result_of step (steps k x)).said ≡ false
  ends : is_ready (steps number x).state.phase ≡ true

-- one step more
ends_more : (n : ℕ) (x y : Box) → refused (result_of step x).said ≡ false → box_after (result_of step x) ≡ y → Ends n y → Ends (suc n) x
unfolding steps
ends_more n x y f e E = record {
  number = suc E.number;
  most = omega (arith, E.most);
  none_refused = each;
  ends = subst (λ (z : Box). is_ready (steps E.number z).state.phase ≡ true) (sym e) E.ends;
}
  where
    each : (k : ℕ) → k < suc E.number → refused (result_of step (steps k x)).said ≡ false
    each zero h = f
    each (suc k) h = subst (λ (z : Box). refused (result_of step (steps k z)).said ≡ false) (sym e) (E.none_refused k (omega arith))

ends_in : (l : Label) (n : ℕ) (k : Core) → Shape l k → (p : Plain) → Mending (abs l k) p → length k.window ≤ n → Ends n (box_of_core l k)
unfolding steps
ends_in l zero k S p M h = go k.recovering refl
  where
    go : (r : Bool) → k.recovering ≡ r → Ends 0 (box_of_core l k)
    go false e = record { number = 0; most = omega arith; none_refused = λ j q. absurd (omega arith); ends = rw e }
    go true e = let q = step_fewer l k S p M e in absurd (omega arith)
ends_in l (suc n) k S p M h = go k.recovering refl (λ S' M' h'. ends_in l n (mended_core l k) S' p M' h')
  where
    go : (r : Bool) → k.recovering ≡ r → (Shape l (mended_core l k) → Mending (abs l (mended_core l k)) p → length (mended_core l k).window ≤ n
        → Ends n (box_of_core l (mended_core l k))) → Ends (suc n) (box_of_core l k)
    go false e ih = record { number = 0; most = omega arith; none_refused = λ j q. absurd (omega arith); ends = rw e }
    go true e ih =
        ends_more n (box_of_core l k) (box_of_core l (mended_core l k)) (step_said l k S p M e) (step_box l k S p M e)
        (ih (mended_core_shape l k S p M e) (rw (mended_core_abs l k S p M e) (mended_here l k S p M e))
        (omega (arith, step_fewer l k S p M e)))

pub mends_of : (l : Label) (w : World) → Inv l w → is_ready w.box.state.phase ≡ false → Mends w.box
mends_of l w I r = at_core (λ v. is_ready v.box.state.phase ≡ false → Mends v.box) I go r
  where
    go : is_ready (phase_for I.core.recovering) ≡ false → Mends (box_of_core l I.core)
    go q =
        let M = mending_of l I.core I.plain I.phased q in
        let E = ends_in l 63 I.core I.shape I.plain M
        (omega (
          arith,
          length_nums I.core.window,
          (pending_rule l I.core I.shape I.plain M (unready_on I.core.recovering q)).fits,
        )) in
        record { number = E.number; most = E.most; none_refused = E.none_refused; ends = E.ends }

-- no reopening is refused
unfoldable pub before_held : (l : Label) (e : Event) (w : World) → Fits e w → Inv l w → Held l (before e w)
before_held l (call c) w f I = inv_held I
before_held l (reopens j) w f I = inv_held I
before_held l (cut c a j) w f I = crashed_held l c a w f.0 I

pub own-size : (l : Label) (w : World) (I : Inv l w) → length w.box.table ≡ table_length l
own-size l w I = ap (λ (x : Box). length x.table) I.is_core ∙ I.shape.table-size

pub taken_of : (l : Label) (w : World) → Inv l w → (e : Event) → Fits e w → Reopening w e
    → refused (result_of reopen (reopened_box e w)).said ≡ false
taken_of l w I e f own = held_taken l w (inv_held I) w.box refl (own-size l w I)
taken_of l w I e f (whole j h) = held_taken l w (inv_held I) (with_memory j w.box) refl (held_size (inv_held I) j.table h)
taken_of l w I e f (broken c a j h) =
    let H = crashed_held l c a w f.0 I in
    held_taken l (crashed c a w) H (with_memory j (crashed c a w).box) refl (held_size H j.table h)

-- a finished reopening: each block reads as one of its contents
called-box : (c : Call) (w : World) → (called c w).box ≡ box_after (result_of c w.box)
unfolding called
called-box c w = refl

module _ (l : Label) (v : World) (H : Held l v) (x : Box) (im : x.images ≡ v.box.images) where
  after_reopen : length x.table ≡ table_length l
      → called reopen (record { box = x; disk = v.disk }) ≡ finished_world (box_of_core l (reopened_core l H.core)) v.disk
  after_reopen h = reopen_world l H.core H.plain H.shape.images H.stored x (held_images l v H x im) h v.disk

  pub reopen_allowed : finished reopen (result_of reopen x) ≡ true → (b : Block) → b.0 < l.blocks
      → MayBe v.disk b (read_of (called reopen (record { box = x; disk = v.disk })).box b)
  reopen_allowed f b h =
      let r = refused (result_of reopen x).said in
      let q = is_ready (result_of reopen x).state.phase in
      let size = held_right l v H x im (not-true r (and_parts (not r) (true && q) f).0) in
      let e = after_reopen size in
      let ph : q ≡ is_ready (phase_for (reopened_core l H.core).recovering) =
      ap (λ (y : Box). is_ready y.state.phase) (sym (called-box reopen (record { box = x; disk = v.disk })))
      ∙ ap (λ (z : World). is_ready z.box.state.phase) e in
      let done : (reopened_core l H.core).recovering ≡ false =
      ready_off (reopened_core l H.core).recovering (sym ph ∙ (and_parts (not r) (true && q) f).1) in
      rw e
      (finish_allowed l (reopened_core l H.core) (reopen_shape l H.core H.plain H.shape.images H.stored) H.plain
      v.disk H.agrees
      (reopened_here l H.core H.plain H.shape.images H.stored x (held_images l v H x im) size) done b.0 h)

-- a ready box makes no step
wrong : (l : Label) (k : Core) → judged step (box_of_core l k) ≡ None → not (not (is_ready (phase_for k.recovering))) ≡ false
unfolding test
wrong l k q = passed step (box_of_core l k) q WrongPhase refl

step_refused : (l : Label) (k : Core) → k.recovering ≡ false → refused (result_of step (box_of_core l k)).said ≡ true
unfolding effect_of
step_refused l k e = go (judged step (box_of_core l k)) refl
  where
    go : (o : Option Refusal) → judged step (box_of_core l k) ≡ o
        → refused (decided (judged step (box_of_core l k)) step (box_of_core l k)).said ≡ true
    go (Some r) q = ap (λ (o : Option Refusal). refused (decided o step (box_of_core l k)).said) q
    go None q = clash {b = true} refl (rw e at (wrong l k q))

no_step : {A : Type 0} (l : Label) (k : Core) → k.recovering ≡ false → finished step (result_of step (box_of_core l k)) ≡ true → A
no_step l k e f =
    let r = refused (result_of step (box_of_core l k)).said in
    let q = is_ready (result_of step (box_of_core l k)).state.phase in
    clash (step_refused l k e) (not-true r (and_parts (not r) (true && q) f).0)

-- a step that finishes
step_allowed : (l : Label) (w : World) (I : Inv l w) → finished step (result_of step w.box) ≡ true → (b : Block) → b.0 < l.blocks
    → MayBe w.disk b (read_of (called step w).box b)
step_allowed l w I f b h = at_core (λ v. finished step (result_of step v.box) ≡ true
    → MayBe w.disk b (read_of (called step (record { box = v.box; disk = w.disk })).box b)) I go f
  where
    go : finished step (result_of step (box_of_core l I.core)) ≡ true
        → MayBe w.disk b (read_of (called step (world_of l I.core w.disk)).box b)
    go g = by I.phased
      where
        by : Phased (abs l I.core) I.plain → MayBe w.disk b (read_of (called step (world_of l I.core w.disk)).box b)
        by (is_ready_is R) = no_step l I.core (unfold abs in R.phase) g
        by (is_mending on M) =
            let r : I.core.recovering ≡ true = unfold abs in on in
            let e = step_world l I.core I.shape I.plain M r w.disk in
            let f = refused (result_of step (box_of_core l I.core)).said in
            let q = is_ready (result_of step (box_of_core l I.core)).state.phase in
            let ph : q ≡ is_ready (phase_for (mended_core l I.core).recovering) =
            ap (λ (y : Box). is_ready y.state.phase) (sym (called-box step (world_of l I.core w.disk)))
            ∙ ap (λ (z : World). is_ready z.box.state.phase) e in
            let done : (mended_core l I.core).recovering ≡ false =
            ready_off (mended_core l I.core).recovering (sym ph ∙ (and_parts (not f) (true && q) g).1) in
            rw e
            (finish_allowed l (mended_core l I.core) (mended_core_shape l I.core I.shape I.plain M r) I.plain w.disk
            I.agrees
            (rw (mended_core_abs l I.core I.shape I.plain M r) (mended_here l I.core I.shape I.plain M r)) done b.0 h)

memory_allowed : (l : Label) (j : Memory) (v : World) → Held l v → finished reopen (result_of reopen (with_memory j v.box)) ≡ true
    → (b : Block)
    → b.0 < l.blocks → MayBe v.disk b (read_of (reopened j v).box b)
memory_allowed l j v H f b h =
    let r = refused (result_of reopen (with_memory j v.box)).said in
    let q = is_ready (result_of reopen (with_memory j v.box)).state.phase in
    rw (reopened-taken j v (not-true r (and_parts (not r) (true && q) f).0)) (reopen_allowed l v H (with_memory j v.box) refl f b h)

-- a call that is neither a step nor a reopening finishes none
no_finish : {A : Type 0} (c : Call) (w : World) → may_finish (kind c) ≡ false → finished c (result_of c w.box) ≡ true → A
no_finish c w m f =
    let r = not (refused (result_of c w.box).said) in
    let q = is_ready (result_of c w.box).state.phase in
    clash (and_parts (may_finish (kind c)) q (and_parts r (may_finish (kind c) && q) f).1).0 m

call-allowed : (l : Label) (w : World) → Inv l w → {c : Call} → Sorted c → finished c (result_of c w.box) ≡ true → (b : Block)
    → b.0 < l.blocks → MayBe w.disk b (read_of (called c w).box b)
call-allowed l w I (is_format slots blocks) g b h = no_finish (format slots blocks) w refl g
call-allowed l w I is_step g b h = step_allowed l w I g b h
call-allowed l w I is_reopen g b h = reopen_allowed l w (inv_held I) w.box refl g b h
call-allowed l w I (is_service {c} q _) g b h = no_finish c w (ap may_finish q) g

pub allowed_of : (l : Label) (w : World) → Inv l w → (e : Event) → Fits e w → finishes e w ≡ true → (b : Block) → b.0 < l.blocks
    → MayBe (before e w).disk b (read_of (apply e w).box b)
allowed_of l w I (call c) f g b h = call-allowed l w I (sorted c) g b h
allowed_of l w I (reopens j) f g b h = memory_allowed l j w (inv_held I) g b h
allowed_of l w I (cut c a j) f g b h = memory_allowed l j (crashed c a w) (crashed_held l c a w f.0 I) g b h
