-- Every event keeps the invariant; what a cut leaves is held, which is all that the reopening after it asks for.
use Prim.Native.Nat.{ℕ}
use mathlib.Core.Path.{◌≡◌, refl, sym, ap, subst, ◌∙◌}
use mathlib.Core.Bool.{Bool, true, false, ◌&&◌}
use mathlib.Core.List.{List, [], ◌∷◌}
use Rattle.std.specs.Prelude.{Option, Some, None}
use lib.ListN.{length}
use lib.Dec.{eqb}
use borrow.Author.Tests.{eqb-true, not-false}
use Rattle.layout.specs.declared.Label.{Label}
use mathlib.Core.Logic.{◌⊎◌, inl, inr}
use Rattle.layout.specs.Places.{ssd_length, hdd_length, table_length}
use Rattle.protocol.specs.Recovery.{label_at}
use Rattle.protocol.specs.Reply.{refused}
use Rattle.protocol.specs.Box.{Images, Box, Store, applied}
use Rattle.protocol.specs.Plan.{Call, format, step, reopen, plan}
use Rattle.protocol.specs.Perform.{perform}
use Rattle.protocol.specs.declared.Refusal.{Refusal}
use Rattle.protocol.specs.declared.Refusal.TheVariants.{WrongLength, WrongPhase}
use Rattle.protocol.specs.Judge.{test, lengths_test, length_test, judged}
use Rattle.protocol.specs.Calls.{decided, effect_of, result_of}
use Rattle.protocol.specs.ReferenceDisk.{Disk}
use Rattle.protocol.specs.Events.{World, Memory, Arrival, old, new, Event, call, reopens, cut, called, with_memory, taken_if, reopened, survived, made, crashed, apply, run, CallFits, RightLength, Fits, AllFit}
use Rattle.layout.proofs.Booleans.{clash, and_parts}
use Rattle.protocol.specs.Beside.{CutLeaves}
use Rattle.laws.proofs.model.Model as model
use Rattle.laws.proofs.model.Model.{Plain, Stored, Mending}
use Rattle.laws.proofs.Judged.{passed, passed_first}
use Rattle.laws.proofs.Sorted.{Sorted, is_format, is_reopen, is_step, is_service, sorted}
use Rattle.theorem.proofs.refine.ReadyCalls.{called_as, called_as_lem, refused-same, world_of, service_next}
use Rattle.theorem.proofs.refine.Reopens.{label_is, reopen_judged}
use Rattle.theorem.proofs.refine.MendingCalls.{phased_stored, step_inv, reopen_inv}
use Rattle.laws.proofs.refine.Abstract.{Core, box_of_core, abs, ImagesKept, Shape, Agrees, Phased, is_ready_is, is_mending, phased_tied, Held, Inv}

-- a call that no reason refuses answers what its plan says
pub said_of : (c : Call) (x : Box) → judged c x ≡ None → refused (result_of c x).said ≡ refused (perform (plan c x) x).said
unfolding effect_of
said_of c x e = ap (λ (o : Option Refusal). refused (decided o c x).said) e

-- a format that is not refused does not fit a list
no_format : {A : Type 0} (slots blocks : ℕ) (w : World) → CallFits (format slots blocks) w → judged (format slots blocks) w.box ≡ None
    → A
unfolding plan perform
no_format slots blocks w f e = clash f (said_of (format slots blocks) w.box e)

-- a mending box makes steps and reopenings alone
pub data Mendable : Call → Type 0 where
  steps : Mendable step
  reopens_it : Mendable reopen

pub mendable : (l : Label) (k : Core) (d : Disk) → k.recovering ≡ true → (c : Call) → CallFits c (world_of l k d)
    → judged c (box_of_core l k) ≡ None → Mendable c
mendable l k d on c = go (sorted c)
  where
    go : {c : Call} → Sorted c → CallFits c (world_of l k d) → judged c (box_of_core l k) ≡ None → Mendable c
    go (is_format slots blocks) f e = no_format slots blocks (world_of l k d) f e
    go is_step f e = steps
    go is_reopen f e = reopens_it
    go (is_service {c} q _) f e =
        clash {b = true} refl (unfold test in (rw (q, on) at (passed_first c (box_of_core l k) e q WrongPhase refl)))

-- a call that is not refused
module _ (l : Label) (k : Core) (S : Shape l k) (d : Disk) (p : Plain) (A : Agrees l d p) where
  made_as : (c : Call) → judged c (box_of_core l k) ≡ None
      → called c (world_of l k d) ≡ called_as c (perform (plan c (box_of_core l k)) (box_of_core l k)) (world_of l k d)
  made_as c e = called_as_lem c (world_of l k d) ∙ ap (λ (o : Option Refusal). called_as c (decided o c (box_of_core l k)) (world_of l k d)) e

  reopen_call : Stored (abs l k) p → Inv l (called reopen (world_of l k d))
  reopen_call St = reopen_inv l k p S.images St (box_of_core l k) refl S.table-size d A

  -- a ready box
  module _ (R : model.Ready (abs l k) p) where
    on : k.recovering ≡ false
    on = unfold abs in R.phase

    ready_call : {c : Call} → Sorted c → CallFits c (world_of l k d) → judged c (box_of_core l k) ≡ None → Inv l (called c (world_of l k d))
    ready_call (is_format slots blocks) f e = no_format slots blocks (world_of l k d) f e
    ready_call is_step f e = clash {b = true} refl (unfold test in (rw on at (passed step (box_of_core l k) e WrongPhase refl)))
    ready_call is_reopen f e = reopen_call (phased_stored (abs l k) p (is_ready_is R))
    ready_call (is_service {c} K does) f e = rw (made_as c e) (service_next l k S d p A R c K (does (box_of_core l k) e))

  -- a mending box
  module _ (M : Mending (abs l k) p) (on : k.recovering ≡ true) where
    mending_call : (c : Call) → CallFits c (world_of l k d) → judged c (box_of_core l k) ≡ None → Inv l (called c (world_of l k d))
    mending_call c f e = go (mendable l k d on c f e)
      where
        go : {c : Call} → Mendable c → Inv l (called c (world_of l k d))
        go steps = step_inv l k S p M on d A
        go reopens_it = reopen_call M.images

-- what holds of a reachable world is shown of its core
pub at_core {ℓ} : {l : Label} {w : World} (Q : World → Type ℓ) (I : Inv l w) → Q (world_of l I.core w.disk) → Q w
at_core {w = w} Q I h = subst (λ (x : Box). Q (record { box = x; disk = w.disk })) (sym I.is_core) h

pub to_core {ℓ} : {l : Label} {w : World} (Q : World → Type ℓ) (I : Inv l w) → Q w → Q (world_of l I.core w.disk)
to_core {w = w} Q I h = subst (λ (x : Box). Q (record { box = x; disk = w.disk })) I.is_core h

-- the invariant of the core's own world
pub core_inv : {l : Label} {w : World} (I : Inv l w) → Inv l (world_of l I.core w.disk)
core_inv I = record { core = I.core; is_core = refl; shape = I.shape; plain = I.plain; agrees = I.agrees; phased = I.phased }

pub call_inv : (l : Label) (c : Call) (w : World) → CallFits c w → Inv l w → Inv l (called c w)
call_inv l c w f I = at_core (λ v. CallFits c v → Inv l (called c v)) I go f
  where
    by : (o : Option Refusal) → judged c (box_of_core l I.core) ≡ o → CallFits c (world_of l I.core w.disk)
        → Inv l (called c (world_of l I.core w.disk))
    by (Some r) e g = rw (refused-same c (world_of l I.core w.disk) r e) (core_inv I)
    by None e g = phase I.phased
      where
        phase : Phased (abs l I.core) I.plain → Inv l (called c (world_of l I.core w.disk))
        phase (is_ready_is R) = ready_call l I.core I.shape w.disk I.plain I.agrees R (sorted c) g e
        phase (is_mending on M) = mending_call l I.core I.shape w.disk I.plain I.agrees M (unfold abs in on) c g e

    go : CallFits c (world_of l I.core w.disk) → Inv l (called c (world_of l I.core w.disk))
    go g = by (judged c (box_of_core l I.core)) refl g

-- a reopening that is not refused was handed a table of the right length
module _ (l : Label) (k : Core) (p : Plain) (K : ImagesKept l k.ssd k.hdd) (St : Stored (abs l k) p) (x : Box)
    (im : x.images ≡ record { ssd = k.ssd; hdd = k.hdd }) where
  pub label_there : label_at x.images.ssd ≡ l
  label_there = ap (λ (i : Images). label_at i.ssd) im ∙ label_is l k p K St

  table-judged : judged reopen x ≡ None → length x.table ≡ table_length l
  unfolding test length_test lengths_test
  table-judged e =
      let a = label_at x.images.ssd in
      let i = eqb (length x.images.ssd) (ssd_length a) in
      let j = eqb (length x.images.hdd) (hdd_length a) in
      let t = eqb (length x.table) (table_length a) in
      let q = not-false _ (passed reopen x e WrongLength refl) in
      let r : t ≡ true = (and_parts j t (and_parts i (j && t) (and_parts (i && (j && t)) true q).0).1).1 in
      eqb-true _ _ r ∙ ap table_length label_there

  pub table-right : refused (result_of reopen x).said ≡ false → length x.table ≡ table_length l
  unfolding effect_of
  table-right f = go (judged reopen x) refl
    where
      go : (o : Option Refusal) → judged reopen x ≡ o → length x.table ≡ table_length l
      go (Some r) e = clash {b = refused (decided (judged reopen x) reopen x).said} (rw e) f
      go None e = table-judged e

  pub reopen_taken : length x.table ≡ table_length l → refused (result_of reopen x).said ≡ false
  unfolding effect_of plan
  reopen_taken h = ap (λ (o : Option Refusal). refused (decided o reopen x).said) (reopen_judged l k p K St x im h)
      ∙ (unfold perform in refl)

-- a reachable world is held
abbrev pub inv_held : {l : Label} {w : World} → Inv l w → Held l w
inv_held {l} I = record {
  core = I.core;
  is_core = I.is_core;
  shape = I.shape;
  plain = I.plain;
  agrees = I.agrees;
  stored = phased_stored (abs l I.core) I.plain I.phased;
  tied = phased_tied (abs l I.core) I.plain I.phased;
}

-- a box with the images of a held world, and any table and record
module _ (l : Label) (w : World) (H : Held l w) (x : Box) (im : x.images ≡ w.box.images) where
  pub held_images : x.images ≡ record { ssd = H.core.ssd; hdd = H.core.hdd }
  held_images = im ∙ ap (λ (y : Box). y.images) H.is_core

  pub held_right : refused (result_of reopen x).said ≡ false → length x.table ≡ table_length l
  held_right f = table-right l H.core H.plain H.shape.images H.stored x held_images f

  pub held_taken : length x.table ≡ table_length l → refused (result_of reopen x).said ≡ false
  held_taken h = reopen_taken l H.core H.plain H.shape.images H.stored x held_images h

  pub held_label : label_at x.images.ssd ≡ l
  held_label = label_there l H.core H.plain H.shape.images H.stored x held_images

  -- its reopening leads to a reachable world
  pub taken_inv : length x.table ≡ table_length l → Inv l (called reopen (record { box = x; disk = w.disk }))
  taken_inv h = reopen_inv l H.core H.plain H.shape.images H.stored x held_images h w.disk H.agrees

-- a table of the right length for the images of a held world
pub held_size : {l : Label} {w : World} → Held l w → (table : List ℕ) → RightLength w.box.images table → length table ≡ table_length l
held_size {l} {w} H table h = h ∙ ap table_length (held_label l w H w.box refl)

-- a reopening that is not refused
pub reopened-taken : (j : Memory) (w : World) → refused (result_of reopen (with_memory j w.box)).said ≡ false
    → reopened j w ≡ called reopen (record { box = with_memory j w.box; disk = w.disk })
unfolding reopened
reopened-taken j w e = ap (λ (r : Bool). taken_if r w (called reopen (record { box = with_memory j w.box; disk = w.disk }))) e

-- a reopening with any record, and any table of the right length, of a held world
pub held_reopened : (l : Label) (j : Memory) (w : World) → Held l w → length j.table ≡ table_length l → Inv l (reopened j w)
held_reopened l j w H h = let x = with_memory j w.box in
    rw (reopened-taken j w (held_taken l w H x refl h)) (taken_inv l w H x refl h)

-- with any table and record, of a reachable one
pub reopened_inv : (l : Label) (j : Memory) (w : World) → Inv l w → Inv l (reopened j w)
unfolding reopened
reopened_inv l j w I = go (refused (result_of reopen (with_memory j w.box)).said) refl
  where
    go : (r : Bool) → refused (result_of reopen (with_memory j w.box)).said ≡ r
        → Inv l (taken_if r w (called reopen (record { box = with_memory j w.box; disk = w.disk })))
    go true e = I
    go false e = let x = with_memory j w.box in taken_inv l w (inv_held I) x refl (held_right l w (inv_held I) x refl e)

-- what a cut with the page new leaves, by the call's store
abbrev cut_at : Call → World → Option Store → World
cut_at c w o = let v = taken_if (made new o) (called c w) w in
    record { box = record { images = survived new o w.box.images; table = v.box.table; state = v.box.state }; disk = v.disk }

-- where there is one, the world after the call
pub crashed-made : (c : Call) (w : World) (s : Store) → (effect_of c w.box).store ≡ Some s → crashed c new w ≡ called c w
unfolding crashed
crashed-made c w s e =
    ap (cut_at c w) e
    ∙ (λ i. record {
      box = record {
        images = (ap (λ (o : Option Store). applied o w.box.images) (sym e) ∙ sym images_are) i;
        table = (called c w).box.table;
        state = (called c w).box.state;
      };
      disk = (called c w).disk;
    })
  where
    images_are : (called c w).box.images ≡ applied (effect_of c w.box).store w.box.images
    images_are = unfold called in refl

-- what a cut leaves is the world before the call, or after it
pub crashed-or : (c : Call) (a : Arrival) (w : World) → CutLeaves c a w
unfolding crashed
crashed-or c old w = inr refl
crashed-or c new w = go (effect_of c w.box).store refl
  where
    go : (o : Option Store) → (effect_of c w.box).store ≡ o → CutLeaves c new w
    go None e = inr (ap (cut_at c w) e)
    go (Some s) e = inl (crashed-made c w s e)

pub crashed_held : (l : Label) (c : Call) (a : Arrival) (w : World) → CallFits c w → Inv l w → Held l (crashed c a w)
crashed_held l c a w f I = go (crashed-or c a w)
  where
    go : (crashed c a w ≡ called c w) ⊎ (crashed c a w ≡ w) → Held l (crashed c a w)
    go (inl e) = rw e (inv_held (call_inv l c w f I))
    go (inr e) = rw e (inv_held I)

pub apply_inv : (l : Label) (e : Event) (w : World) → Fits e w → Inv l w → Inv l (apply e w)
apply_inv l (call c) w f I = call_inv l c w f I
apply_inv l (reopens j) w f I = reopened_inv l j w I
apply_inv l (cut c a j) w f I = let H = crashed_held l c a w f.0 I in held_reopened l j (crashed c a w) H (held_size H j.table f.1)

pub run_inv : (l : Label) (es : List Event) (w : World) → AllFit es w → Inv l w → Inv l (run es w)
unfolding run
run_inv l [] w f I = I
run_inv l (e ∷ es) w f I = run_inv l es (apply e w) f.1 (apply_inv l e w f.0 I)
