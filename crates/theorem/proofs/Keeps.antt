-- A block outside the newest stored window keeps slot and page, and its row is back at once.
use Prim.Native.Nat.{ℕ, ◌<◌}
use mathlib.Core.Path.{◌≡◌, refl, sym, ap, subst, ◌∙◌}
use mathlib.Core.Logic.{◌⊎◌, inl, inr}
use mathlib.Core.Bool.{Bool, true, false}
use mathlib.Core.List.{List, [], ◌∷◌}
use Rattle.std.specs.Prelude.{Option, Some, None}
use native.Mathlib.Omega.{arith}
use lib.ListN.{length}
use Rattle.layout.specs.declared.Slot.{Slot}
use Rattle.layout.specs.declared.Block.{Block}
use Rattle.layout.specs.declared.Label.{Label}
use Rattle.layout.specs.Places.{table_length}
use Rattle.protocol.specs.Reply.{refused}
use Rattle.protocol.specs.Rows.{valid, dirty}
use Rattle.protocol.specs.Box.{Box}
use Rattle.protocol.specs.Recovery.{metas_of, entry_in}
use Rattle.protocol.specs.Plan.{Call, step, reopen, lowest_page}
use Rattle.protocol.specs.declared.Refusal.{Refusal}
use Rattle.protocol.specs.Judge.{is_ready, judged}
use Rattle.protocol.specs.Calls.{result_of}
use Rattle.protocol.specs.ReferenceDisk.{Disk}
use Rattle.protocol.specs.Events.{World, Memory, Arrival, Event, call, reopens, cut, called, with_memory, taken_if, reopened, crashed, apply, run, CallFits, RightLength, Fits, AllFit}
use Rattle.protocol.specs.Demand3.{Outside, Place, place, Reopening, own, whole, broken, before, NotYet, Back, AllBack, Kept}
use Rattle.layout.proofs.Booleans.{Told, told, told_true, told_false, clash}
use Rattle.laws.proofs.model.Base.{has}
use Rattle.laws.proofs.model.Model as model
use Rattle.laws.proofs.model.Model.{Plain, Stored, Revived, Mending, dirty_row, open_row, block_of, shut, revived}
use Rattle.laws.proofs.model.Model as model
use Rattle.laws.proofs.model.Rows.{shut_dirty}
use Rattle.theorem.proofs.model.View as seen
use Rattle.theorem.proofs.model.View.{Found, found}
use Rattle.theorem.proofs.model.Reopened.{fixed}
use Rattle.theorem.proofs.model.Finished.{over_ready}
use Rattle.theorem.proofs.model.Places as places
use Rattle.theorem.proofs.model.Places.{shut_at, first, again, mended_like, Alike}
use Rattle.laws.proofs.refine.Tables.{row_at, at_open, at_block, at_valid, at_dirty}
use Rattle.theorem.proofs.refine.ReadyCalls.{refused-same, world_of}
use Rattle.theorem.proofs.refine.Reopens.{reopened_core, reopen_shape, reopen_abs, dirty_entry, label_is}
use Rattle.theorem.proofs.refine.Views.{as_slot}
use Rattle.theorem.proofs.refine.MendingCalls.{mended_core, mended_here, mended_core_shape, mended_core_abs, step_world, reopened_here, reopen_world}
use Rattle.theorem.proofs.Reachable.{Mendable, steps, reopens_it, mendable, inv_held, held_images, held_taken, held_size, label_there, reopened-taken, crashed-or, crashed_held, table-right, reopen_taken}
use Rattle.theorem.proofs.Claims.{unready_on, before_held, own-size}
use Rattle.theorem.proofs.PlaceOf.{model_place, model_outside, place_model}
use Rattle.laws.proofs.refine.Abstract.{Core, box_of_core, entry_row, abs, Shape, Phased, is_ready_is, is_mending, Tied, by_ready, by_mending, phased_tied, Held, Inv}

-- a world since a reopening began: mending, or finished
pub record Under (l : Label) (w : World) : Type 0 where
  pub core : Core
  pub is_core : w.box ≡ box_of_core l core
  pub shape : Shape l core
  pub plain : Plain
  pub mending : Mending (abs l core) plain

-- such a world is ready or mending
pub under_phased : {l : Label} {w : World} (U : Under l w) → (p : Plain) × Phased (abs l U.core) p
under_phased {l} U = go U.core.recovering refl
  where
    go : (r : Bool) → U.core.recovering ≡ r → (p : Plain) × Phased (abs l U.core) p
    go true e = (U.plain, is_mending (unfold abs in e) U.mending)
    go false e = (fixed (abs l U.core), is_ready_is (over_ready (abs l U.core) U.plain U.mending (unfold abs in e)))

pub under_tied : {l : Label} {w : World} (U : Under l w) → Tied (abs l U.core)
under_tied {l} U = let q = under_phased U in phased_tied (abs l U.core) q.0 q.1

pub under_place : {l : Label} {w : World} (U : Under l w) (b : ℕ) → b < l.blocks
    → place w.box (record { 0 = b }) ≡ model_place l U.core b
under_place {l} U b h =
    ap (λ (x : Box). place x (record { 0 = b })) U.is_core
    ∙ place_model l U.core U.shape U.plain U.mending.images b h (under_tied U)

-- the same slot and page in the model are the same place
same_place : (l : Label) (j k : Core) (b : ℕ) → Alike (abs l j) (abs l k) b → model_place l j b ≡ model_place l k b
same_place l j k b A = λ i. record { slot = ap as_slot A.0 i; page = A.1 i }

-- a row that a look-up names is that of a kept entry
module _ (l : Label) (k : Core) (S : Shape l k) (p : Plain) (M : Mending (abs l k) p) (b s : ℕ)
    (e : places.slot_of (abs l k) b ≡ Some s) where
  record Named : Type 0 where
    low : s < l.slots
    held : model.valid (row_at k.table s) ≡ true
    blocked : block_of (row_at k.table s) ≡ b
    shut_row : open_row (row_at k.table s) ≡ false

  none_some : {A : Type 0} {t : ℕ} → None ≡ Some t → A
  none_some q = let z : ◌≡◌ {A = ℕ} 0 1 = cc in absurd (omega arith)

  number_of : Option ℕ → ℕ
  number_of None = 0
  number_of (Some t) = t

  named : Named
  unfolding places.slot_of abs number_of
  named = go (found (row_at k.table) l.slots b) e
    where
      go : {o : Option ℕ} → Found (row_at k.table) l.slots b o → shut_at (abs l k) o ≡ Some s → Named
      go (Found.nowhere h) q = none_some q
      go (Found.at t i v f) q = by (told (open_row (row_at k.table t)))
        where
          by : Told (open_row (row_at k.table t)) → Named
          by (told_true o) = none_some (rw o at q)
          by (told_false o) =
              let r : Some t ≡ Some s = rw o at q in
              let z : t ≡ s = ap number_of r in
              record { low = rw (← z) i; held = rw (← z) v; blocked = rw (← z) f; shut_row = rw (← z) o }

  row_shut : row_at k.table s ≡ shut (entry_row l (metas_of l k.ssd) s)
  unfolding abs
  row_shut = M.rows s ∙ go (told (has (abs l k).stored_window s))
    where
      go : Told (has (abs l k).stored_window s) → revived (has (abs l k).stored_window s) ((abs l k).entry s) ≡ shut ((abs l k).entry s)
      go (told_true h) = clash named.held (ap model.valid (M.rows s ∙ ap (λ (t : Bool). revived t ((abs l k).entry s)) h))
      go (told_false h) = rw h

  pub back_of : Back (box_of_core l k) (record { 0 = b }) (record { 0 = s })
  back_of =
      let n = named in
      let v = sym (at_valid l k.table S.rows s n.low) ∙ n.held in
      record {
        valid-row = v;
        block = sym (at_block l k.table S.rows s n.low v) ∙ n.blocked;
        stored-dirty = sym (at_dirty l k.table S.rows s n.low) ∙ ap dirty_row row_shut ∙ shut_dirty (entry_row l (metas_of l k.ssd) s)
            ∙ dirty_entry l k p S.images M.images s n.low
            ∙ ap (λ (a : Label). dirty (entry_in (metas_of a k.ssd) (record { 0 = s })).flags)
            (sym (label_is l k p S.images M.images));
        closed = sym (at_open l k.table S.rows s n.low) ∙ n.shut_row;
      }

-- a world under a reopening in which a block is where the core k has it
record Goes (l : Label) (k : Core) (b : ℕ) (v : World) : Type 0 where
  under : Under l v
  like : Alike (abs l under.core) (abs l k) b

goes_to : {l : Label} {k : Core} {b : ℕ} {v u : World} → v ≡ u → Goes l k b v → Goes l k b u
goes_to {l} {k} {b} e G = subst (λ (z : World). Goes l k b z) e G

goes_on : {l : Label} {j k : Core} {b : ℕ} {u : World} → Alike (abs l j) (abs l k) b → Goes l j b u → Goes l k b u
goes_on A H = record { under = H.under; like = (H.like.0 ∙ A.0, H.like.1 ∙ A.1) }

goes_same : {l : Label} {w : World} (U : Under l w) (b : ℕ) → Goes l U.core b w
goes_same U b = record { under = U; like = (refl, refl) }

-- a reopening
goes_reopen : (l : Label) (k : Core) (S : Shape l k) (p : Plain) (St : Stored (abs l k) p) (b : ℕ)
    → Alike (model.reopened (abs l k)) (abs l k) b
    → (x : Box) → x.images ≡ record { ssd = k.ssd; hdd = k.hdd } → length x.table ≡ table_length l → (d : Disk)
    → Goes l k b (called reopen (record { box = x; disk = d }))
goes_reopen l k S p St b A x im size d =
    goes_to (sym (reopen_world l k p S.images St x im size d))
    (record {
      under = record {
        core = reopened_core l k;
        is_core = refl;
        shape = reopen_shape l k p S.images St;
        plain = p;
        mending =
            reopened_here l k p S.images St x im size;
      };
      like = rw (reopen_abs l k p S.images St) A;
    })

-- a mending step
goes_step : (l : Label) (k : Core) (S : Shape l k) (p : Plain) (M : Mending (abs l k) p) (on : k.recovering ≡ true) (d : Disk) (b : ℕ)
    → Goes l k b (called step (world_of l k d))
goes_step l k S p M on d b =
    goes_to (sym (step_world l k S p M on d))
    (record {
      under = record {
        core = mended_core l k;
        is_core = refl;
        shape = mended_core_shape l k S p M on;
        plain = p;
        mending =
            rw (mended_core_abs l k S p M on) (mended_here l k S p M on);
      };
      like = rw (mended_core_abs l k S p M on) (mended_like (abs l k) (lowest_page k.window) b);
    })

-- a call of a mending box: a step, a reopening, or refused
core_call : (l : Label) (k : Core) (S : Shape l k) (p : Plain) (M : Mending (abs l k) p) (on : k.recovering ≡ true) (d : Disk) (b : ℕ)
    (c : Call) → CallFits c (world_of l k d)
    → (o : Option Refusal) → judged c (box_of_core l k) ≡ o → Goes l k b (called c (world_of l k d))
core_call l k S p M on d b c f (Some r) e =
    goes_to (sym (refused-same c (world_of l k d) r e))
    (goes_same {w = world_of l k d} (record { core = k; is_core = refl; shape = S; plain = p; mending = M }) b)
core_call l k S p M on d b c f None e = go (mendable l k d on c f e)
  where
    go : {c : Call} → Mendable c → Goes l k b (called c (world_of l k d))
    go steps = goes_step l k S p M on d b
    go reopens_it = goes_reopen l k S p M.images b (again (abs l k) M.rows b) (box_of_core l k) refl S.table-size d

-- what a cut leaves of a world under a reopening, in which a block is where the core k has it: its rows are what the reopening made of
-- the entries, and that is all that another reopening asks for
record Down (l : Label) (k : Core) (b : ℕ) (w : World) : Type 0 where
  core : Core
  is_core : w.box ≡ box_of_core l core
  shape : Shape l core
  plain : Plain
  stored : Stored (abs l core) plain
  rows : Revived (abs l core)
  like : Alike (abs l core) (abs l k) b

goes_down : {l : Label} {k : Core} {b : ℕ} {w : World} → Goes l k b w → Down l k b w
goes_down G = record {
  core = G.under.core;
  is_core = G.under.is_core;
  shape = G.under.shape;
  plain = G.under.plain;
  stored = G.under.mending.images;
  rows = G.under.mending.rows;
  like = G.like;
}

down_reopened : (l : Label) (k : Core) (b : ℕ) (w : World) → Down l k b w → (j : Memory) → RightLength w.box.images j.table
    → Goes l k b (reopened j w)
down_reopened l k b w D j r =
    let x = with_memory j w.box in
    let im : x.images ≡ record { ssd = D.core.ssd; hdd = D.core.hdd } = ap (λ (y : Box). y.images) D.is_core in
    let h = r ∙ ap table_length (label_there l D.core D.plain D.shape.images D.stored x im) in
    goes_to (sym (reopened-taken j w (reopen_taken l D.core D.plain D.shape.images D.stored x im h)))
    (goes_on D.like
    (goes_reopen l D.core D.shape D.plain D.stored b (again (abs l D.core) D.rows b) x im h w.disk))

-- the events of a world under a reopening that is not finished
module _ (l : Label) (w : World) (U : Under l w) (b : ℕ) where
  goes_call : is_ready w.box.state.phase ≡ false → (c : Call) → CallFits c w → Goes l U.core b (called c w)
  goes_call r c f =
      let q = subst (λ (x : Box). is_ready x.state.phase ≡ false) U.is_core r in
      let g = subst (λ (x : Box). CallFits c (record { box = x; disk = w.disk })) U.is_core f in
      subst (λ (x : Box). Goes l U.core b (called c (record { box = x; disk = w.disk }))) (sym U.is_core)
      (core_call l U.core U.shape U.plain U.mending (unready_on U.core.recovering q) w.disk b c g
      (judged c (box_of_core l U.core)) refl)

  goes_crashed : is_ready w.box.state.phase ≡ false → (c : Call) (a : Arrival) → CallFits c w → Down l U.core b (crashed c a w)
  goes_crashed r c a f = go (crashed-or c a w)
    where
      go : (crashed c a w ≡ called c w) ⊎ (crashed c a w ≡ w) → Down l U.core b (crashed c a w)
      go (inl e) = goes_down (goes_to (sym e) (goes_call r c f))
      go (inr e) = goes_down (goes_to (sym e) (goes_same U b))

  images_are : (j : Memory) → (with_memory j w.box).images ≡ record { ssd = U.core.ssd; hdd = U.core.hdd }
  images_are j = ap (λ (x : Box). x.images) U.is_core

  goes_memory : (j : Memory) → Goes l U.core b (reopened j w)
  unfolding reopened
  goes_memory j = go (refused (result_of reopen (with_memory j w.box)).said) refl
    where
      go : (r : Bool) → refused (result_of reopen (with_memory j w.box)).said ≡ r
          → Goes l U.core b (taken_if r w (called reopen (record { box = with_memory j w.box; disk = w.disk })))
      go true e = goes_same U b
      go false e =
          goes_reopen l U.core U.shape U.plain U.mending.images b (again (abs l U.core) U.mending.rows b)
          (with_memory j w.box) (images_are j)
          (table-right l U.core U.plain U.shape.images U.mending.images (with_memory j w.box) (images_are j) e) w.disk

goes_event : (l : Label) (w : World) (U : Under l w) (b : ℕ) → is_ready w.box.state.phase ≡ false → (e : Event) → Fits e w
    → Goes l U.core b (apply e w)
goes_event l w U b r (call c) f = goes_call l w U b r c f
goes_event l w U b r (reopens j) f = goes_memory l w U b j
goes_event l w U b r (cut c a j) f = down_reopened l U.core b (crashed c a w) (goes_crashed l w U b r c a f.0) j f.1

goes_run : (l : Label) (es : List Event) (w : World) (U : Under l w) (b : ℕ) → AllFit es w → NotYet es w → Goes l U.core b (run es w)
unfolding run
goes_run l [] w U b f n = goes_same U b
goes_run l (e ∷ es) w U b f n = let G = goes_event l w U b n.0 e f.0 in
    goes_on G.like (goes_run l es (apply e w) G.under b f.1 n.1)

-- the row is back in every such world
under_back : (l : Label) (w : World) (U : Under l w) (b s : ℕ) → places.slot_of (abs l U.core) b ≡ Some s
    → Back w.box (record { 0 = b }) (record { 0 = s })
under_back l w U b s e = subst (λ (x : Box). Back x (record { 0 = b }) (record { 0 = s })) (sym U.is_core)
    (back_of l U.core U.shape U.plain U.mending b s e)

all_back : (l : Label) (es : List Event) (w : World) (U : Under l w) (b s : ℕ) → places.slot_of (abs l U.core) b ≡ Some s
    → AllFit es w → NotYet es w → AllBack es (record { 0 = b }) (record { 0 = s }) w
all_back l [] w U b s e f n = tt
all_back l (g ∷ es) w U b s e f n =
    let G = goes_event l w U b n.0 g f.0 in
    let q : places.slot_of (abs l G.under.core) b ≡ Some s = G.like.0 ∙ e in
    ((λ _. under_back l (apply g w) G.under b s q), all_back l es (apply g w) G.under b s q f.1 n.1)

-- the first reopening, of a block outside the newest stored window
module _ (l : Label) (v : World) (H : Held l v) (b : ℕ) (out : Outside v.box.images (record { 0 = b })) where
  out_core : Outside (record { ssd = H.core.ssd; hdd = H.core.hdd }) (record { 0 = b })
  out_core = subst (λ (x : Box). Outside x.images (record { 0 = b })) H.is_core out

  first_like : Alike (model.reopened (abs l H.core)) (abs l H.core) b
  first_like = go H.tied
    where
      go : Tied (abs l H.core) → Alike (model.reopened (abs l H.core)) (abs l H.core) b
      go (by_ready on W L) = first (abs l H.core) L b (model_outside l H.core H.shape H.plain H.stored b out_core)
      go (by_mending on rows) = again (abs l H.core) rows b

  first_goes : (x : Box) → x.images ≡ v.box.images → length x.table ≡ table_length l → (d : Disk)
      → Goes l H.core b (called reopen (record { box = x; disk = d }))
  first_goes x im size d =
      goes_reopen l H.core H.shape H.plain H.stored b first_like x (held_images l v H x im) size d

  first_memory : (j : Memory) → RightLength v.box.images j.table → Goes l H.core b (reopened j v)
  first_memory j r =
      let x = with_memory j v.box in
      let h = held_size H j.table r in
      goes_to (sym (reopened-taken j v (held_taken l v H x refl h))) (first_goes x refl h v.disk)

-- the event that reopens
first_event : (l : Label) (w : World) (I : Inv l w) (e : Event) (f : Fits e w) → Reopening w e → (b : ℕ)
    → Outside (before e w).box.images (record { 0 = b }) → Goes l (before_held l e w f I).core b (apply e w)
unfolding before_held
first_event l w I e f own b out = first_goes l w (inv_held I) b out w.box refl (own-size l w I) w.disk
first_event l w I e f (whole j h) b out = first_memory l w (inv_held I) b out j h
first_event l w I e f (broken c a j h) b out = first_memory l (crashed c a w) (crashed_held l c a w f.0 I) b out j h

-- a slot of the model
slot_of_lem : (o : Option ℕ) (s : Slot) → as_slot o ≡ Some s → o ≡ Some s.0
slot_of_lem None s e = let z : ◌≡◌ {A = ℕ} 0 1 = cc in absurd (omega arith)
slot_of_lem (Some t) s e = ap back e
  where
    back : Option Slot → Option ℕ
    back None = None
    back (Some u) = Some u.0

pub keeps_of : (l : Label) (w : World) → Inv l w → (e : Event) → Fits e w → Reopening w e → (b : Block) → b.0 < l.blocks
    → Outside (before e w).box.images b
    → (es : List Event) → AllFit es (apply e w) → NotYet es (apply e w) → Kept e es b w
keeps_of l w I e f r b h out es g n =
    record {
      place_kept = kept;
      row_back = λ s q. let z = slot_is s q in
          (under_back l (apply e w) G.under b.0 s.0 z, all_back l es (apply e w) G.under b.0 s.0 z g n);
    }
  where
    J : Held l (before e w)
    J = before_held l e w f I

    G : Goes l (before_held l e w f I).core b.0 (apply e w)
    G = first_event l w I e f r b.0 out

    H : Goes l G.under.core b.0 (run es (apply e w))
    H = goes_run l es (apply e w) G.under b.0 g n

    at_first : place (before e w).box b ≡ model_place l J.core b.0
    at_first = ap (λ (x : Box). place x b) J.is_core ∙ place_model l J.core J.shape J.plain J.stored b.0 h J.tied

    kept : place (run es (apply e w)).box b ≡ place (before e w).box b
    kept = under_place H.under b.0 h ∙ same_place l H.under.core G.under.core b.0 H.like
        ∙ same_place l G.under.core J.core b.0 G.like ∙ sym at_first

    slot_is : (s : Slot) → (place (before e w).box b).slot ≡ Some s → places.slot_of (abs l G.under.core) b.0 ≡ Some s.0
    slot_is s q = G.like.0 ∙ slot_of_lem (places.slot_of (abs l J.core) b.0) s (ap (λ (x : Place). x.slot) (sym at_first) ∙ q)
