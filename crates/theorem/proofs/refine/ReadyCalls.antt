-- Each call of a ready box that is not refused leaves a ready box, and the reference disk agrees.
use Prim.Native.Nat.{ℕ, ◌+◌, ◌*◌, ◌<◌}
use mathlib.Core.Path.{◌≡◌, refl, sym, ap, ◌∙◌}
use mathlib.Core.Bool.{Bool, true, false, cond, not, ◌&&◌}
use mathlib.Core.List.{List, [], ◌∷◌, ◌++◌}
use Rattle.std.specs.Prelude.{Option, Some}
use native.Mathlib.Omega.{arith}
use lib.ListN.{length, get_or}
use lib.Dec.{eqb}
use borrow.Author.Tests.{eqb-true}
use Rattle.pages.specs.Pages.{page_at}
use Rattle.pages.proofs.PageLaws.{length-page}
use Rattle.layout.specs.declared.Slot.{Slot}
use Rattle.layout.proofs.PlaceLaws.{meta_of-low}
use Rattle.layout.specs.declared.Block.{Block}
use Rattle.layout.specs.declared.Label.{Label}
use Rattle.layout.specs.Places.{meta_pages}
use Rattle.layout.specs.Stamps.{largest_stamp, opening_bound}
use Rattle.protocol.specs.Reply.{Reply, refused}
use Rattle.protocol.specs.Rows.{row_flags, valid, dirty, writing}
use Rattle.protocol.specs.Box.{Effect, left, box_after}
use Rattle.protocol.specs.Recovery.{spent_stamp}
use Rattle.protocol.specs.Plan.{Call, Move, stay, uses, uses_all, announces, lands, copies, confirms}
use Rattle.protocol.specs.Kinds.{Aim, a_service, kind}
use Rattle.protocol.specs.Perform.{confirmed, used_all, perform}
use Rattle.protocol.specs.declared.Refusal.{Refusal}
use Rattle.protocol.specs.Judge.{judged, is_ready}
use Rattle.protocol.specs.Calls.{decided, effect_of}
use Rattle.protocol.specs.ReferenceDisk.{Disk, durable, written, fed_call, fed}
use Rattle.protocol.specs.Events.{World, may_finish, reads_if, called}
use Rattle.laws.proofs.model.Base.{upd}
use Rattle.laws.proofs.model.Model as model
use Rattle.laws.proofs.model.Model.{Plain, dirty_row, open_row, settle, stored, opened, flushed, landed}
use Rattle.laws.proofs.model.Rows.{dirty-valid}
use Rattle.theorem.proofs.model.Moves.{Copies, Lands, landing as model_landing, copies-ready, lands-ready, fetch_ready}
use Rattle.theorem.proofs.model.Flushed.{flushed_ready, settled_ready}
use Rattle.laws.proofs.refine.Windows.{length_nums, distinct_nums}
use Rattle.laws.proofs.refine.Tables.{row_at, at_open, at_valid, at_dirty}
use Rattle.laws.proofs.refine.Sweeps.{Alike}
use Rattle.laws.proofs.refine.Conditions.{Held, is_dirty}
use Rattle.laws.proofs.Sound.{Sound, writing_is}
use Rattle.laws.proofs.Does.{Openings, Copying, Quiet, Does, does_nothing, does_use, does_use_all, does_announce, does_copy, does_land, does_fetch, does_rest, does_confirm, openings_sound}
use Rattle.theorem.proofs.refine.Performed.{after, tabled_abs, tabled_shape, uses-box, all-box, uses-alike, stored_core, stored_shape, stored_abs, announces-box, confirms-box, left_window, left_callers, landed_core, lands-box, lands_shape, lands_abs, copied_core, copies-box, copies_shape, copies_abs}
use Rattle.laws.proofs.refine.Abstract.{Core, box_of_core, abs, CallersKept, Shape, ready_sound, Agrees, is_ready_is, Inv}
use Rattle.laws.proofs.refine.Callers.{left-kept}
use Rattle.theorem.proofs.refine.Openings.{held_row, Last, last}
use Rattle.theorem.proofs.model.Announced.{announced-ready}
use Rattle.record.specs.Callers.{caller_array}
use Rattle.record.proofs.RecordLaws.{window_in_lem}

-- a call that did this
unfoldable pub called_as : Call → Effect → World → World
called_as c e w =
    let r = left e w.box.images in
    record {
      box = box_after r;
      disk = fed c (refused r.said)
          (reads_if (not (refused r.said) && (may_finish (kind c) && is_ready r.state.phase)) (box_after r)) w.disk;
    }

pub called_as_lem : (c : Call) (w : World) → called c w ≡ called_as c (decided (judged c w.box) c w.box) w
unfolding called called_as effect_of
called_as_lem c w = refl

-- a refused call changes nothing
pub refused-same : (c : Call) (w : World) (r : Refusal) → judged c w.box ≡ Some r → called c w ≡ w
unfolding called_as
refused-same c w r e = called_as_lem c w ∙ ap (λ (o : Option Refusal). called_as c (decided o c w.box) w) e

-- the world of a reachable box
abbrev pub world_of : Label → Core → Disk → World
world_of l k d = record { box = box_of_core l k; disk = d }

-- what a ready box says
module _ (l : Label) (k : Core) (S : Shape l k) (p : Plain) (R : model.Ready (abs l k) p) where
  newest_is : spent_stamp l k.ssd ≡ k.newest
  newest_is = unfold abs in R.stamps

module _ (l : Label) (k : Core) (S : Shape l k) (d : Disk) (p : Plain) (A : Agrees l d p) (R : model.Ready (abs l k) p) where
  on : k.recovering ≡ false
  on = unfold abs in R.phase

  -- a service that leaves this core
  module _ (c : Call) {a : Aim} (K : kind c ≡ a_service a) where
    next : (v : Move) (k' : Core) (p' : Plain) → refused (perform v (box_of_core l k)).said ≡ false → after l k v ≡ box_of_core l k'
        → Shape l k' → Agrees l (fed_call a.purpose a.block d) p' → model.Ready (abs l k') p'
        → Inv l (called_as c (perform v (box_of_core l k)) (world_of l k d))
    unfolding called_as
    next v k' p' n e S' A' R' = record {
      core = k';
      is_core = e;
      shape = S';
      plain = p';
      agrees = rw (n, K) (rw K A');
      phased = is_ready_is R';
    }

    quiet : Quiet a → Agrees l (fed_call a.purpose a.block d) p
    quiet z = rw (z d) A

    -- nothing changes
    stays : (said : Reply) (p' : Plain) → refused said ≡ false → Agrees l (fed_call a.purpose a.block d) p' → model.Ready (abs l k) p'
        → Inv l (called_as c (perform (stay said) (box_of_core l k)) (world_of l k d))
    unfolding perform
    stays said p' n A' R' = next (stay said) k p' n refl S A' R'

    -- a used flag is set
    uses_next : Quiet a → {b : ℕ} {s : Slot} (said : Reply) → refused said ≡ false → Held l k.table b s.0
        → Inv l (called_as c (perform (uses s said) (box_of_core l k)) (world_of l k d))
    unfolding perform
    uses_next z {b} {s} said n H =
        let T = uses-alike l k S s.0 H.low H.held in
        next (uses s said) _ p n (uses-box l k S s.0 said) (tabled_shape l k S _ k.hand T S.hand_ok) (quiet z)
        (rw (tabled_abs l k S _ k.hand T) R)

    all-used : Quiet a → (ss : List Slot) → Alike l k.table (used_all ss k.table)
        → Inv l (called_as c (perform (uses_all ss) (box_of_core l k)) (world_of l k d))
    unfolding perform
    all-used z ss T =
        next (uses_all ss) _ p refl (all-box l k S ss) (tabled_shape l k S _ k.hand T S.hand_ok) (quiet z)
        (rw (tabled_abs l k S _ k.hand T) R)

    -- slots of one page are opened
    module _ (z : Quiet a) (said : Reply) (n : refused said ≡ false) {q : ℕ} {t : List ℕ} {h : Slot} {w : List Slot} {cs : List ℕ}
        (O : Openings (box_of_core l k) q t h w cs) (spare : k.newest < opening_bound l) where
      E : Last l k S p R q t h w cs
      E = last l k S p R q O

      T : Sound l t w
      T = openings_sound O (rw window_in_lem (ready_sound l k S p R))

      core' : Core
      core' = stored_core l k t h w (caller_array cs) q k.recovering

      shape' : Shape l core'
      unfolding core'
      shape' = stored_shape l k S (newest_is l k S p R) (omega arith) t T.size T.legal h E.hand-low w T.rule (caller_array cs) q
          E.page-low k.recovering (rw on E.callers)

      abs' : abs l core' ≡ stored q (upd E.before.row E.slot E.row) (E.before.window ++ (E.slot ∷ [])) (abs l k)
      unfolding core' abs
      abs' =
          stored_abs l k S (newest_is l k S p R) (omega arith) t T.size T.legal h E.hand-low w T.rule (caller_array cs) q
          E.page-low k.recovering refl
          ∙ (λ i. stored q (λ u. E.rows u i) (E.window i) (abs l k))

      announces_next : Inv l (called_as c (perform (announces said q t h w cs) (box_of_core l k)) (world_of l k d))
      unfolding perform confirmed core'
      announces_next = next (announces said q t h w cs) core' p n (announces-box l k said q t h w cs) shape' (quiet z)
          (rw abs' (announced-ready q (abs l k) p R E.chain E.on_page_is E.asked (unfold abs in spare)))

    -- a dirty slot is copied
    module _ (z : Quiet a) {s : Slot} {v : List ℕ} {hand : Slot} (C : Copying (box_of_core l k) s v hand) where
      row-dirty : dirty_row (row_at k.table s.0) ≡ true
      row-dirty = ap dirty_row (sym (C.alike.row s.0)) ∙ at_dirty l v C.alike.legal s.0 C.low ∙ C.is_dirty

      is_valid : valid (row_flags v s) ≡ true
      is_valid = sym (at_valid l v C.alike.legal s.0 C.low) ∙ ap model.valid (C.alike.row s.0)
          ∙ dirty-valid (row_at k.table s.0) row-dirty

      copies_asks : Copies (abs l k) s.0
      unfolding abs
      copies_asks = record {
        was_dirty = row-dirty;
        was_shut = ap open_row (sym (C.alike.row s.0)) ∙ at_open l v C.alike.legal s.0 C.low ∙ C.is_shut;
        slot_below_is = C.low;
      }

      copies_next : (said : Reply) → refused said ≡ false
          → Inv l (called_as c (perform (copies s said v hand) (box_of_core l k)) (world_of l k d))
      unfolding perform
      copies_next said n =
          next (copies s said v hand) (copied_core l k s.0 v hand) p n (copies-box l k s.0 said v hand)
          (copies_shape l k S s.0 C.low v C.alike hand C.hand-low C.is_shut is_valid) (quiet z)
          (rw (copies_abs l k S s.0 C.low v C.alike hand C.hand-low C.is_shut is_valid)
          (copies-ready (abs l k) p R copies_asks))

    -- a page goes into a slot
    lands_asks : {b s : ℕ} (page : List ℕ) → Held l k.table b s → b < l.blocks → Lands (abs l k) s b page
    unfolding abs
    lands_asks page H bl = let r = held_row S.rows H in
        record { held = r.0; holds_b = r.1; slot_below_is = H.low; block_below_is = bl }

    lands_next : (write : Bool) {b s : ℕ} (page : List ℕ) (p' : Plain) (o : Bool) → Held l k.table b s → length page ≡ 4096
        → writing (get_or k.table (2 * s + 1) 0) ≡ o → Agrees l (fed_call a.purpose a.block d) p'
        → model.Ready (landed s page (abs l k)) p'
        → Inv l (called_as c (perform (lands write (record { 0 = s }) page) (box_of_core l k)) (world_of l k d))
    unfolding perform
    lands_next write {b} {s} page p' o H size e A' R' =
        let T = ready_sound l k S p R in
        next (lands write (record { 0 = s }) page) (landed_core o write l k s page) p' refl (lands-box l k s page o write e)
        (lands_shape l k S s H.low page size write H.held o (closed-kept o)) A'
        (rw (lands_abs l k S s H.low page size write H.held o e (sym (distinct_nums k.window) ∙ T.rule.apart)
        (sym (writing_is T s H.low) ∙ e)) R')
      where
        closed-kept : (o : Bool) → CallersKept k.recovering (left_window o s k.window) (left_callers o s k.window k.callers)
        closed-kept true =
            let few = (ready_sound l k S p R).rule.fits in
            rw on (left-kept (rw on at S.callers) (omega (arith, few, length_nums k.window)) (record { 0 = s }))
        closed-kept false = S.callers

    fetched_ready : {b s : ℕ} → Held l k.table b s → b < l.blocks → writing (get_or k.table (2 * s + 1) 0) ≡ true
        → model.Ready (landed s (page_at k.hdd b) (abs l k)) p
    unfolding abs
    fetched_ready {b} {s} H bl w =
        fetch_ready (abs l k) p R (lands_asks (page_at k.hdd b) H bl) (at_open l k.table S.rows s H.low ∙ w)

    written-ready : {b s : ℕ} (page : List ℕ) → Held l k.table b s → b < l.blocks → dirty (get_or k.table (2 * s + 1) 0) ≡ true
        → model.Ready (landed s page (abs l k)) (model_landing b page p)
    unfolding abs
    written-ready {b} {s} page H bl y =
        lands-ready (abs l k) p R (lands_asks page H bl) (at_dirty l k.table S.rows s H.low ∙ y)

    -- a flush stores page 0
    confirms_next : k.unconfirmed ≡ true → k.newest < largest_stamp l → Agrees l (fed_call a.purpose a.block d) (settle p)
        → Inv l (called_as c (perform confirms (box_of_core l k)) (world_of l k d))
    unfolding perform confirmed
    confirms_next u h A' =
        let T = ready_sound l k S p R in
        let first : 0 < meta_pages l = omega (arith, meta_of-low l (record { 0 = 0 }) S.images.limits.some_slot) in
        let e : abs l (stored_core l k k.table k.hand k.window k.callers 0 k.recovering) ≡ flushed (abs l k) =
        stored_abs l k S (newest_is l k S p R) h k.table T.size T.legal k.hand S.hand_ok k.window T.rule
        k.callers 0 first k.recovering refl ∙ (unfold abs in refl)
        in
        next confirms (stored_core l k k.table k.hand k.window k.callers 0 k.recovering) (settle p) refl (confirms-box l k)
        (stored_shape l k S (newest_is l k S p R) h k.table T.size T.legal k.hand S.hand_ok k.window T.rule
        k.callers 0 first k.recovering S.callers) A' (rw e (flushed_ready (abs l k) p R (unfold abs in u)))

  agrees_written : (b : Block) (page : List ℕ) → Agrees l (written b page d) (model_landing b.0 page p)
  unfolding model_landing upd
  agrees_written b page = record {
    page = λ c h. ap (λ (q : List ℕ). cond (eqb c b.0) page q) (A.page c h);
    contents = λ c h. contents_at c h (eqb c b.0) refl;
  }
    where
      contents_at : (c : ℕ) → c < l.blocks → (t : Bool) → eqb c b.0 ≡ t
          → cond t (page ∷ d.contents b) (d.contents (record { 0 = c })) ≡ cond t (page ∷ p.may b.0) (p.may c)
      contents_at c h true e =
          let q : c ≡ b.0 = eqb-true c b.0 e in
          ap (λ (r : List (List ℕ)). page ∷ r) (A.contents b.0 (rw q at h))
      contents_at c h false e = A.contents c h

  agrees_settled : Agrees l (durable d.page) (settle p)
  unfolding settle
  agrees_settled = record { page = A.page; contents = λ b h. ap (λ (q : List ℕ). q ∷ []) (A.page b h) }

  -- every service keeps the invariant
  pub service_next : (c : Call) {a : Aim} → kind c ≡ a_service a → {v : Move} → Does (box_of_core l k) a v
      → Inv l (called_as c (perform v (box_of_core l k)) (world_of l k d))
  service_next c K (does_nothing {said = said} z n) = stays c K said p n (quiet c K z) R
  service_next c K (does_use {said = said} z n H) = uses_next c K z said n H
  service_next c K (does_use_all {ss = ss} z T) = all-used c K z ss T
  service_next c K (does_announce {said = said} z n O spare) = announces_next c K z said n O spare
  service_next c K (does_copy {said = said} z n C) = copies_next c K z C said n
  service_next c K (does_land {b = b} {s = s} {page = page} H bl y size) =
      lands_next c K true page _ (writing (row_flags k.table s)) H size refl (agrees_written b page)
      (written-ready c K page H bl y)
  service_next c K (does_fetch {b = b} {s = s} z H bl w) =
      lands_next c K false (page_at k.hdd b.0) p true H (length-page k.hdd b.0 (omega (arith, S.images.hdd-size))) w
      (quiet c K z) (fetched_ready c K H bl w)
  service_next c K (does_rest {said = said} n u) =
      stays c K said (settle p) n agrees_settled (settled_ready (abs l k) p R (unfold abs in u))
  service_next c K (does_confirm u n) = confirms_next c K u n agrees_settled
