-- Landings of two open blocks come back in either order, on any box.
use Prim.Native.Nat.{ℕ, ◌+◌, ◌*◌, ◌<◌}
use mathlib.Core.Path.{◌≡◌, refl, sym, ap, subst, ◌∙◌}
use mathlib.Core.Logic.{◌≢◌}
use mathlib.Core.Bool.{Bool, true, false, not}
use mathlib.Core.List.{List}
use Rattle.std.specs.Prelude.{Some, None}
use native.Mathlib.Omega.{arith}
use lib.ListN.{length, get_or, set, take}
use lib.Seq.{get_or-set_other, set_comm}
use borrow.Author.Tests.{not-false}
use Rattle.pages.specs.Pages.{page_at}
use Rattle.pages.proofs.PageLaws.{put_comm}
use Rattle.layout.specs.declared.Slot.{Slot}
use Rattle.layout.specs.declared.Block.{Block}
use Rattle.layout.specs.declared.Label.{Label}
use Rattle.layout.specs.Places.{data_place, block_place}
use Rattle.layout.proofs.PlaceLaws.{datas_apart, data_within}
use Rattle.layout.proofs.Booleans.{clash, and_parts}
use Rattle.record.specs.declared.Phase.TheVariants.{Ready}
use Rattle.record.specs.Callers.{caller_array}
use Rattle.record.specs.Record.{label_in, window_in, callers_in, with_window, with_callers}
use Rattle.record.specs.Window.{without, beside}
use Rattle.record.proofs.LeaveLaws.{without_comm, length-beside, beside_comm}
use Rattle.record.proofs.CallerLaws.{take-callers}
use Rattle.record.proofs.RecordLaws.{window_in_lem}
use Rattle.protocol.specs.declared.Condition.{Condition}
use Rattle.protocol.specs.declared.Condition.TheVariants.{NotCached, Clean, Dirty, Writing, Fetching}
use Rattle.protocol.specs.Rows.{writing}
use Rattle.protocol.specs.Box.{Box, Store, Effect, left, box_after}
use Rattle.protocol.specs.Condition.{open_as, condition_of, is_open, takes_write, takes_fetch}
use Rattle.protocol.specs.Plan.{land, land_fetch, lands, landing, landing_fetch, plan}
use Rattle.protocol.specs.Perform.{landed_flags, landed_state, data_store, perform}
use Rattle.protocol.specs.Kinds.{Purpose, to_land_fetch, to_land, aims, a_service, kind}
use Rattle.protocol.specs.declared.Refusal.TheVariants.{WrongLength, BlockTooHigh, WrongState}
use Rattle.protocol.specs.Judge.{length_test, state_test, test, judged}
use Rattle.protocol.specs.Calls.{effect_of}
use Rattle.protocol.specs.Beside.{Landing, of_write, of_fetch, landing_call, landing_block, LandsOpen, OtherBlock, TwoOpen, landed, EitherOrder, StillOpen}
use Rattle.laws.proofs.refine.Flags.{changed_landed}
use Rattle.laws.proofs.refine.Conditions.{Held, Stands, is_writing_is, is_fetching, stands, condition_kept}
use Rattle.laws.proofs.Judged.{passed, accepted, does}
use Rattle.laws.proofs.Accepted.{Legal, callers-size, service_legal, service_ready, legal-first}
use Rattle.laws.proofs.Closed.{closed, closed_is, closed-legal}
use Rattle.laws.proofs.why.Answers.{plan_answers}
use Rattle.theorem.proofs.Reachable.{said_of}
use Rattle.theorem.proofs.UpdateFirst.{none_of}
use Rattle.theorem.proofs.StoresLegally.{stores_whole}

-- is it a write, what its call is for, and the bytes that it lands
abbrev is_write : Landing → Bool
is_write (of_write b page) = true
is_write (of_fetch b) = false

abbrev purpose_of : Landing → Purpose
purpose_of (of_write b page) = to_land page
purpose_of (of_fetch b) = to_land_fetch

abbrev bytes_of : Landing → Box → List ℕ
bytes_of (of_write b page) x = page
bytes_of (of_fetch b) x = page_at x.images.hdd (block_place (label_in x.state) b)

kind_is : (c : Landing) → kind (landing_call c) ≡ a_service (aims (landing_block c) (purpose_of c))
kind_is (of_write b page) = refl
kind_is (of_fetch b) = refl

-- no reason refuses a landing, and its block is open for it, at this slot
record Goes (c : Landing) (x : Box) (s : Slot) : Type 0 where
  no_reason : judged (landing_call c) x ≡ None
  open_there : condition_of x.table (landing_block c) ≡ open_as (is_write c) s

takes_it : (c : Landing) (x : Box) → judged (landing_call c) x ≡ None
    → state_test (purpose_of c) (condition_of x.table (landing_block c)) ≡ true
unfolding test
takes_it (of_write b page) x e = not-false _ (passed (land b page) x e WrongState refl)
takes_it (of_fetch b) x e = not-false _ (passed (land_fetch b) x e WrongState refl)

open_at : (c : Landing) (z : Condition) → is_open z ≡ true → state_test (purpose_of c) z ≡ true → (s : Slot) × (z ≡ open_as (is_write c) s)
open_at c NotCached o t = clash {b = false} o refl
open_at c (Clean s) o t = clash {b = false} o refl
open_at c (Dirty s) o t = clash {b = false} o refl
open_at (of_write b page) (Writing s) o t = (s, refl)
open_at (of_fetch b) (Writing s) o t = clash {b = false} t refl
open_at (of_write b page) (Fetching s) o t = clash {b = false} t refl
open_at (of_fetch b) (Fetching s) o t = (s, refl)

goes : (c : Landing) (x : Box) → LandsOpen c x → (s : Slot) × Goes c x s
goes c x O =
    let e = none_of (landing_call c) x O.accepted in
    let q = open_at c (condition_of x.table (landing_block c)) O.is_open_is (takes_it c x e) in
    (q.0, record { no_reason = e; open_there = q.1 })

lands_open : (c : Landing) (x : Box) (s : Slot) → Goes c x s → LandsOpen c x
lands_open c x s G = record {
  accepted = said_of (landing_call c) x G.no_reason ∙ plan_answers (landing_call c) x G.no_reason;
  is_open_is = ap is_open G.open_there ∙ always (is_write c);
}
  where
    always : (w : Bool) → is_open (open_as w s) ≡ true
    always true = refl
    always false = refl

opened : (l : Label) (t : List ℕ) (b : ℕ) (w : Bool) (s : Slot) → Stands l t b (open_as w s)
    → Held l t b s.0 × (writing (get_or t (2 * s.0 + 1) 0) ≡ true)
opened l t b true s (is_writing_is u H o d) = (H, o)
opened l t b false s (is_fetching u H o d) = (H, o)

-- what it does
module _ (c : Landing) (x : Box) (s : Slot) (G : Goes c x s) where
  -- the box with the slot closed
  abbrev shut : Box
  shut = closed (is_write c) s (bytes_of c x) x

  box-legal : Legal x
  box-legal = service_legal (landing_call c) x (kind_is c) G.no_reason

  box-ready : x.state.phase ≡ Ready
  box-ready = service_ready (landing_call c) x (kind_is c) G.no_reason

  in_slot : Held (label_in x.state) x.table (landing_block c).0 s.0 × (writing (get_or x.table (2 * s.0 + 1) 0) ≡ true)
  in_slot = opened (label_in x.state) x.table (landing_block c).0 (is_write c) s
      (subst (λ (z : Condition). Stands (label_in x.state) x.table (landing_block c).0 z) G.open_there
      (stands (label_in x.state) x.table box-legal.table-size (landing_block c)))

  moves : (d : Landing) → condition_of x.table (landing_block d) ≡ open_as (is_write d) s
      → plan (landing_call d) x ≡ lands (is_write d) s (bytes_of d x)
  unfolding plan
  moves (of_write b page) q = ap (landing page) q
  moves (of_fetch b) q = ap (landing_fetch x b) q

  effect_is : effect_of (landing_call c) x ≡ perform (lands (is_write c) s (bytes_of c x)) x
  effect_is = does (landing_call c) x _ G.no_reason (moves c G.open_there)

  whole : length (bytes_of c x) ≡ 4096
  unfolding perform
  whole = stores_whole (landing_call c) x (data_store s (bytes_of c x) x) (ap (λ (e : Effect). e.store) effect_is)

  landed_is : landed c x ≡ shut
  landed_is = ap (λ (e : Effect). box_after (left e x.images)) effect_is ∙ closed_is (is_write c) s (bytes_of c x) x in_slot.1

  shut_legal : Legal shut
  shut_legal = closed-legal x box-legal box-ready (is_write c) s in_slot.0.low in_slot.0.held (bytes_of c x) whole

  -- another block's condition is as it was, so its landing goes as before
  other-kept : (b : Block) → (landing_block c).0 ≢ b.0 → condition_of shut.table b ≡ condition_of x.table b
  other-kept b n = condition_kept x.table s.0 _ b
      (changed_landed (is_write c) (box-legal.rows s.0 in_slot.0.low).flags 0 in_slot.0.held).still
      (λ e. n (sym in_slot.0.block ∙ e))

  still_judged : (d : Landing) → OtherBlock c d → judged (landing_call d) x ≡ None → judged (landing_call d) shut ≡ None
  unfolding test
  still_judged (of_write b page) n e =
      let q = passed (land b page) x e in
      let size = (and_parts (length_test (label_in x.state) x.images x.table) _ (not-false _ (q WrongLength refl))).1 in
      accepted (land b page) shut (legal-first shut shut_legal box-ready (land b page) refl size)
      (q BlockTooHigh refl, (ap (λ (z : Condition). not (takes_write z)) (other-kept b n) ∙ q WrongState refl, tt))
  still_judged (of_fetch b) n e =
      let q = passed (land_fetch b) x e in
      accepted (land_fetch b) shut (legal-first shut shut_legal box-ready (land_fetch b) refl refl)
      (q BlockTooHigh refl, (ap (λ (z : Condition). not (takes_fetch z)) (other-kept b n) ∙ q WrongState refl, tt))

  still_goes : (d : Landing) (t : Slot) → OtherBlock c d → Goes d x t → Goes d shut t
  still_goes d t n H = record {
    no_reason = still_judged d n H.no_reason;
    open_there = other-kept (landing_block d) n ∙ H.open_there;
  }

  bytes-kept : (d : Landing) → bytes_of d shut ≡ bytes_of d x
  bytes-kept (of_write b page) = refl
  bytes-kept (of_fetch b) = refl

-- two slots are closed in either order
module _ (x : Box) (L : Legal x) (v w : Bool) (s t : Slot) (n : s.0 ≢ t.0) where
  window_back : (u : Slot) → window_in (landed_state true u x.state) ≡ without u (window_in x.state)
  window_back u =
      window_in_lem x.state.label x.state.hand x.state.newest x.state.phase true (without u (window_in x.state))
      (caller_array (beside u (window_in x.state) (callers_in x.state)))

  callers_back : (u : Slot) → callers_in (landed_state true u x.state) ≡ beside u (window_in x.state) (callers_in x.state)
  unfolding callers_in
  callers_back u =
      let cs : List ℕ = beside u (window_in x.state) (callers_in x.state) in
      let k : length cs ≡ length (without u (window_in x.state)) =
      length-beside u (window_in x.state) (callers_in x.state) (callers-size x L) in
      ap (λ (m : ℕ). take m (caller_array cs)) (sym k) ∙ take-callers cs

  flags_kept : (a b f : ℕ) → a ≢ b → get_or (set x.table (2 * a + 1) f) (2 * b + 1) 0 ≡ get_or x.table (2 * b + 1) 0
  flags_kept a b f m = get_or-set_other x.table (2 * a + 1) (2 * b + 1) f 0 (λ e. m (omega arith))

  closed_comm : s.0 < x.state.label.slots → t.0 < x.state.label.slots → (p q : List ℕ) → length p ≡ 4096 → length q ≡ 4096
      → closed w t q (closed v s p x) ≡ closed v s p (closed w t q x)
  closed_comm low low' p q size size' =
      let f = landed_flags v (get_or x.table (2 * s.0 + 1) 0) in
      let g = landed_flags w (get_or x.table (2 * t.0 + 1) 0) in
      let pages = put_comm x.images.ssd p q (data_place (label_in x.state) s) (data_place (label_in x.state) t)
      (datas_apart (label_in x.state) s t n) (rw L.ssd-size (data_within (label_in x.state) s low))
      (rw L.ssd-size (data_within (label_in x.state) t low')) size size' in
      let rows = ap (λ (h : ℕ). set (set x.table (2 * s.0 + 1) f) (2 * t.0 + 1) (landed_flags w h)) (flags_kept s.0 t.0 f n)
      ∙ set_comm x.table (2 * s.0 + 1) (2 * t.0 + 1) f g (λ e. n (omega arith))
      ∙ sym (ap (λ (h : ℕ). set (set x.table (2 * t.0 + 1) g) (2 * s.0 + 1) (landed_flags v h))
      (flags_kept t.0 s.0 g (λ e. n (sym e)))) in
      let window = ap (without t) (window_back s) ∙ without_comm t s (window_in x.state) ∙ sym (ap (without s) (window_back t)) in
      let callers : beside t (window_in (landed_state true s x.state)) (callers_in (landed_state true s x.state))
      ≡ beside s (window_in (landed_state true t x.state)) (callers_in (landed_state true t x.state)) =
      (λ i. beside t (window_back s i) (callers_back s i)) ∙ beside_comm t s (window_in x.state) (callers_in x.state)
      ∙ sym (λ i. beside s (window_back t i) (callers_back t i))
      in
      (λ i. record {
        images = record { ssd = pages i; hdd = x.images.hdd };
        table = rows i;
        state = with_callers (with_window x.state true (window i)) (callers i);
      })

-- the two landings
module _ (c d : Landing) (x : Box) (T : TwoOpen c d x) where
  abbrev at : (s : Slot) × Goes c x s
  at = goes c x T.one

  abbrev at' : (s : Slot) × Goes d x s
  at' = goes d x T.other

  still : LandsOpen d (landed c x)
  still = subst (LandsOpen d) (sym (landed_is c x at.0 at.1))
      (lands_open d _ at'.0 (still_goes c x at.0 at.1 d at'.0 T.different at'.1))

  -- one and then the other closes both slots
  both_closed : landed d (landed c x) ≡ closed (is_write d) at'.0 (bytes_of d x) (closed (is_write c) at.0 (bytes_of c x) x)
  both_closed =
      ap (landed d) (landed_is c x at.0 at.1)
      ∙ landed_is d (shut c x at.0 at.1) at'.0 (still_goes c x at.0 at.1 d at'.0 T.different at'.1)
      ∙ ap (λ (p : List ℕ). closed (is_write d) at'.0 p (shut c x at.0 at.1)) (bytes-kept c x at.0 at.1 d)

  slots_apart_is : at.0.0 ≢ at'.0.0
  slots_apart_is e =
      T.different (sym (in_slot c x at.0 at.1).0.block ∙ ap (λ (u : ℕ). get_or x.table (2 * u) 0) e
      ∙ (in_slot d x at'.0 at'.1).0.block)

abbrev pub turned : {c d : Landing} {x : Box} → TwoOpen c d x → TwoOpen d c x
turned T = record { one = T.other; other = T.one; different = λ e. T.different (sym e) }

-- a landing stores a page
pub lands-store : (c : Landing) (x : Box) → LandsOpen c x → (s : Store) × ((effect_of (landing_call c) x).store ≡ Some s)
unfolding perform
lands-store c x O =
    let G = goes c x O in
    (data_store G.0 (bytes_of c x) x, ap (λ (e : Effect). e.store) (effect_is c x G.0 G.1))

pub still_open : StillOpen
still_open c d x T = (still c d x T, still d c x (turned T))

pub either_order : EitherOrder
either_order c d x T =
    let G = goes c x T.one in
    let H = goes d x T.other in
    both_closed c d x T
    ∙ closed_comm x (box-legal c x G.0 G.1) (is_write c) (is_write d) G.0 H.0 (slots_apart_is c d x T)
    (in_slot c x G.0 G.1).0.low (in_slot d x H.0 H.1).0.low (bytes_of c x) (bytes_of d x) (whole c x G.0 G.1)
    (whole d x H.0 H.1)
    ∙ sym (both_closed d c x (turned T))
