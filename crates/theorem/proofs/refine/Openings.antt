-- Slots of one metadata page are opened one after another: the model sees each, as the one before left it.
use Prim.Native.Nat.{ℕ, ◌-◌, ◌%◌, ◌<◌}
use mathlib.Core.Path.{◌≡◌, refl, sym, ap, ◌∙◌}
use mathlib.Core.Logic.{◌≢◌, ◌⊎◌, inl, inr}
use mathlib.Core.Bool.{true, false, cond}
use mathlib.Core.List.{List, [], ◌∷◌, ◌++◌}
use native.Mathlib.Omega.{arith}
use lib.ListN.{length}
use lib.Dec.{eqb}
use Rattle.layout.specs.declared.Slot.{Slot}
use Rattle.layout.specs.declared.Block.{Block}
use Rattle.layout.specs.declared.Label.{Label}
use Rattle.layout.specs.Places.{meta_pages}
use Rattle.layout.proofs.StampLaws.{stamps_enough}
use Rattle.layout.proofs.PlaceLaws.{meta_of-low}
use Rattle.protocol.specs.Rows.{set_row, open_rows}
use Rattle.record.specs.Callers.{caller_array}
use Rattle.record.specs.Record.{label_in, window_in, callers_in}
use Rattle.protocol.specs.Box.{Box}
use Rattle.laws.proofs.model.Base.{upd, meta_no}
use Rattle.laws.proofs.model.Model as model
use Rattle.laws.proofs.model.Model.{Row, Model, Plain, block_of, stored, opened}
use Rattle.theorem.proofs.model.Moves.{Opens}
use Rattle.theorem.proofs.model.Announced.{restamped, Chain, none_yet, one_more, chain-ready, chain_spare, chain-rest}
use Rattle.laws.proofs.refine.Windows.{nums, length_nums, nums_append, nums_one}
use Rattle.laws.proofs.refine.Flags.{row_of}
use Rattle.laws.proofs.refine.Tables.{row_at, Rows, set_at, at_block, at_valid}
use Rattle.laws.proofs.refine.Conditions.{Held}
use Rattle.laws.proofs.refine.Abstract.{Core, box_of_core, abs, CallersKept, Shape, ready_sound}
use Rattle.laws.proofs.refine.Callers.{joined-kept}
use Rattle.record.proofs.RecordLaws.{window_in_lem}
use Rattle.laws.proofs.Sound.{Sound, room}
use Rattle.laws.proofs.Does.{Absent, Opening, Openings, opens_one, opens_more, later, grown-window, openings_sound}

-- a slot that holds a block, in the model
pub held_row : {l : Label} {t : List ℕ} → Rows l t → {b s : ℕ} → Held l t b s
    → (model.valid (row_at t s) ≡ true) × (block_of (row_at t s) ≡ b)
held_row {l} {t} R {b} {s} H = (at_valid l t R s H.low ∙ H.held, at_block l t R s H.low H.held ∙ H.block)

-- a model that shows a box's table and this window
pub record Shows (z : Box) (w : List Slot) (y : Model) : Type 0 where
  pub row : (u : ℕ) → y.row u ≡ row_at z.table u
  pub window : y.window ≡ nums w
  pub slots : y.slots ≡ z.state.label.slots
  pub blocks : y.blocks ≡ z.state.label.blocks

module _ {z : Box} {w : List Slot} {y : Model} {p : Plain} (S : Sound (label_in z.state) z.table w) (R : model.Ready y p) (W : Shows z w y)
    {s : Slot} {b : Block} {c f : ℕ} {v : List ℕ} {hand : Slot} (O : Opening z s b c f v hand) where
  abbrev row' : Row
  row' = row_of b.0 (f % 8)

  -- no other slot holds the block
  fresh-row : Absent (label_in z.state) z.table b.0 ⊎ Held (label_in z.state) z.table b.0 s.0 → (t : ℕ) → t ≢ s.0
      → model.valid (y.row t) ≡ true → block_of (y.row t) ≢ b.0
  fresh-row (inl h) t n v e =
      let i : t < z.state.label.slots = rw (← W.slots) (R.in_range_is t v) in
      let q = sym (at_valid _ z.table S.legal t i) ∙ ap model.valid (sym (W.row t)) ∙ v in
      h t i q (sym (at_block _ z.table S.legal t i q) ∙ ap block_of (sym (W.row t)) ∙ e)
  fresh-row (inr H) t n v e =
      let r = held_row S.legal H in
      n (R.once t s.0 v (ap model.valid (W.row s.0) ∙ r.0) (e ∙ sym (ap block_of (W.row s.0) ∙ r.1)))

  asks : y.newest < y.top - 63 → Opens y s.0 row'
  asks spare = record {
    is_open_is = O.is_open_is;
    in_blocks = rw (O.block_is, W.blocks) O.block-low;
    was_shut = ap model.open_row (W.row s.0) ∙ O.was_shut;
    was_clean = ap model.dirty_row (W.row s.0) ∙ O.was_clean;
    fresh = λ t n q. rw O.block_is (fresh-row O.fresh t n q);
    slot_below_is = rw W.slots O.low;
    room = rw W.window (room S O.few);
    stamps-left = spare;
  }

  row-after : (u : ℕ) → row_at (set_row v s b f) u ≡ upd y.row s.0 row' u
  unfolding upd
  row-after u = set_at (label_in z.state) v O.alike.size s.0 b.0 f O.low u
      ∙ ap (λ (r : Row). cond (eqb u s.0) row' r) (O.alike.row u ∙ sym (W.row u))

  window-after : nums (w ++ (s ∷ [])) ≡ y.window ++ (s.0 ∷ [])
  window-after = nums_append w (s ∷ []) ∙ rw (W.window, nums_one s)

-- of a reachable box that is ready
module _ (l : Label) (k : Core) (S : Shape l k) (p : Plain) (R : model.Ready (abs l k) p) (q : ℕ) where
  abbrev x : Model
  x = abs l k

  -- what openings on page q leave: the last one, in the model that the ones before left, and that hand, page and callers keep their rules
  pub record Last (t : List ℕ) (h : Slot) (w : List Slot) (cs : List ℕ) : Type 0 where
    pub before : Model
    pub chain : Chain q x before
    pub slot : ℕ
    pub row : Row
    pub on_page_is : meta_no slot ≡ q
    pub asked : Opens before slot row
    pub rows : (u : ℕ) → row_at t u ≡ upd before.row slot row u
    pub window : nums w ≡ before.window ++ (slot ∷ [])
    pub hand-low : h.0 < l.slots
    pub page-low : q < meta_pages l
    pub callers : CallersKept false w (caller_array cs)

  on : k.recovering ≡ false
  on = unfold abs in R.phase

  sound : Sound l k.table (window_in (box_of_core l k).state)
  sound = rw window_in_lem (ready_sound l k S p R)

  page_of_is : (s : Slot) → s.0 < l.slots → meta_no s.0 ≡ q → q < meta_pages l
  unfolding meta_no
  page_of_is s low e = rw (← e) (meta_of-low l s low)

  many : 126 < x.top
  unfolding abs
  many = omega (arith, stamps_enough l)

  -- the model shows the box and its window
  starts : Shows (box_of_core l k) (window_in (box_of_core l k).state) (restamped 0 x)
  unfolding restamped abs
  starts = record { row = λ u. refl; window = ap nums (sym (window_in_lem _ _ _ _ _ _ _)); slots = refl; blocks = refl }

  few : {t : List ℕ} {w : List Slot} → Sound l t w → open_rows t < 63 → length w < 63
  few {w = w} T h = omega (arith, room T h, length_nums w)

  goes : {t : List ℕ} {h : Slot} {w : List Slot} {cs : List ℕ} (E : Last t h w cs)
      → Shows (later (box_of_core l k) t h w cs) (window_in (later (box_of_core l k) t h w cs).state) (opened E.slot E.row E.before)
  unfolding stored abs
  goes {t} {h} {w} {cs} E = record {
    row = λ u. sym (E.rows u);
    window = sym E.window ∙ ap nums (sym (grown-window (box_of_core l k).state h w cs));
    slots = sym (chain-rest q x p R E.chain).slots;
    blocks = sym (chain-rest q x p R E.chain).blocks;
  }

  pub last : {t : List ℕ} {h : Slot} {w : List Slot} {cs : List ℕ} → Openings (box_of_core l k) q t h w cs → Last t h w cs
  unfolding callers_in meta_no
  last (opens_one {s} {b} {c} {f} {v} O e) =
      let C : Chain q x (restamped 0 x) = none_yet in
      let Y = chain-ready q x p R C in
      record {
        before = restamped 0 x;
        chain = C;
        slot = s.0;
        row = row_of b.0 (f % 8);
        on_page_is = e;
        asked = asks sound Y starts O (chain_spare q x p R C many);
        rows = row-after sound Y starts O;
        window = window-after sound Y starts O;
        hand-low = O.hand-low;
        page-low = page_of_is s O.low e;
        callers =
            let F : length k.window < 63 = few (ready_sound l k S p R) O.few in
            rw window_in_lem (joined-kept (rw on at S.callers) (omega (arith, F)) s c F O.known O.import_few);
      }
  last (opens_more {t} {h} {w} {cs} {s} {b} {c} {f} {v} Os O e) =
      let E = last Os in
      let C : Chain q x (opened E.slot E.row E.before) = one_more E.chain E.on_page_is E.asked in
      let Y = chain-ready q x p R C in
      let T : Sound l t w = openings_sound Os sound in
      let z : Box = later (box_of_core l k) t h w cs in
      let W : Shows z (window_in z.state) (opened E.slot E.row E.before) = goes E in
      record {
        before = opened E.slot E.row E.before;
        chain = C;
        slot = s.0;
        row = row_of b.0 (f % 8);
        on_page_is = e;
        asked = asks (rw grown-window T) Y W O (chain_spare q x p R C many);
        rows = row-after (rw grown-window T) Y W O;
        window = window-after (rw grown-window T) Y W O;
        hand-low = O.hand-low;
        page-low = page_of_is s O.low e;
        callers =
            let F : length w < 63 = few T O.few in
            rw grown-window (joined-kept E.callers (omega (arith, F)) s c F O.known O.import_few);
      }
