-- What a block of a ready box reads as, and the slot that a look-up names, are the model's.
use Prim.Native.Nat.{ℕ, ◌+◌, ◌*◌, ◌<◌}
use mathlib.Core.Path.{◌≡◌, refl, sym, ap, ◌∙◌}
use mathlib.Core.Logic.{◌≢◌}
use mathlib.Core.Bool.{true, false, cond}
use Rattle.std.specs.Prelude.{Option, Some, None}
use Rattle.std.proofs.lemmas.Option.{none-some}
use lib.ListN.{get_or}
use Rattle.pages.specs.Pages.{page_at}
use Rattle.pages.specs.Parts.{page_part}
use Rattle.layout.specs.declared.Slot.{Slot}
use Rattle.layout.specs.declared.Block.{Block}
use Rattle.layout.specs.declared.Label.{Label}
use Rattle.layout.specs.Places.{data_place}
use Rattle.protocol.specs.declared.Condition.{Condition}
use Rattle.protocol.specs.declared.Condition.TheVariants.{NotCached, Clean, Dirty, Writing, Fetching}
use Rattle.protocol.specs.Rows.{valid, writing}
use Rattle.protocol.specs.Condition.{condition_of}
use Rattle.protocol.specs.Plan.{look_up, view, looking_up, plan}
use Rattle.protocol.specs.Perform.{perform}
use Rattle.protocol.specs.declared.Refusal.{Refusal}
use Rattle.protocol.specs.Calls.{effect_of, result_of, view_part, viewed, view_of}
use Rattle.protocol.specs.Events.{lent, read_of}
use Rattle.protocol.specs.Demand3.{slot_said}
use Rattle.layout.proofs.Booleans.{Told, told, told_true, told_false}
use Rattle.laws.proofs.model.Model as model
use Rattle.laws.proofs.model.Base.{Window}
use Rattle.laws.proofs.model.Model.{Plain, Linked, Stored, open_row, block_of}
use Rattle.theorem.proofs.model.View as seen
use Rattle.theorem.proofs.model.View.{Found, found, view_at}
use Rattle.theorem.proofs.model.Places.{shut_at}
use Rattle.theorem.proofs.model.Places as places
use Rattle.laws.proofs.refine.Tables.{row_at, at_open, at_block, at_valid}
use Rattle.laws.proofs.refine.Conditions.{Held, Stands, absent, is_clean, is_dirty, is_writing_is, is_fetching, stands}
use Rattle.theorem.proofs.refine.Passes.{view_judged, look_judged}
use Rattle.laws.proofs.Sound.{Sound}
use Rattle.laws.proofs.refine.Abstract.{Core, box_of_core, abs, Shape, ready_sound}

-- the closed slot of a condition, and the page
abbrev pub closed_slot : Condition → Option Slot
closed_slot NotCached = None
closed_slot (Clean s) = Some s
closed_slot (Dirty s) = Some s
closed_slot (Writing s) = None
closed_slot (Fetching s) = None

abbrev pub as_slot : Option ℕ → Option Slot
as_slot None = None
as_slot (Some s) = Some (record { 0 = s })

-- a ready box whose blocks can be found: table and window are sound, and no block is in two rows
pub record Legible (l : Label) (k : Core) : Type 0 where
  pub on : k.recovering ≡ false
  pub sound : Sound l k.table k.window
  pub once : (s t : ℕ) → model.valid (row_at k.table s) ≡ true → model.valid (row_at k.table t) ≡ true
      → block_of (row_at k.table s) ≡ block_of (row_at k.table t) → s ≡ t

pub ready_legible : (l : Label) (k : Core) → Shape l k → (p : Plain) → model.Ready (abs l k) p → Legible l k
unfolding abs
ready_legible l k S p R = record { on = R.phase; sound = ready_sound l k S p R; once = R.once }

-- so it is where the rows are linked to stored entries
pub linked_legible : (l : Label) (k : Core) → Shape l k → (p : Plain) → Stored (abs l k) p → k.recovering ≡ false
    → Window (abs l k).slots (abs l k).window → Linked (abs l k) → Legible l k
unfolding abs
linked_legible l k S p St on W L = record {
  on = on;
  sound = record { size = S.table-size; legal = S.rows; rule = W; open_is = L.open_row_is };
  once = λ s t v w e. St.once s t (L.same-valid s ∙ v) (L.same-valid t ∙ w) (L.same_block s ∙ e ∙ sym (L.same_block t));
}

module _ (l : Label) (k : Core) (S : Shape l k) (R : Legible l k) (b : ℕ) (b-low : b < l.blocks) where
  block : Block
  block = record { 0 = b }

  -- the row that holds the block, in table and model
  record Both (s : ℕ) : Type 0 where
    held : model.valid (row_at k.table s) ≡ true
    blocked : block_of (row_at k.table s) ≡ b

  both : (s : ℕ) → Held l k.table b s → Both s
  both s H = record {
    held = at_valid l k.table S.rows s H.low ∙ H.held;
    blocked = at_block l k.table S.rows s H.low H.held ∙ H.block;
  }

  one : (s t : ℕ) → Both s → model.valid (row_at k.table t) ≡ true → block_of (row_at k.table t) ≡ b → t ≡ s
  one s t B v e = R.once t s v B.held (e ∙ sym B.blocked)

  -- what the model finds where the table finds slot s
  pub model_at : (s : ℕ) → Held l k.table b s
      → (view_at (abs l k) b (seen.find (row_at k.table) l.slots b) ≡ cond (writing (get_or k.table (2 * s + 1) 0))
      (page_at k.hdd b) (page_at k.ssd (data_place l (record { 0 = s }))))
      × (shut_at (abs l k) (seen.find (row_at k.table) l.slots b) ≡ cond (writing (get_or k.table (2 * s + 1) 0)) None (Some s))
  unfolding abs
  model_at s H = go (found (row_at k.table) l.slots b)
    where
      go : {o : Option ℕ} → Found (row_at k.table) l.slots b o
          → (view_at (abs l k) b o ≡ cond (writing (get_or k.table (2 * s + 1) 0)) (page_at k.hdd b)
          (page_at k.ssd (data_place l (record { 0 = s })))) × (shut_at (abs l k) o
          ≡ cond (writing (get_or k.table (2 * s + 1) 0)) None (Some s))
      go (Found.nowhere h) = absurd (h s H.low (both s H).held (both s H).blocked)
      go (Found.at t i v e) =
          let q : t ≡ s = one s t (both s H) v e in
          rw (q, at_open l k.table S.rows s H.low) (refl, refl)

  model_none : ((s : ℕ) → s < l.slots → valid (get_or k.table (2 * s + 1) 0) ≡ true → get_or k.table (2 * s) 0 ≢ b)
      → seen.find (row_at k.table) l.slots b ≡ None
  model_none h = go (found (row_at k.table) l.slots b)
    where
      go : {o : Option ℕ} → Found (row_at k.table) l.slots b o → o ≡ None
      go (Found.nowhere n) = refl
      go (Found.at t i v e) =
          let q = sym (at_valid l k.table S.rows t i) ∙ v in
          absurd (h t i q (sym (at_block l k.table S.rows t i q) ∙ e))

  -- page and slot by the condition
  by_condition : {z : Condition} → Stands l k.table b z
      → ((view_part (lent k.ssd) (lent k.hdd) l block z).bytes ≡ view_at (abs l k) b (seen.find (row_at k.table) l.slots b))
      × (closed_slot z ≡ as_slot (shut_at (abs l k) (seen.find (row_at k.table) l.slots b)))
  unfolding page_part block
  by_condition (absent h) = rw (model_none h) (unfold abs in (refl, refl))
  by_condition (is_clean s H ws ds) = let m = model_at s H in rw (m.0, m.1, ws) (refl, refl)
  by_condition (is_dirty s H ws ds) = let m = model_at s H in rw (m.0, m.1, ws) (refl, refl)
  by_condition (is_writing_is s H ws ds) = let m = model_at s H in rw (m.0, m.1, ws) (refl, refl)
  by_condition (is_fetching s H ws ds) = let m = model_at s H in rw (m.0, m.1, ws) (refl, refl)

  here : Stands l k.table b (condition_of k.table block)
  unfolding block
  here = stands l k.table S.table-size (record { 0 = b })

  -- a view is not refused, and reads as the model says
  pub view_number : (view_of (lent k.ssd) (lent k.hdd) k.table (box_of_core l k).state (record { 0 = b })).number ≡ 0
  unfolding view_of
  view_number = rw (view_judged l k S R.sound R.on (record { 0 = b }) b-low)

  pub read_view : read_of (box_of_core l k) (record { 0 = b }) ≡ seen.view (abs l k) b
  unfolding read_of view_of seen.view block abs
  read_view =
      ap (λ (o : Option Refusal). (viewed o (lent k.ssd) (lent k.hdd) l (record { 0 = b })
      (condition_of k.table (record { 0 = b }))).handed.bytes) (view_judged l k S R.sound R.on (record { 0 = b }) b-low)
      ∙ (by_condition here).0

  -- the closed slot that a look-up names
  said-slot : (z : Condition) → slot_said (perform (looking_up z) (box_of_core l k)).said ≡ closed_slot z
  unfolding perform
  said-slot NotCached = refl
  said-slot (Clean s) = refl
  said-slot (Dirty s) = refl
  said-slot (Writing s) = refl
  said-slot (Fetching s) = refl

  pub look_slot : slot_said (result_of (look_up (record { 0 = b })) (box_of_core l k)).said ≡ as_slot (places.slot_of (abs l k) b)
  unfolding effect_of plan places.slot_of block abs
  look_slot = rw (look_judged l k S R.sound R.on (record { 0 = b }) b-low)
      (said-slot (condition_of k.table (record { 0 = b })) ∙ (by_condition here).1)

  -- the slot that a look-up names holds the page
  named : (o : Option ℕ) (s : Slot) → as_slot (shut_at (abs l k) o) ≡ Some s → view_at (abs l k) b o ≡ page_at k.ssd (data_place l s)
  unfolding abs
  named None s e = absurd (none-some s e)
  named (Some t) s e = go (told (open_row (row_at k.table t)))
    where
      number_of : Option Slot → ℕ
      number_of None = 0
      number_of (Some u) = u.0

      go : Told (open_row (row_at k.table t)) → cond (open_row (row_at k.table t)) (page_at k.hdd b)
          (page_at k.ssd (data_place l (record { 0 = t }))) ≡ page_at k.ssd (data_place l s)
      go (told_true o) = absurd (none-some s (rw o at e))
      go (told_false o) =
          let f : as_slot (Some t) ≡ Some s = rw o at e in
          let q : t ≡ s.0 = ap number_of f in
          rw o (ap (λ (n : ℕ). page_at k.ssd (data_place l (record { 0 = n }))) q)

  pub look_page : (s : Slot) → slot_said (result_of (look_up (record { 0 = b })) (box_of_core l k)).said ≡ Some s
      → seen.view (abs l k) b ≡ page_at k.ssd (data_place l s)
  unfolding seen.view places.slot_of abs
  look_page s e = named (seen.find (row_at k.table) l.slots b) s (sym look_slot ∙ e)
