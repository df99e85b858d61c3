-- Where a block is, by the definition and by the model.
use Prim.Native.Nat.{ℕ, ◌+◌, ◌*◌, ◌<◌}
use mathlib.Core.Path.{◌≡◌, refl, sym, ap, subst, ◌∙◌}
use mathlib.Core.Logic.{◌≢◌}
use mathlib.Core.Bool.{Bool, true, false, ◌||◌, or-true}
use mathlib.Core.List.{List, [], ◌∷◌}
use Rattle.std.specs.Prelude.{Option, Some, None}
use native.Mathlib.Omega.{arith}
use native.Mathlib.Nat.{zero-add}
use lib.ListN.{length, get_or}
use lib.Dec.{eqb}
use borrow.Author.Tests.{eqb-true}
use Rattle.pages.specs.Pages.{page_at}
use Rattle.layout.specs.declared.Slot.{Slot}
use Rattle.layout.specs.declared.Block.{Block}
use Rattle.layout.specs.declared.Label.{Label}
use Rattle.layout.specs.declared.Entry.{Entry}
use Rattle.layout.specs.PageRule.{listed}
use Rattle.protocol.specs.Rows.{valid}
use Rattle.protocol.specs.Condition.{slot_from}
use Rattle.protocol.specs.Recovery.{metas_of, entry_in, newest_of, stored_rows}
use Rattle.protocol.specs.Judge.{is_ready}
use Rattle.protocol.specs.Demand3.{Outside, in_window, Place, entry_place, stored_slot, place_if, place}
use Rattle.layout.proofs.Booleans.{Told, told, told_true, told_false, clash}
use Rattle.laws.proofs.model.Base.{has, eqb_same}
use Rattle.laws.proofs.model.Model as model
use Rattle.laws.proofs.model.Model.{Plain, Stored, Revived, block_of}
use Rattle.theorem.proofs.model.View as seen
use Rattle.theorem.proofs.model.View.{Found, found, view_at}
use Rattle.theorem.proofs.model.Places as places
use Rattle.theorem.proofs.model.Places.{shut_at, row_shut, down_outside, down_inside}
use Rattle.laws.proofs.refine.Windows.{has_nums}
use Rattle.laws.proofs.refine.Tables.{row_at}
use Rattle.laws.proofs.refine.Conditions.{Located, located}
use Rattle.laws.proofs.refine.Entries.{length-rows, rows-block, rows_flags}
use Rattle.theorem.proofs.refine.Reopens.{valid_entry, block_entry, window-block, label_is}
use Rattle.theorem.proofs.refine.Views.{as_slot, Legible, linked_legible, read_view, look_slot}
use Rattle.theorem.proofs.Claims.{ready_off, unready_on}
use Rattle.laws.proofs.refine.Abstract.{Core, phase_for, box_of_core, entry_row, abs, Shape, Tied, by_ready, by_mending}

-- the model's
abbrev pub model_place : Label → Core → ℕ → Place
model_place l k b = record { slot = as_slot (places.slot_of (abs l k) b); page = seen.view (abs l k) b }

-- a block in the window, or in none of its slots
pub data InWindow (pages : List (List ℕ)) (w : List Slot) (b : Block) : Bool → Type 0 where
  inside : (s : Slot) → listed s w ≡ true → (entry_in pages s).block.0 ≡ b.0 → InWindow pages w b true
  outside : ((s : Slot) → listed s w ≡ true → (entry_in pages s).block.0 ≢ b.0) → InWindow pages w b false

pub in_window_lem : (pages : List (List ℕ)) (w : List Slot) (b : Block) → InWindow pages w b (in_window pages w b)
unfolding in_window listed
in_window_lem pages [] b = outside λ s h. clash {b = false} h refl
in_window_lem pages (s ∷ w) b = go (told (eqb (entry_in pages s).block.0 b.0)) (in_window_lem pages w b)
  where
    go : {r : Bool} → Told (eqb (entry_in pages s).block.0 b.0) → InWindow pages w b r
        → InWindow pages (s ∷ w) b (elim (eqb (entry_in pages s).block.0 b.0) [ true ↦ true | false ↦ r ])
    go (told_true e) I = rw e (inside s (rw (eqb_same s.0)) (eqb-true _ _ e))
    go (told_false e) (inside t h q) = rw e (inside t (rw h (or-true (eqb t.0 s.0))) q)
    go (told_false e) (outside h) = rw e (outside each)
      where
        each : (t : Slot) → (eqb t.0 s.0 || listed t w) ≡ true → (entry_in pages t).block.0 ≢ b.0
        each t q z = by (told (eqb t.0 s.0))
          where
            by : Told (eqb t.0 s.0) → ⊥
            by (told_true y) =
                let f : t.0 ≡ s.0 = eqb-true _ _ y in
                let g : entry_in pages t ≡ entry_in pages s = ap (λ (n : ℕ). entry_in pages (record { 0 = n })) f in
                clash {b = eqb (entry_in pages s).block.0 b.0} (rw (← g, z) (eqb_same b.0)) e
            by (told_false y) = h t (rw y at q) z

module _ (l : Label) (k : Core) (S : Shape l k) (p : Plain) (St : Stored (abs l k) p) (b : ℕ) where
  pages : List (List ℕ)
  pages = metas_of l k.ssd

  -- the lowest valid entry for the block is the model's
  pub stored_find : slot_from 0 (stored_rows l (metas_of l k.ssd)) (record { 0 = b }) ≡ as_slot
      (seen.find (entry_row l (metas_of l k.ssd)) l.slots b)
  stored_find = go (located 0 (stored_rows l (metas_of l k.ssd)) (record { 0 = b })) (found (entry_row l (metas_of l k.ssd)) l.slots b)
    where
      entry : ℕ → Entry
      entry s = entry_in (metas_of l k.ssd) (record { 0 = s })

      size : length (stored_rows l (metas_of l k.ssd)) ≡ 2 * l.slots
      size = length-rows l.slots entry

      flags_are : (s : ℕ) → s < l.slots → get_or (stored_rows l (metas_of l k.ssd)) (2 * s + 1) 0 ≡ (entry s).flags
      flags_are s h = rows_flags l.slots entry s h

      block_is : (s : ℕ) → s < l.slots → get_or (stored_rows l (metas_of l k.ssd)) (2 * s) 0 ≡ (entry s).block.0
      block_is s h = rows-block l.slots entry s h

      go : {o : Option Slot} {q : Option ℕ} → Located 0 (stored_rows l (metas_of l k.ssd)) b o
          → Found (entry_row l (metas_of l k.ssd)) l.slots b q → o ≡ as_slot q
      go (Located.nowhere h) (Found.nowhere g) = refl
      go (Located.nowhere h) (Found.at s i v e) =
          let f : valid (entry s).flags ≡ true = sym (valid_entry l k p S.images St s i) ∙ v in
          absurd (h s (omega (arith, size)) (ap valid (flags_are s i) ∙ f) (block_is s i ∙ sym (block_entry l k p S.images St s i f) ∙ e))
      go (Located.at i h v e low) (Found.nowhere g) =
          let j : i < l.slots = omega (arith, size) in
          let f : valid (entry i).flags ≡ true = sym (ap valid (flags_are i j)) ∙ v in
          absurd (g i j (valid_entry l k p S.images St i j ∙ f) (block_entry l k p S.images St i j f ∙ sym (block_is i j) ∙ e))
      go (Located.at i h v e low) (Found.at s m x y) =
          let j : i < l.slots = omega (arith, size) in
          let f : valid (entry i).flags ≡ true = sym (ap valid (flags_are i j)) ∙ v in
          let same : i ≡ s = once_of i s (valid_entry l k p S.images St i j ∙ f) x
          (block_entry l k p S.images St i j f ∙ sym (block_is i j) ∙ e ∙ sym y) in
          ap (λ (n : ℕ). Some (record { 0 = n })) (zero-add i ∙ same)
        where
          once_of : (s t : ℕ) → model.valid (entry_row l (metas_of l k.ssd) s) ≡ true → model.valid (entry_row l (metas_of l k.ssd) t) ≡ true
              → block_of (entry_row l (metas_of l k.ssd) s) ≡ block_of (entry_row l (metas_of l k.ssd) t) → s ≡ t
          once_of = unfold abs in St.once

  -- outside the window, as the model says it
  pub stored_outside : ((s : Slot) → listed s (newest_of (metas_of l k.ssd)).window ≡ true → (entry_in (metas_of l k.ssd) s).block.0 ≢ b)
      → places.Outside (abs l k) b
  unfolding abs
  stored_outside out s h e =
      let q : listed (record { 0 = s }) (newest_of (metas_of l k.ssd)).window ≡ true =
      sym (has_nums (newest_of (metas_of l k.ssd)).window s) ∙ h in
      out (record { 0 = s }) q (sym (window-block l k p S.images St s q) ∙ e)

  pub model_outside : Outside (record { ssd = k.ssd; hdd = k.hdd }) (record { 0 = b }) → places.Outside (abs l k) b
  model_outside out = stored_outside (subst (λ (a : Label). (s : Slot) → listed s (newest_of (metas_of a k.ssd)).window ≡ true
      → (entry_in (metas_of a k.ssd) s).block.0 ≢ b) (label_is l k p S.images St) out)

-- the place of a block
module _ (l : Label) (k : Core) (S : Shape l k) (p : Plain) (St : Stored (abs l k) p) (b : ℕ) (b-low : b < l.blocks) where
  ready-place : Legible l k → place_if true l (box_of_core l k) (record { 0 = b }) ≡ model_place l k b
  ready-place R = λ i. record { slot = look_slot l k S R b b-low i; page = read_view l k S R b b-low i }

  module _ (rows : Revived (abs l k)) where
    -- no row is open
    shut_all : (o : Option ℕ) → (shut_at (abs l k) o ≡ o) ×
        ((entry_place l (record { ssd = k.ssd; hdd = k.hdd }) (record { 0 = b }) (as_slot o)).page ≡ view_at (abs l k) b o)
    unfolding abs
    shut_all None = (refl, refl)
    shut_all (Some s) = rw (row_shut (abs l k) p St rows b s) (refl, refl)

    slot_of_entry : (o : Option Slot) → (entry_place l (record { ssd = k.ssd; hdd = k.hdd }) (record { 0 = b }) o).slot ≡ o
    slot_of_entry None = refl
    slot_of_entry (Some s) = refl

    none_is : places.slot_of (abs l k) b ≡ None → seen.view (abs l k) b ≡ page_at k.hdd b
        → entry_place l (record { ssd = k.ssd; hdd = k.hdd }) (record { 0 = b }) None ≡ model_place l k b
    none_is e f = λ i. record { slot = ap as_slot (sym e) i; page = sym f i }

    found_is : places.slot_of (abs l k) b ≡ seen.find (abs l k).entry (abs l k).slots b
        → entry_place l (record { ssd = k.ssd; hdd = k.hdd }) (record { 0 = b })
        (slot_from 0 (stored_rows l (metas_of l k.ssd)) (record { 0 = b })) ≡ model_place l k b
    unfolding seen.view places.slot_of abs
    found_is e =
        let o : Option ℕ = seen.find (row_at k.table) l.slots b in
        let same : slot_from 0 (stored_rows l (metas_of l k.ssd)) (record { 0 = b }) ≡ as_slot o = stored_find l k S p St b
        ∙ ap as_slot (sym e ∙ (shut_all o).0) in
        rw same (λ i. record { slot = (slot_of_entry (as_slot o) ∙ ap as_slot (sym (shut_all o).0)) i; page = (shut_all o).1 i })

    mending_place : place_if false l (box_of_core l k) (record { 0 = b }) ≡ model_place l k b
    mending_place = go (in_window_lem (metas_of l k.ssd) (newest_of (metas_of l k.ssd)).window (record { 0 = b }))
      where
        hdd_is : (abs l k).hdd b ≡ page_at k.hdd b
        hdd_is = unfold abs in refl

        go : {r : Bool} → InWindow (metas_of l k.ssd) (newest_of (metas_of l k.ssd)).window (record { 0 = b }) r
            → entry_place l (record { ssd = k.ssd; hdd = k.hdd }) (record { 0 = b })
            (stored_slot r l (record { ssd = k.ssd; hdd = k.hdd }) (record { 0 = b })) ≡ model_place l k b
        go (inside s h e) =
            let in_stored_window : has (abs l k).stored_window s.0 ≡ true = unfold abs in (has_nums (newest_of (metas_of l k.ssd)).window s.0 ∙ h) in
            let blocked : block_of ((abs l k).entry s.0) ≡ b = unfold abs in (window-block l k p S.images St s.0 h ∙ e) in
            let d = down_inside (abs l k) p St rows b s.0 in_stored_window blocked in
            none_is d.0 (d.1 ∙ hdd_is)
        go (outside h) =
            let d : places.slot_of (abs l k) b ≡ seen.find (abs l k).entry (abs l k).slots b =
            down_outside (abs l k) p St rows b (stored_outside l k S p St b h) in
            found_is d

  pub place_model : Tied (abs l k) → place (box_of_core l k) (record { 0 = b }) ≡ model_place l k b
  unfolding place
  place_model T =
      ap (λ (a : Label). place_if (is_ready (phase_for k.recovering)) a (box_of_core l k) (record { 0 = b })) (label_is l k p S.images St)
      ∙ go (is_ready (phase_for k.recovering)) refl T
    where
      go : (r : Bool) → is_ready (phase_for k.recovering) ≡ r → Tied (abs l k) → place_if r l (box_of_core l k) (record { 0 = b })
          ≡ model_place l k b
      go true e (by_ready on W L) = ready-place (linked_legible l k S p St (ready_off k.recovering e) W L)
      go true e (by_mending on rows) = clash {b = k.recovering} (unfold abs in on) (ready_off k.recovering e)
      go false e (by_ready on W L) = clash {b = k.recovering} (unready_on k.recovering e) (unfold abs in on)
      go false e (by_mending on rows) = mending_place rows
