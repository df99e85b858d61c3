-- Where a block is: kept through reopenings and mending steps.
use Prim.Native.Nat.{ℕ, zero, suc}
use mathlib.Core.Path.{◌≡◌, refl, sym, ap, ◌∙◌}
use mathlib.Core.Logic.{◌≢◌}
use mathlib.Core.Bool.{Bool, true, false, cond}
use Rattle.std.specs.Prelude.{Option, Some, None}
use Rattle.layout.proofs.Booleans.{Told, told, told_true, told_false, clash}
use Rattle.laws.proofs.model.Base.{has}
use Rattle.laws.proofs.model.Model.{Row, valid, open_row, block_of, shut, revived, Model, Plain, Linked, Stored, Revived, reopened, mended}
use Rattle.laws.proofs.model.Rows.{open_valid, shut_valid, shut_block, shut_open}
use Rattle.theorem.proofs.model.View.{holds, holds_is, find, Found, found, at, nowhere, view, view_at}

-- the slot that a look-up names: of a block that is cached and not open
abbrev pub shut_at : Model → Option ℕ → Option ℕ
shut_at x None = None
shut_at x (Some s) = cond (open_row (x.row s)) None (Some s)

unfoldable pub slot_of : Model → ℕ → Option ℕ
slot_of x b = shut_at x (find x.row x.slots b)

-- no slot of the newest stored window has an entry for the block
abbrev pub Outside : Model → ℕ → Type 0
Outside x b = (s : ℕ) → has x.stored_window s ≡ true → block_of (x.entry s) ≢ b

-- the same search, where the same rows hold the block
find_ext : (r q : ℕ → Row) (n b : ℕ) → ((s : ℕ) → holds (q s) b ≡ holds (r s) b) → find q n b ≡ find r n b
unfolding find
find_ext r q zero b h = refl
find_ext r q (suc n) b h = rw (find_ext r q n b h, h n)

-- two boxes that find a block alike
module _
    (x y : Model)
    (b : ℕ)
    (slots_same : y.slots ≡ x.slots)
    (holds_same : (s : ℕ) → holds (y.row s) b ≡ holds (x.row s) b)
    (open_same : (s : ℕ) → valid (x.row s) ≡ true → block_of (x.row s) ≡ b → open_row (y.row s) ≡ open_row (x.row s))
    (hdd-same : y.hdd b ≡ x.hdd b)
    (page-same : (s : ℕ) → y.slot_page s ≡ x.slot_page s)
  where
    pub like : (slot_of y b ≡ slot_of x b) × (view y b ≡ view x b)
    unfolding slot_of view
    like =
        let same : find y.row y.slots b ≡ find x.row x.slots b = find_ext x.row y.row y.slots b holds_same
        ∙ ap (λ n. find x.row n b) slots_same in
        rw same (go (found x.row x.slots b))
      where
        go : {o : Option ℕ} → Found x.row x.slots b o → (shut_at y o ≡ shut_at x o) × (view_at y b o ≡ view_at x b o)
        go (nowhere h) = (refl, hdd-same)
        go (at s l v e) = (rw (open_same s v e), rw (open_same s v e, hdd-same, page-same s))

-- a box whose table is what a reopening makes of its entries finds every block as that reopening will
pub again : (x : Model) → Revived x → (b : ℕ) → (slot_of (reopened x) b ≡ slot_of x b) × (view (reopened x) b ≡ view x b)
unfolding reopened
again x rows b = like x (reopened x) b refl (λ s. ap (λ r. holds r b) (sym (rows s))) (λ s _ _. ap open_row (sym (rows s))) refl (λ s. refl)

-- a box whose rows are linked to the entries, at a block outside the newest stored window
pub first : (x : Model) → Linked x → (b : ℕ) → Outside x b
    → (slot_of (reopened x) b ≡ slot_of x b) × (view (reopened x) b ≡ view x b)
unfolding reopened
first x R b out = like x (reopened x) b refl (λ s. holds_same s (told (has x.stored_window s)))
    (λ s v e. open_same s v e (told (has x.stored_window s))) refl (λ s. refl)
  where
    not_held : (s : ℕ) → has x.stored_window s ≡ true → Told (holds (x.row s) b) → holds (x.row s) b ≡ false
    not_held s h (told_true t) = absurd (out s h (R.same_block s ∙ (holds_is (x.row s) b t).1))
    not_held s h (told_false t) = t

    holds_same : (s : ℕ) → Told (has x.stored_window s) → holds (revived (has x.stored_window s) (x.entry s)) b ≡ holds (x.row s) b
    holds_same s (told_true h) = rw (h, not_held s h (told (holds (x.row s) b)))
    holds_same s (told_false h) = rw (h, shut_valid (x.entry s), shut_block (x.entry s), R.same-valid s, R.same_block s)

    open_same : (s : ℕ) → valid (x.row s) ≡ true → block_of (x.row s) ≡ b → Told (has x.stored_window s)
        → open_row (revived (has x.stored_window s) (x.entry s)) ≡ open_row (x.row s)
    open_same s v e (told_true h) = absurd (out s h (R.same_block s ∙ e))
    open_same s v e (told_false h) = rw (h, shut_open (x.entry s)) (sym (closed (told (open_row (x.row s)))))
      where
        closed : Told (open_row (x.row s)) → open_row (x.row s) ≡ false
        closed (told_true o) = clash (R.window-stored s (sym (R.open_row_is s) ∙ o)) h
        closed (told_false o) = o

pub mended_like : (x : Model) (q b : ℕ) → (slot_of (mended q x) b ≡ slot_of x b) × (view (mended q x) b ≡ view x b)
unfolding mended
mended_like x q b = like x (mended q x) b refl (λ s. refl) (λ s _ _. refl) refl (λ s. refl)

-- two boxes that a block is found in alike
abbrev pub Alike : Model → Model → ℕ → Type 0
Alike y x b = (slot_of y b ≡ slot_of x b) × (view y b ≡ view x b)

-- While a box is mending: a block outside the newest stored window is where its valid entry says, and any other block has
-- no slot and reads as its HDD page.
module _ (x : Model) (p : Plain) (S : Stored x p) (rows : Revived x) (b : ℕ) where
  -- a row is that of a kept entry
  row_kept : (s : ℕ) → valid (x.row s) ≡ true → (valid (x.entry s) ≡ true) × (block_of (x.row s) ≡ block_of (x.entry s)) × (has x.stored_window s ≡ false)
  row_kept s v = go (told (has x.stored_window s))
    where
      go : Told (has x.stored_window s) → (valid (x.entry s) ≡ true) × (block_of (x.row s) ≡ block_of (x.entry s)) × (has x.stored_window s ≡ false)
      go (told_true h) = let e : x.row s ≡ Row.free = rows s ∙ rw h in clash v (ap valid e)
      go (told_false h) =
          let e : x.row s ≡ shut (x.entry s) = rows s ∙ rw h in
          (sym (shut_valid (x.entry s)) ∙ (rw e at v), ap block_of e ∙ shut_block (x.entry s), h)

  pub row_shut : (s : ℕ) → open_row (x.row s) ≡ false
  row_shut s = ap open_row (rows s) ∙ go (has x.stored_window s)
    where
      go : (h : Bool) → open_row (revived h (x.entry s)) ≡ false
      go true = refl
      go false = shut_open (x.entry s)

  pub down_outside : Outside x b → slot_of x b ≡ find x.entry x.slots b
  unfolding slot_of
  down_outside out = (rw (find_ext x.row x.entry x.slots b same) (go (found x.row x.slots b)))
    where
      go : {o : Option ℕ} → Found x.row x.slots b o → shut_at x o ≡ o
      go (nowhere h) = refl
      go (at s l v e) = rw (row_shut s)

      same : (s : ℕ) → holds (x.entry s) b ≡ holds (x.row s) b
      same s = by (told (has x.stored_window s))
        where
          by : Told (has x.stored_window s) → holds (x.entry s) b ≡ holds (x.row s) b
          by (told_true h) = rw (rows s, h) (no_entry (told (holds (x.entry s) b)))
            where
              no_entry : Told (holds (x.entry s) b) → holds (x.entry s) b ≡ false
              no_entry (told_true t) = absurd (out s h (holds_is (x.entry s) b t).1)
              no_entry (told_false t) = t
          by (told_false h) = rw (rows s, h, shut_valid (x.entry s), shut_block (x.entry s))

  pub down_inside : (t : ℕ) → has x.stored_window t ≡ true → block_of (x.entry t) ≡ b → (slot_of x b ≡ None) × (view x b ≡ x.hdd b)
  unfolding slot_of view
  down_inside t h e = go (found x.row x.slots b)
    where
      go : {o : Option ℕ} → Found x.row x.slots b o → (shut_at x o ≡ None) × (view_at x b o ≡ x.hdd b)
      go (nowhere k) = (refl, refl)
      go (at s l v f) =
          let k = row_kept s v in
          clash {b = has x.stored_window s} (rw (S.once s t k.0 (open_valid (x.entry t) (S.stored_open t h))
          (sym k.1 ∙ f ∙ sym e)) h) k.2
