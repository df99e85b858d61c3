-- What the images alone keep, and a reopening that finds nothing pending, or has mended all of it.
use Prim.Native.Nat.{ℕ}
use mathlib.Core.Path.{◌≡◌, refl, sym, ap, ◌∙◌}
use mathlib.Core.Logic.{◌≢◌}
use mathlib.Core.Bool.{true, false}
use mathlib.Core.List.Memᴰ
use mathlib.Core.List.{[], ◌∷◌, Memᴰ}
use Rattle.std.specs.Prelude.{Option}
use native.Mathlib.Omega.{arith}
use Rattle.layout.proofs.Booleans.{Told, told, told_true, told_false, clash}
use Rattle.laws.proofs.model.Base.{nil_window, has, has_nil}
use Rattle.laws.proofs.model.Model.{valid, dirty_row, open_row, block_of, shut, Model, Plain, Ready, Stored}
use Rattle.laws.proofs.model.Rows.{dirty-valid, shut_valid, shut_block, shut_dirty, shut_open}
use Rattle.theorem.proofs.model.View.{Found, found, at, nowhere, view, view_at}

-- a ready box may be cut at any time
pub ready-stored : (x : Model) (p : Plain) → Ready x p → Stored x p
ready-stored x p R =
    record {
      in_range_is = λ s v. R.in_range_is s (was s v);
      in_blocks = λ s v. rw (R.same_block s) (R.in_blocks s (was s v));
      stored_window-rule = R.stored_window-rule;
      once = λ s t v w e. R.once s t (was s v) (was t w) (sym (R.same_block s) ∙ e ∙ R.same_block t);
      stored_open = R.stored_open;
      kept = λ s v h. rw (R.same_block s) (R.cached s (was s v) (closed s h));
      kept-clean = λ s v h d. rw (R.same_block s) (on_disk s v d ∙ sym (R.cached s (was s v) (closed s h)));
      loose = λ b h. R.loose b λ s v o e. h s (R.same-valid s ∙ v) o (R.same_block s ∙ e);
      may_page = R.may_page;
      budget = rw R.stamps R.budget;
    }
  where
    was : (s : ℕ) → valid (x.entry s) ≡ true → valid (x.row s) ≡ true
    was s v = sym (R.same-valid s) ∙ v

    closed : (s : ℕ) → has x.stored_window s ≡ false → open_row (x.row s) ≡ false
    closed s h = go (told (open_row (x.row s)))
      where
        go : Told (open_row (x.row s)) → open_row (x.row s) ≡ false
        go (told_true o) = clash (R.window-stored s (sym (R.open_row_is s) ∙ o)) h
        go (told_false o) = o

    on_disk : (s : ℕ) → valid (x.entry s) ≡ true → dirty_row (x.entry s) ≡ false → x.hdd (block_of (x.row s)) ≡ p.page (block_of (x.row s))
    on_disk s v d = R.on_disk _ λ t g o e. clash (R.dirty-below t g) (rw (R.once t s (dirty-valid (x.row t) g) (was s v) e) d)

-- what the plain disk becomes as a reopening is finished: each block's page is what it reads as
unfoldable pub fixed : Model → Plain
fixed x = record { page = view x; may = λ b. view x b ∷ [] }

module _
    (x : Model)
    (p : Plain)
    (S : Stored x p)
    (rows : (s : ℕ) → x.row s ≡ shut (x.entry s))
    (no-stored : x.stored_window ≡ [])
    (no-open : x.window ≡ [])
    (stamps : x.stamp ≡ x.newest)
    (settled : x.unconfirmed ≡ false)
    (over : x.recovering ≡ false)
  where
    row-valid : (s : ℕ) → valid (x.row s) ≡ valid (x.entry s)
    row-valid s = rw (rows s) (shut_valid (x.entry s))

    row_block_is : (s : ℕ) → block_of (x.row s) ≡ block_of (x.entry s)
    row_block_is s = rw (rows s) (shut_block (x.entry s))

    row-dirty : (s : ℕ) → dirty_row (x.row s) ≡ dirty_row (x.entry s)
    row-dirty s = rw (rows s) (shut_dirty (x.entry s))

    row_open : (s : ℕ) → open_row (x.row s) ≡ false
    row_open s = rw (rows s) (shut_open (x.entry s))

    not_pending : (s : ℕ) → has x.stored_window s ≡ false
    not_pending s = rw no-stored (has_nil s)

    -- each block reads as one of its contents
    pub finished-allowed : (b : ℕ) → Memᴰ (view x b) (p.may b)
    unfolding view
    finished-allowed b = go (found x.row x.slots b)
      where
        go : {o : Option ℕ} → Found x.row x.slots b o → Memᴰ (view_at x b o) (p.may b)
        go (nowhere h) = S.loose b λ s v o e. h s (S.in_range_is s v) (row-valid s ∙ v) (row_block_is s ∙ e)
        go (at s l v e) = Memᴰ.cast (rw (row_open s, ← e, row_block_is s) (S.kept s (sym (row-valid s) ∙ v) (not_pending s))) (S.may_page b)

    view_at_is : (s : ℕ) → valid (x.row s) ≡ true → view x (block_of (x.row s)) ≡ x.slot_page s
    unfolding view
    view_at_is s v = go (found x.row x.slots (block_of (x.row s)))
      where
        go : {o : Option ℕ} → Found x.row x.slots (block_of (x.row s)) o → view_at x (block_of (x.row s)) o ≡ x.slot_page s
        go (nowhere h) = absurd (h s (S.in_range_is s (sym (row-valid s) ∙ v)) v refl)
        go (at t l w e) = rw (row_open t) (ap x.slot_page
            (S.once t s (sym (row-valid t) ∙ w) (sym (row-valid s) ∙ v) (sym (row_block_is t) ∙ e ∙ row_block_is s)))

    view_none : (b : ℕ) → ((s : ℕ) → dirty_row (x.row s) ≡ true → block_of (x.row s) ≢ b) → x.hdd b ≡ view x b
    unfolding view
    view_none b h = go (found x.row x.slots b)
      where
        go : {o : Option ℕ} → Found x.row x.slots b o → x.hdd b ≡ view_at x b o
        go (nowhere k) = refl
        go (at s l v e) = rw (row_open s) (by (told (dirty_row (x.row s))))
          where
            by : Told (dirty_row (x.row s)) → x.hdd b ≡ x.slot_page s
            by (told_true d) = absurd (h s d e)
            by (told_false d) = rw (← e, row_block_is s) (S.kept-clean s (sym (row-valid s) ∙ v) (not_pending s) (sym (row-dirty s) ∙ d))

    pub finished-ready : Ready x (fixed x)
    unfolding fixed
    finished-ready =
        record {
          phase = over;
          in_range_is = λ s v. S.in_range_is s (sym (row-valid s) ∙ v);
          in_blocks = λ s v. rw (row_block_is s) (S.in_blocks s (sym (row-valid s) ∙ v));
          window-rule = rw no-open (nil_window x.slots);
          stored_window-rule = S.stored_window-rule;
          same-valid = λ s. sym (row-valid s);
          same_block = λ s. sym (row_block_is s);
          dirty-below = λ s d. sym (row-dirty s) ∙ d;
          open_row_is = λ s. rw (row_open s, no-open, has_nil s);
          window-stored = λ s h. rw (no-open, ← no-stored) at h;
          stored_open = S.stored_open;
          settled = λ _ s h. rw (no-stored, ← no-open) at h;
          once = λ s t v w e. S.once s t (sym (row-valid s) ∙ v) (sym (row-valid t) ∙ w) (sym (row_block_is s) ∙ e ∙ row_block_is t);
          cached = λ s v o. sym (view_at_is s v);
          on_disk = λ b h. view_none b λ s d. h s d (row_open s);
          may_page = λ b. Memᴰ.head refl;
          loose = λ b h. Memᴰ.head (view_none b λ s d. h s (dirty-valid (x.row s) d) (not_pending s));
          stamps = stamps;
          short = rw (no-open, no-stored, settled) (omega arith);
          budget = rw (← stamps) S.budget;
        }
