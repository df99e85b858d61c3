-- A dirty slot's page is copied to its block, and the row becomes clean.
use Prim.Native.Nat.{ℕ}
use mathlib.Core.Path.{◌≡◌, sym, ◌∙◌}
use mathlib.Core.Logic.{◌≢◌}
use mathlib.Core.Bool.{true, false}
use mathlib.Core.List.Memᴰ
use mathlib.Core.List.{Memᴰ}
use native.Mathlib.Decide.{ℕ_discrete}
use Rattle.laws.proofs.model.Base.{upd, has, upd_same, upd_other}
use Rattle.laws.proofs.model.Model.{Row, valid, dirty_row, open_row, block_of, cleaned, Model, Plain, copied, Ready}
use Rattle.laws.proofs.model.Rows.{cleaned_valid, cleaned_block, cleaned_open, dirty-valid}

module _ (x : Model) (p : Plain) (R : Ready x p) (s : ℕ) (was_dirty : dirty_row (x.row s) ≡ true) (was_shut : open_row (x.row s) ≡ false) where
  keeps {ℓ} : {A : Type ℓ} (f : Row → A) → ((r : Row) → f (cleaned r) ≡ f r) → (t : ℕ)
      → f (upd x.row s (cleaned (x.row s)) t) ≡ f (x.row t)
  keeps f k t = go (ℕ_discrete t s)
    where
      go : Dec (t ≡ s) → f (upd x.row s (cleaned (x.row s)) t) ≡ f (x.row t)
      go (yes e) = rw (e, upd_same) (k (x.row s))
      go (no n) = rw upd_other

  page_is : x.slot_page s ≡ p.page (block_of (x.row s))
  page_is = R.cached s (dirty-valid (x.row s) was_dirty) was_shut

  copied_dirty : (t : ℕ) → dirty_row (upd x.row s (cleaned (x.row s)) t) ≡ true → dirty_row (x.entry t) ≡ true
  copied_dirty t g = go (ℕ_discrete t s)
    where
      go : Dec (t ≡ s) → dirty_row (x.entry t) ≡ true
      go (yes e) = R.dirty-below t (rw e was_dirty)
      go (no n) = R.dirty-below t (rw upd_other at g)

  copied_once : (t u : ℕ) → valid (upd x.row s (cleaned (x.row s)) t) ≡ true → valid (upd x.row s (cleaned (x.row s)) u) ≡ true
      → block_of (upd x.row s (cleaned (x.row s)) t) ≡ block_of (upd x.row s (cleaned (x.row s)) u) → t ≡ u
  copied_once t u v w b =
      R.once t u (sym (keeps valid cleaned_valid t) ∙ v) (sym (keeps valid cleaned_valid u) ∙ w)
      (sym (keeps block_of cleaned_block t) ∙ b ∙ keeps block_of cleaned_block u)

  copied_on_disk : (b : ℕ) → ((t : ℕ) → dirty_row (upd x.row s (cleaned (x.row s)) t) ≡ true
      → open_row (upd x.row s (cleaned (x.row s)) t) ≡ false → block_of (upd x.row s (cleaned (x.row s)) t) ≢ b)
      → upd x.hdd (block_of (x.row s)) (x.slot_page s) b ≡ p.page b
  copied_on_disk b h = go (ℕ_discrete b (block_of (x.row s)))
    where
      go : Dec (b ≡ block_of (x.row s)) → upd x.hdd (block_of (x.row s)) (x.slot_page s) b ≡ p.page b
      go (yes e) = rw (e, upd_same) page_is
      go (no n) = rw upd_other (R.on_disk b λ t. each t (ℕ_discrete t s))
        where
          each : (t : ℕ) → Dec (t ≡ s) → dirty_row (x.row t) ≡ true → open_row (x.row t) ≡ false → block_of (x.row t) ≢ b
          each t (yes e) g o = λ q. n (cc)
          each t (no m) g o = rw upd_other at (h t (rw upd_other g) (rw upd_other o))

  copied_loose : (b : ℕ) → ((t : ℕ) → valid (upd x.row s (cleaned (x.row s)) t) ≡ true → has x.stored_window t ≡ false
      → block_of (upd x.row s (cleaned (x.row s)) t) ≢ b) → Memᴰ (upd x.hdd (block_of (x.row s)) (x.slot_page s) b) (p.may b)
  copied_loose b h = go (ℕ_discrete b (block_of (x.row s)))
    where
      go : Dec (b ≡ block_of (x.row s)) → Memᴰ (upd x.hdd (block_of (x.row s)) (x.slot_page s) b) (p.may b)
      go (yes e) = Memᴰ.cast (rw (e, upd_same) page_is) (R.may_page b)
      go (no n) = Memᴰ.cast (upd_other _ _ _ b n)
          (R.loose b λ t v o q. h t (keeps valid cleaned_valid t ∙ v) o (keeps block_of cleaned_block t ∙ q))

  pub copied_ready : Ready (copied s x) p
  unfolding copied
  copied_ready =
      record {
        phase = R.phase;
        in_range_is = λ t v. R.in_range_is t (sym (keeps valid cleaned_valid t) ∙ v);
        in_blocks = λ t v. rw (keeps block_of cleaned_block t) (R.in_blocks t (sym (keeps valid cleaned_valid t) ∙ v));
        window-rule = R.window-rule;
        stored_window-rule = R.stored_window-rule;
        same-valid = λ t. R.same-valid t ∙ sym (keeps valid cleaned_valid t);
        same_block = λ t. R.same_block t ∙ sym (keeps block_of cleaned_block t);
        dirty-below = copied_dirty;
        open_row_is = λ t. keeps open_row cleaned_open t ∙ R.open_row_is t;
        window-stored = R.window-stored;
        stored_open = R.stored_open;
        settled = R.settled;
        once = copied_once;
        cached = λ t v o. rw (keeps block_of cleaned_block t)
            (R.cached t (sym (keeps valid cleaned_valid t) ∙ v) (sym (keeps open_row cleaned_open t) ∙ o));
        on_disk = copied_on_disk;
        may_page = R.may_page;
        loose = copied_loose;
        stamps = R.stamps;
        short = R.short;
        budget = R.budget;
      }
