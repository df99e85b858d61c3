-- A flush: page 0 is stored where a landing is unsettled, and each block's contents become its page alone.
use Prim.Native.Nat.{ℕ, ◌+◌, ◌≤◌}
use mathlib.Core.Path.{◌≡◌, refl, sym, ◌∙◌}
use mathlib.Core.Logic.{◌≢◌}
use mathlib.Core.Bool.{Bool, true, false, cond}
use mathlib.Core.List.Memᴰ
use native.Mathlib.Omega.{arith}
use lib.ListN.{length}
use lib.Dec.{eqb}
use Rattle.layout.proofs.Booleans.{Told, told, told_true, told_false, clash}
use Rattle.laws.proofs.model.Base.{has, meta_no}
use Rattle.laws.proofs.model.Model.{Row, valid, dirty_row, open_row, block_of, Model, Plain, stored, flushed, Ready, settle}
use Rattle.laws.proofs.model.Rows.{dirty-valid}

module _ (x : Model) (p : Plain) (R : Ready x p) where
  -- a block with no closed row is on the disk
  none_shut : (b : ℕ) → ((t : ℕ) → valid (x.row t) ≡ true → has x.window t ≡ false → block_of (x.row t) ≢ b) → x.hdd b ≡ p.page b
  none_shut b h = R.on_disk b λ t g o. h t (dirty-valid (x.row t) g) (sym (R.open_row_is t) ∙ o)

  on_entry : (Q : Row → Type 0) (t : ℕ) → Q (x.row t) → Q (x.entry t) → Q ((flushed x).entry t)
  unfolding stored
  on_entry Q t h k = go (eqb (meta_no t) 0)
    where
      go : (b : Bool) → Q (cond b (x.row t) (x.entry t))
      go true = h
      go false = k

  pub flushed_ready : x.unconfirmed ≡ true → Ready (flushed x) (settle p)
  unfolding stored settle
  flushed_ready u =
      record {
        phase = R.phase;
        in_range_is = R.in_range_is;
        in_blocks = R.in_blocks;
        window-rule = R.window-rule;
        stored_window-rule = R.window-rule;
        same-valid = λ t. on_entry (λ e. valid e ≡ valid (x.row t)) t refl (R.same-valid t);
        same_block = λ t. on_entry (λ e. block_of e ≡ block_of (x.row t)) t refl (R.same_block t);
        dirty-below = λ t g. on_entry (λ e. dirty_row e ≡ true) t g (R.dirty-below t g);
        open_row_is = R.open_row_is;
        window-stored = λ t h. h;
        stored_open = λ t h. on_entry (λ e. open_row e ≡ true) t (R.open_row_is t ∙ h) (R.stored_open t (R.window-stored t h));
        settled = λ _ t h. h;
        once = R.once;
        cached = R.cached;
        on_disk = R.on_disk;
        may_page = λ b. Memᴰ.head refl;
        loose = λ b h. Memᴰ.head (none_shut b h);
        stamps = refl;
        short = omega arith;
        budget = let k : length x.window + 1 ≤ length x.stored_window = rw u at R.short in omega arith;
      }

  pub settled_ready : x.unconfirmed ≡ false → Ready x (settle p)
  unfolding settle
  settled_ready u =
      record {
        phase = R.phase;
        in_range_is = R.in_range_is;
        in_blocks = R.in_blocks;
        window-rule = R.window-rule;
        stored_window-rule = R.stored_window-rule;
        same-valid = R.same-valid;
        same_block = R.same_block;
        dirty-below = R.dirty-below;
        open_row_is = R.open_row_is;
        window-stored = R.window-stored;
        stored_open = R.stored_open;
        settled = R.settled;
        once = R.once;
        cached = R.cached;
        on_disk = R.on_disk;
        may_page = λ b. Memᴰ.head refl;
        loose = λ b h. Memᴰ.head (none_shut b (λ t v w. h t v (still t w (told (has x.stored_window t)))));
        stamps = R.stamps;
        short = R.short;
        budget = R.budget;
      }
    where
      still : (t : ℕ) → has x.window t ≡ false → Told (has x.stored_window t) → has x.stored_window t ≡ false
      still t w (told_true e) = clash (R.settled u t e) w
      still t w (told_false e) = e
