-- A mending step: the images keep what they promised, and the table stays what the reopening made.
use Prim.Native.Nat.{ℕ}
use mathlib.Core.Path.{◌≡◌, refl, sym, ap, ◌∙◌}
use mathlib.Core.Bool.{Bool, true, false, cond, not}
use native.Mathlib.Omega.{arith}
use lib.ListN.{length}
use lib.Dec.{eqb}
use Rattle.layout.proofs.Booleans.{Told, told, told_true, told_false, clash}
use Rattle.laws.proofs.model.Base.{keep_window, has, meta_no, off, has_keep_in, has_keep_out, length_keep_lt, eqb_same}
use Rattle.laws.proofs.model.Model.{Row, valid, dirty_row, open_row, block_of, shut, revived, Model, Plain, Stored, Mending, reopened, mended}
use Rattle.laws.proofs.model.Rows.{shut_valid, shut_block, shut_dirty, shut_shut}

-- a reopening leaves a mending box (or, with nothing pending, what Reopened calls finished)
pub reopened_mending : (x : Model) (p : Plain) → Stored x p → Mending (reopened x) p
unfolding reopened
reopened_mending x p S =
    record {
      images = record {
        in_range_is = S.in_range_is;
        in_blocks = S.in_blocks;
        stored_window-rule = S.stored_window-rule;
        once = S.once;
        stored_open = S.stored_open;
        kept = S.kept;
        kept-clean = S.kept-clean;
        loose = S.loose;
        may_page = S.may_page;
        budget = S.budget;
      };
      rows = λ s. refl;
      window = refl;
      stamps = refl;
      settled = refl;
      phase = refl;
    }

module _ (x : Model) (p : Plain) (M : Mending x p) (q s₀ : ℕ) (pending : has x.window s₀ ≡ true) (on_page_is : meta_no s₀ ≡ q) where
  S : Stored x p
  S = M.images

  here : (t : ℕ) → eqb (meta_no t) q ≡ true → has (off q x.window) t ≡ false
  here t e = has_keep_out _ x.window t (rw e)

  away : (t : ℕ) → eqb (meta_no t) q ≡ false → has (off q x.window) t ≡ has x.stored_window t
  away t e = has_keep_in _ x.window t (rw e) ∙ ap (λ w. has w t) M.window

  ent' : ℕ → Row
  ent' t = cond (eqb (meta_no t) q) (x.row t) (x.entry t)

  entry_here : (t : ℕ) → eqb (meta_no t) q ≡ true → ent' t ≡ revived (has x.stored_window t) (x.entry t)
  unfolding ent'
  entry_here t e = rw e (M.rows t)

  entry_away : (t : ℕ) → eqb (meta_no t) q ≡ false → ent' t ≡ x.entry t
  unfolding ent'
  entry_away t e = rw e

  -- an entry that is still valid
  record Was (t : ℕ) : Type 0 where
    held : valid (x.entry t) ≡ true
    same : block_of (ent' t) ≡ block_of (x.entry t)
    also : dirty_row (ent' t) ≡ dirty_row (x.entry t)
    left : has (off q x.window) t ≡ false → has x.stored_window t ≡ false

  was : (t : ℕ) → valid (ent' t) ≡ true → Was t
  was t v = go (told (eqb (meta_no t) q)) (told (has x.stored_window t))
    where
      go : Told (eqb (meta_no t) q) → Told (has x.stored_window t) → Was t
      go (told_true e) (told_true h) = clash refl (sym (rw (entry_here t e, h) at v))
      go (told_true e) (told_false h) =
          let f : ent' t ≡ shut (x.entry t) = rw (entry_here t e, h) in
          record {
            held = sym (shut_valid (x.entry t))
                ∙ (rw f at v);
            same = rw f (shut_block (x.entry t));
            also = rw f (shut_dirty (x.entry t));
            left = λ _. h;
          }
      go (told_false e) h =
          record { held = rw (entry_away t e) at v; same = rw (entry_away t e); also = rw (entry_away t e); left = λ k. sym (away t e) ∙ k }

  -- a kept entry stays
  stays : (t : ℕ) → valid (x.entry t) ≡ true → has x.stored_window t ≡ false
      → (valid (ent' t) ≡ true) × (has (off q x.window) t ≡ false) × (block_of (ent' t) ≡ block_of (x.entry t))
  stays t v h = go (told (eqb (meta_no t) q))
    where
      go : Told (eqb (meta_no t) q) → (valid (ent' t) ≡ true) × (has (off q x.window) t ≡ false) × (block_of (ent' t) ≡ block_of (x.entry t))
      go (told_true e) =
          let f : ent' t ≡ shut (x.entry t) = rw (entry_here t e, h) in
          (rw f (shut_valid (x.entry t) ∙ v), here t e, rw f (shut_block (x.entry t)))
      go (told_false e) = (rw (entry_away t e) v, away t e ∙ h, rw (entry_away t e))

  mended_open : (t : ℕ) → has (off q x.window) t ≡ true → open_row (ent' t) ≡ true
  mended_open t h = go (told (eqb (meta_no t) q))
    where
      go : Told (eqb (meta_no t) q) → open_row (ent' t) ≡ true
      go (told_true e) = clash h (here t e)
      go (told_false e) = rw (entry_away t e) (S.stored_open t (sym (away t e) ∙ h))

  mended_rows : (t : ℕ) → x.row t ≡ revived (has (off q x.window) t) (ent' t)
  mended_rows t = go (told (eqb (meta_no t) q))
    where
      go : Told (eqb (meta_no t) q) → x.row t ≡ revived (has (off q x.window) t) (ent' t)
      go (told_true e) = rw (here t e, entry_here t e, M.rows t) (again (has x.stored_window t))
        where
          again : (b : Bool) → revived b (x.entry t) ≡ shut (revived b (x.entry t))
          again true = refl
          again false = sym (shut_shut (x.entry t))
      go (told_false e) = rw (away t e, entry_away t e) (M.rows t)

  pub mended_mending : Mending (mended q x) p
  unfolding mended ent'
  mended_mending =
      record {
        images = record {
          in_range_is = λ t v. S.in_range_is t (was t v).held;
          in_blocks = λ t v. rw (was t v).same (S.in_blocks t (was t v).held);
          stored_window-rule = keep_window _ x.slots x.window (rw M.window S.stored_window-rule);
          once = λ t u v w e. S.once t u (was t v).held (was u w).held (sym (was t v).same ∙ e ∙ (was u w).same);
          stored_open = mended_open;
          kept = λ t v h. rw (was t v).same (S.kept t (was t v).held ((was t v).left h));
          kept-clean = λ t v h d. rw (was t v).same (S.kept-clean t (was t v).held ((was t v).left h) (sym (was t v).also ∙ d));
          loose = λ b k. S.loose b λ t v h e. k t (stays t v h).0 (stays t v h).1 ((stays t v h).2 ∙ e);
          may_page = S.may_page;
          budget = omega (
            arith,
            S.budget,
            M.stamps,
            ap length M.window,
            length_keep_lt (λ t. not (eqb (meta_no t) q)) x.window s₀ pending (rw (on_page_is, eqb_same q)),
          );
        };
        rows = mended_rows;
        window = refl;
        stamps = refl;
        settled = refl;
        phase = refl;
      }
