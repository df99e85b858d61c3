-- A slot joins the window, with a metadata store: the offer of a clean block, and what a sweep takes.
use Prim.Native.Nat.{ℕ, ◌-◌, ◌<◌}
use mathlib.Core.Path.{◌≡◌, refl, sym, ◌∙◌}
use mathlib.Core.Logic.{◌≢◌}
use mathlib.Core.Bool.{true, false}
use mathlib.Core.List.Memᴰ
use mathlib.Core.List.{[], ◌∷◌, ◌++◌, Memᴰ}
use native.Mathlib.Omega.{arith}
use native.Mathlib.Decide.{ℕ_discrete}
use lib.ListN.{length, length-append}
use lib.Dec.{eqb}
use borrow.Author.Tests.{eqb-true}
use Rattle.layout.proofs.Booleans.{Told, told, told_true, told_false, clash}
use Rattle.laws.proofs.model.Base.{upd, has, meta_no, upd_same, upd_other, has_snoc, has_snoc_other, eqb_same, Window, snoc_window}
use Rattle.laws.proofs.model.Rows.{dirty-valid}
use Rattle.laws.proofs.model.Model.{Row, valid, dirty_row, open_row, block_of, Model, Plain, stored, opened, Ready}

module _
    (x : Model)
    (p : Plain)
    (R : Ready x p)
    (s : ℕ)
    (r : Row)
    (r-open : open_row r ≡ true)
    (was_shut : open_row (x.row s) ≡ false)
    (was_clean : dirty_row (x.row s) ≡ false)
    (fresh : (t : ℕ) → t ≢ s → valid (x.row t) ≡ true → block_of (x.row t) ≢ block_of r)
    (below : s < x.slots)
    (in-disk : block_of r < x.blocks)
    (room : length x.window < 63)
    (stamps-left : x.newest < x.top - 63)
  where
    -- the entries after the store, at the slots of the page and at the others
    entry_here : (t : ℕ) → meta_no t ≡ meta_no s → (opened s r x).entry t ≡ upd x.row s r t
    unfolding stored
    entry_here t e = rw (e, eqb_same (meta_no s))

    entry_else : (t : ℕ) → eqb (meta_no t) (meta_no s) ≡ false → (opened s r x).entry t ≡ x.entry t
    unfolding stored
    entry_else t e = rw e

    off_page_is : (t : ℕ) → eqb (meta_no t) (meta_no s) ≡ false → t ≢ s
    off_page_is t e q = clash (rw q (eqb_same (meta_no s))) e

    -- the entry is the new row, or the slot is another and the entry the old one
    on_entry : (Q : Row → Type 0) (t : ℕ) → Q (upd x.row s r t) → (t ≢ s → Q (x.entry t)) → Q ((opened s r x).entry t)
    on_entry Q t h k = go (told (eqb (meta_no t) (meta_no s)))
      where
        go : Told (eqb (meta_no t) (meta_no s)) → Q ((opened s r x).entry t)
        go (told_true e) = rw (entry_here t (eqb-true _ _ e)) h
        go (told_false e) = rw (entry_else t e) (k (off_page_is t e))

    opened-in_range : (t : ℕ) → valid (upd x.row s r t) ≡ true → t < x.slots
    opened-in_range t v = go (ℕ_discrete t s)
      where
        go : Dec (t ≡ s) → t < x.slots
        go (yes e) = rw e below
        go (no n) = R.in_range_is t (rw upd_other at v)

    opened_in_blocks : (t : ℕ) → valid (upd x.row s r t) ≡ true → block_of (upd x.row s r t) < x.blocks
    opened_in_blocks t = go (ℕ_discrete t s)
      where
        go : Dec (t ≡ s) → valid (upd x.row s r t) ≡ true → block_of (upd x.row s r t) < x.blocks
        go (yes e) v = rw (e, upd_same) in-disk
        go (no n) v = rw upd_other (R.in_blocks t (rw upd_other at v))

    opened-window : Window x.slots (x.window ++ (s ∷ []))
    opened-window = snoc_window x.slots x.window s below (sym (R.open_row_is s) ∙ was_shut) room R.window-rule

    opened-same-valid : (t : ℕ) → valid ((opened s r x).entry t) ≡ valid (upd x.row s r t)
    opened-same-valid t = on_entry (λ e. valid e ≡ valid (upd x.row s r t)) t refl λ n. rw upd_other (R.same-valid t)

    opened-same-block : (t : ℕ) → block_of ((opened s r x).entry t) ≡ block_of (upd x.row s r t)
    opened-same-block t = on_entry (λ e. block_of e ≡ block_of (upd x.row s r t)) t refl λ n. rw upd_other (R.same_block t)

    opened-dirty : (t : ℕ) → dirty_row (upd x.row s r t) ≡ true → dirty_row ((opened s r x).entry t) ≡ true
    opened-dirty t d = on_entry (λ e. dirty_row e ≡ true) t d λ n. R.dirty-below t (rw upd_other at d)

    opened_open : (t : ℕ) → open_row (upd x.row s r t) ≡ has (x.window ++ (s ∷ [])) t
    opened_open t = go (ℕ_discrete t s)
      where
        go : Dec (t ≡ s) → open_row (upd x.row s r t) ≡ has (x.window ++ (s ∷ [])) t
        go (yes e) = rw (e, upd_same, has_snoc) r-open
        go (no n) = rw (upd_other, has_snoc_other) (R.open_row_is t)

    opened-stored_open : (t : ℕ) → has (x.window ++ (s ∷ [])) t ≡ true → open_row ((opened s r x).entry t) ≡ true
    opened-stored_open t h = on_entry (λ e. open_row e ≡ true) t (opened_open t ∙ h) λ n. R.stored_open t
        (R.window-stored t (rw has_snoc_other at h))

    opened-once : (t u : ℕ) → valid (upd x.row s r t) ≡ true → valid (upd x.row s r u) ≡ true
        → block_of (upd x.row s r t) ≡ block_of (upd x.row s r u) → t ≡ u
    opened-once t u = go (ℕ_discrete t s) (ℕ_discrete u s)
      where
        go : Dec (t ≡ s) → Dec (u ≡ s) → valid (upd x.row s r t) ≡ true → valid (upd x.row s r u) ≡ true
            → block_of (upd x.row s r t) ≡ block_of (upd x.row s r u) → t ≡ u
        go (yes e) (yes f) v w b = cc
        go (yes e) (no n) v w b = absurd (fresh u n (rw upd_other at w) (simp (e, upd_same, upd_other) at (sym b)))
        go (no m) (yes f) v w b = absurd (fresh t m (rw upd_other at v) (simp (f, upd_same, upd_other) at b))
        go (no m) (no n) v w b = R.once t u (rw upd_other at v) (rw upd_other at w) (simp upd_other at b)

    opened_cached : (t : ℕ) → valid (upd x.row s r t) ≡ true → open_row (upd x.row s r t) ≡ false
        → x.slot_page t ≡ p.page (block_of (upd x.row s r t))
    opened_cached t = go (ℕ_discrete t s)
      where
        go : Dec (t ≡ s) → valid (upd x.row s r t) ≡ true → open_row (upd x.row s r t) ≡ false
            → x.slot_page t ≡ p.page (block_of (upd x.row s r t))
        go (yes e) v o = clash r-open (simp (e, upd_same) at o)
        go (no n) v o = rw upd_other (R.cached t (rw upd_other at v) (rw upd_other at o))

    opened_on_disk : (b : ℕ) → ((t : ℕ) → dirty_row (upd x.row s r t) ≡ true → open_row (upd x.row s r t) ≡ false
        → block_of (upd x.row s r t) ≢ b) → x.hdd b ≡ p.page b
    opened_on_disk b h = R.on_disk b λ t. go t (ℕ_discrete t s)
      where
        go : (t : ℕ) → Dec (t ≡ s) → dirty_row (x.row t) ≡ true → open_row (x.row t) ≡ false → block_of (x.row t) ≢ b
        go t (yes e) d o = clash d (rw e was_clean)
        go t (no n) d o = rw upd_other at (h t (rw upd_other d) (rw upd_other o))

    -- the block that gives up the slot is on the disk
    gives_up : valid (x.row s) ≡ true → x.hdd (block_of (x.row s)) ≡ p.page (block_of (x.row s))
    gives_up v = R.on_disk (block_of (x.row s)) λ t d o e. clash d (rw (R.once t s (dirty-valid (x.row t) d) v e) was_clean)

    opened_loose : (b : ℕ) → ((t : ℕ) → valid (upd x.row s r t) ≡ true → has (x.window ++ (s ∷ [])) t ≡ false
        → block_of (upd x.row s r t) ≢ b) → Memᴰ (x.hdd b) (p.may b)
    opened_loose b h = go (told (valid (x.row s))) (ℕ_discrete b (block_of (x.row s)))
      where
        by_old : ((t : ℕ) → t ≡ s → valid (x.row t) ≡ true → block_of (x.row t) ≢ b) → Memᴰ (x.hdd b) (p.may b)
        by_old k = R.loose b λ t. each t (ℕ_discrete t s)
          where
            each : (t : ℕ) → Dec (t ≡ s) → valid (x.row t) ≡ true → has x.stored_window t ≡ false → block_of (x.row t) ≢ b
            each t (yes e) v o = k t e v
            each t (no n) v o = rw upd_other at (h t (rw upd_other v) (rw has_snoc_other (shut_too (told (has x.window t)))))
              where
                shut_too : Told (has x.window t) → has x.window t ≡ false
                shut_too (told_true w) = clash (R.window-stored t w) o
                shut_too (told_false w) = w

        go : Told (valid (x.row s)) → Dec (b ≡ block_of (x.row s)) → Memᴰ (x.hdd b) (p.may b)
        go (told_true v) (yes e) = Memᴰ.cast (rw e (gives_up v)) (R.may_page b)
        go (told_true v) (no n) = by_old λ t e w q. n (cc)
        go (told_false v) d = by_old λ t e w q. clash w (rw e v)

    pub opened-ready : Ready (opened s r x) p
    unfolding stored
    opened-ready =
        record {
          phase = R.phase;
          in_range_is = opened-in_range;
          in_blocks = opened_in_blocks;
          window-rule = opened-window;
          stored_window-rule = opened-window;
          same-valid = opened-same-valid;
          same_block = opened-same-block;
          dirty-below = opened-dirty;
          open_row_is = opened_open;
          window-stored = λ t h. h;
          stored_open = opened-stored_open;
          settled = λ _ t h. h;
          once = opened-once;
          cached = opened_cached;
          on_disk = opened_on_disk;
          may_page = R.may_page;
          loose = opened_loose;
          stamps = refl;
          short = omega arith;
          budget = simp length-append (omega arith);
        }
