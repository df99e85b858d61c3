-- A slot's page is stored; an open slot leaves the window.
use Prim.Native.Nat.{ℕ, ◌+◌, ◌≤◌}
use mathlib.Core.Path.{◌≡◌, refl, sym, ◌∙◌}
use mathlib.Core.Logic.{◌≢◌}
use mathlib.Core.Bool.{true, false, not, ◌||◌, or-false}
use mathlib.Core.List.{List, Memᴰ}
use native.Mathlib.Omega.{arith}
use native.Mathlib.Decide.{ℕ_discrete}
use lib.ListN.{length}
use lib.Dec.{eqb}
use Rattle.layout.proofs.Booleans.{Told, told, told_true, told_false, clash}
use Rattle.laws.proofs.model.Base.{keep_window, upd, has, without, upd_same, upd_other, has_keep_in, has_keep_out, length_keep, length_keep_lt, not_same, not-other}
use Rattle.laws.proofs.model.Model.{Row, valid, dirty_row, open_row, block_of, shut, Model, Plain, landed, Ready, count, count-le}
use Rattle.laws.proofs.model.Rows.{shut_valid, shut_block, shut_dirty, shut_open}

module _
    (x : Model)
    (p p' : Plain)
    (R : Ready x p)
    (s : ℕ)
    (d : List ℕ)
    (held : valid (x.row s) ≡ true)
    (page-here : p'.page (block_of (x.row s)) ≡ d)
    (page-else : (c : ℕ) → c ≢ block_of (x.row s) → p'.page c ≡ p.page c)
    (may-page' : (c : ℕ) → Memᴰ (p'.page c) (p'.may c))
    (may-grows : (c : ℕ) (q : List ℕ) → Memᴰ q (p.may c) → Memᴰ q (p'.may c))
    (fetched : dirty_row (x.row s) ≡ false → x.hdd (block_of (x.row s)) ≡ d)
  where
    -- what a row keeps, at every slot
    keeps {ℓ} : {A : Type ℓ} (f : Row → A) → ((r : Row) → f (shut r) ≡ f r) → (t : ℕ)
        → f (upd x.row s (shut (x.row s)) t) ≡ f (x.row t)
    keeps f k t = go (ℕ_discrete t s)
      where
        go : Dec (t ≡ s) → f (upd x.row s (shut (x.row s)) t) ≡ f (x.row t)
        go (yes e) = rw (e, upd_same) (k (x.row s))
        go (no n) = rw upd_other

    out : has (without x.window s) s ≡ false
    out = has_keep_out _ x.window s (not_same s)

    stay : (t : ℕ) → t ≢ s → has (without x.window s) t ≡ has x.window t
    stay t n = has_keep_in _ x.window t (not-other t s n)

    landed_open : (t : ℕ) → open_row (upd x.row s (shut (x.row s)) t) ≡ has (without x.window s) t
    landed_open t = go (ℕ_discrete t s)
      where
        go : Dec (t ≡ s) → open_row (upd x.row s (shut (x.row s)) t) ≡ has (without x.window s) t
        go (yes e) = rw (e, upd_same, out) (shut_open (x.row s))
        go (no n) = rw (upd_other, stay t n) (R.open_row_is t)

    landed-window : (t : ℕ) → has (without x.window s) t ≡ true → has x.stored_window t ≡ true
    landed-window t h = go (ℕ_discrete t s)
      where
        go : Dec (t ≡ s) → has x.stored_window t ≡ true
        go (yes e) = clash h (rw e out)
        go (no n) = R.window-stored t (rw (stay t n) at h)

    landed_settled : (x.unconfirmed || open_row (x.row s)) ≡ false → (t : ℕ) → has x.stored_window t ≡ true → has (without x.window s) t ≡ true
    landed_settled u t h = go (told x.unconfirmed) (ℕ_discrete t s)
      where
        go : Told x.unconfirmed → Dec (t ≡ s) → has (without x.window s) t ≡ true
        go (told_true e) q = clash refl (rw e at u)
        go (told_false e) (yes q) = clash (R.settled e t h) (rw q (sym (R.open_row_is s) ∙ (rw e at u)))
        go (told_false e) (no n) = rw (stay t n) (R.settled e t h)

    landed-once : (t u : ℕ) → valid (upd x.row s (shut (x.row s)) t) ≡ true → valid (upd x.row s (shut (x.row s)) u) ≡ true
        → block_of (upd x.row s (shut (x.row s)) t) ≡ block_of (upd x.row s (shut (x.row s)) u) → t ≡ u
    landed-once t u v w b =
        R.once t u (sym (keeps valid shut_valid t) ∙ v) (sym (keeps valid shut_valid u) ∙ w)
        (sym (keeps block_of shut_block t) ∙ b ∙ keeps block_of shut_block u)

    landed_cached : (t : ℕ) → valid (upd x.row s (shut (x.row s)) t) ≡ true → open_row (upd x.row s (shut (x.row s)) t) ≡ false
        → upd x.slot_page s d t ≡ p'.page (block_of (upd x.row s (shut (x.row s)) t))
    landed_cached t v o = rw (keeps block_of shut_block t) (go (ℕ_discrete t s))
      where
        go : Dec (t ≡ s) → upd x.slot_page s d t ≡ p'.page (block_of (x.row t))
        go (yes e) = rw (e, upd_same) (sym page-here)
        go (no n) =
            let v' : valid (x.row t) ≡ true = sym (keeps valid shut_valid t) ∙ v in
            rw (upd_other, page-else _ (λ (e : block_of (x.row t) ≡ block_of (x.row s)). n (R.once t s v' held e)))
            (R.cached t v' (rw upd_other at o))

    landed_on_disk : (b : ℕ) → ((t : ℕ) → dirty_row (upd x.row s (shut (x.row s)) t) ≡ true
        → open_row (upd x.row s (shut (x.row s)) t) ≡ false → block_of (upd x.row s (shut (x.row s)) t) ≢ b) → x.hdd b ≡ p'.page b
    landed_on_disk b h = go (ℕ_discrete b (block_of (x.row s))) (told (dirty_row (x.row s)))
      where
        go : Dec (b ≡ block_of (x.row s)) → Told (dirty_row (x.row s)) → x.hdd b ≡ p'.page b
        go (yes e) (told_true y) = absurd (h s (keeps dirty_row shut_dirty s ∙ y) (rw upd_same (shut_open (x.row s)))
            (keeps block_of shut_block s ∙ sym e))
        go (yes e) (told_false y) = rw e (fetched y ∙ sym page-here)
        go (no n) y = rw (page-else b n) (R.on_disk b λ t. each t (ℕ_discrete t s))
          where
            each : (t : ℕ) → Dec (t ≡ s) → dirty_row (x.row t) ≡ true → open_row (x.row t) ≡ false → block_of (x.row t) ≢ b
            each t (yes e) g o = λ q. n (cc)
            each t (no m) g o = rw upd_other at (h t (rw upd_other g) (rw upd_other o))

    landed_loose : (b : ℕ) → ((t : ℕ) → valid (upd x.row s (shut (x.row s)) t) ≡ true → has x.stored_window t ≡ false
        → block_of (upd x.row s (shut (x.row s)) t) ≢ b) → Memᴰ (x.hdd b) (p'.may b)
    landed_loose b h = may-grows b _ (R.loose b λ t v o q. h t (keeps valid shut_valid t ∙ v) o (keeps block_of shut_block t ∙ q))

    landed-short : length (without x.window s) + count (x.unconfirmed || open_row (x.row s)) ≤ length x.stored_window
    landed-short = go (told (open_row (x.row s)))
      where
        go : Told (open_row (x.row s)) → length (without x.window s) + count (x.unconfirmed || open_row (x.row s)) ≤ length x.stored_window
        go (told_true o) = omega (
          arith,
          R.short,
          count-le (x.unconfirmed || open_row (x.row s)),
          length_keep_lt (λ t. not (eqb t s)) x.window s (sym (R.open_row_is s) ∙ o) (not_same s),
        )
        go (told_false o) = rw (o, or-false) (omega (arith, R.short, length_keep (λ t. not (eqb t s)) x.window))

    pub landed-ready : Ready (landed s d x) p'
    unfolding landed
    landed-ready =
        record {
          phase = R.phase;
          in_range_is = λ t v. R.in_range_is t (sym (keeps valid shut_valid t) ∙ v);
          in_blocks = λ t v. rw (keeps block_of shut_block t) (R.in_blocks t (sym (keeps valid shut_valid t) ∙ v));
          window-rule = keep_window _ x.slots x.window R.window-rule;
          stored_window-rule = R.stored_window-rule;
          same-valid = λ t. R.same-valid t ∙ sym (keeps valid shut_valid t);
          same_block = λ t. R.same_block t ∙ sym (keeps block_of shut_block t);
          dirty-below = λ t g. R.dirty-below t (sym (keeps dirty_row shut_dirty t) ∙ g);
          open_row_is = landed_open;
          window-stored = landed-window;
          stored_open = R.stored_open;
          settled = landed_settled;
          once = landed-once;
          cached = landed_cached;
          on_disk = landed_on_disk;
          may_page = may-page';
          loose = landed_loose;
          stamps = R.stamps;
          short = landed-short;
          budget = R.budget;
        }
