-- What each move asks of a ready box, and that it leaves a ready box.
use Prim.Native.Nat.{ℕ, ◌-◌, ◌<◌}
use mathlib.Core.Path.{◌≡◌, refl, sym, ◌∙◌}
use mathlib.Core.Logic.{◌≢◌}
use mathlib.Core.Bool.{Bool, true, false, cond}
use mathlib.Core.List.{◌∷◌, Memᴰ}
use native.Mathlib.Decide.{ℕ_discrete}
use lib.ListN.{length}
use Rattle.theorem.proofs.model.Reopened.{fixed}
use Rattle.layout.proofs.Booleans.{clash}
use Rattle.laws.proofs.model.Base.{upd, upd_same, upd_other}
use Rattle.laws.proofs.model.Model.{Page, Row, valid, dirty_row, open_row, block_of, Model, Plain, Ready, landed, copied, opened}
use Rattle.laws.proofs.model.Rows.{dirty-valid}
use Rattle.theorem.proofs.model.View.{at}
use Rattle.theorem.proofs.model.Opened.{opened-ready}
use Rattle.theorem.proofs.model.Landed.{landed-ready}
use Rattle.theorem.proofs.model.Copied.{copied_ready}

-- the plain disk's account
unfoldable pub landing : ℕ → Page → Plain → Plain
landing b d p = record { page = upd p.page b d; may = upd p.may b (d ∷ p.may b) }

-- a reopening that leaves y: finished, or still to be mended
abbrev pub reopening : Model → Plain → Plain
reopening y p = cond y.recovering p (fixed y)

pub on_cond {ℓ} : {A : Type 0} (Q : A → Type ℓ) (b : Bool) {a c : A} → (b ≡ true → Q a) → (b ≡ false → Q c) → Q (cond b a c)
on_cond Q true h k = h refl
on_cond Q false h k = k refl

-- What a plan's move asks of the box, for the call that made it.
pub record Opens (x : Model) (s : ℕ) (r : Row) : Type 0 where
  pub is_open_is : open_row r ≡ true
  pub in_blocks : block_of r < x.blocks
  pub was_shut : open_row (x.row s) ≡ false
  pub was_clean : dirty_row (x.row s) ≡ false
  pub fresh : (t : ℕ) → t ≢ s → valid (x.row t) ≡ true → block_of (x.row t) ≢ block_of r
  pub slot_below_is : s < x.slots
  pub room : length x.window < 63
  pub stamps-left : x.newest < x.top - 63

pub record Copies (x : Model) (s : ℕ) : Type 0 where
  pub was_dirty : dirty_row (x.row s) ≡ true
  pub was_shut : open_row (x.row s) ≡ false
  pub slot_below_is : s < x.slots

pub record Lands (x : Model) (s b : ℕ) (d : Page) : Type 0 where
  pub held : valid (x.row s) ≡ true
  pub holds_b : block_of (x.row s) ≡ b
  pub slot_below_is : s < x.slots
  pub block_below_is : b < x.blocks

-- a sound move leaves a ready box, and the plain disk agrees
module _ (x : Model) (p : Plain) (R : Ready x p) where
  pub opens-ready : {s : ℕ} {r : Row} → Opens x s r → Ready (opened s r x) p
  opens-ready {s} {r} o = opened-ready x p R s r o.is_open_is o.was_shut o.was_clean o.fresh o.slot_below_is o.in_blocks
      o.room o.stamps-left

  pub copies-ready : {s : ℕ} → Copies x s → Ready (copied s x) p
  copies-ready {s} o = copied_ready x p R s o.was_dirty o.was_shut

  pub lands-ready : {b s : ℕ} {d : Page} → Lands x s b d → dirty_row (x.row s) ≡ true → Ready (landed s d x) (landing b d p)
  unfolding landing
  lands-ready {b} {s} {d} o y =
      landed-ready x p (landing b d p) R s d o.held (rw (o.holds_b, upd_same))
      (λ c n. upd_other p.page b d c (λ q. n (q ∙ sym o.holds_b))) (λ c. may' c (ℕ_discrete c b))
      (λ c q k. grows c q k (ℕ_discrete c b)) (λ f. clash y f)
    where
      may' : (c : ℕ) → Dec (c ≡ b) → Memᴰ (upd p.page b d c) (upd p.may b (d ∷ p.may b) c)
      may' c (yes q) = simp (q, upd_same) (Memᴰ.head refl)
      may' c (no n) = simp upd_other (R.may_page c)

      grows : (c : ℕ) (q : Page) → Memᴰ q (p.may c) → Dec (c ≡ b) → Memᴰ q (upd p.may b (d ∷ p.may b) c)
      grows c q k (yes g) = rw (g, upd_same) (Memᴰ.tail (rw g at k))
      grows c q k (no n) = rw upd_other k

  pub fetch_ready : {b s : ℕ} → Lands x s b (x.hdd b) → open_row (x.row s) ≡ true → Ready (landed s (x.hdd b) x) p
  fetch_ready {b} {s} o y =
      landed-ready x p p R s (x.hdd b) o.held (rw o.holds_b (sym on_page_is)) (λ k n. refl) R.may_page (λ k w z. z)
      (λ f. rw o.holds_b)
    where
      on_page_is : x.hdd b ≡ p.page b
      on_page_is = R.on_disk b λ t g c e. clash y (rw (← R.once t s (dirty-valid (x.row t) g) o.held (e ∙ sym o.holds_b)) c)
