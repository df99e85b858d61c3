-- Where a block is found, and what it reads as.
use Prim.Native.Nat.{ℕ, zero, suc, ◌<◌}
use mathlib.Core.Path.{◌≡◌, sym, ◌∙◌}
use mathlib.Core.Logic.{◌≢◌}
use mathlib.Core.Bool.{Bool, true, false, cond, ◌&&◌}
use Rattle.std.specs.Prelude.{Option, Some, None}
use native.Mathlib.Omega.{arith}
use native.Mathlib.Decide.{ℕ_discrete}
use lib.Dec.{eqb}
use borrow.Author.Tests.{eqb-true}
use Rattle.layout.proofs.Booleans.{Told, told, told_true, told_false, clash}
use Rattle.laws.proofs.model.Base.{eqb_same}
use Rattle.laws.proofs.model.Model.{Row, valid, open_row, block_of, Model, Plain, Page, Ready}
use Rattle.laws.proofs.model.Rows.{dirty-valid}

abbrev pub holds : Row → ℕ → Bool
holds r b = valid r && eqb (block_of r) b

abbrev pub or_else : Option ℕ → Bool → ℕ → Option ℕ
or_else (Some s) c n = Some s
or_else None true n = Some n
or_else None false n = None

-- the lowest of the first n slots that holds the block b
unfoldable pub find : (ℕ → Row) → ℕ → ℕ → Option ℕ
find r zero b = None
find r (suc n) b = or_else (find r n b) (holds (r n) b) n

pub holds_is : (r : Row) (b : ℕ) → holds r b ≡ true → (valid r ≡ true) × (block_of r ≡ b)
holds_is r b h = go (told (valid r))
  where
    go : Told (valid r) → (valid r ≡ true) × (block_of r ≡ b)
    go (told_true v) = (v, eqb-true (block_of r) b (rw v at h))
    go (told_false v) = clash h (rw v)

pub holds_of : (r : Row) (b : ℕ) → valid r ≡ true → block_of r ≡ b → holds r b ≡ true
holds_of r b v e = rw (v, e) (eqb_same b)

-- what a search says
pub data Found (r : ℕ → Row) (n b : ℕ) : Option ℕ → Type 0 where
  at : (s : ℕ) → s < n → valid (r s) ≡ true → block_of (r s) ≡ b → Found r n b (Some s)
  nowhere : ((s : ℕ) → s < n → valid (r s) ≡ true → block_of (r s) ≢ b) → Found r n b None

pub found : (r : ℕ → Row) (n b : ℕ) → Found r n b (find r n b)
unfolding find
found r zero b = nowhere λ s l. absurd (omega arith)
found r (suc n) b = go (found r n b) (told (holds (r n) b))
  where
    go : {o : Option ℕ} → Found r n b o → Told (holds (r n) b) → Found r (suc n) b (or_else o (holds (r n) b) n)
    go (at s l v e) t = at s (omega arith) v e
    go (nowhere h) (told_true t) = rw t (at n (omega arith) (holds_is (r n) b t).0 (holds_is (r n) b t).1)
    go (nowhere h) (told_false t) = rw t (nowhere λ s l v e. each s l v e (ℕ_discrete s n))
      where
        each : (s : ℕ) → s < suc n → valid (r s) ≡ true → block_of (r s) ≡ b → Dec (s ≡ n) → ⊥
        each s l v e (yes q) = clash (holds_of (r s) b v e) (rw q t)
        each s l v e (no m) = h s (omega arith) v e

abbrev pub view_at : Model → ℕ → Option ℕ → Page
view_at x b None = x.hdd b
view_at x b (Some s) = cond (open_row (x.row s)) (x.hdd b) (x.slot_page s)

-- what the block b of a ready box reads as
unfoldable pub view : Model → ℕ → Page
view x b = view_at x b (find x.row x.slots b)

-- demand 2's reads: a ready box reads as the plain disk
pub view_page : (x : Model) (p : Plain) → Ready x p → (b : ℕ) → view x b ≡ p.page b
unfolding view
view_page x p R b = go (found x.row x.slots b)
  where
    go : {o : Option ℕ} → Found x.row x.slots b o → view_at x b o ≡ p.page b
    go (nowhere h) = R.on_disk b λ t d o. h t (R.in_range_is t (dirty-valid (x.row t) d)) (dirty-valid (x.row t) d)
    go (at s l v e) = by (told (open_row (x.row s)))
      where
        by : Told (open_row (x.row s)) → cond (open_row (x.row s)) (x.hdd b) (x.slot_page s) ≡ p.page b
        by (told_false o) = rw (o, ← e) (R.cached s v o)
        by (told_true o) = rw o (R.on_disk b λ t d c q. clash o (rw (← R.once t s (dirty-valid (x.row t) d) v (q ∙ sym e)) c))
