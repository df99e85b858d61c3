-- A mending box with nothing left is ready.
use Prim.Native.Nat.{ℕ}
use mathlib.Core.Path.{◌≡◌, refl, sym, ◌∙◌}
use mathlib.Core.Bool.{false, not}
use mathlib.Core.List.{List, [], ◌∷◌, Memᴰ}
use Rattle.layout.proofs.Booleans.{clash}
use Rattle.laws.proofs.model.Base.{has_nil}
use Rattle.laws.proofs.model.Model.{shut, Model, Plain, Ready, Mending, empty}
use Rattle.theorem.proofs.model.View.{view}
use Rattle.theorem.proofs.model.Reopened.{fixed, finished-allowed, finished-ready}

nil_of : (l : List ℕ) → not (empty l) ≡ false → l ≡ []
nil_of [] e = refl
nil_of (s ∷ w) e = clash refl e

-- a mending box with nothing left is ready
module _ (x : Model) (p : Plain) (M : Mending x p) (over : x.recovering ≡ false) where
  window_nil : x.window ≡ []
  window_nil = nil_of x.window (sym M.phase ∙ over)

  stored_window_nil : x.stored_window ≡ []
  stored_window_nil = sym M.window ∙ window_nil

  rows_shut : (s : ℕ) → x.row s ≡ shut (x.entry s)
  rows_shut s = M.rows s ∙ rw (stored_window_nil, has_nil s)

  pub over_ready : Ready x (fixed x)
  over_ready = finished-ready x p M.images rows_shut stored_window_nil window_nil M.stamps M.settled over

  pub over_allowed : (b : ℕ) → Memᴰ (view x b) (p.may b)
  over_allowed = finished-allowed x p M.images rows_shut stored_window_nil window_nil M.stamps M.settled over
