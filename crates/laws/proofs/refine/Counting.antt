-- The open rows of a table, counted, and a window of open slots.
use Prim.Native.Nat.{ℕ, zero, suc, ◌+◌, ◌*◌, ◌≤◌, ◌<◌}
use mathlib.Core.Path.{◌≡◌, ap}
use mathlib.Core.Logic.{◌≢◌}
use mathlib.Core.Bool.{Bool, true, false, not, or-true}
use mathlib.Core.List.{List, [], ◌∷◌}
use native.Mathlib.Omega.{arith}
use lib.ListN.{length, get_or, set, length-set}
use lib.Seq.{get_or-set_other}
use lib.Dec.{eqb}
use borrow.Author.Tests.{not-true}
use Rattle.protocol.specs.Rows.{writing, open_rows}
use Rattle.layout.proofs.Booleans.{clash, and_parts}
use Rattle.laws.proofs.model.Base.{has, distinct, eqb_same}

-- an open row that is closed is one less
pub open_less : (t : List ℕ) (s : ℕ) → 2 * s + 1 < length t → writing (get_or t (2 * s + 1) 0) ≡ true
    → suc (open_rows (set t (2 * s + 1) 0)) ≡ open_rows t
unfolding open_rows
open_less [] s h w = absurd (omega arith)
open_less (b ∷ []) s h w = absurd (omega arith)
open_less (b ∷ f ∷ t) zero h w = rw (first w)
  where
    first : writing f ≡ true → elim (writing f) [ true ↦ suc (open_rows t) | false ↦ open_rows t ] ≡ suc (open_rows t)
    first e = rw e
open_less (b ∷ f ∷ t) (suc s) h w =
    let e : 2 * suc s + 1 ≡ suc (suc (2 * s + 1)) = omega arith in
    rw e (go (writing f) (open_less t s (omega arith) (rw e at w)))
  where
    go : (o : Bool) → suc (open_rows (set t (2 * s + 1) 0)) ≡ open_rows t
        → suc (elim o [ true ↦ suc (open_rows (set t (2 * s + 1) 0)) | false ↦ open_rows (set t (2 * s + 1) 0) ]) ≡ elim o
        [ true ↦ suc (open_rows t) | false ↦ open_rows t ]
    go true ih = ap suc ih
    go false ih = ih

-- distinct slots whose rows are open are no more than the open rows
pub window-count : (w : List ℕ) (t : List ℕ) → distinct w ≡ true
    → ((s : ℕ) → has w s ≡ true → (2 * s + 1 < length t) × (writing (get_or t (2 * s + 1) 0) ≡ true)) → length w ≤ open_rows t
unfolding distinct has
window-count [] t d h = omega arith
window-count (s ∷ w) t d h =
    let f = h s (rw (eqb_same s)) in
    let t' : List ℕ = set t (2 * s + 1) 0 in
    let e : suc (open_rows t') ≡ open_rows t = open_less t s f.0 f.1 in
    let i : length w ≤ open_rows t' = window-count w t' (and_parts (not (has w s)) (distinct w) d).1
    (later (not-true (has w s) (and_parts (not (has w s)) (distinct w) d).0)) in
    omega arith
  where
    later : has w s ≡ false → (u : ℕ) → has w u ≡ true
        → (2 * u + 1 < length (set t (2 * s + 1) 0)) × (writing (get_or (set t (2 * s + 1) 0) (2 * u + 1) 0) ≡ true)
    later no_s u k =
        let g = h u (rw k (or-true (eqb u s))) in
        let n : 2 * u + 1 ≢ 2 * s + 1 = λ q. clash k (let q2 : u ≡ s = omega arith in rw q2 no_s) in
        (rw length-set g.0, rw (get_or-set_other t (2 * s + 1) (2 * u + 1) 0 0 n) g.1)
