-- The table's rows as the model's, and what each change of a row leaves.
use Prim.Native.Nat.{ℕ, zero, suc, ◌+◌, ◌*◌, ◌%◌, ◌≤◌, ◌<◌}
use mathlib.Core.Path.{◌≡◌, refl, ap, ◌∙◌}
use mathlib.Core.Bool.{Bool, true, cond}
use mathlib.Core.List.{List, [], ◌∷◌}
use native.Mathlib.Omega.{arith}
use native.Mathlib.Decide.{ℕ_discrete}
use lib.ListN.{length, get_or, set, length-set, get_or-eq_default}
use lib.Seq.{get_or-set_same, get_or-set_other}
use lib.Dec.{eqb}
use borrow.Author.Tests.{ne_eqb}
use Rattle.layout.specs.declared.Label.{Label}
use Rattle.layout.specs.Places.{table_length}
use Rattle.protocol.specs.Rows.{valid, dirty, writing, each_row}
use Rattle.layout.proofs.Booleans.{and_parts}
use Rattle.laws.proofs.model.Base.{upd, upd_same, upd_other, eqb_same}
use Rattle.laws.proofs.model.Model as model
use Rattle.laws.proofs.model.Model.{Row, dirty_row, open_row, block_of}
use Rattle.laws.proofs.refine.Flags.{row_of, LegalRow, Same, same}

-- row s of a table
unfoldable pub row_at : List ℕ → ℕ → Row
row_at t s = row_of (get_or t (2 * s) 0) (get_or t (2 * s + 1) 0 % 8)

pub row_at_out : (t : List ℕ) (s : ℕ) → length t ≤ 2 * s → row_at t s ≡ Row.free
unfolding row_at row_of
row_at_out t s h = rw (get_or-eq_default t 0 {n = 2 * s} h, get_or-eq_default t 0 {n = 2 * s + 1} (omega arith))

-- every row is legal
abbrev pub Rows : Label → List ℕ → Type 0
Rows l t = (s : ℕ) → s < l.slots → LegalRow l (get_or t (2 * s) 0) (get_or t (2 * s + 1) 0)

module _ (l : Label) (t : List ℕ) (size : length t ≡ table_length l) where
  -- the two words of a row that was set
  pub set-block : (s u b f : ℕ) → s < l.slots → get_or (set (set t (2 * s) b) (2 * s + 1) f) (2 * u) 0 ≡ cond (eqb u s) b (get_or t (2 * u) 0)
  set-block s u b f h = go (ℕ_discrete u s)
    where
      go : Dec (u ≡ s) → get_or (set (set t (2 * s) b) (2 * s + 1) f) (2 * u) 0 ≡ cond (eqb u s) b (get_or t (2 * u) 0)
      go (yes e) =
          rw (e, eqb_same s, get_or-set_other (set t (2 * s) b) (2 * s + 1) (2 * s) f 0 (omega arith))
          (get_or-set_same t (2 * s) b 0 (omega arith))
      go (no n) =
          rw (ne_eqb u s n, get_or-set_other (set t (2 * s) b) (2 * s + 1) (2 * u) f 0 (omega arith))
          (get_or-set_other t (2 * s) (2 * u) b 0 (λ e. n (omega arith)))

  pub set_flags_is : (s u f : ℕ) → s < l.slots → get_or (set t (2 * s + 1) f) (2 * u + 1) 0 ≡ cond (eqb u s) f (get_or t (2 * u + 1) 0)
  set_flags_is s u f h = go (ℕ_discrete u s)
    where
      go : Dec (u ≡ s) → get_or (set t (2 * s + 1) f) (2 * u + 1) 0 ≡ cond (eqb u s) f (get_or t (2 * u + 1) 0)
      go (yes e) = rw (e, eqb_same s) (get_or-set_same t (2 * s + 1) f 0 (omega arith))
      go (no n) = rw (ne_eqb u s n) (get_or-set_other t (2 * s + 1) (2 * u + 1) f 0 (λ e. n (omega arith)))

  pub keep_block : (s u f : ℕ) → get_or (set t (2 * s + 1) f) (2 * u) 0 ≡ get_or t (2 * u) 0
  keep_block s u f = get_or-set_other t (2 * s + 1) (2 * u) f 0 (omega arith)

-- a row's flags are changed
module _ (l : Label) (t : List ℕ) (size : length t ≡ table_length l) (s f : ℕ) (h : s < l.slots) where
  pub flags_at : (u : ℕ) → row_at (set t (2 * s + 1) f) u ≡ upd (row_at t) s (row_of (get_or t (2 * s) 0) (f % 8)) u
  unfolding row_at
  flags_at u = go (ℕ_discrete u s)
    where
      go : Dec (u ≡ s) → row_of (get_or (set t (2 * s + 1) f) (2 * u) 0) (get_or (set t (2 * s + 1) f) (2 * u + 1) 0 % 8) ≡ upd
          (λ v. row_of (get_or t (2 * v) 0) (get_or t (2 * v + 1) 0 % 8)) s (row_of (get_or t (2 * s) 0) (f % 8)) u
      go (yes e) = rw (e, upd_same, keep_block l t size s s f, set_flags_is l t size s s f h, eqb_same s)
      go (no n) = rw (upd_other, keep_block l t size s u f, set_flags_is l t size s u f h, ne_eqb u s n)

  pub flags_rows : Rows l t → LegalRow l (get_or t (2 * s) 0) f → Rows l (set t (2 * s + 1) f)
  flags_rows R L u k = go (ℕ_discrete u s)
    where
      go : Dec (u ≡ s) → LegalRow l (get_or (set t (2 * s + 1) f) (2 * u) 0) (get_or (set t (2 * s + 1) f) (2 * u + 1) 0)
      go (yes e) = rw (e, keep_block l t size s s f, set_flags_is l t size s s f h, eqb_same s) L
      go (no n) = rw (keep_block l t size s u f, set_flags_is l t size s u f h, ne_eqb u s n) (R u k)

-- a whole row is set
module _ (l : Label) (t : List ℕ) (size : length t ≡ table_length l) (s b f : ℕ) (h : s < l.slots) where
  sized : length (set t (2 * s) b) ≡ table_length l
  sized = length-set t (2 * s) b ∙ size

  flags_word : (u : ℕ) → get_or (set (set t (2 * s) b) (2 * s + 1) f) (2 * u + 1) 0 ≡ cond (eqb u s) f (get_or t (2 * u + 1) 0)
  flags_word u = set_flags_is l (set t (2 * s) b) sized s u f h
      ∙ ap (λ (n : ℕ). cond (eqb u s) f n) (get_or-set_other t (2 * s) (2 * u + 1) b 0 (omega arith))

  pub set_at : (u : ℕ) → row_at (set (set t (2 * s) b) (2 * s + 1) f) u ≡ upd (row_at t) s (row_of b (f % 8)) u
  unfolding row_at
  set_at u = go (ℕ_discrete u s)
    where
      go : Dec (u ≡ s) → row_of (get_or (set (set t (2 * s) b) (2 * s + 1) f) (2 * u) 0)
          (get_or (set (set t (2 * s) b) (2 * s + 1) f) (2 * u + 1) 0 % 8) ≡ upd
          (λ v. row_of (get_or t (2 * v) 0) (get_or t (2 * v + 1) 0 % 8)) s (row_of b (f % 8)) u
      go (yes e) = rw (e, upd_same, set-block l t size s s b f h, flags_word s, eqb_same s)
      go (no n) = rw (upd_other, set-block l t size s u b f h, flags_word u, ne_eqb u s n)

  pub set-rows : Rows l t → LegalRow l b f → Rows l (set (set t (2 * s) b) (2 * s + 1) f)
  set-rows R L u k = go (ℕ_discrete u s)
    where
      go : Dec (u ≡ s) → LegalRow l (get_or (set (set t (2 * s) b) (2 * s + 1) f) (2 * u) 0)
          (get_or (set (set t (2 * s) b) (2 * s + 1) f) (2 * u + 1) 0)
      go (yes e) = rw (e, set-block l t size s s b f h, flags_word s, eqb_same s) L
      go (no n) = rw (set-block l t size s u b f h, flags_word u, ne_eqb u s n) (R u k)

  pub length-row : length (set (set t (2 * s) b) (2 * s + 1) f) ≡ table_length l
  length-row = length-set (set t (2 * s) b) (2 * s + 1) f ∙ sized

-- rows and flags
module _ (l : Label) (t : List ℕ) (R : Rows l t) (s : ℕ) (h : s < l.slots) where
  pub at_same : Same (get_or t (2 * s) 0) (get_or t (2 * s + 1) 0)
  at_same = same (R s h).flags (get_or t (2 * s) 0)

  pub at_valid : model.valid (row_at t s) ≡ valid (get_or t (2 * s + 1) 0)
  unfolding row_at
  at_valid = at_same.same-valid

  pub at_dirty : dirty_row (row_at t s) ≡ dirty (get_or t (2 * s + 1) 0)
  unfolding row_at
  at_dirty = at_same.same-dirty

  pub at_open : open_row (row_at t s) ≡ writing (get_or t (2 * s + 1) 0)
  unfolding row_at
  at_open = at_same.same_open

  pub at_block : valid (get_or t (2 * s + 1) 0) ≡ true → block_of (row_at t s) ≡ get_or t (2 * s) 0
  unfolding row_at
  at_block v = at_same.same_block v

-- the words of the next row
pub at_suc : (s : ℕ) → (2 * suc s ≡ suc (suc (2 * s))) × (2 * suc s + 1 ≡ suc (suc (2 * s + 1)))
at_suc s = (omega arith, omega arith)

-- a test at every row of a table
pub each_get : (test : ℕ → ℕ → ℕ → Bool) (k : ℕ) (t : List ℕ) → each_row test k t ≡ true → (s : ℕ) → 2 * s + 1 < length t
    → test (k + s) (get_or t (2 * s) 0) (get_or t (2 * s + 1) 0) ≡ true
unfolding each_row
each_get test k [] e s h = absurd (omega arith)
each_get test k (b ∷ []) e s h = absurd (omega arith)
each_get test k (b ∷ f ∷ t) e zero h = let z : k + 0 ≡ k = omega arith in rw z (and_parts (test k b f) (each_row test (suc k) t) e).0
each_get test k (b ∷ f ∷ t) e (suc s) h =
    let i = each_get test (suc k) t (and_parts (test k b f) (each_row test (suc k) t) e).1 s (omega arith) in
    let e : k + suc s ≡ suc k + s = omega arith in
    rw ((at_suc s).1, (at_suc s).0, e) i

pub each_of : (test : ℕ → ℕ → ℕ → Bool) (k : ℕ) (t : List ℕ)
    → ((s : ℕ) → 2 * s + 1 < length t → test (k + s) (get_or t (2 * s) 0) (get_or t (2 * s + 1) 0) ≡ true) → each_row test k t ≡ true
unfolding each_row
each_of test k [] h = refl
each_of test k (b ∷ []) h = refl
each_of test k (b ∷ f ∷ t) h =
    let z : k + 0 ≡ k = omega arith in
    let first : test k b f ≡ true = rw z at (h 0 (omega arith)) in
    rw (first, each_of test (suc k) t later)
  where
    later : (s : ℕ) → 2 * s + 1 < length t → test (suc k + s) (get_or t (2 * s) 0) (get_or t (2 * s + 1) 0) ≡ true
    later s q =
        let e : k + suc s ≡ suc k + s = omega arith in
        let i = h (suc s) (omega arith) in
        rw ((at_suc s).1, (at_suc s).0, e) at i
