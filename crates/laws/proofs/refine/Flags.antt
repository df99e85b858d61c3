-- The nine legal flags of a row, and the model's rows.
use Prim.Native.Nat.{ℕ, ◌+◌, ◌%◌, ◌<◌}
use mathlib.Core.Path.{◌≡◌, refl, sym, ◌∙◌}
use mathlib.Core.Logic.{◌⊎◌, inl, inr}
use mathlib.Core.Bool.{Bool, true, false, cond, not, ◌&&◌, ◌||◌}
use native.Mathlib.Omega.{arith}
use native.Mathlib.Decide.{dec_lt}
use lib.Dec.{eqb, ltb}
use borrow.Author.Tests.{lt-ltb, ltb-true, eqb-true, eq-eqb, not-true, not-false}
use Rattle.layout.specs.declared.Label.{Label}
use Rattle.layout.specs.PageRule.{pair_test, legal_flags}
use Rattle.protocol.specs.Rows.{valid, dirty, writing, used, without_dirty, without_writing, without_used, with_used, with_writing}
use Rattle.protocol.specs.Perform.{landed_flags}
use Rattle.protocol.specs.Judge.{row_test}
use Rattle.layout.proofs.Booleans.{clash, and_parts, or_cases}
use Rattle.laws.proofs.model.Model as model
use Rattle.laws.proofs.model.Model.{Row, dirty_row, open_row, block_of, shut, cleaned}

-- what block and stored flags say
unfoldable pub row_of : ℕ → ℕ → Row
row_of b f = cond (eqb f 1) (Row.clean b)
    (cond (eqb f 3) (Row.dirty b) (cond (eqb f 5) (Row.fetching b) (cond (eqb f 7) (Row.writing b) Row.free)))

-- a row's legal flags
pub data Flags : ℕ → Type 0 where
  f0 : Flags 0
  f1 : Flags 1
  f3 : Flags 3
  f5 : Flags 5
  f7 : Flags 7
  f9 : Flags 9
  f11 : Flags 11
  f13 : Flags 13
  f15 : Flags 15

-- a legal row
pub record LegalRow (l : Label) (b f : ℕ) : Type 0 where
  pub flags : Flags f
  pub low : valid f ≡ true → b < l.blocks
  pub free : valid f ≡ false → b ≡ 0

flags_is : {f g : ℕ} → f ≡ g → Flags g → Flags f
flags_is e k = rw e k

-- of the sums below 8, and what the used flag adds
low_high : (f k : ℕ) → f % 8 ≡ k → f < 16 → (f ≡ k) ⊎ (f ≡ k + 8)
low_high f k e h = go (dec_lt f 8)
  where
    go : Dec (f < 8) → (f ≡ k) ⊎ (f ≡ k + 8)
    go (yes q) = inl (omega arith)
    go (no q) = inr (omega arith)

pub legal_sums : (f : ℕ) → legal_flags f ≡ true → (f ≡ 0) ⊎ ((f ≡ 1) ⊎ ((f ≡ 3) ⊎ ((f ≡ 5) ⊎ (f ≡ 7))))
unfolding legal_flags
legal_sums f e = go0 (or_cases _ _ e)
  where
    go3 : ((eqb f 5) ≡ true) ⊎ ((eqb f 7) ≡ true) → (f ≡ 5) ⊎ (f ≡ 7)
    go3 (inl q) = inl (eqb-true _ _ q)
    go3 (inr q) = inr (eqb-true _ _ q)

    go2 : ((eqb f 3) ≡ true) ⊎ ((eqb f 5 || eqb f 7) ≡ true) → (f ≡ 3) ⊎ ((f ≡ 5) ⊎ (f ≡ 7))
    go2 (inl q) = inl (eqb-true _ _ q)
    go2 (inr q) = inr (go3 (or_cases _ _ q))

    go1 : ((eqb f 1) ≡ true) ⊎ ((eqb f 3 || (eqb f 5 || eqb f 7)) ≡ true) → (f ≡ 1) ⊎ ((f ≡ 3) ⊎ ((f ≡ 5) ⊎ (f ≡ 7)))
    go1 (inl q) = inl (eqb-true _ _ q)
    go1 (inr q) = inr (go2 (or_cases _ _ q))

    go0 : ((eqb f 0) ≡ true) ⊎ ((eqb f 1 || (eqb f 3 || (eqb f 5 || eqb f 7))) ≡ true)
        → (f ≡ 0) ⊎ ((f ≡ 1) ⊎ ((f ≡ 3) ⊎ ((f ≡ 5) ⊎ (f ≡ 7))))
    go0 (inl q) = inl (eqb-true _ _ q)
    go0 (inr q) = inr (go1 (or_cases _ _ q))

flags_of : (f : ℕ) → f < 16 → (not (used f) || valid f) ≡ true → (f % 8 ≡ 0) ⊎ ((f % 8 ≡ 1) ⊎ ((f % 8 ≡ 3) ⊎ ((f % 8 ≡ 5) ⊎ (f % 8 ≡ 7))))
    → Flags f
flags_of f h u (inl e) = go (low_high f 0 e h)
  where
    go : (f ≡ 0) ⊎ (f ≡ 0 + 8) → Flags f
    go (inl q) = flags_is q f0
    go (inr q) = clash {b = not (used f) || valid f} u (rw q refl)
flags_of f h u (inr (inl e)) = go (low_high f 1 e h)
  where
    go : (f ≡ 1) ⊎ (f ≡ 1 + 8) → Flags f
    go (inl q) = flags_is q f1
    go (inr q) = flags_is q f9
flags_of f h u (inr (inr (inl e))) = go (low_high f 3 e h)
  where
    go : (f ≡ 3) ⊎ (f ≡ 3 + 8) → Flags f
    go (inl q) = flags_is q f3
    go (inr q) = flags_is q f11
flags_of f h u (inr (inr (inr (inl e)))) = go (low_high f 5 e h)
  where
    go : (f ≡ 5) ⊎ (f ≡ 5 + 8) → Flags f
    go (inl q) = flags_is q f5
    go (inr q) = flags_is q f13
flags_of f h u (inr (inr (inr (inr e)))) = go (low_high f 7 e h)
  where
    go : (f ≡ 7) ⊎ (f ≡ 7 + 8) → Flags f
    go (inl q) = flags_is q f7
    go (inr q) = flags_is q f15

-- the valid flag is the lowest of a legal sum that is not 0
pub flags_zero : {f : ℕ} → Flags f → eqb (f % 8) 0 ≡ not (valid f)
flags_zero f0 = refl
flags_zero f1 = refl
flags_zero f3 = refl
flags_zero f5 = refl
flags_zero f7 = refl
flags_zero f9 = refl
flags_zero f11 = refl
flags_zero f13 = refl
flags_zero f15 = refl

pub flags_legal_lem : {f : ℕ} → Flags f → (legal_flags (f % 8) ≡ true) × (ltb f 16 ≡ true) × ((not (used f) || valid f) ≡ true)
unfolding legal_flags
flags_legal_lem f0 = (refl, refl, refl)
flags_legal_lem f1 = (refl, refl, refl)
flags_legal_lem f3 = (refl, refl, refl)
flags_legal_lem f5 = (refl, refl, refl)
flags_legal_lem f7 = (refl, refl, refl)
flags_legal_lem f9 = (refl, refl, refl)
flags_legal_lem f11 = (refl, refl, refl)
flags_legal_lem f13 = (refl, refl, refl)
flags_legal_lem f15 = (refl, refl, refl)

-- a dirty row holds a block
pub dirty_holds : {f : ℕ} → Flags f → dirty f ≡ true → valid f ≡ true
dirty_holds f0 d = clash {b = false} d refl
dirty_holds f1 d = refl
dirty_holds f3 d = refl
dirty_holds f5 d = refl
dirty_holds f7 d = refl
dirty_holds f9 d = refl
dirty_holds f11 d = refl
dirty_holds f13 d = refl
dirty_holds f15 d = refl

-- flags that a sweep took, without dirty
pub cleaned_flags : {f : ℕ} → Flags f → writing f ≡ false → used f ≡ false
    → (writing (without_dirty f) ≡ false) × (used (without_dirty f) ≡ false) × (dirty (without_dirty f) ≡ false)
cleaned_flags f0 w u = (refl, refl, refl)
cleaned_flags f1 w u = (refl, refl, refl)
cleaned_flags f3 w u = (refl, refl, refl)
cleaned_flags f5 w u = clash {b = true} refl w
cleaned_flags f7 w u = clash {b = true} refl w
cleaned_flags f9 w u = clash {b = true} refl u
cleaned_flags f11 w u = clash {b = true} refl u
cleaned_flags f13 w u = clash {b = true} refl w
cleaned_flags f15 w u = clash {b = true} refl w

pub legal-row : (l : Label) (b f : ℕ) → row_test l b f ≡ true → LegalRow l b f
unfolding row_test pair_test
legal-row l b f e =
    let p = and_parts _ _ e in
    let q = and_parts _ _ p.0 in
    let r = and_parts _ _ q.1 in
    let s = and_parts _ _ p.1 in
    let k : Flags f = flags_of f (ltb-true _ _ s.0) s.1 (legal_sums (f % 8) q.0) in
    let z = flags_zero k in
    record {
      flags = k;
      low = λ v. low_of (eqb (f % 8) 0) (z ∙ rw v) r.1;
      free = λ v. free_of (eqb (f % 8) 0) (z ∙ rw v) r.0;
    }
  where
    low_of : (t : Bool) → t ≡ false → (t || ltb b l.blocks) ≡ true → b < l.blocks
    low_of true d h = clash refl d
    low_of false d h = ltb-true _ _ h

    free_of : (t : Bool) → t ≡ true → (not t || eqb b 0) ≡ true → b ≡ 0
    free_of true d h = eqb-true _ _ h
    free_of false d h = clash d refl

pub row-legal : (l : Label) (b f : ℕ) → LegalRow l b f → row_test l b f ≡ true
unfolding row_test pair_test
row-legal l b f r =
    let k = flags_legal_lem r.flags in
    rw (k.0, k.1, k.2, pair (eqb (f % 8) 0) (flags_zero r.flags))
  where
    pair : (t : Bool) → t ≡ not (valid f) → ((not t || eqb b 0) && (t || ltb b l.blocks)) ≡ true
    pair true e = rw (eq-eqb b 0 (r.free (not-true (valid f) (sym e))))
    pair false e = rw (lt-ltb b l.blocks (r.low (not-false (valid f) (sym e))))

-- the flags of a row, and the model's row
pub record Same (b f : ℕ) : Type 0 where
  pub same-valid : model.valid (row_of b (f % 8)) ≡ valid f
  pub same-dirty : dirty_row (row_of b (f % 8)) ≡ dirty f
  pub same_open : open_row (row_of b (f % 8)) ≡ writing f
  pub same_block : valid f ≡ true → block_of (row_of b (f % 8)) ≡ b

pub same : {f : ℕ} → Flags f → (b : ℕ) → Same b f
unfolding row_of
same f0 b = record { same-valid = refl; same-dirty = refl; same_open = refl; same_block = λ v. clash v refl }
same f1 b = record { same-valid = refl; same-dirty = refl; same_open = refl; same_block = λ v. refl }
same f3 b = record { same-valid = refl; same-dirty = refl; same_open = refl; same_block = λ v. refl }
same f5 b = record { same-valid = refl; same-dirty = refl; same_open = refl; same_block = λ v. refl }
same f7 b = record { same-valid = refl; same-dirty = refl; same_open = refl; same_block = λ v. refl }
same f9 b = record { same-valid = refl; same-dirty = refl; same_open = refl; same_block = λ v. refl }
same f11 b = record { same-valid = refl; same-dirty = refl; same_open = refl; same_block = λ v. refl }
same f13 b = record { same-valid = refl; same-dirty = refl; same_open = refl; same_block = λ v. refl }
same f15 b = record { same-valid = refl; same-dirty = refl; same_open = refl; same_block = λ v. refl }

-- a change of flags: it stays legal, with the same valid flag, and is the model's change
pub record Changed (b f g : ℕ) (r : Row) : Type 0 where
  pub legal : Flags g
  pub still : valid g ≡ valid f
  pub row : row_of b (g % 8) ≡ r

pub changed_shut : {f : ℕ} → Flags f → (b : ℕ) → Changed b f (without_writing f) (shut (row_of b (f % 8)))
unfolding row_of
changed_shut f0 b = record { legal = f0; still = refl; row = refl }
changed_shut f1 b = record { legal = f1; still = refl; row = refl }
changed_shut f3 b = record { legal = f3; still = refl; row = refl }
changed_shut f5 b = record { legal = f1; still = refl; row = refl }
changed_shut f7 b = record { legal = f3; still = refl; row = refl }
changed_shut f9 b = record { legal = f9; still = refl; row = refl }
changed_shut f11 b = record { legal = f11; still = refl; row = refl }
changed_shut f13 b = record { legal = f9; still = refl; row = refl }
changed_shut f15 b = record { legal = f11; still = refl; row = refl }

pub changed_clean : {f : ℕ} → Flags f → (b : ℕ) → writing f ≡ false → Changed b f (without_dirty f) (cleaned (row_of b (f % 8)))
unfolding row_of
changed_clean f0 b o = record { legal = f0; still = refl; row = refl }
changed_clean f1 b o = record { legal = f1; still = refl; row = refl }
changed_clean f3 b o = record { legal = f1; still = refl; row = refl }
changed_clean f5 b o = clash refl o
changed_clean f7 b o = clash refl o
changed_clean f9 b o = record { legal = f9; still = refl; row = refl }
changed_clean f11 b o = record { legal = f9; still = refl; row = refl }
changed_clean f13 b o = clash refl o
changed_clean f15 b o = clash refl o

pub changed_used : {f : ℕ} → Flags f → (b : ℕ) → valid f ≡ true → Changed b f (with_used f) (row_of b (f % 8))
unfolding row_of
changed_used f0 b v = clash v refl
changed_used f1 b v = record { legal = f9; still = refl; row = refl }
changed_used f3 b v = record { legal = f11; still = refl; row = refl }
changed_used f5 b v = record { legal = f13; still = refl; row = refl }
changed_used f7 b v = record { legal = f15; still = refl; row = refl }
changed_used f9 b v = record { legal = f9; still = refl; row = refl }
changed_used f11 b v = record { legal = f11; still = refl; row = refl }
changed_used f13 b v = record { legal = f13; still = refl; row = refl }
changed_used f15 b v = record { legal = f15; still = refl; row = refl }

pub changed_unused : {f : ℕ} → Flags f → (b : ℕ) → Changed b f (without_used f) (row_of b (f % 8))
unfolding row_of
changed_unused f0 b = record { legal = f0; still = refl; row = refl }
changed_unused f1 b = record { legal = f1; still = refl; row = refl }
changed_unused f3 b = record { legal = f3; still = refl; row = refl }
changed_unused f5 b = record { legal = f5; still = refl; row = refl }
changed_unused f7 b = record { legal = f7; still = refl; row = refl }
changed_unused f9 b = record { legal = f1; still = refl; row = refl }
changed_unused f11 b = record { legal = f3; still = refl; row = refl }
changed_unused f13 b = record { legal = f5; still = refl; row = refl }
changed_unused f15 b = record { legal = f7; still = refl; row = refl }

pub changed_open : {f : ℕ} → Flags f → (b : ℕ) → valid f ≡ true → writing f ≡ false → dirty f ≡ false
    → Changed b f (with_writing f) (Row.writing b)
unfolding row_of
changed_open f0 b v o d = clash v refl
changed_open f1 b v o d = record { legal = f7; still = refl; row = refl }
changed_open f3 b v o d = clash refl d
changed_open f5 b v o d = clash refl o
changed_open f7 b v o d = clash refl o
changed_open f9 b v o d = record { legal = f15; still = refl; row = refl }
changed_open f11 b v o d = clash refl d
changed_open f13 b v o d = clash refl o
changed_open f15 b v o d = clash refl o

-- a landing closes the row, and of a write sets used
pub changed_landed : (write : Bool) {f : ℕ} → Flags f → (b : ℕ) → valid f ≡ true → Changed b f (landed_flags write f) (shut (row_of b (f % 8)))
changed_landed false F b v = changed_shut F b
changed_landed true F b v =
    let c = changed_shut F b in
    let d = changed_used c.legal b (c.still ∙ v) in
    record { legal = d.legal; still = d.still ∙ c.still; row = d.row ∙ c.row }

-- a changed row is legal
pub changed_row : {l : Label} {b f g : ℕ} {r : Row} → LegalRow l b f → Changed b f g r → LegalRow l b g
changed_row R C = record { flags = C.legal; low = λ v. R.low (sym C.still ∙ v); free = λ v. R.free (sym C.still ∙ v) }
