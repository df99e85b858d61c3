-- What a block's condition says of the table.
use Prim.Native.Nat.{ℕ, zero, suc, ◌+◌, ◌*◌, ◌<◌}
use mathlib.Core.Path.{◌≡◌, refl, ap, ◌∙◌}
use mathlib.Core.Logic.{◌≢◌}
use mathlib.Core.Bool.{Bool, true, false, ◌&&◌}
use mathlib.Core.List.{List, [], ◌∷◌}
use Rattle.std.specs.Prelude.{Option, Some, None}
use native.Mathlib.Omega.{arith}
use native.Mathlib.Nat.{zero-add}
use lib.ListN.{length, get_or, set}
use lib.Seq.{get_or-set_other}
use lib.Dec.{eqb}
use borrow.Author.Tests.{eqb-true}
use Rattle.layout.specs.declared.Slot.{Slot}
use Rattle.layout.specs.declared.Block.{Block}
use Rattle.layout.specs.declared.Label.{Label}
use Rattle.layout.specs.Places.{table_length}
use Rattle.protocol.specs.declared.Condition.{Condition}
use Rattle.protocol.specs.declared.Condition.TheVariants.{NotCached, Clean, Dirty, Writing, Fetching}
use Rattle.protocol.specs.Rows.{valid, dirty, writing}
use Rattle.protocol.specs.Condition.{slot_from, open_as, closed_as, condition_at, condition_of}
use Rattle.layout.proofs.Booleans.{Told, told, told_true, told_false, clash, and_parts}
use Rattle.laws.proofs.model.Base.{eqb_same}

-- what a search among rows from slot k on finds
pub data Located (k : ℕ) (t : List ℕ) (b : ℕ) : Option Slot → Type 0 where
  at : (i : ℕ) → 2 * i + 1 < length t → valid (get_or t (2 * i + 1) 0) ≡ true → get_or t (2 * i) 0 ≡ b
      → ((j : ℕ) → j < i → valid (get_or t (2 * j + 1) 0) ≡ true → get_or t (2 * j) 0 ≢ b) → Located k t b (Some (record { 0 = k + i }))
  nowhere : ((j : ℕ) → 2 * j + 1 < length t → valid (get_or t (2 * j + 1) 0) ≡ true → get_or t (2 * j) 0 ≢ b) → Located k t b None

pub located : (k : ℕ) (t : List ℕ) (b : Block) → Located k t b.0 (slot_from k t b)
unfolding slot_from
located k [] b = nowhere λ j h. absurd (omega arith)
located k (x ∷ []) b = nowhere λ j h. absurd (omega arith)
located k (x ∷ f ∷ t) b = go (told (valid f && eqb x b.0)) (located (suc k) t b)
  where
    -- nothing in the first row
    first_no : (valid f && eqb x b.0) ≡ false → valid f ≡ true → x ≢ b.0
    first_no e v q = clash {b = valid f && eqb x b.0} (rw (v, q) (eqb_same b.0)) e

    skip : (j : ℕ) (P : ℕ → ℕ → Type 0) → P (get_or t (2 * j) 0) (get_or t (2 * j + 1) 0)
        → P (get_or (x ∷ f ∷ t) (2 * suc j) 0) (get_or (x ∷ f ∷ t) (2 * suc j + 1) 0)
    skip j P p =
        let e0 : 2 * suc j ≡ suc (suc (2 * j)) = omega arith in
        let e1 : 2 * suc j + 1 ≡ suc (suc (2 * j + 1)) = omega arith in
        rw (e1, e0) p

    before : (n : ℕ) → (valid f && eqb x b.0) ≡ false
        → ((j : ℕ) → j < n → valid (get_or t (2 * j + 1) 0) ≡ true → get_or t (2 * j) 0 ≢ b.0)
        → (j : ℕ) → j < suc n → valid (get_or (x ∷ f ∷ t) (2 * j + 1) 0) ≡ true → get_or (x ∷ f ∷ t) (2 * j) 0 ≢ b.0
    before n e h zero q = first_no e
    before n e h (suc j) q = skip j (λ x f. valid f ≡ true → x ≢ b.0) (h j (omega arith))

    go : {o : Option Slot} → Told (valid f && eqb x b.0) → Located (suc k) t b.0 o
        → Located k (x ∷ f ∷ t) b.0 (elim (valid f && eqb x b.0) [ true ↦ Some (record { 0 = k }) | false ↦ o ])
    go (told_true e) L =
        let z : k + 0 ≡ k = omega arith in
        let first : Located k (x ∷ f ∷ t) b.0 (Some (record { 0 = k + 0 })) =
        at 0 (omega arith) (and_parts (valid f) (eqb x b.0) e).0 (eqb-true _ _ (and_parts (valid f) (eqb x b.0) e).1)
        (λ j q. absurd (omega arith))
        in
        rw e (rw z at first)
    go (told_false e) (at i h v q low) =
        let z : suc k + i ≡ k + suc i = omega arith in
        rw (e, z) (at (suc i) (omega arith) (skip i (λ x f. valid f ≡ true) v) (skip i (λ x f. x ≡ b.0) q) (before i e low))
    go (told_false e) (nowhere h) = rw e (nowhere (λ j q. none_at j q))
      where
        none_at : (j : ℕ) → 2 * j + 1 < length (x ∷ f ∷ t) → valid (get_or (x ∷ f ∷ t) (2 * j + 1) 0) ≡ true
            → get_or (x ∷ f ∷ t) (2 * j) 0 ≢ b.0
        none_at zero q = first_no e
        none_at (suc j) q = skip j (λ x f. valid f ≡ true → x ≢ b.0) (h j (omega arith))

-- a slot that holds a block
pub record Held (l : Label) (t : List ℕ) (b s : ℕ) : Type 0 where
  pub low : s < l.slots
  pub held : valid (get_or t (2 * s + 1) 0) ≡ true
  pub block : get_or t (2 * s) 0 ≡ b

-- what a condition says
pub data Stands (l : Label) (t : List ℕ) (b : ℕ) : Condition → Type 0 where
  absent : ((s : ℕ) → s < l.slots → valid (get_or t (2 * s + 1) 0) ≡ true → get_or t (2 * s) 0 ≢ b) → Stands l t b NotCached
  is_clean : (s : ℕ) → Held l t b s → writing (get_or t (2 * s + 1) 0) ≡ false → dirty (get_or t (2 * s + 1) 0) ≡ false
      → Stands l t b (Clean (record { 0 = s }))
  is_dirty : (s : ℕ) → Held l t b s → writing (get_or t (2 * s + 1) 0) ≡ false → dirty (get_or t (2 * s + 1) 0) ≡ true
      → Stands l t b (Dirty (record { 0 = s }))
  is_writing_is : (s : ℕ) → Held l t b s → writing (get_or t (2 * s + 1) 0) ≡ true → dirty (get_or t (2 * s + 1) 0) ≡ true
      → Stands l t b (Writing (record { 0 = s }))
  is_fetching : (s : ℕ) → Held l t b s → writing (get_or t (2 * s + 1) 0) ≡ true → dirty (get_or t (2 * s + 1) 0) ≡ false
      → Stands l t b (Fetching (record { 0 = s }))

pub stands : (l : Label) (t : List ℕ) → length t ≡ table_length l → (b : Block) → Stands l t b.0 (condition_of t b)
unfolding condition_of
stands l t size b = go (located 0 t b)
  where
    by_flags : (s : ℕ) → Held l t b.0 s → Told (writing (get_or t (2 * s + 1) 0)) → Told (dirty (get_or t (2 * s + 1) 0))
        → Stands l t b.0 (condition_at t (Some (record { 0 = s })))
    by_flags s H (told_true w) (told_true d) = rw (condition_at, w, d) (is_writing_is s H w d)
    by_flags s H (told_true w) (told_false d) = rw (condition_at, w, d) (is_fetching s H w d)
    by_flags s H (told_false w) (told_true d) = rw (condition_at, w, d) (is_dirty s H w d)
    by_flags s H (told_false w) (told_false d) = rw (condition_at, w, d) (is_clean s H w d)

    go : {o : Option Slot} → Located 0 t b.0 o → Stands l t b.0 (condition_at t o)
    go (nowhere h) = absent λ s q. h s (omega arith)
    go (at i h v q low) = rw (zero-add i) (by_flags i (record { low = omega arith; held = v; block = q })
        (told (writing (get_or t (2 * i + 1) 0))) (told (dirty (get_or t (2 * i + 1) 0))))

-- flags that stay valid, or not, keep every block's slot
pub slot_kept : (k : ℕ) (t : List ℕ) (s f : ℕ) (b : Block) → valid f ≡ valid (get_or t (2 * s + 1) 0)
    → slot_from k (set t (2 * s + 1) f) b ≡ slot_from k t b
unfolding slot_from
slot_kept k [] s f b e = refl
slot_kept k (x ∷ []) zero f b e = refl
slot_kept k (x ∷ []) (suc s) f b e = let n : 2 * suc s + 1 ≡ suc (suc (2 * s + 1)) = omega arith in rw n refl
slot_kept k (x ∷ g ∷ t) zero f b e =
    ap (λ (v : Bool). elim (v && eqb x b.0) [ true ↦ Some (record { 0 = k }) | false ↦ slot_from (suc k) t b ]) e
slot_kept k (x ∷ g ∷ t) (suc s) f b e =
    let n : 2 * suc s + 1 ≡ suc (suc (2 * s + 1)) = omega arith in
    let r = slot_kept (suc k) t s f b (rw n at e) in
    rw n (ap (λ (o : Option Slot). elim (valid g && eqb x b.0) [ true ↦ Some (record { 0 = k }) | false ↦ o ]) r)

-- and the condition of every block but the row's own
pub condition_kept : (t : List ℕ) (s f : ℕ) (b : Block) → valid f ≡ valid (get_or t (2 * s + 1) 0) → get_or t (2 * s) 0 ≢ b.0
    → condition_of (set t (2 * s + 1) f) b ≡ condition_of t b
unfolding condition_of
condition_kept t s f b v n = ap (condition_at (set t (2 * s + 1) f)) (slot_kept 0 t s f b v) ∙ go (located 0 t b)
  where
    go : {o : Option Slot} → Located 0 t b.0 o → condition_at (set t (2 * s + 1) f) o ≡ condition_at t o
    go (nowhere h) = refl
    go (at i h w e low) =
        let q : get_or (set t (2 * s + 1) f) (2 * (0 + i) + 1) 0 ≡ get_or t (2 * (0 + i) + 1) 0 =
        get_or-set_other t (2 * s + 1) (2 * (0 + i) + 1) f 0 (λ z. n (ap (λ (j : ℕ). get_or t (2 * j) 0) (same z) ∙ e)) in
        ap
        (λ (g : ℕ). elim (writing g) [ true ↦ open_as (dirty g) (record { 0 = 0 + i }) | false ↦ closed_as (dirty g) (record { 0 = 0 + i }) ])
        q
      where
        same : 2 * (0 + i) + 1 ≡ 2 * s + 1 → s ≡ i
        same z = omega arith
