-- A word of the one pass, in the running table.
use Prim.Native.Nat.{ℕ, zero, suc, ◌+◌, ◌-◌, ◌*◌, ◌≤◌, ◌<◌}
use mathlib.Core.Path.{◌≡◌, refl, sym, ap, ◌∙◌}
use mathlib.Core.Logic.{◌≢◌}
use mathlib.Core.Bool.{true}
use mathlib.Core.List.{List, [], ◌∷◌}
use Rattle.std.specs.Prelude.{Option, Some, None}
use native.Mathlib.Omega.{arith}
use native.Mathlib.Decide.{ℕ_discrete, dec_lt}
use native.Mathlib.Nat.{zero-add}
use native.Mathlib.Numerals.{add-one}
use lib.ListN.{length, get_or, set}
use lib.Seq.{get_or-set_same, get_or-set_other}
use lib.Dec.{eqb}
use borrow.Author.Tests.{eqb-true}
use Rattle.layout.specs.declared.Slot.{Slot}
use Rattle.layout.specs.declared.Block.{Block}
use Rattle.layout.specs.declared.Label.{Label}
use Rattle.layout.proofs.Booleans.{and_parts}
use Rattle.protocol.specs.declared.Condition.TheVariants.{NotCached}
use Rattle.protocol.specs.Rows.{set_row, valid}
use Rattle.protocol.specs.Condition.{slot_of, condition_at, condition_of}
use Rattle.laws.proofs.model.Model as model
use Rattle.laws.proofs.model.Model.{block_of}
use Rattle.laws.proofs.refine.Tables.{Rows, at_valid, at_block}
use Rattle.laws.proofs.refine.Sweeps.{Alike}
use Rattle.laws.proofs.refine.Conditions.{Located, at, nowhere, located}
use Rattle.table.specs.Scan.{holds_in}
use Rattle.locating.specs.Places.{place_word, places_of}
use Rattle.list_turns.specs.Found.{Unheld, Found}

module _ (t : List ℕ) (b : Block) (n : ℕ) (size : length t ≡ 2 * n) where
  -- no row holds it
  pub found_none : (word : ℕ) → word ≡ 0 → Found n t b.0 word → NotCached ≡ condition_of t b
  unfolding condition_of
  found_none (suc w) z F = absurd (omega arith)
  found_none zero z F = ap (condition_at t) (go (located 0 t b))
    where
      go : {o : Option Slot} → Located 0 t b.0 o → None ≡ o
      go (nowhere h) = refl
      go (at i h v q low) = absurd (F.1 i (omega (arith, size)) v q)

  -- the row found holds it still
  pub found_there : (word : ℕ) → word ≢ 0 → Found n t b.0 word
      → holds_in (get_or t (2 * (word - 1)) 0) (get_or t (2 * (word - 1) + 1) 0) b.0 ≡ true → Some (record { 0 = word - 1 }) ≡ slot_of t b
  found_there zero z F e = absurd (z refl)
  found_there (suc s) z F e = go (located 0 t b)
    where
      here : suc s - 1 ≡ s
      here = omega arith

      held : (valid (get_or t (2 * s + 1) 0) ≡ true) × (get_or t (2 * s) 0 ≡ b.0)
      held =
          let p = and_parts (valid (get_or t (2 * s + 1) 0)) (eqb (get_or t (2 * s) 0) b.0) (rw here at e) in
          (p.0, eqb-true _ _ p.1)

      same : (i : ℕ) → (i < s → ⊥) → (s < i → ⊥) → suc s - 1 ≡ 0 + i
      same i p q = go (dec_lt i s) (dec_lt s i)
        where
          go : Dec (i < s) → Dec (s < i) → suc s - 1 ≡ 0 + i
          go (yes h) k = absurd (p h)
          go (no h) (yes k) = absurd (q k)
          go (no h) (no k) = omega arith

      go : {o : Option Slot} → Located 0 t b.0 o → Some (record { 0 = suc s - 1 }) ≡ o
      go (nowhere h) = absurd (h s (omega (arith, size, F.0)) held.0 held.1)
      go (at i h v q low) = ap (λ (m : ℕ). Some (record { 0 = m })) (same i (λ k. F.1 i k v q) (λ k. low s k held.0 held.1))

  pub there_is : (word : ℕ) → word ≢ 0 → Found n t b.0 word
      → holds_in (get_or t (2 * (word - 1)) 0) (get_or t (2 * (word - 1) + 1) 0) b.0 ≡ true → condition_at t (Some (record { 0 = word - 1 })) ≡ condition_of t b
  unfolding condition_of
  there_is word z F e = ap (condition_at t) (found_there word z F e)

-- the pass's word is where it is
found_word : (t : List ℕ) (b : Block) (n : ℕ) → length t ≡ 2 * n → {o : Option Slot} → Located 0 t b.0 o → Found n t b.0 (place_word o)
found_word t b n size (nowhere h) = (omega arith, λ s k. h s (omega (arith, size)))
found_word t b n size (at i h v q low) = rw (zero-add i, add-one i) (omega (arith, size), low)

pub found_first : (t blocks : List ℕ) (n : ℕ) → length t ≡ 2 * n → (j : ℕ) → j < length blocks
    → Found n t (get_or blocks j 0) (get_or (places_of t blocks) j 0)
found_first t [] n size j h = absurd (omega arith)
found_first t (b ∷ blocks) n size zero h = found_word t (record { 0 = b }) n size (located 0 t (record { 0 = b }))
found_first t (b ∷ blocks) n size (suc j) h = found_first t blocks n size j (omega arith)

-- used flags that are cleared leave a block where it is
pub unheld_alike : (l : Label) (t v : List ℕ) → Rows l t → Alike l t v → (n c : ℕ) → n ≤ l.slots → Unheld n t c → Unheld n v c
unheld_alike l t v R A n c m H u k held e =
    let low : u < l.slots = omega arith in
    let was = sym (at_valid l t R u low) ∙ ap model.valid (sym (A.row u)) ∙ at_valid l v A.legal u low ∙ held in
    H u k was (sym (at_block l t R u low was) ∙ ap block_of (sym (A.row u)) ∙ at_block l v A.legal u low held ∙ e)

-- and so does a row that another block takes
pub unheld_row : (v : List ℕ) (s : Slot) (b : Block) (f : ℕ) → 2 * s.0 + 1 < length v → (n c : ℕ) → b.0 ≢ c → Unheld n v c
    → Unheld n (set_row v s b f) c
unheld_row v s b f h n c other H u k = go (ℕ_discrete u s.0)
  where
    w : List ℕ
    w = set v (2 * s.0) b.0

    go : Dec (u ≡ s.0) → valid (get_or (set w (2 * s.0 + 1) f) (2 * u + 1) 0) ≡ true → get_or (set w (2 * s.0 + 1) f) (2 * u) 0 ≢ c
    go (yes q) held = λ e. other (sym (get_or-set_same v (2 * s.0) b.0 0 (omega arith))
        ∙ sym (get_or-set_other w (2 * s.0 + 1) (2 * s.0) f 0 (omega arith)) ∙ ap (λ (i : ℕ). get_or (set w (2 * s.0 + 1) f) (2 * i) 0) (sym q) ∙ e)
    go (no q) held =
        let b-is = get_or-set_other w (2 * s.0 + 1) (2 * u) f 0 (omega arith) ∙ get_or-set_other v (2 * s.0) (2 * u) b.0 0 (λ z. q (omega arith)) in
        let f-is = get_or-set_other w (2 * s.0 + 1) (2 * u + 1) f 0 (λ z. q (omega arith)) ∙ get_or-set_other v (2 * s.0) (2 * u + 1) b.0 0 (omega arith) in
        λ e. H u k (ap valid (sym f-is) ∙ held) (sym b-is ∙ e)
