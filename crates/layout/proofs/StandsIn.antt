-- The row beside a rule is not too early: two pages that agree on the bytes down to it both keep the rule, or neither does.
use Prim.Native.Nat.{ℕ, zero, suc, ◌+◌, ◌*◌, ◌≤◌, ◌<◌}
use mathlib.Core.Path.{◌≡◌, refl, sym, ap, ◌∙◌}
use mathlib.Core.List.{List, ◌∷◌, []}
use native.Mathlib.Omega.{arith}
use lib.ListN.{get_or, take, drop}
use lib.Seq.{take-take, get_or-take}
use Rattle.pages.specs.Words.{le_number}
use Rattle.layout.specs.MetaPage.{stamp_of, count_of, slot_at, entry_part}
use Rattle.layout.specs.ReadDown.{Rule, rows_end, last_row, StandsIn}
use Rattle.layout.specs.ReadDown.Rule.{length_most, stamp_zero, zero6, slots_below, slots_apart, zero_past, zero268, flags_legal, free_zero, beyond_free, block_below, entry_zero, zero2432}

part_of : (n m e : ℕ) (a : List ℕ) → n + m ≤ e → take m (drop n (take e a)) ≡ take m (drop n a)
part_of zero m e a h = take-take m e a (omega arith)
part_of (suc n) m zero a h = absurd (omega arith)
part_of (suc n) m (suc e) [] h = refl
part_of (suc n) m (suc e) (x ∷ xs) h = part_of n m e xs (omega arith)

-- what is read of both is the same
module _ (a b : List ℕ) (e : ℕ) (q : take e a ≡ take e b) where
  byte_same : (k : ℕ) → k < e → get_or a k 0 ≡ get_or b k 0
  byte_same k h = sym (get_or-take e a k 0 h) ∙ ap (λ (t : List ℕ). get_or t k 0) q ∙ get_or-take e b k 0 h

  part_same : (n m : ℕ) → n + m ≤ e → take m (drop n a) ≡ take m (drop n b)
  part_same n m h = sym (part_of n m e a h) ∙ ap (λ (t : List ℕ). take m (drop n t)) q ∙ part_of n m e b h

  stamp-same : 4 ≤ e → stamp_of a ≡ stamp_of b
  unfolding stamp_of
  stamp-same h = ap le_number (part_same 0 4 (omega arith))

  length-same : 6 ≤ e → count_of a ≡ count_of b
  unfolding count_of
  length-same h = ap le_number (part_same 4 2 (omega arith))

  slot_same : 268 ≤ e → (k : ℕ) → k < 63 → (slot_at a k).0 ≡ (slot_at b k).0
  unfolding slot_at
  slot_same h k s = ap le_number (part_same (16 + 4 * k) 4 (omega arith))

  entry_same : 2432 ≤ e → (i : ℕ) → i < 240 → entry_part a i ≡ entry_part b i
  unfolding entry_part
  entry_same h i s = part_same (512 + 8 * i) 8 (omega arith)

-- where a rule's last row ends
abbrev end : Rule → ℕ
end r = rows_end (last_row r)

pub stands_in : StandsIn
stands_in length_most l p a b q h = rw (sym (length-same a b (end length_most) q (omega arith))) h
stands_in stamp_zero l p a b q h =
    rw (sym (stamp-same a b (end stamp_zero) q (omega arith)), sym (length-same a b (end stamp_zero) q (omega arith))) h
stands_in zero6 l p a b q h = λ k s t. sym (byte_same a b (end zero6) q k (omega arith)) ∙ h k s t
stands_in slots_below l p a b q h =
    λ k s t.
    rw (sym (slot_same a b (end slots_below) q (omega arith) k s))
    (h k s (omega (arith, length-same a b (end slots_below) q (omega arith))))
stands_in slots_apart l p a b q h =
    λ k m s t u.
    rw (sym (slot_same a b (end slots_apart) q (omega arith) k (omega arith)), sym (slot_same a b (end slots_apart) q (omega arith) m t))
    (h k m s t (omega (arith, length-same a b (end slots_apart) q (omega arith))))
stands_in zero_past l p a b q h =
    λ k s t. sym (byte_same a b (end zero_past) q k (omega arith)) ∙ h k (omega (arith, length-same a b (end zero_past) q (omega arith))) t
stands_in zero268 l p a b q h = λ k s t. sym (byte_same a b (end zero268) q k (omega arith)) ∙ h k s t
stands_in flags_legal l p a b q h = λ i s. rw (sym (entry_same a b (end flags_legal) q (omega arith) i s)) (h i s)
stands_in free_zero l p a b q h = λ i s. rw (sym (entry_same a b (end free_zero) q (omega arith) i s)) (h i s)
stands_in beyond_free l p a b q h = λ i s. rw (sym (entry_same a b (end beyond_free) q (omega arith) i s)) (h i s)
stands_in block_below l p a b q h = λ i s. rw (sym (entry_same a b (end block_below) q (omega arith) i s)) (h i s)
stands_in entry_zero l p a b q h = λ i s. rw (sym (entry_same a b (end entry_zero) q (omega arith) i s)) (h i s)
stands_in zero2432 l p a b q h = λ k s t. sym (byte_same a b (end zero2432) q k (omega arith)) ∙ h k s t
