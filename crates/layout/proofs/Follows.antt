-- Whatever follows: two pages that agree on the bytes of the rows read so far are judged alike.
use Prim.Native.Nat.{ℕ, zero, suc, ◌+◌, ◌-◌, ◌≤◌}
use mathlib.Core.Path.{◌≡◌, sym, ap, ◌∙◌}
use mathlib.Core.Bool.{true}
use mathlib.Core.List.{List}
use native.Mathlib.Nat.{add-zero, add-suc}
use native.Mathlib.Omega.{arith}
use lib.ListN.{take}
use lib.Seq.{take-take}
use Rattle.layout.specs.PageRule.{read_down}
use Rattle.layout.specs.ReadDown.{Rule, rows_end, last_row, WhateverFollows}
use Rattle.layout.proofs.Booleans.{Told, told, told_true, told_false, clash}
use Rattle.layout.proofs.StandsIn.{stands_in}
use Rattle.layout.proofs.ReadExactly.{passes_exactly}

-- a row further down ends later
end_next : (k : ℕ) → rows_end k ≤ rows_end (suc k)
end_next zero = omega arith
end_next (suc zero) = omega arith
end_next (suc (suc zero)) = omega arith
end_next (suc (suc (suc zero))) = omega arith
end_next (suc (suc (suc (suc zero)))) = omega arith
end_next (suc (suc (suc (suc (suc zero))))) = omega arith
end_next (suc (suc (suc (suc (suc (suc zero)))))) = omega arith
end_next (suc (suc (suc (suc (suc (suc (suc k))))))) = omega arith

ends : (j more : ℕ) → rows_end j ≤ rows_end (j + more)
ends j zero = rw add-zero (omega arith)
ends j (suc more) = rw add-suc (omega (arith, ends j more, end_next (j + more)))

pub whatever_follows : WhateverFollows
whatever_follows k l p a b q = go (told (read_down k l p a)) (told (read_down k l p b))
  where
    onto : (x y : List ℕ) → take (rows_end k) x ≡ take (rows_end k) y → read_down k l p x ≡ true → read_down k l p y ≡ true
    onto x y q e = (passes_exactly k l p y).1 λ r h. stands_in r l p x y (fewer r h) ((passes_exactly k l p x).0 e r h)
      where
        fewer : (r : Rule) → last_row r ≤ k → take (rows_end (last_row r)) x ≡ take (rows_end (last_row r)) y
        fewer r h =
            let n = rows_end (last_row r) in
            let i : last_row r + (k - last_row r) ≡ k = omega arith in
            let m : n ≤ rows_end k = rw i at (ends (last_row r) (k - last_row r)) in
            sym (take-take n (rows_end k) x m) ∙ ap (take n) q ∙ take-take n (rows_end k) y m

    go : Told (read_down k l p a) → Told (read_down k l p b) → read_down k l p a ≡ read_down k l p b
    go (told_true s) t = s ∙ sym (onto a b q s)
    go (told_false s) (told_true t) = clash (onto b a (sym q) t) s
    go (told_false s) (told_false t) = s ∙ sym t
