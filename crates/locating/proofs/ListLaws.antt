-- The highest block of a list, and its number.
use Prim.Native.Nat.{ℕ, ◌+◌, max, ◌≤◌, ◌<◌}
use mathlib.Core.Path.{◌≡◌, sym}
use Rattle.std.specs.Prelude.{None}
use Rattle.std.proofs.lemmas.Option.{none-some}
use Rattle.protocol.specs.declared.Refusal.TheVariants.{BadList}
use mathlib.Core.List.{List}
use native.Mathlib.Omega.{arith}
use native.Mathlib.Numerals.{add-one}
use lib.ListN.{length, get_or, drop, drop_of_length-le}
use lib.Seq.{drop-cons}
use lib.Dec.{leb, ltb}
use borrow.Author.Tests.{eqb-true}
use Rattle.layout.proofs.Booleans.{Told, told, told_true, told_false, and_parts}
use Rattle.protocol.specs.Kinds.{highest}
use Rattle.protocol.specs.Judge.{list_test}
use Rattle.judging.specs.Judging.{list_then}

-- a block more
pub high_more : (blocks : List ℕ) (most j : ℕ) → j < length blocks
    → max (max most (get_or blocks j 0)) (highest (drop (j + 1) blocks)) ≡ max most (highest (drop j blocks))
unfolding highest
high_more blocks most j h = rw (add-one, drop-cons blocks j 0 h) (omega arith)

pub high_end : (blocks : List ℕ) (most j : ℕ) → length blocks ≤ j → most ≡ max most (highest (drop j blocks))
unfolding highest
high_end blocks most j h = rw (drop_of_length-le blocks {i = j} h) (omega arith)

-- a list that is not refused is as long as the answer list
module _ (blocks : List ℕ) (room limit : ℕ) where
  pub listed_fits : list_then blocks room limit None ≡ None → length blocks ≡ room
  listed_fits e = go (told (list_test (length blocks) room))
    where
      go : Told (list_test (length blocks) room) → length blocks ≡ room
      go (told_true h) =
          eqb-true _ _ (and_parts (leb (length blocks) 64) _ (and_parts (ltb 0 (length blocks)) _ h).1).1
      go (told_false h) = absurd (none-some BadList (sym (rw h at e)))
