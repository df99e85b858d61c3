use Prim.Native.Nat.{ℕ, ◌+◌, ◌*◌}
use mathlib.Core.Path.{◌≡◌, ap}
use mathlib.Core.List.{List}
use native.Mathlib.Nat.{add-zero}
use lib.ListN.{length, get_or, drop, drop_of_length-le}
use lib.Seq.{drop-drop, get_or-drop}
use Rattle.pages.specs.Words.{le_number}
use Rattle.pages.proofs.WordLaws.{number_front}
use native.Mathlib.Omega.{arith}
use Rattle.pages.proofs.read_word.Goals as goal

-- four bytes, one after the other
four : (l : List ℕ) → length l ≡ 4 → le_number l ≡ get_or l 0 0 + 256 * (get_or l 1 0 + 256 * (get_or l 2 0 + 256 * get_or l 3 0))
unfolding le_number
four l h =
    let n : (i : ℕ) → le_number (drop i l) ≡ get_or l i 0 + 256 * le_number (drop (i + 1) l) = λ i.
    rw (number_front (drop i l), get_or-drop i l 0 0, add-zero, drop-drop 1 i l)
    in
    let z : le_number (drop 4 l) ≡ 0 = ap le_number (drop_of_length-le l {i = 4} (omega arith)) in
    omega (arith, n 0, n 1, n 2, n 3, z)

pub returns : goal.returns
returns c =
    let e = four c.args.part.now c.requires in
    omega arith
