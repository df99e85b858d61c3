-- The lines of a load's input, read byte by byte.
use Prim.Native.Nat.{ℕ, suc, ◌-◌, ◌≤◌, ◌<◌}
use mathlib.Core.Path.{◌≡◌, refl, ◌∙◌}
use mathlib.Core.Logic.{◌≢◌}
use mathlib.Core.Bool.{Bool, true, false}
use mathlib.Core.List.{List, [], ◌∷◌}
use lib.Dec.{eqb}
use Rattle.std.specs.Bool.{then_some}
use Rattle.std.specs.Prelude.{Some, None}
use native.Mathlib.Omega.{arith}
use lib.ListN.{length}
use borrow.Author.Tests.{eq-eqb, ne_eqb, le-leb, lt-leb}
use Rattle.layout.specs.LabelPage.{number_from}
use Rattle.text.specs.Numbers.{fitting}
use Rattle.load_input.specs.LoadInput.{line, ended, illegal_if, taken, input_of}

-- the first byte of a line
pub line_zero : (b : ℕ) (bytes : List ℕ) → b ≡ 48 → line (b ∷ bytes) ≡ fitting (number_from 0 0 bytes)
unfolding line
line_zero b bytes e = rw (eq-eqb b 48 e, line)

pub line_digit : (b : ℕ) (bytes : List ℕ) → 49 ≤ b → b ≤ 57 → line (b ∷ bytes) ≡ fitting (number_from 9 (b - 48) bytes)
unfolding line
line_digit b bytes l m = rw (ne_eqb b 48 (omega arith), line) (rw (le-leb 49 b l, le-leb b 57 m))

pub line_low : (b : ℕ) (bytes : List ℕ) → b < 48 → line (b ∷ bytes) ≡ None
unfolding line
line_low b bytes l = rw (ne_eqb b 48 (omega arith), line) (rw (lt-leb 49 b (omega arith)))

pub line_high : (b : ℕ) (bytes : List ℕ) → 57 < b → line (b ∷ bytes) ≡ None
unfolding line
line_high b bytes l = rw (ne_eqb b 48 (omega arith), line) (rw (le-leb 49 b (omega arith), lt-leb b 57 l))

pub line_none : (bytes : List ℕ) → length bytes ≡ 0 → line bytes ≡ None
unfolding line
line_none [] e = refl
line_none (b ∷ bytes) e = absurd (omega arith)

-- the whole input
module _ (bytes : List ℕ) where
  pub first_none : line bytes ≡ None → None ≡ input_of bytes
  unfolding input_of
  first_none e = rw e

  module _ (seed : ℕ) (rest : List ℕ) (e : line bytes ≡ Some (record { value = seed; rest = rest })) where
    pub seed_zero : seed ≡ 0 → None ≡ input_of bytes
    unfolding input_of
    seed_zero z = rw (e, eq-eqb seed 0 z)

    pub second_none : line rest ≡ None → None ≡ input_of bytes
    unfolding input_of
    second_none f = rw (e, f) (go (eqb seed 0))
      where
        go : (t : Bool) → None ≡ illegal_if t None
        go true = refl
        go false = refl

    module _ (n : seed ≢ 0) (draws : ℕ) (more : List ℕ) (f : line rest ≡ Some (record { value = draws; rest = more })) where
      pub input_is : (t : Bool) → t ≡ eqb (length more) 0 → then_some t (record { seed = seed; draws = draws }) ≡ input_of bytes
      unfolding input_of
      input_is t q = go more q ∙ rw (e, ne_eqb seed 0 n, f)
        where
          go : (more : List ℕ) → t ≡ eqb (length more) 0 → then_some t (record { seed = seed; draws = draws }) ≡ ended more (taken seed draws)
          go [] h = rw h
          go (b ∷ more) h = rw (h ∙ ne_eqb (suc (length more)) 0 (omega arith))
