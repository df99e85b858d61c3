-- One of two numbers.
use Rattle.std.specs.Prelude.{ℕ, Bool, true, false, ltb}

abbrev pub choose : Bool → ℕ → ℕ → ℕ
choose true a b = a
choose false a b = b

abbrev pub least : ℕ → ℕ → ℕ
least a b = choose (ltb a b) a b
