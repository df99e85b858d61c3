-- Every block of a load reads as on a plain disk.
use Rattle.std.specs.Prelude.{ℕ, ◌≡◌}
use Rattle.load_run.specs.Runs.{begun, run_from, equal_to}

-- for every seed and number of draws `equal` is 8
abbrev pub AllEqual : Type 0
AllEqual = (seed draws : ℕ) → let l = run_from draws seed begun in equal_to 8 l.box l.plain ≡ 8
