-- What the moves' code needs beside protocol's definitions.
use Rattle.std.specs.Prelude.{ℕ, ◌+◌, ◌-◌, true, false, ltb}

-- where the rows of a metadata page end that begin at `start`
abbrev pub rows_end : ℕ → ℕ → ℕ
rows_end len start = elim (ltb (len - start) 480) [ true ↦ len | false ↦ start + 480 ]
