-- A format's beginning: what refuses it, and the table after it.
use Rattle.std.specs.Prelude.{ℕ, not, List, length, replicate, Option, Some, None}
use Rattle.layout.specs.declared.Label.{Label}
use Rattle.layout.specs.Places.{within_limits}
use Rattle.protocol.specs.declared.Refusal.{Refusal}
use Rattle.protocol.specs.declared.Refusal.TheVariants.{BadLimits, WrongLength}
use Rattle.protocol.specs.Judge.{lengths_test}
use Rattle.judging.specs.Judging.{refuse_if}

-- 1, then 4, by the lengths of both images and the table
abbrev pub format_refusal : Label → ℕ → ℕ → ℕ → Option Refusal
format_refusal l ssd hdd table =
    refuse_if (not (within_limits l)) BadLimits (refuse_if (not (lengths_test l ssd hdd table)) WrongLength None)

-- "begins by zeroing the table", unless it is refused
abbrev pub table_after : Option Refusal → List ℕ → List ℕ
table_after None table = replicate (length table) 0
table_after (Some r) table = table
