-- Numbers that are read of text.
use Rattle.std.specs.Prelude.{ℕ, Bool, true, false, List, ltb}
use Rattle.std.specs.Prelude.{Option, Some, None}
use Rattle.std.specs.Borrow.{Bor}
use Rattle.layout.specs.LabelPage.{Number}

-- "numbers below 4,294,967,296"
abbrev pub kept_if : Bool → Number → Option Number
kept_if true n = Some n
kept_if false n = None

abbrev pub fitting : Option Number → Option Number
fitting None = None
fitting (Some n) = kept_if (ltb n.value 4294967296) n

-- a number that was read, and the bytes after its line
abbrev pub number_read : Option (ℕ × Bor (List ℕ)) → Option Number
number_read None = None
number_read (Some r) = Some (record { value = r.0; rest = r.1.now })
