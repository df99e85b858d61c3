-- What a slot map for C leaves: the result code, and the lent buffer.
use Rattle.std.specs.Prelude.{ℕ, List}
use Rattle.std.specs.Prelude.{Option, Some, None}
use Rattle.record.specs.declared.Record.{Record}
use Rattle.protocol.specs.Calls.{MapLeft, map_of}
use Rattle.c_record.specs.Words.{record_in}

-- by the record that the words are; 3 where they are none
abbrev pub map_on : Option Record → List ℕ → List ℕ → List ℕ → List ℕ → MapLeft
map_on None ssd hdd table sheet = record { number = 3; sheet = sheet }
map_on (Some r) ssd hdd table sheet = map_of ssd hdd table r sheet

unfoldable pub c_map : List ℕ → List ℕ → List ℕ → List ℕ → List ℕ → MapLeft
c_map ssd hdd table words sheet = map_on (record_in words) ssd hdd table sheet
