-- What a list of blocks looked up leaves of the words lent for the answer.
use Rattle.std.specs.Prelude.{ℕ, List}
use Rattle.std.specs.Prelude.{Option, Some, None}
use Rattle.record.specs.declared.Record.{Record}
use Rattle.protocol.specs.Calls.{list_words_of}
use Rattle.c_record.specs.Words.{record_in}

-- by the record that the record's words are; as they were where those are none
abbrev pub located_in : Option Record → List ℕ → List ℕ → List ℕ → List ℕ → List ℕ → List ℕ
located_in None blocks ssd hdd table before = before
located_in (Some r) blocks ssd hdd table before = list_words_of ssd hdd table r blocks before

unfoldable pub c_located : List ℕ → List ℕ → List ℕ → List ℕ → List ℕ → List ℕ → List ℕ
c_located blocks ssd hdd table words before = located_in (record_in words) blocks ssd hdd table before
