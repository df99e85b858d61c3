-- What a call's answer leaves of the record's words.
use Rattle.std.specs.Prelude.{ℕ, List}
use Rattle.record.specs.declared.Record.{Record}
use Rattle.protocol.specs.Reply.{Reply, refusal, answer, dealt}
use Rattle.c_record.specs.Words.{words_of}
use Rattle.c_answers.specs.Codes.{code_of}

-- the packed record, or what was there before a refusal
abbrev pub words_after : Reply → Record → List ℕ → List ℕ
words_after (refusal n) r before = before
words_after (answer n s) r before = words_of r
words_after (dealt n) r before = words_of r

-- what a call's answer and record make of the words, and its result code
pub record Closed : Type 0 where
  pub code : ℕ
  pub words : List ℕ

abbrev pub closed_by : Reply → Record → List ℕ → Closed
closed_by said r words = record { code = code_of said; words = words_after said r words }
