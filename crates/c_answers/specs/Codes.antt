-- What an answer becomes at the C interface: the result code, and what the slot and the place of a page become.
use Rattle.std.specs.Prelude.{ℕ, ◌*◌, [], ◌∷◌}
use Rattle.std.specs.Prelude.{Option, Some, None}
use Rattle.protocol.specs.declared.Stored.{Stored}
use Rattle.protocol.specs.declared.Stored.TheVariants.{Ssd, Hdd}
use Rattle.protocol.specs.Reply.{Reply, refusal, answer, dealt}
use Rattle.c_answers.specs.declared.Place.{Place}

-- a refusal's number, or the answer's result code
abbrev pub code_of : Reply → ℕ
code_of (refusal n) = n
code_of (answer n s) = n
code_of (dealt n) = 112

-- the slot that an answer carries, or what was there before
abbrev pub slot_after : Reply → ℕ → ℕ
slot_after (refusal n) before = before
slot_after (answer n []) before = before
slot_after (answer n (s ∷ more)) before = s.0
slot_after (dealt n) before = before

-- how many list places were dealt with (document 02, N3), or what was there before
abbrev pub dealt_after : Reply → ℕ → ℕ
dealt_after (refusal n) before = before
dealt_after (answer n s) before = before
dealt_after (dealt n) before = n

-- page i of image 1, the SSD, or of image 2, the HDD
abbrev pub page_of : ℕ → ℕ → Place
page_of image i = record { image = image; offset = 4096 * i }

-- where the page lies that a call stored; image 0 where it stored none
abbrev pub place_of : Option Stored → Place
place_of None = record { image = 0; offset = 0 }
place_of (Some (Ssd i)) = page_of 1 i
place_of (Some (Hdd i)) = page_of 2 i

-- the place after a call, or what was there before a refusal
abbrev pub place_after : Reply → Option Stored → Place → Place
place_after (refusal n) stored before = before
place_after (answer n s) stored before = place_of stored
place_after (dealt n) stored before = place_of stored
