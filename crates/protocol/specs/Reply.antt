-- What an answer says in numbers and values: document 01's, and for a look-up document 02's.
use Rattle.std.specs.Prelude.{ℕ, Bool, true, false, ◌||◌, List, [], ◌∷◌, eqb}
use Rattle.layout.specs.declared.Slot.{Slot}
use Rattle.protocol.specs.declared.Answer.{Answer}
use Rattle.protocol.specs.declared.Answer.TheVariants.{Announced, Overwrite, CopiedOut, Looked, NothingToDo, Done, Dealt}
use Rattle.protocol.specs.declared.Condition.{Condition}
use Rattle.protocol.specs.declared.Condition.TheVariants.{NotCached, Clean, Dirty, Writing, Fetching}

-- a refusal has its number of the table "Why a call says no"; any other answer has a result code, since document 01 gives
-- it none, and the slot that it names, if any
pub data Reply : Type 0 where
  refusal : ℕ → Reply
  answer : ℕ → List Slot → Reply
  -- document 02, N3: "The answer is how many list places were dealt with"; its code is 112
  dealt : ℕ → Reply

-- "announced", with the slot that was opened
abbrev pub announced : Slot → Reply
announced s = answer 101 (s ∷ [])

-- "overwrite"
abbrev pub overwrite : Reply
overwrite = answer 102 []

-- "copied out"
abbrev pub copied_out : Reply
copied_out = answer 103 []

-- document 02, N5: "A look-up's answer becomes: not cached, clean in a slot, dirty in a slot, open for writing, or open for fetch, each
-- of the last four with its slot" (104 and 105, document 01's slot and "on disk", are given no more)
abbrev pub looked : Condition → Reply
looked NotCached = answer 107 []
looked (Clean s) = answer 108 (s ∷ [])
looked (Dirty s) = answer 109 (s ∷ [])
looked (Writing s) = answer 110 (s ∷ [])
looked (Fetching s) = answer 111 (s ∷ [])

-- of these codes, those that name a closed slot: clean and dirty
abbrev pub names_closed : ℕ → Bool
names_closed n = eqb n 108 || eqb n 109

-- "nothing to do"
abbrev pub nothing_to_do : Reply
nothing_to_do = answer 106 []

-- an answer that document 01 leaves free: what was asked is done
abbrev pub done : Reply
done = answer 0 []

abbrev pub reply_of : Answer → Reply
reply_of (Announced s) = announced s
reply_of Overwrite = overwrite
reply_of CopiedOut = copied_out
reply_of (Looked z) = looked z
reply_of NothingToDo = nothing_to_do
reply_of Done = done
reply_of (Dealt n) = dealt n

-- was the call refused
abbrev pub refused : Reply → Bool
refused (refusal n) = true
refused (answer n s) = false
refused (dealt n) = false
