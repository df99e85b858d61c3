-- The words of one pass: where each listed block is, and what they are once open slots are told apart.
use Rattle.std.specs.Prelude.{ℕ, zero, suc, ◌+◌, cond, List, [], ◌∷◌, ◌++◌, map, eqb}
use Rattle.std.specs.Prelude.{Option, Some, None}
use Rattle.layout.specs.declared.Slot.{Slot}
use Rattle.protocol.specs.declared.Condition.{Condition}
use Rattle.protocol.specs.Condition.{slot_of, condition_at, word_of, closed_slot}
use Rattle.table.specs.Scan.{holds_in}

-- a slot's number plus 1, or 0 for none; and back
abbrev pub place_word : Option Slot → ℕ
place_word None = 0
place_word (Some s) = s.0 + 1

abbrev pub place_of : ℕ → Option Slot
place_of zero = None
place_of (suc s) = Some (record { 0 = s })

-- where each listed block is, open or not: its lowest slot
abbrev pub places_of : List ℕ → List ℕ → List ℕ
places_of table blocks = map (λ b. place_word (slot_of table (record { 0 = b }))) blocks

-- what was found before, or else this
abbrev pub or_found : ℕ → ℕ → ℕ
or_found word this = cond (eqb word 0) this word

-- the word of a listed block after a row was met: valid, and for that block
abbrev pub noted_as : ℕ → ℕ → ℕ → ℕ → ℕ
noted_as word b block here = or_found word (cond (eqb b block) here 0)

abbrev pub met_as : ℕ → ℕ → ℕ → ℕ → ℕ → ℕ
met_as word b block flags here = or_found word (cond (holds_in block flags b) here 0)

-- the condition of the place that a word names
abbrev pub condition_there : List ℕ → ℕ → Condition
condition_there table word = condition_at table (place_of word)

-- the words with those of open slots cleared, and the other slots, in their order
abbrev pub closed_words : List ℕ → List ℕ → List ℕ
closed_words table words = map (λ w. word_of (condition_there table w)) words

unfoldable pub slots_there : List ℕ → List ℕ → List Slot
slots_there table [] = []
slots_there table (w ∷ words) = closed_slot (condition_there table w) ++ slots_there table words
