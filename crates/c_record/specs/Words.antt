-- The record as 134 words: slots, blocks, hand, newest, phase, steps done, unsettled, count, then 63 window slots, then the callers of
-- those 63 places (document 02, N7).
use Rattle.std.specs.Prelude.{ℕ, Bool, cond, ◌&&◌, ◌||◌, List, ◌∷◌, ◌++◌, map, length, get_or, take, drop, eqb, leb}
use Rattle.std.specs.Prelude.{Option, Some, None}
use Rattle.layout.specs.declared.Slot.{Slot}
use Rattle.layout.specs.Places.{label_of}
use Rattle.layout.specs.Window.{window_most}
use Rattle.record.specs.declared.Record.{Record}
use Rattle.record.specs.declared.Phase.{Phase}
use Rattle.record.specs.declared.Phase.TheVariants.{Formatting, Recovering, Ready}

-- the number of the record's words
abbrev pub record_words : ℕ
record_words = 134

-- a phase's word: 0 formatting, 1 mending, 2 ready
abbrev pub phase_word : Phase → ℕ
phase_word (Formatting d) = 0
phase_word Recovering = 1
phase_word Ready = 2

-- the word of the steps done: 0 unless formatting
abbrev pub steps_word : Phase → ℕ
steps_word (Formatting d) = d
steps_word Recovering = 0
steps_word Ready = 0

-- the word of unsettled
abbrev pub flag_word : Bool → ℕ
flag_word unconfirmed = cond unconfirmed 1 0

-- slots as numbers, and numbers as slots
unfoldable pub numbers_of : List Slot → List ℕ
numbers_of w = map (λ s. s.0) w

unfoldable pub slots_of : List ℕ → List Slot
slots_of l = map (λ n. record { 0 = n }) l

-- packed
unfoldable pub words_of : Record → List ℕ
words_of r =
    r.label.slots
    ∷ r.label.blocks
    ∷ r.hand.0
    ∷ r.newest
    ∷ phase_word r.phase
    ∷ steps_word r.phase
    ∷ flag_word r.unconfirmed
    ∷ r.count
    ∷ (numbers_of r.window ++ r.callers)

-- the phase of two words
abbrev pub phase_in : ℕ → ℕ → Phase
phase_in phase steps = cond (eqb phase 0) (Formatting steps) (cond (eqb phase 1) Recovering Ready)

-- unpacked, whatever the words are
unfoldable pub unpacked : List ℕ → Record
unpacked words = record {
  label = label_of (get_or words 0 0) (get_or words 1 0);
  hand = record { 0 = get_or words 2 0 };
  newest = get_or words 3 0;
  phase = phase_in (get_or words 4 0) (get_or words 5 0);
  unconfirmed = eqb (get_or words 6 0) 1;
  window = slots_of (take window_most (drop 8 words));
  count = get_or words 7 0;
  callers = drop 71 words;
}

-- two words that are a phase: no steps outside formatting
abbrev pub is_phase : ℕ → ℕ → Bool
is_phase phase steps = eqb phase 0 || (leb phase 2 && eqb steps 0)

-- words that are a record: 134 of them, a phase, unsettled 0 or 1 (whether the callers are 0 or 1 is the record's rule, as the hand is)
unfoldable pub is_record : List ℕ → Bool
is_record words = eqb (length words) record_words && (is_phase (get_or words 4 0) (get_or words 5 0) && leb (get_or words 6 0) 1)

-- unpacked, if they are
abbrev pub record_in : List ℕ → Option Record
record_in words = cond (is_record words) (Some (unpacked words)) None
