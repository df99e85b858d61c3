-- The slot map (document 02, N1): the whole cache as text, a letter for each slot.
use Rattle.std.specs.Prelude.{ℕ, zero, suc, ◌+◌, ◌-◌, ◌*◌, ◌/◌, Bool, true, false, cond, List, [], ◌∷◌, ◌++◌, length, replicate, ltb}
use Rattle.layout.specs.declared.Label.{Label}
use Rattle.layout.specs.LabelPage.{decimal}
use Rattle.layout.specs.MetaPage.{firsts}
use Rattle.protocol.specs.Rows.{row_flags, valid, dirty, writing}

-- "Letters: `.` free, `c` clean, `d` dirty, `w` open for writing, `f` open for fetch": of a row that is not free, by writing and dirty
abbrev pub held_letter : Bool → Bool → ℕ
held_letter false false = 99
held_letter false true = 100
held_letter true true = 119
held_letter true false = 102

-- by a row's flags; the used flag is not looked at
unfoldable pub letter_of : ℕ → ℕ
letter_of flags = cond (valid flags) (held_letter (writing flags) (dirty flags)) 46

-- a slot's letter; "the last line is filled with spaces" past the last slot
unfoldable pub letter_at : Label → List ℕ → ℕ → ℕ
letter_at l table s = cond (ltb s l.slots) (letter_of (row_flags table (record { 0 = s }))) 32

-- a text "right-aligned" in so many columns
unfoldable pub aligned : ℕ → List ℕ → List ℕ
aligned columns text = replicate (columns - length text) 32 ++ text

-- line k: "Each line covers 60 slots: the first slot's number right-aligned in 5 columns, a space, 60 letters, byte 10"
unfoldable pub map_line : Label → List ℕ → ℕ → List ℕ
map_line l table k =
    aligned 5 (decimal (60 * k)) ++ (32 ∷ (firsts 60 (λ i. letter_at l table (60 * k + i)) ++ (10 ∷ [])))

-- the first n lines
unfoldable pub lines_of : Label → List ℕ → ℕ → List ℕ
lines_of l table zero = []
lines_of l table (suc n) = lines_of l table n ++ map_line l table n

-- "the number of lines": slots / 60 rounded up
abbrev pub map_lines : Label → ℕ
map_lines l = (l.slots + 59) / 60

-- "67 × the number of lines"
abbrev pub map_bytes : Label → ℕ
map_bytes l = 67 * map_lines l

abbrev pub map_text : Label → List ℕ → List ℕ
map_text l table = lines_of l table (map_lines l)
