-- The lines of a listing as text: those before the entries, and the line of an entry.
use Rattle.std.specs.Prelude.{ℕ, Bool, true, false, List, [], ◌∷◌, ◌++◌}
use Rattle.layout.specs.declared.Slot.{Slot}
use Rattle.layout.specs.declared.Label.{Label}
use Rattle.layout.specs.declared.Entry.{Entry}
use Rattle.layout.specs.LabelPage.{layout_line, slots_key, blocks_key}
use Rattle.fields.specs.Fields.{field}

-- The keys that a label has not: `newest=`, `open=`, `slot=`, `block=`, `flags=`; `fate=kept`, `fate=dropped`.
abbrev pub newest_key : List ℕ
newest_key = 110 ∷ 101 ∷ 119 ∷ 101 ∷ 115 ∷ 116 ∷ 61 ∷ []

abbrev pub open_key : List ℕ
open_key = 111 ∷ 112 ∷ 101 ∷ 110 ∷ 61 ∷ []

abbrev pub slot_key : List ℕ
slot_key = 115 ∷ 108 ∷ 111 ∷ 116 ∷ 61 ∷ []

abbrev pub block_key : List ℕ
block_key = 98 ∷ 108 ∷ 111 ∷ 99 ∷ 107 ∷ 61 ∷ []

abbrev pub flags_key : List ℕ
flags_key = 102 ∷ 108 ∷ 97 ∷ 103 ∷ 115 ∷ 61 ∷ []

-- (of a dropped entry: true)
abbrev pub fate_text : Bool → List ℕ
fate_text true = 102 ∷ 97 ∷ 116 ∷ 101 ∷ 61 ∷ 100 ∷ 114 ∷ 111 ∷ 112 ∷ 112 ∷ 101 ∷ 100 ∷ 10 ∷ []
fate_text false = 102 ∷ 97 ∷ 116 ∷ 101 ∷ 61 ∷ 107 ∷ 101 ∷ 112 ∷ 116 ∷ 10 ∷ []

-- "the label's lines after the first, newest stamp, its window's length"
unfoldable pub head_text : Label → ℕ → ℕ → List ℕ
head_text l stamp count =
    layout_line
    ++ (field slots_key l.slots 10
    ++ (field blocks_key l.blocks 10
    ++ (field newest_key stamp 10
    ++ field open_key count 10)))

-- "then a line for each valid entry with slot, block, stored flags and fate"
unfoldable pub entry_text : Slot → Entry → Bool → List ℕ
entry_text s e fate = field slot_key s.0 32 ++ (field block_key e.block.0 32 ++ (field flags_key e.flags 32 ++ fate_text fate))
