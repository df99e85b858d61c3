-- The slot map (document 02, N1): its lines, and when a buffer is too short.
use Prim.Native.Nat.{ℕ, zero, suc, ◌*◌}
use mathlib.Core.Path.{refl}
use mathlib.Core.Bool.{true, false}
use mathlib.Core.List.{List, [], ◌∷◌, ◌++◌}
use Rattle.std.specs.Prelude.{Some, None}
use lib.ListN.{replicate}
use Rattle.layout.specs.Places.{label_of}
use Rattle.record.specs.declared.Phase.TheVariants.{Ready}
use Rattle.record.specs.Record.{record_of}
use Rattle.protocol.specs.Reply.{done}
use Rattle.protocol.specs.Box.{Box}
use Rattle.protocol.specs.Plan.{ask, slot_map}
use Rattle.protocol.specs.SlotMap.{letter_of, letter_at, aligned, map_line, lines_of, map_text}
use Rattle.protocol.specs.declared.Refusal.TheVariants.{SheetShort}
use Rattle.protocol.specs.Calls.{mapped}
use Rattle.protocol.proofs.cases.Known.{known}
use Rattle.protocol.proofs.cases.Case.{Case, AllHold, ◌first◌, imageless, leaving, move, condition, written}
use Rattle.protocol.proofs.cases.Scans.{Scanned}

unfoldable pub times : ℕ → List ℕ → List ℕ
times zero part = []
times (suc n) part = part ++ times n part

-- rows clean, dirty, open for writing, open for fetch, free; two of them used
abbrev pub five : List ℕ
five = 1 ∷ 1 ∷ 2 ∷ 11 ∷ 3 ∷ 7 ∷ 4 ∷ 13 ∷ 0 ∷ 0 ∷ []

abbrev pub texts : List Case
texts =
    -- 65 slots: a line of all five letters, then one of slots 60 to 64 that is filled with spaces
    written (map_text (label_of 65 8) (times 13 five))
    (32 ∷ 32 ∷ 32 ∷ 32 ∷ 48 ∷ 32 ∷ (times 12 (99 ∷ 100 ∷ 119 ∷ 102 ∷ 46 ∷ [])
    ++ (10 ∷ 32 ∷ 32 ∷ 32 ∷ 54 ∷ 48 ∷ 32 ∷ 99 ∷ 100 ∷ 119 ∷ 102 ∷ 46 ∷ (replicate 55 32 ++ (10 ∷ [])))))
    -- the last line of the largest cache
    ∷ written (map_line (label_of 57600 8) [] 959) (53 ∷ 55 ∷ 53 ∷ 52 ∷ 48 ∷ 32 ∷ (replicate 60 46 ++ (10 ∷ [])))
    -- two bytes more than a line stay; a buffer that is too short stays whole
    ∷ written (mapped None (label_of 1 2) (0 ∷ 0 ∷ []) (replicate 69 7)).sheet
    (32 ∷ 32 ∷ 32 ∷ 32 ∷ 48 ∷ 32 ∷ 46 ∷ (replicate 59 32 ++ (10 ∷ 7 ∷ 7 ∷ [])))
    ∷ written (mapped (Some SheetShort) (label_of 1 2) (0 ∷ 0 ∷ []) (replicate 66 7)).sheet (replicate 66 7)
    ∷ []

-- so many free slots
abbrev pub freed : ℕ → Box
freed slots =
    imageless (record { table = replicate (2 * slots) 0; state = record_of (label_of slots 8) (record { 0 = 0 }) 0 Ready false [] })

-- one byte short, and enough: one line up to 60 slots, two of 61
abbrev pub rooms : List Case
rooms =
    condition SheetShort (ask (slot_map 66)) (freed 1) true
    ∷ condition SheetShort (ask (slot_map 67)) (freed 1) false
    ∷ condition SheetShort (ask (slot_map 66)) (freed 60) true
    ∷ condition SheetShort (ask (slot_map 67)) (freed 60) false
    ∷ condition SheetShort (ask (slot_map 133)) (freed 61) true
    ∷ condition SheetShort (ask (slot_map 134)) (freed 61) false
    ∷ condition SheetShort (ask (slot_map 200)) (freed 61) false
    ∷ move (ask (slot_map 67)) (freed 1) (leaving done None (freed 1))
    ∷ []

Texts : AllHold texts
unfolding known times letter_of letter_at aligned map_line lines_of
Texts = Scanned first (refl, (refl, (refl, (refl, tt))))

pub Rooms : AllHold rooms
unfolding known
Rooms = Texts first (refl, (refl, (refl, (refl, (refl, (refl, (refl, (refl, tt))))))))
