-- A slot map for C, by words that are no record and by words that are one; and its number, by the buffer's length alone.
use Prim.Native.Nat.{ℕ}
use mathlib.Core.Path.{◌≡◌, refl, ap, ◌∙◌}
use mathlib.Core.Bool.{Bool, true, false, cond}
use mathlib.Core.List.{List}
use Rattle.std.specs.Prelude.{Option, Some, None}
use lib.ListN.{length, replicate, length-replicate}
use Rattle.record.specs.declared.Record.{Record}
use Rattle.record.specs.Record.{label_in}
use Rattle.protocol.specs.Plan.{ask, slot_map}
use Rattle.protocol.specs.declared.Refusal.{Refusal}
use Rattle.protocol.specs.Judge.{judged}
use Rattle.protocol.specs.Calls.{box_of, MapLeft, mapped, map_of}
use Rattle.c_record.specs.Words.{unpacked, is_record}
use Rattle.ferjulm.specs.Map.{map_on, c_map}

module _ (ssd hdd table words sheet : List ℕ) where
  pub no_map : is_record words ≡ false → record { number = 3; sheet = sheet } ≡ c_map ssd hdd table words sheet
  unfolding c_map
  no_map h = rw h

  pub on_map : (r : Record) (m : MapLeft) → is_record words ≡ true → r ≡ unpacked words → m ≡ map_of ssd hdd table r sheet
      → m ≡ c_map ssd hdd table words sheet
  unfolding c_map
  on_map r m h e p = rw h (p ∙ ap (λ (q : Record). map_of ssd hdd table q sheet) e)

  -- so the lists of C calls may take any buffer of that length
  pub map-number : (c_map ssd hdd table words (replicate (length sheet) 0)).number ≡ (c_map ssd hdd table words sheet).number
  unfolding c_map map_of
  map-number = by_words (is_record words)
    where
      by_reason : (r : Record) (o : Option Refusal)
          → (mapped o (label_in r) table (replicate (length sheet) 0)).number ≡ (mapped o (label_in r) table sheet).number
      by_reason r (Some q) = refl
      by_reason r None = refl

      by_words : (b : Bool) → (map_on (cond b (Some (unpacked words)) None) ssd hdd table (replicate (length sheet) 0)).number
          ≡ (map_on (cond b (Some (unpacked words)) None) ssd hdd table sheet).number
      by_words false = refl
      by_words true =
          rw (length-replicate {A = ℕ} (length sheet) 0) (by_reason (unpacked words) (judged (ask (slot_map (length sheet))) (box_of ssd hdd table (unpacked words))))
