-- A slot map, which dispatch leaves out as it does a view (it returns a number and no outcome, and fills a lent buffer): by its contract it
-- is the call of demand 3's lists, which says that number and changes neither box nor reference disk.
use Prim.Native.Nat.{ℕ}
use mathlib.Core.Path.{◌≡◌, sym, ap, ◌∙◌}
use mathlib.Core.List.{List}
use lib.ListN.{length}
use Rattle.record.specs.declared.Record.{Record}
use Rattle.protocol.specs.Plan.{ask, slot_map}
use Rattle.protocol.specs.Calls.{box_of, MapLeft, map_of}
use Rattle.protocol.specs.ReferenceDisk.{Disk}
use Rattle.protocol.specs.Events.{World, called}
use Rattle.protocol.specs.Beside.{said_by}
use Rattle.laws.proofs.SlotMaps.{changes_nothing, map_says}
use Rattle.protocol.proofs.cases.Disk.{map_unfed}
use Rattle.dispatch.specs.Dispatch.{made_by}

-- `e` is what the map's contract promises of the number that it returned and of the buffer that it left
pub map-made : (ssd hdd table : List ℕ) (state : Record) (sheet : List ℕ) (disk : Disk) (number : ℕ) (after : List ℕ)
    → record { number = number; sheet = after } ≡ map_of ssd hdd table state sheet
    → let w : World = record { box = box_of ssd hdd table state; disk = disk } in
    made_by (ask (slot_map (length sheet))) w ≡ record { said = said_by number; world = w }
unfolding called
map-made ssd hdd table state sheet disk number after e = λ i. record {
  said = (map_says ssd hdd table state sheet ∙ ap (λ (m : MapLeft). said_by m.number) (sym e)) i;
  world = record {
    box = (changes_nothing (slot_map (length sheet)) (box_of ssd hdd table state)).box i;
    disk = map_unfed (record { box = box_of ssd hdd table state; disk = disk }) (length sheet) i;
  };
}
