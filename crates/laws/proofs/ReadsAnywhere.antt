-- What a view hands back does not depend on where the images lie.
use Prim.Native.Nat.{ℕ}
use mathlib.Core.Path.{◌≡◌, refl}
use mathlib.Core.List.{List}
use Rattle.std.specs.Prelude.{Option, Some, None}
use Rattle.pages.specs.Parts.{Part, page_part}
use Rattle.layout.specs.declared.Block.{Block}
use Rattle.record.specs.declared.Record.{Record}
use Rattle.record.specs.Record.{label_in}
use Rattle.protocol.specs.declared.Condition.{Condition}
use Rattle.protocol.specs.declared.Condition.TheVariants.{NotCached, Clean, Dirty, Writing, Fetching}
use Rattle.protocol.specs.Condition.{condition_of}
use Rattle.protocol.specs.Plan.{view}
use Rattle.protocol.specs.declared.Refusal.{Refusal}
use Rattle.protocol.specs.Judge.{judged}
use Rattle.protocol.specs.Calls.{box_of, view_part, viewed, view_of}
use Rattle.protocol.specs.Events.{lent, read_of}
use Rattle.protocol.specs.Beside.{ReadsAnywhere}

pub reads_anywhere : (ssd hdd : Part) (table : List ℕ) (state : Record) (b : Block) → ReadsAnywhere ssd hdd table state b
unfolding view_of read_of page_part
reads_anywhere ssd hdd table state b =
    let o = judged (view b) (box_of ssd.bytes hdd.bytes table state) in
    record { number = numbers o; bytes = handed o }
  where
    numbers : (o : Option Refusal) → (viewed o ssd hdd (label_in state) b (condition_of table b)).number
        ≡ (viewed o (lent ssd.bytes) (lent hdd.bytes) (label_in state) b (condition_of table b)).number
    numbers (Some r) = refl
    numbers None = refl

    parts : (k : Condition) → (view_part ssd hdd (label_in state) b k).bytes
        ≡ (view_part (lent ssd.bytes) (lent hdd.bytes) (label_in state) b k).bytes
    parts NotCached = refl
    parts (Clean s) = refl
    parts (Dirty s) = refl
    parts (Writing s) = refl
    parts (Fetching s) = refl

    handed : (o : Option Refusal) → (viewed o ssd hdd (label_in state) b (condition_of table b)).handed.bytes
        ≡ (viewed o (lent ssd.bytes) (lent hdd.bytes) (label_in state) b (condition_of table b)).handed.bytes
    handed (Some r) = refl
    handed None = parts (condition_of table b)
