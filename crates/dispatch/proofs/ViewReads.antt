-- View, which dispatch leaves out (it hands back a part and no outcome): by its contract, the bytes that it hands back,
-- wherever the images lie, are what demand 3 says that the block reads as.
use Prim.Native.Nat.{ℕ}
use mathlib.Core.Path.{◌≡◌, ap, ◌∙◌}
use mathlib.Core.List.{List}
use Rattle.pages.specs.Parts.{Part}
use Rattle.layout.specs.declared.Block.{Block}
use Rattle.record.specs.declared.Record.{Record}
use Rattle.protocol.specs.Calls.{View, box_of, view_of}
use Rattle.protocol.specs.Events.{read_of}
use Rattle.laws.proofs.ReadsAnywhere.{reads_anywhere}

-- `e` is what view's contract promises of the number and the part that it returned
pub view_reads : (ssd hdd : Part) (table : List ℕ) (state : Record) (b : Block) (number : ℕ) (handed : Part)
    → record { number = number; handed = handed } ≡ view_of ssd hdd table state b
    → handed.bytes ≡ read_of (box_of ssd.bytes hdd.bytes table state) b
view_reads ssd hdd table state b number handed e =
    ap (λ (v : View). v.handed.bytes) e ∙ (reads_anywhere ssd hdd table state b).bytes
