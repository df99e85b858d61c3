-- What an import would cost, which dispatch leaves out as it does a slot map (it returns an answer of its own and no outcome, and fills a lent
-- scratch table): by its contract it is the call of demand 3's lists, which says the number of its refusal, or done, and changes neither box
-- nor reference disk.
use Prim.Native.Nat.{ℕ}
use mathlib.Core.Path.{◌≡◌, sym, ap, ◌∙◌}
use mathlib.Core.List.{List}
use lib.ListN.{length}
use Rattle.record.specs.declared.Record.{Record}
use Rattle.std.specs.Prelude.{Result as OrRefused}
use Rattle.protocol.specs.declared.Cost.{Cost}
use Rattle.protocol.specs.declared.Refusal.{Refusal}
use Rattle.protocol.specs.Plan.{ask, cost}
use Rattle.protocol.specs.Calls.{number_in, box_of}
use Rattle.protocol.specs.Cost.{CostLeft, cost_of}
use Rattle.protocol.specs.ReferenceDisk.{Disk}
use Rattle.protocol.specs.Events.{World, called}
use Rattle.protocol.specs.Beside.{said_by}
use Rattle.laws.proofs.SlotMaps.{changes_nothing}
use Rattle.laws.proofs.Costs.{cost_says}
use Rattle.protocol.proofs.cases.Disk.{cost_unfed}
use Rattle.dispatch.specs.Dispatch.{made_by}

-- `e` is what the contract promises of the answer that it returned and of the scratch table that it left
pub cost-made : (ssd hdd table : List ℕ) (state : Record) (blocks : List ℕ) (caller : ℕ) (scratch : List ℕ) (disk : Disk) (answer : OrRefused Cost Refusal)
    (after : List ℕ) → record { answer = answer; scratch = after } ≡ cost_of ssd hdd table state blocks caller scratch
    → let w : World = record { box = box_of ssd hdd table state; disk = disk } in
    made_by (ask (cost blocks caller (length scratch))) w ≡ record { said = said_by (number_in answer); world = w }
unfolding called
cost-made ssd hdd table state blocks caller scratch disk answer after e = λ i. record {
  said = (cost_says blocks caller scratch (box_of ssd hdd table state) ∙ ap (λ (m : CostLeft). said_by (number_in m.answer)) (sym e)) i;
  world = record {
    box = (changes_nothing (cost blocks caller (length scratch)) (box_of ssd hdd table state)).box i;
    disk = cost_unfed (record { box = box_of ssd hdd table state; disk = disk }) blocks caller (length scratch) i;
  };
}
