-- What the cost of an import for C leaves: the result code, the scratch table, and the lent numbers.
use Rattle.std.specs.Prelude.{ℕ, List}
use Rattle.std.specs.Prelude.{Option, Some, None}
use Rattle.record.specs.declared.Record.{Record}
use Rattle.std.specs.Prelude.{Err}
use Rattle.protocol.specs.declared.Refusal.TheVariants.{BadRecord}
use Rattle.protocol.specs.Cost.{cost_of}
use Rattle.c_record.specs.Words.{record_in}
use Rattle.c_closing.specs.Counts.{CostNumbers, CCost, cost_after}

-- by the record that the words are; 3 where they are none
abbrev pub cost_on : Option Record → List ℕ → List ℕ → List ℕ → List ℕ → ℕ → List ℕ → CostNumbers → CCost
cost_on None ssd hdd table blocks caller scratch before = cost_after (Err BadRecord) scratch before
cost_on (Some r) ssd hdd table blocks caller scratch before =
    cost_after (cost_of ssd hdd table r blocks caller scratch).answer (cost_of ssd hdd table r blocks caller scratch).scratch before

unfoldable pub c_cost : List ℕ → List ℕ → List ℕ → List ℕ → List ℕ → ℕ → List ℕ → CostNumbers → CCost
c_cost ssd hdd table words blocks caller scratch before = cost_on (record_in words) ssd hdd table blocks caller scratch before
