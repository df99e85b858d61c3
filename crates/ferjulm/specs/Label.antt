-- What reading a label page for C leaves: the result code, and the label's numbers.
use Rattle.std.specs.Prelude.{ℕ, Bool, true, false, List}
use Rattle.layout.specs.declared.Label.{Label}
use Rattle.protocol.specs.Recovery.{label_at}
use Rattle.protocol.specs.Judge.{label_test}

pub record LabelLeft : Type 0 where
  pub code : ℕ
  pub slots : ℕ
  pub blocks : ℕ

-- 0 and the label's numbers; 2, and both as they were, where document 01's 2 holds of the image
abbrev pub labelled : Bool → Label → ℕ → ℕ → LabelLeft
labelled true l slots blocks = record { code = 0; slots = l.slots; blocks = l.blocks }
labelled false l slots blocks = record { code = 2; slots = slots; blocks = blocks }

unfoldable pub c_label : List ℕ → ℕ → ℕ → LabelLeft
c_label ssd slots blocks = labelled (label_test ssd) (label_at ssd) slots blocks
