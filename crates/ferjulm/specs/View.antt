-- What a view for C leaves: the result code, the image that the page lies in, and the page's first byte there.
use Rattle.std.specs.Prelude.{ℕ, List}
use Rattle.std.specs.Prelude.{Option, Some, None}
use Rattle.layout.specs.declared.Block.{Block}
use Rattle.record.specs.declared.Record.{Record}
use Rattle.record.specs.Record.{label_in}
use Rattle.protocol.specs.Condition.{condition_of}
use Rattle.protocol.specs.Plan.{view}
use Rattle.protocol.specs.declared.Refusal.{Refusal}
use Rattle.protocol.specs.Judge.{number_of, judged}
use Rattle.protocol.specs.Calls.{box_of}
use Rattle.c_answers.specs.declared.Place.{Place}
use Rattle.c_record.specs.Words.{record_in}
use Rattle.c_answers.specs.Seen.{place_for}

pub record ViewLeft : Type 0 where
  pub code : ℕ
  pub place : Place

-- a refusal leaves the place as it was
abbrev pub placed : Option Refusal → Place → Place → ViewLeft
placed (Some r) there before = record { code = number_of r; place = before }
placed None there before = record { code = 0; place = there }

unfoldable pub view_place_of : List ℕ → List ℕ → List ℕ → Record → Block → Place → ViewLeft
view_place_of ssd hdd table state b before =
    placed (judged (view b) (box_of ssd hdd table state)) (place_for (label_in state) b (condition_of table b)) before

-- a view by the record that the words are; 3 where they are none
abbrev pub view_on : Option Record → List ℕ → List ℕ → List ℕ → Block → Place → ViewLeft
view_on None ssd hdd table b before = record { code = 3; place = before }
view_on (Some r) ssd hdd table b before = view_place_of ssd hdd table r b before

unfoldable pub c_view : List ℕ → List ℕ → List ℕ → List ℕ → Block → Place → ViewLeft
c_view ssd hdd table words b before = view_on (record_in words) ssd hdd table b before
