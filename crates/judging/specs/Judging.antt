-- Judging: the same tests, in the same order, as in protocol's chains.
use Rattle.std.specs.Prelude.{ℕ, Bool, true, false, not, ◌&&◌, List, length, eqb, ltb, leb}
use Rattle.std.specs.Prelude.{Option, Some, None, Result, Ok, Err}
use Rattle.layout.specs.declared.Block.{Block}
use Rattle.record.specs.declared.Record.{Record}
use Rattle.record.specs.Callers.{import_caller}
use Rattle.record.specs.Record.{label_in}
use Rattle.protocol.specs.declared.Refusal.{Refusal}
use Rattle.protocol.specs.declared.Refusal.TheVariants.{BadRecord, WrongLength, BadRows, WrongPhase, BlockTooHigh, BadScan, BadList, UnknownCaller}
use Rattle.protocol.specs.Rows.{open_rows}
use Rattle.protocol.specs.Condition.{condition_of}
use Rattle.record.specs.Rule.{record_test}
use Rattle.protocol.specs.Kinds.{highest}
use Rattle.protocol.specs.Judge.{lengths_test, rows_test, is_ready, list_test, scan_test}
use Rattle.judging.specs.declared.Judged.{Judged}

-- refused for r, or the rest
abbrev pub refuse_if : Bool → Refusal → Option Refusal → Option Refusal
refuse_if b r rest = elim b [ true ↦ Some r | false ↦ rest ]

-- 3, 4 and 5 of a call that is lent a page of so many bytes (4,096 where it is lent none), then the rest
unfoldable pub sound_then : ℕ → ℕ → ℕ → List ℕ → Record → Option Refusal → Option Refusal
sound_then ssd hdd page table state rest =
    refuse_if (not (record_test state)) BadRecord
    (refuse_if (not (lengths_test (label_in state) ssd hdd (length table) && eqb page 4096)) WrongLength
    (refuse_if (not (rows_test state table)) BadRows rest))

-- and 6
abbrev pub ready_then : ℕ → ℕ → ℕ → List ℕ → Record → Option Refusal → Option Refusal
ready_then ssd hdd page table state rest = sound_then ssd hdd page table state (refuse_if (not (is_ready state.phase)) WrongPhase rest)

-- and 18, of a caller (0 where the call names none), and 7
abbrev pub serves_then : ℕ → ℕ → ℕ → List ℕ → Record → Block → ℕ → Option Refusal → Option Refusal
serves_then ssd hdd page table state b caller rest =
    ready_then ssd hdd page table state
    (refuse_if (ltb import_caller caller) UnknownCaller (refuse_if (leb state.label.blocks b.0) BlockTooHigh rest))

-- of a list, 16 and 7 (document 02, N6): by how many words are lent for the answer, and by how many blocks there are
abbrev pub list_then : List ℕ → ℕ → ℕ → Option Refusal → Option Refusal
list_then blocks room limit rest = refuse_if (not (list_test (length blocks) room)) BadList (refuse_if (leb limit (highest blocks)) BlockTooHigh rest)

-- of a list that is offered, 15 and 18 (document 02, N3 and N7)
abbrev pub scan_then : List ℕ → ℕ → Option Refusal → Option Refusal
scan_then blocks caller rest = refuse_if (not (scan_test blocks)) BadScan (refuse_if (ltb import_caller caller) UnknownCaller rest)

-- a value, unless it is refused
abbrev pub unless : {A : Type 0} → Option Refusal → A → Result A Refusal
unless (Some r) a = Err r
unless None a = Ok a

-- what judging finds of a block
abbrev pub judged_by : Option Refusal → List ℕ → Block → Result Judged Refusal
judged_by o table b = unless o (record { condition = condition_of table b; writing = open_rows table })
