-- The turn of a place of a list, and whether the run goes on with it.
use Rattle.std.specs.Prelude.{ℕ, Bool, true, false, List, leb}
use Rattle.std.specs.Prelude.{Option, Some, None, Result, Ok, Err}
use Rattle.layout.specs.declared.Slot.{Slot}
use Rattle.layout.specs.declared.Block.{Block}
use Rattle.layout.specs.declared.Label.{Label}
use Rattle.layout.specs.Places.{meta_of}
use Rattle.protocol.specs.declared.Refusal.{Refusal}
use Rattle.protocol.specs.declared.Refusal.TheVariants.{BlockTooHigh, StampsSpent}
use Rattle.protocol.specs.Condition.{condition_of}
use Rattle.protocol.specs.Plan.{on_page}
use Rattle.turns.specs.declared.turn.Turn.{Turn}
use Rattle.turns.specs.declared.turn.Turn.TheVariants.{Passes, Opens, CopiesOut}
use Rattle.turns.specs.Turns.{offer_turn_at, spent}

-- the turn of a place: 7 refuses it, or its condition in the running table says what it does
abbrev pub place_turn_at : Label → List ℕ → Slot → Option Refusal → Block → Result Turn Refusal
place_turn_at l table hand full b =
    elim (leb l.blocks b.0) [ true ↦ Err BlockTooHigh | false ↦ offer_turn_at l table hand full (condition_of table b) ]

-- whether a slot on page p joins those announced, the first of them on this page: not where it "has its slot on another metadata page than
-- the first announced"; 13, "judged once, for that store", where it is the first
abbrev pub joins : Label → Option ℕ → ℕ → ℕ → Result Bool Refusal
joins l (Some q) newest p = Ok (on_page (Some q) p)
joins l None newest p = elim (spent l newest) [ true ↦ Err StampsSpent | false ↦ Ok true ]

-- whether the run goes on with a turn: not where it is refused or copies out
abbrev pub goes_on : Label → Result Turn Refusal → Option ℕ → ℕ → Result Bool Refusal
goes_on l (Err r) page newest = Ok false
goes_on l (Ok Passes) page newest = Ok true
goes_on l (Ok (Opens s flags n hand)) page newest = joins l page newest (meta_of s)
goes_on l (Ok (CopiesOut s n)) page newest = Ok false
