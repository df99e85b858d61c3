-- The run of an import in memory: what a place makes of hand, newest stamp, counts and table, and what is left of the whole list.
use Rattle.std.specs.Prelude.{ℕ, suc, ◌+◌, ◌*◌, ◌<◌, ◌≡◌, Bool, true, false, List, [], ◌∷◌, length, leb}
use Rattle.std.specs.Prelude.{Option, Result, Ok, Err}
use Rattle.layout.specs.declared.Slot.{Slot}
use Rattle.layout.specs.declared.Block.{Block}
use Rattle.layout.specs.declared.Label.{Label}
use Rattle.record.specs.declared.Record.{Record}
use Rattle.record.specs.Record.{label_in}
use Rattle.protocol.specs.declared.Condition.{Condition}
use Rattle.protocol.specs.declared.Condition.TheVariants.{NotCached, Clean, Dirty, Writing, Fetching}
use Rattle.protocol.specs.declared.Counts.{Counts}
use Rattle.protocol.specs.declared.Cost.TheVariants.{Counted, Met}
use Rattle.protocol.specs.Rows.{row_flags, set_flags, set_row, without_dirty}
use Rattle.protocol.specs.Condition.{condition_of}
use Rattle.protocol.specs.Perform.{landed_flags}
use Rattle.protocol.specs.declared.Refusal.{Refusal}
use Rattle.protocol.specs.declared.Refusal.TheVariants.{BlockTooHigh, StampsSpent}
use Rattle.protocol.specs.Judge.{number_of}
use Rattle.protocol.specs.Cost.{CostLeft}
use Rattle.sweeping.specs.Sweeps.{cleared_from}
use Rattle.turns.specs.declared.turn.Turn.{Turn}
use Rattle.turns.specs.declared.turn.Turn.TheVariants.{Passes, Opens, CopiesOut}
use Rattle.turns.specs.Turns.{offer_turn_at, spent}
use Rattle.list_run.specs.Runs.{Fair}
use Rattle.import_run.specs.declared.Run.{Run}

-- what a place leaves: the refusal that it met, if any, the run, and the scratch table
pub record After : Type 0 where
  pub met : Result (Unit {0}) Refusal
  pub run : Run
  pub table : List ℕ

-- a refusal is met
abbrev pub meets : Refusal → Run → List ℕ → After
meets e r table = record { met = Err e; run = r; table = table }

-- or none
abbrev pub went_on : Run → List ℕ → After
went_on r table = record { met = Ok tt; run = r; table = table }

-- a page lands; a slot is opened, which moves the hand and takes a stamp; a slot is copied out, which leaves the hand on it
abbrev pub lands : Run → Run
lands r = record { hand = r.hand; newest = r.newest; copies = r.copies; metadata = r.metadata; landings = r.landings + 1 }

abbrev pub announces : Slot → Run → Run
announces hand r = record {
  hand = hand;
  newest = r.newest + 1;
  copies = r.copies;
  metadata = r.metadata + 1;
  landings = r.landings;
}

abbrev pub copies_out : Slot → Run → Run
copies_out s r = record { hand = s; newest = r.newest; copies = r.copies + 1; metadata = r.metadata; landings = r.landings }

-- a row after a write landed in its slot
abbrev pub landed_row : List ℕ → Slot → List ℕ
landed_row table s = set_flags table s (landed_flags true (row_flags table s))

abbrev pub lands_in : List ℕ → Run → Slot → After
lands_in table r s = went_on (lands r) (landed_row table s)

-- a slot is opened and its page lands, or 13 is met and nothing changes
abbrev pub opens_if : Bool → Label → List ℕ → Run → Block → Slot → ℕ → ℕ → Slot → After
opens_if true l table r b s flags n hand = meets StampsSpent r table
opens_if false l table r b s flags n hand = lands_in (set_row (cleared_from n l table r.hand) s b flags) (announces hand r) s

-- a turn that copies nothing out, and the landing after it: in the slot d, where the block is dirty
abbrev pub taken : Result Turn Refusal → Label → List ℕ → Run → Block → Slot → After
taken (Err e) l table r b d = meets e r table
taken (Ok Passes) l table r b d = lands_in table r d
taken (Ok (Opens s flags n hand)) l table r b d = opens_if (spent l r.newest) l table r b s flags n hand
taken (Ok (CopiesOut s n)) l table r b d = went_on r table

-- a slot is copied out: its row is clean
abbrev pub copied_table : Label → List ℕ → Slot → Slot → ℕ → List ℕ
copied_table l table hand s n =
    set_flags (cleared_from n l table hand) s (without_dirty (row_flags (cleared_from n l table hand) s))

-- "each repeated after a copy-out": the block is not cached then, as it was not before
abbrev pub offered : Result Turn Refusal → Label → List ℕ → Run → Option Refusal → Block → Slot → After
offered (Err e) l table r full b d = taken (Err e) l table r b d
offered (Ok Passes) l table r full b d = taken (Ok Passes) l table r b d
offered (Ok (Opens s flags n hand)) l table r full b d = taken (Ok (Opens s flags n hand)) l table r b d
offered (Ok (CopiesOut s n)) l table r full b d =
    taken (offer_turn_at l (copied_table l table r.hand s n) s full NotCached) l (copied_table l table r.hand s n) (copies_out s r) b d

-- the slot of a dirty block
abbrev pub dirty_slot : Condition → Slot
dirty_slot NotCached = record { 0 = 0 }
dirty_slot (Clean s) = record { 0 = 0 }
dirty_slot (Dirty s) = s
dirty_slot (Writing s) = record { 0 = 0 }
dirty_slot (Fetching s) = record { 0 = 0 }

-- a place: 7 is met, or its block is offered by its condition, where this refuses another slot, if anything does
abbrev pub place_in : Condition → Label → List ℕ → Run → Option Refusal → Block → After
place_in k l table r full b = offered (offer_turn_at l table r.hand full k) l table r full b (dirty_slot k)

unfoldable pub place_after : Label → List ℕ → Run → Option Refusal → Block → After
place_after l table r full b =
    elim (leb l.blocks b.0) [ true ↦ meets BlockTooHigh r table | false ↦ place_in (condition_of table b) l table r full b ]

-- the stores so far
abbrev pub counts_in : Run → Counts
counts_in r = record { copies = r.copies; metadata = r.metadata; landings = r.landings }

-- before the first place
abbrev pub begun : Slot → ℕ → Run
begun hand newest = record { hand = hand; newest = newest; copies = 0; metadata = 0; landings = 0 }

-- the places one after the other, to the first that meets a refusal
abbrev pub went_or : Result (Unit {0}) Refusal → ℕ → Run → List ℕ → CostLeft → CostLeft
went_or (Ok u) place r table rest = rest
went_or (Err e) place r table rest = record { answer = Ok (Met (number_of e) place (counts_in r)); scratch = table }

unfoldable pub run_from : Label → Option Refusal → ℕ → List ℕ → Run → List ℕ → CostLeft
run_from l full place [] r table = record { answer = Ok (Counted (counts_in r)); scratch = table }
run_from l full place (b ∷ blocks) r table =
    let y = place_after l table r full (record { 0 = b }) in
    went_or y.met place y.run y.table (run_from l full (suc place) blocks y.run y.table)

-- what a place asks of the scratch table: some record goes with it that 3 to 6 do not refuse, of this label and this hand
pub record Steady (l : Label) (table : List ℕ) (hand : Slot) : Type 0 where
  pub state : Record
  pub fair : Fair table state
  pub label_is : label_in state ≡ l
  pub hand_is : state.hand ≡ hand

-- so few stores of a kind that one more can be counted
pub record Early (r : Run) : Type 0 where
  pub few_metadata : r.metadata < 64
  pub few_landings : r.landings < 64

-- what a turn asks of the table where it is taken: a slot to land in is one of the table's, and its flags fit
abbrev pub Lands : List ℕ → Slot → Type 0
Lands table s = (2 * s.0 + 1 < length table) × (row_flags table s < 16)

abbrev pub Takes : Result Turn Refusal → Label → List ℕ → Slot → Type 0
Takes (Err e) l table d = Unit {0}
Takes (Ok Passes) l table d = Lands table d
Takes (Ok (Opens s flags n hand)) l table d = (s.0 < l.slots) × (flags < 16)
Takes (Ok (CopiesOut s n)) l table d = Unit {0}
