-- The turn of an offer or a fetch that 3 to 7 do not refuse: decided with nothing changed, 13 apart; and what it leaves, performed.
use Rattle.std.specs.Prelude.{Option, Some, None, Result, Ok, Err}
use Rattle.protocol.specs.declared.Refusal.{Refusal}
use Rattle.std.specs.Prelude.{ℕ, zero, suc, ◌<◌, ◌≡◌, Bool, true, false, List, length, eqb, leb}
use Rattle.layout.specs.declared.Slot.{Slot}
use Rattle.layout.specs.declared.Block.{Block}
use Rattle.layout.specs.declared.Label.{Label}
use Rattle.layout.specs.Places.{table_length}
use Rattle.layout.specs.Window.{window_most}
use Rattle.layout.specs.Stamps.{opening_bound}
use Rattle.record.specs.declared.Record.{Record}
use Rattle.record.specs.Callers.{import_caller, import_most, open_by}
use Rattle.record.specs.Record.{label_in, callers_in}
use Rattle.record.specs.Rule.{record_test}
use Rattle.protocol.specs.declared.Condition.{Condition}
use Rattle.protocol.specs.declared.Condition.TheVariants.{NotCached, Clean, Dirty, Writing, Fetching}
use Rattle.protocol.specs.Reply.{overwrite, copied_out}
use Rattle.protocol.specs.Rows.{row_flags, dirty, with_writing, open_rows}
use Rattle.protocol.specs.Box.{Box, Effect, refusing}
use Rattle.protocol.specs.Sweep.{next_slot}
use Rattle.protocol.specs.Plan.{stay, opens, copies}
use Rattle.protocol.specs.Perform.{perform}
use Rattle.protocol.specs.declared.Refusal.TheVariants.{SlotOpen, HasSlot, WindowFull, AllOpen, StampsSpent, ImportFull}
use Rattle.protocol.specs.Judge.{number_of}
use Rattle.sweeping.specs.declared.Swept.{Swept}
use Rattle.table.specs.Scan.{legal_rows}
use Rattle.sweeping.specs.Sweeps.{swept_of, cleared_from}
use Rattle.turns.specs.declared.turn.Turn.{Turn}
use Rattle.turns.specs.declared.turn.Turn.TheVariants.{Passes, Opens, CopiesOut}

-- what a turn is decided on: a table of legal rows, and the hand on one of them
pub record Sweepable (l : Label) (table : List ℕ) (hand : Slot) : Type 0 where
  pub size : length table ≡ table_length l
  pub rows : legal_rows l table ≡ true
  pub low : hand.0 < l.slots

-- a table and a record that 3 to 5 do not refuse, and how many rows are writing
pub record Seen (table : List ℕ) (r : Record) (writing : ℕ) : Type 0 where
  pub size : length table ≡ table_length (label_in r)
  pub record_kept : record_test r ≡ true
  pub rows : legal_rows (label_in r) table ≡ true
  pub counted : writing ≡ open_rows table

-- the slot that a condition names is one of so many
abbrev pub Within : ℕ → Condition → Type 0
Within n NotCached = Unit {0}
Within n (Clean s) = s.0 < n
Within n (Dirty s) = s.0 < n
Within n (Writing s) = s.0 < n
Within n (Fetching s) = s.0 < n

-- how many open slots count against a caller's most: "Caller 1 may have at most 8 slots open" (document 02, N7)
abbrev pub held_by : ℕ → Record → ℕ
held_by caller r = elim (eqb caller import_caller) [ true ↦ open_by import_caller (callers_in r) | false ↦ 0 ]

-- what refuses a caller another slot, where so many are open and so many of these count against its most: 17, "from caller 1 with 8 or
-- more open", then 11, "while 63 are open"; nothing where there is room
abbrev pub crowd_by : ℕ → ℕ → Option Refusal
crowd_by all mine =
    elim (leb import_most mine) [
      | true ↦ Some ImportFull
      | false ↦ elim (leb window_most all) [ true ↦ Some WindowFull | false ↦ None ]
    ]

abbrev pub crowd_of : List ℕ → Record → ℕ → Option Refusal
crowd_of table r caller = crowd_by (open_rows table) (held_by caller r)

-- refused so, or the turn
abbrev pub if_room : Option Refusal → Result Turn Refusal → Result Turn Refusal
if_room None t = t
if_room (Some r) t = Err r

-- "if that slot is dirty, copy its page ..": a slot that the sweep took, after it passed so many; "Otherwise .. the hand moves one past
-- it"; 12 where all are open
abbrev pub take_turn : Label → List ℕ → ℕ → Option Swept → Result Turn Refusal
take_turn l table flags (Some w) =
    elim (dirty (row_flags table w.slot)) [
      | true ↦ Ok (CopiesOut w.slot w.passed)
      | false ↦ Ok (Opens w.slot flags w.passed (next_slot l w.slot))
    ]
take_turn l table flags None = Err AllOpen

-- with the hand here, and what refuses another slot, if anything: a block not cached is swept for, its row to have these flags
abbrev pub sweep_turn : Label → List ℕ → Slot → Option Refusal → ℕ → Result Turn Refusal
sweep_turn l table hand n flags = if_room n (take_turn l table flags (swept_of l table hand))

-- a clean block's slot is opened where it is
abbrev pub clean_turn : List ℕ → Slot → Option Refusal → Slot → Result Turn Refusal
clean_turn table hand n s = if_room n (Ok (Opens s (with_writing (row_flags table s)) 0 hand))

-- "Offer": dirty and not open "overwrite", clean "announced", not cached swept for, with flags 7
abbrev pub offer_turn_at : Label → List ℕ → Slot → Option Refusal → Condition → Result Turn Refusal
offer_turn_at l table hand n NotCached = sweep_turn l table hand n 7
offer_turn_at l table hand n (Clean s) = clean_turn table hand n s
offer_turn_at l table hand n (Dirty s) = Ok Passes
offer_turn_at l table hand n (Writing s) = Err SlotOpen
offer_turn_at l table hand n (Fetching s) = Err SlotOpen

-- "Fetch a block not cached: as an offer by sweep, with flags 5"
abbrev pub fetch_turn_at : Label → List ℕ → Slot → Option Refusal → Condition → Result Turn Refusal
fetch_turn_at l table hand n NotCached = sweep_turn l table hand n 5
fetch_turn_at l table hand n (Clean s) = Err HasSlot
fetch_turn_at l table hand n (Dirty s) = Err HasSlot
fetch_turn_at l table hand n (Writing s) = Err SlotOpen
fetch_turn_at l table hand n (Fetching s) = Err HasSlot

-- a caller's, of a table and a record
abbrev pub offer_turn : List ℕ → Record → ℕ → Condition → Result Turn Refusal
offer_turn table r caller k = offer_turn_at (label_in r) table r.hand (crowd_of table r caller) k

abbrev pub fetch_turn : List ℕ → Record → ℕ → Condition → Result Turn Refusal
fetch_turn table r caller k = fetch_turn_at (label_in r) table r.hand (crowd_of table r caller) k

-- what a turn asks of table and record where it is performed
abbrev pub Performable : Result Turn Refusal → List ℕ → Record → Type 0
Performable (Err e) table r = Unit {0}
Performable (Ok Passes) table r = Unit {0}
Performable (Ok (Opens s flags passed hand)) table r = (s.0 < r.label.slots) × (r.count < window_most)
Performable (Ok (CopiesOut s passed)) table r = (s.0 < r.label.slots) × (dirty (row_flags table s) ≡ true)

-- 13, "for an offer or fetch 4,294,967,232 or more"
abbrev pub spent : Label → ℕ → Bool
spent l newest = leb (opening_bound l) newest

-- the table once so many slots were passed, from the hand on: they lose their used flags
abbrev pub table_after : ℕ → Box → List ℕ
table_after passed x = cleared_from passed (label_in x.state) x.table x.state.hand

-- a turn performed, of a block and a caller, unless it is refused: 13 is judged where a slot is opened
abbrev pub turned : Result Turn Refusal → Block → ℕ → Box → Effect
turned (Err r) b caller x = refusing (number_of r) x
turned (Ok Passes) b caller x = perform (stay overwrite) x
turned (Ok (Opens s flags passed hand)) b caller x =
    elim (spent (label_in x.state) x.state.newest) [
      | true ↦ refusing (number_of StampsSpent) x
      | false ↦ perform (opens x.state s b caller flags (table_after passed x) hand) x
    ]
turned (Ok (CopiesOut s passed)) b caller x = perform (copies s copied_out (table_after passed x) s) x
