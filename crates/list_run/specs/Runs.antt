-- The run of a list in memory: what a place's turn makes of it, and what it leaves of the whole list.
use Rattle.std.specs.Prelude.{ℕ, ◌+◌, ◌<◌, ◌≡◌, Bool, true, false, ◌&&◌, List, [], length}
use Rattle.std.specs.Prelude.{Some, None, Result, Ok, Err, IsOkAnd, IsErrAnd}
use Rattle.layout.specs.declared.Slot.{Slot}
use Rattle.layout.specs.declared.Block.{Block}
use Rattle.layout.specs.Places.{table_length, meta_of, meta_pages}
use Rattle.record.specs.declared.Record.{Record}
use Rattle.record.specs.declared.Phase.TheVariants.{Ready}
use Rattle.record.specs.Record.{label_in, window_in, callers_in}
use Rattle.record.specs.Rule.{record_test}
use Rattle.protocol.specs.Rows.{set_row}
use Rattle.protocol.specs.Box.{Box}
use Rattle.protocol.specs.Plan.{grown, Offered, not_yet, offers_from}
use Rattle.protocol.specs.Perform.{joined}
use Rattle.protocol.specs.declared.Refusal.{Refusal}
use Rattle.protocol.specs.declared.Refusal.TheVariants.{StampsSpent}
use Rattle.protocol.specs.Judge.{rows_test}
use Rattle.sweeping.specs.Sweeps.{cleared_from}
use Rattle.turns.specs.declared.turn.Turn.{Turn}
use Rattle.turns.specs.declared.turn.Turn.TheVariants.{Passes, Opens, CopiesOut}
use Rattle.turns.specs.Turns.{crowd_of, spent}
use Rattle.list_turns.specs.PlaceTurns.{joins, place_turn_at}
use Rattle.list_run.specs.declared.Run.{Run}

-- a table and a record that 3 to 6 do not refuse
pub record Fair (table : List ℕ) (r : Record) : Type 0 where
  pub size : length table ≡ table_length (label_in r)
  pub record_kept : record_test r ≡ true
  pub rows : rows_test r table ≡ true
  pub ready : r.phase ≡ Ready

-- before the first place
abbrev pub begun : Record → Run
begun r = record { state = r; page = None; places = 0 }

-- a place further, with nothing to do
abbrev pub passed : Run → Run
passed r = record { state = r.state; page = r.page; places = r.places + 1 }

-- a slot is opened, and its caller named, where the run goes on; else nothing is
abbrev pub opened_if : Result Bool Refusal → Run → Slot → ℕ → Slot → Run
opened_if (Ok true) r s caller hand = record { state = joined s caller hand r.state; page = Some (meta_of s); places = r.places + 1 }
opened_if (Ok false) r s caller hand = r
opened_if (Err e) r s caller hand = r

abbrev pub row_if : Result Bool Refusal → Run → Block → Slot → ℕ → ℕ → List ℕ → List ℕ
row_if (Ok true) r b s flags n table = set_row (cleared_from n (label_in r.state) table r.state.hand) s b flags
row_if (Ok false) r b s flags n table = table
row_if (Err e) r b s flags n table = table

abbrev pub announced_run : Run → Slot → ℕ → Slot → Run
announced_run r s caller hand = opened_if (joins (label_in r.state) r.page r.state.newest (meta_of s)) r s caller hand

abbrev pub announced_table : Run → Block → Slot → ℕ → ℕ → List ℕ → List ℕ
announced_table r b s flags n table = row_if (joins (label_in r.state) r.page r.state.newest (meta_of s)) r b s flags n table

-- a place's turn: the run after it, and the table; one by which the run does not go on leaves both
abbrev pub run_after : Result Turn Refusal → Run → ℕ → Run
run_after (Err e) r caller = r
run_after (Ok Passes) r caller = passed r
run_after (Ok (Opens s flags n hand)) r caller = announced_run r s caller hand
run_after (Ok (CopiesOut s n)) r caller = r

abbrev pub table_after_turn : Result Turn Refusal → Run → Block → List ℕ → List ℕ
table_after_turn (Err e) r b table = table
table_after_turn (Ok Passes) r b table = table
table_after_turn (Ok (Opens s flags n hand)) r b table = announced_table r b s flags n table
table_after_turn (Ok (CopiesOut s n)) r b table = table

-- the turn of a place, of a table and a record
abbrev pub place_turn : List ℕ → Record → Block → ℕ → Result Turn Refusal
place_turn table r b caller = place_turn_at (label_in r) table r.hand (crowd_of table r caller) b

abbrev pub dealt_run : List ℕ → Run → Block → ℕ → Run
dealt_run table r b caller = run_after (place_turn table r.state b caller) r caller

abbrev pub dealt_table : List ℕ → Run → Block → ℕ → List ℕ
dealt_table table r b caller = table_after_turn (place_turn table r.state b caller) r b table

-- a table and a record as a box: the run asks for no image
abbrev pub bare : List ℕ → Record → Box
bare table r = record { images = record { ssd = []; hdd = [] }; table = table; state = r }

-- the places that a run has dealt with, as document 02 has them
abbrev pub offered_by : List ℕ → Run → Offered
offered_by table r = record {
  places = r.places;
  page = r.page;
  table = table;
  hand = r.state.hand;
  window = window_in r.state;
  callers = callers_in r.state;
}

-- the whole list, "treated as offers one after another"
abbrev pub offered_as : List ℕ → Record → List ℕ → ℕ → Offered
offered_as table r blocks caller = offers_from (bare table r) caller (not_yet (bare table r)) blocks

-- something is announced
abbrev pub announces_any : Offered → Bool
announces_any z = elim z.page [ None ↦ false | Some p ↦ true ]

-- 13 "refuses the whole list"
abbrev pub refused13 : List ℕ → Record → List ℕ → ℕ → Bool
refused13 table r blocks caller = announces_any (offered_as table r blocks caller) && spent (label_in r) r.newest

-- the places dealt with: in one run of memory, with the record of the last of them
pub record Ended (table : List ℕ) (r : Record) (after : List ℕ) (q : Run) (z : Offered) : Type 0 where
  pub offered : offered_by after q ≡ z
  pub fair : Fair after q.state
  pub state_is : grown r q.state.hand (window_in q.state) (callers_in q.state) ≡ q.state
  pub untouched : q.page ≡ None → after ≡ table
  pub nothing_yet : q.places ≡ 0 → q.page ≡ None
  pub page-low : (p : ℕ) → q.page ≡ Some p → p < meta_pages (label_in r)

-- what a run leaves: refused by 13, nothing changed; or the places dealt with
abbrev pub Ran : Bool → List ℕ → Record → List ℕ → Result Run Refusal → Offered → Type 0
Ran true table r after q z = IsErrAnd q (λ e. e ≡ StampsSpent) × (after ≡ table) × (0 < z.places)
Ran false table r after q z = IsOkAnd q (λ run. Ended table r after run z)
