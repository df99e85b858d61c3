-- A turn by which a run does not go on leaves all as it is; one by which it goes on opens a slot, or passes.
use Prim.Native.Nat.{ℕ}
use mathlib.Core.Path.{◌≡◌, refl, sym, ap, ◌∙◌}
use mathlib.Core.Logic.{◌≢◌}
use mathlib.Core.Bool.{Bool, true, false, not, true≢false}
use mathlib.Core.List.{List}
use Rattle.std.specs.Prelude.{Option, Result, Ok, Err}
use Rattle.layout.specs.declared.Slot.{Slot}
use Rattle.layout.specs.declared.Block.{Block}
use Rattle.layout.specs.declared.Label.{Label}
use Rattle.record.specs.Record.{label_in}
use Rattle.protocol.specs.declared.Refusal.{Refusal}
use Rattle.turns.specs.declared.turn.Turn.{Turn}
use Rattle.turns.specs.declared.turn.Turn.TheVariants.{Passes, Opens, CopiesOut}
use Rattle.list_turns.specs.PlaceTurns.{goes_on}
use Rattle.list_run.specs.declared.Run.{Run}
use Rattle.list_run.specs.Runs.{opened_if, row_if, run_after, table_after_turn}

-- a turn by which the run does not go on
module _ (r : Run) (caller : ℕ) (b : Block) (t : List ℕ) where
  pub opened-not : (s : Slot) (hand : Slot) (o : Result Bool Refusal) → o ≢ Ok true → opened_if o r s caller hand ≡ r
  opened-not s hand (Ok true) n = absurd (n refl)
  opened-not s hand (Ok false) n = refl
  opened-not s hand (Err e) n = refl

  pub row-not : (s : Slot) (flags k : ℕ) (o : Result Bool Refusal) → o ≢ Ok true → row_if o r b s flags k t ≡ t
  row-not s flags k (Ok true) n = absurd (n refl)
  row-not s flags k (Ok false) n = refl
  row-not s flags k (Err e) n = refl

  pub run_ends : (T : Result Turn Refusal) → goes_on (label_in r.state) T r.page r.state.newest ≢ Ok true → run_after T r caller ≡ r
  run_ends (Err e) n = refl
  run_ends (Ok Passes) n = absurd (n refl)
  run_ends (Ok (Opens s flags k hand)) n = opened-not s hand _ n
  run_ends (Ok (CopiesOut s k)) n = refl

  pub table-ends : (T : Result Turn Refusal) → goes_on (label_in r.state) T r.page r.state.newest ≢ Ok true → table_after_turn T r b t ≡ t
  table-ends (Err e) n = refl
  table-ends (Ok Passes) n = refl
  table-ends (Ok (Opens s flags k hand)) n = row-not s flags k _ n
  table-ends (Ok (CopiesOut s k)) n = refl

-- an end is not a going on
abbrev stays : Result Bool Refusal → Bool
stays (Ok b) = not b
stays (Err e) = true

pub stays_ok : {b : Bool} → b ≡ false → ◌≢◌ {A = Result Bool Refusal} (Ok b) (Ok true)
stays_ok e w = true≢false (sym (ap not e) ∙ ap stays w)

pub stays_err : {e : Refusal} → ◌≢◌ {A = Result Bool Refusal} (Err e) (Ok true)
stays_err w = true≢false (ap stays w)

-- a turn that opens no slot, by which the run goes on: it passes
pub goes_passes : (l : Label) (T : Turn) (page : Option ℕ) (newest : ℕ)
    → ((s : Slot) (flags n : ℕ) (hand : Slot) → T ≡ Opens s flags n hand → ⊥) → goes_on l (Ok T) page newest ≡ Ok true → T ≡ Passes
goes_passes l Passes page newest k w = refl
goes_passes l (Opens s flags n hand) page newest k w = absurd (k s flags n hand refl)
goes_passes l (CopiesOut s n) page newest k w = absurd (stays_ok refl w)
