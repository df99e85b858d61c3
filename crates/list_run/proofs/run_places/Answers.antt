use Prim.Native.Nat.{ℕ, ◌+◌}
use mathlib.Core.Bool.{Bool, true, false}
use mathlib.Core.List.{List}
use mathlib.Core.Logic.{◌≢◌}
use mathlib.Core.Path.{◌≡◌, refl, sym, ap, subst, ◌∙◌}
use lib.ListN.{get_or}
use native.Mathlib.Omega.{arith}
use Rattle.std.specs.Prelude.{Option, Some, Result, Ok}
use Rattle.layout.specs.declared.Block.{Block}
use Rattle.record.specs.Record.{label_in}
use Rattle.record.proofs.RecordLaws.{parts, joined_is}
use Rattle.protocol.specs.declared.Refusal.{Refusal}
use Rattle.judging.proofs.JudgingLaws.{refused_on}
use Rattle.turns.specs.declared.turn.Turn.{Turn}
use Rattle.turns.specs.declared.turn.Turn.TheVariants.{Opens}
use Rattle.turns.specs.Turns.{held_by, Performable}
use Rattle.turns.proofs.TurnLaws.{crowd_seen, seen_sweeps}
use Rattle.list_turns.specs.PlaceTurns.{goes_on, place_turn_at}
use Rattle.list_run.specs.declared.Run.{Run}
use Rattle.list_run.specs.Runs.{opened_if, row_if, run_after, table_after_turn, place_turn}
use Rattle.list_run.proofs.RunEndLaws.{stays_ok, stays_err, goes_passes, run_ends, table-ends}
use Rattle.list_run.proofs.FairLaws.{fair_seen}
use Rattle.list_run.proofs.PlacedLaws.{place_turn_is, placing_performs}
use Rattle.list_run.proofs.RunLaws.{held_more, going_begin, going_done, Stepped, step}
use Rattle.list_run.proofs.run_places.Goals as goal
use Rattle.list_run.proofs.run_places.Goals.{After-decide, After-open, At-loop-j, In-Ok, In-Opens, Start}

-- the place at hand: where it starts, and what the call was given
abbrev at : After-decide → At-loop-j
at d = (goal.at.After-decide d).At-loop-j

abbrev start : After-decide → Start
start d = (goal.at.After-decide d).Start

abbrev block : After-decide → Block
block d = record { 0 = get_or (start d).args.blocks.now (at d).loop-j.j 0 }

-- what was decided is the place's turn
decided : (d : After-decide) →
    d.decide.result ≡ place_turn (at d).loop-j.table (at d).loop-j.run.state (block d) (start d).args.caller
decided d =
    let l = (at d).loop-j in
    let r = l.run.state in
    d.decide.ensures
    ∙ ap (λ (n : Option Refusal). place_turn_at r.label l.table r.hand n (block d))
    (crowd_seen l.table r (start d).args.caller (fair_seen l.invariant.0.kept.fair) (search d.crowded-full.ensures) l.invariant.1)

-- whether the run goes on with a turn, and what the place leaves
abbrev on : After-decide → Result Turn Refusal → Result Bool Refusal
on d T = let l = (at d).loop-j in goes_on (label_in l.run.state) T l.run.page l.run.state.newest

abbrev Step : After-decide → Result Bool Refusal → Run → List ℕ → Type 0
Step d o q v = let a = (start d).args in Stepped a.table.now a.state a.blocks.now a.words.now a.caller o (at d).loop-j.j q v

dealt : (d : After-decide) {T : Result Turn Refusal} {o : Result Bool Refusal} → d.decide.result ≡ T → on d T ≡ o
    → Step d o (run_after T (at d).loop-j.run (start d).args.caller) (table_after_turn T (at d).loop-j.run (block d) (at d).loop-j.table)
dealt d {T} {o} e k =
    let l = (at d).loop-j in
    let a = (start d).args in
    let p = (start d).requires in
    subst (λ (o : Result Bool Refusal). Step d o (run_after T l.run a.caller) (table_after_turn T l.run (block d) l.table)) k
    (subst (λ (T : Result Turn Refusal). Step d (on d T) (run_after T l.run a.caller) (table_after_turn T l.run (block d) l.table))
    (sym (decided d) ∙ e)
    (step a.table.now a.state a.blocks.now a.words.now a.caller l.table l.run l.j l.invariant.0 (omega arith) p.blocks_value
    p.caller_le_import_caller))

-- where the run does not go on, all is as it was
ends : (d : After-decide) {T : Result Turn Refusal} {o : Result Bool Refusal} → d.decide.result ≡ T → on d T ≡ o → o ≢ Ok true
    → Step d o (at d).loop-j.run (at d).loop-j.table
ends d {T} {o} e k n =
    let l = (at d).loop-j in
    let a = (start d).args in
    let m : on d T ≢ Ok true = λ z. n (sym k ∙ z) in
    subst (λ (u : Run). Step d o u l.table) (run_ends l.run a.caller (block d) l.table T m)
    (subst (λ (v : List ℕ). Step d o (run_after T l.run a.caller) v) (table-ends l.run a.caller (block d) l.table T m) (dealt d e k))

-- a turn can be performed
performs : (d : After-decide) {T : Result Turn Refusal} → d.decide.result ≡ T → Performable T (at d).loop-j.table (at d).loop-j.run.state
performs d e =
    let l = (at d).loop-j in
    let F = l.invariant.0.kept.fair in
    subst (λ (T : Result Turn Refusal). Performable T l.table l.run.state) (sym (decided d) ∙ e)
    (placing_performs l.table l.run.state (block d) (start d).args.caller F
    (place_turn_is l.table l.run.state (block d) (start d).args.caller F))

-- a slot is opened: by which turn, one of the label's, with room in the window
abbrev chosen : In-Opens → After-decide
chosen t = (goal.at.In-Opens t).After-decide

opened : (t : In-Opens) → let g = t.in-Opens in (chosen t).decide.result ≡ Ok (Opens g.s g.flags g.passed g.hand)
opened t = t.in-Ok.is ∙ ap Ok t.in-Opens.is

opens : (t : In-Opens) → let d = chosen t in let g = t.in-Opens in
    Performable (Ok (Opens g.s g.flags g.passed g.hand)) (at d).loop-j.table (at d).loop-j.run.state
opens t = performs (chosen t) (opened t)

abbrev turned : After-open → In-Opens
turned w = (goal.at.After-open w).In-Opens

pub loop-j-init : goal.loop-j-init
loop-j-init c =
    let a = c.args in (
      going_begin a.table.now a.state a.blocks.now a.words.now a.caller c.requires.fair c.requires.words_value,
      c.held-mine.ensures,
    )

pub decide-requires : goal.decide-requires
decide-requires c =
    let l = c.loop-j in
    let G = l.invariant.0 in
    record { sweepable = seen_sweeps (fair_seen G.kept.fair); found = G.found l.j (omega arith) (omega arith) }

pub returns-in_default : goal.returns-in_default
returns-in_default c =
    let d = (goal.at.returns-in_default c).After-decide in
    ends d {o = Ok false} c.in_default.is refl (stays_ok refl)

pub returns-in_err-goes_on : goal.returns-in_err-goes_on
returns-in_err-goes_on c =
    let d = (goal.at.returns-in_err-goes_on c).After-decide in
    let e : c.goes_on.result ≡ on d (Ok c.in-Ok.turn) = search c.goes_on.ensures in
    rw (refused_on c.from_residual.ensures.1) (ends d c.in-Ok.is (sym e ∙ c.in_err-goes_on.was) stays_err)

pub returns-then-not-branch : goal.returns-then-not-branch
returns-then-not-branch c =
    let d = (goal.at.returns-then-not-branch c).After-decide in
    let e : c.goes_on.result ≡ on d (Ok c.in-Ok.turn) = search c.goes_on.ensures in
    ends d c.in-Ok.is (sym e ∙ c.in_ok-goes_on.was ∙ ap Ok c.if-not-branch.true) (stays_ok refl)

pub loop-j-preserved-in_default-turn : goal.loop-j-preserved-in_default-turn
loop-j-preserved-in_default-turn c =
    let d = (goal.at.loop-j-preserved-in_default-turn c).After-decide in
    let l = (at d).loop-j in
    let e : c.goes_on.result ≡ on d (Ok c.in-Ok.turn) = search c.goes_on.ensures in
    let k : on d (Ok c.in-Ok.turn) ≡ Ok true = sym e ∙ c.in_ok-goes_on.was ∙ ap Ok c.if-not-branch.false in
    let p = goes_passes (label_in l.run.state) c.in-Ok.turn l.run.page l.run.state.newest c.in_default-turn.not-Opens k in
    (dealt d (c.in-Ok.is ∙ ap Ok p) refl, l.invariant.1)

pub open-requires : goal.open-requires
open-requires c =
    let t = (goal.at.open-requires c).In-Opens in
    let F = (at (chosen t)).loop-j.invariant.0.kept.fair in
    record { table_len = (F.size, (seen_sweeps (fair_seen F)).low); s_lt_slots = (opens t).0 }

pub loop-j-preserved : goal.loop-j-preserved
loop-j-preserved c =
    let t = turned (goal.at.loop-j-preserved c).After-open in
    let d = chosen t in
    let l = (at d).loop-j in
    let a = (start d).args in
    let g = t.in-Opens in
    let F = l.invariant.0.kept.fair in
    let T : Result Turn Refusal = Ok (Opens g.s g.flags g.passed g.hand) in
    let k : on d T ≡ Ok true =
    ap (λ (T : Turn). on d (Ok T)) (sym g.is) ∙ sym t.goes_on.ensures ∙ t.in_ok-goes_on.was ∙ ap Ok t.if-not-branch.false in
    let r = joined_is l.run.state (parts l.run.state F.record_kept) g.s a.caller g.hand (opens t).1 in
    let q = ap (λ (m : Result Bool Refusal). opened_if m l.run g.s a.caller g.hand) k
    ∙ (λ i. record { state = sym r i; page = Some (sym c.meta_of.ensures i); places = l.run.places + 1 }) in
    let v = ap (λ (m : Result Bool Refusal). row_if m l.run (block d) g.s g.flags g.passed l.table) k ∙ sym c.open.ensures in (
      subst (λ (u : Run). Step d (Ok true) u c.open.new.table) q
          (subst (λ (v : List ℕ). Step d (Ok true) (run_after T l.run a.caller) v) v (dealt d (opened t) k)),
      ap (λ (m : ℕ). m + a.caller) l.invariant.1
          ∙ sym (held_more l.run.state F.record_kept g.s a.caller g.hand (start d).requires.caller_le_import_caller)
          ∙ ap (held_by a.caller) (sym r),
    )

-- at the loop's end every place was dealt with
pub returns : goal.returns
returns c =
    let l = c.loop-j in
    let a = c.args in
    going_done a.table.now a.state a.blocks.now a.words.now a.caller l.table l.run l.j l.invariant.0 (omega arith)
