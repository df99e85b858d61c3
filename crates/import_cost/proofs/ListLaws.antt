-- The whole of what an import would cost is the run in memory; and how the question is judged.
use Prim.Native.Nat.{ℕ, suc, ◌≤◌}
use mathlib.Core.Path.{◌≡◌, refl, sym, ap, ◌∙◌}
use mathlib.Core.Bool.{Bool, true, false}
use mathlib.Core.List.{List, [], ◌∷◌}
use Rattle.std.specs.Prelude.{Option, Some, None, Result, Ok, Err}
use lib.ListN.{length}
use lib.Dec.{eqb}
use Rattle.layout.specs.declared.Block.{Block}
use Rattle.layout.specs.Places.{ssd_length, hdd_length}
use Rattle.layout.proofs.Booleans.{clash}
use Rattle.record.specs.declared.Record.{Record}
use Rattle.record.specs.declared.Phase.TheVariants.{Ready}
use Rattle.record.specs.Record.{label_in}
use Rattle.record.specs.Rule.{record_test}
use Rattle.protocol.specs.declared.Cost.TheVariants.{Counted, Met}
use Rattle.protocol.specs.Reply.{Reply, refusal, answer, dealt, refused}
use Rattle.protocol.specs.Box.{Box}
use Rattle.protocol.specs.Plan.{Call, ask, cost}
use Rattle.protocol.specs.declared.Refusal.{Refusal}
use Rattle.protocol.specs.declared.Refusal.TheVariants.{BadRecord, WrongLength, BadRows, WrongPhase, BadScan, UnknownCaller}
use Rattle.protocol.specs.Judge.{number_of, lengths_test, length_test, test, first_of}
use Rattle.protocol.specs.Calls.{box_of}
use Rattle.protocol.specs.Cost.{Tally, imports, CostLeft, met_or, cost_from, not_started, cost_by, cost_in, cost_of}
use Rattle.judging.specs.Judging.{sound_then, ready_then, scan_then}
use Rattle.judging.proofs.JudgingLaws.{goes_on, ready_asks}
use Rattle.judging.proofs.ServeLaws.{Judges, end, first_judged, judged_on}
use Rattle.turns.specs.Turns.{held_by, crowd_by}
use Rattle.list_run.specs.Runs.{Fair}
use Rattle.import_run.specs.declared.Run.{Run}
use Rattle.import_run.specs.Runs.{After, counts_in, begun, went_or, run_from}
use Rattle.import_run.proofs.RowLaws.{ran_as}
use Rattle.import_cost.proofs.PlaceLaws.{Done, met, went, place-ends}

-- not refused, the run goes on
goes : (p : Reply) (place : ℕ) (y : Tally) (rest : CostLeft) → refused p ≡ false → met_or p place y rest ≡ rest
goes (refusal n) place y rest e = clash {b = true} refl e
goes (answer n s) place y rest e = refl
goes (dealt n) place y rest e = refl

module _ (ssd hdd : List ℕ) (r : Record) (kept : record_test r ≡ true) (ready : r.phase ≡ Ready)
    (ssd-size : length ssd ≡ ssd_length (label_in r)) (hdd-size : length hdd ≡ hdd_length (label_in r)) (caller : ℕ) (known : caller ≤ 1) where
  abbrev full : Option Refusal
  full = crowd_by r.count (held_by caller r)

  run_is : (blocks : List ℕ) (place : ℕ) (t : List ℕ) (z : Run) (u : Bool) → Fair t (ran_as r z.hand z.newest u)
      → (w : Tally)
      → w.box ≡ box_of ssd hdd t (ran_as r z.hand z.newest u) → w.counts ≡ counts_in z
      → cost_from caller place blocks w ≡ run_from (label_in r) full place blocks z t
  unfolding cost_from run_from
  run_is [] place t z u F w e c = λ i. record { answer = Ok (Counted (c i)); scratch = (e i).table }
  run_is (b ∷ blocks) place t z u F w e c =
      ap (λ (v : Tally). met_or (imports caller k v).said place (imports caller k v) (cost_from caller (suc place) blocks
      (imports caller k v)))
      (λ i. record { box = e i; counts = c i; said = w.said })
      ∙ go (run_is blocks (suc place)) (place-ends ssd hdd r kept ready ssd-size hdd-size caller known t z u F k w.said)
    where
      k : Block
      k = record { 0 = b }

      go : ((t : List ℕ) (z : Run) (u : Bool) → Fair t (ran_as r z.hand z.newest u) → (w : Tally)
          → w.box ≡ box_of ssd hdd t (ran_as r z.hand z.newest u) → w.counts ≡ counts_in z
          → cost_from caller (suc place) blocks w ≡ run_from (label_in r) full (suc place) blocks z t)
          → {y : Tally} {a : After} → Done ssd hdd r kept ready ssd-size hdd-size caller known y a
          → met_or y.said place y (cost_from caller (suc place) blocks y)
          ≡ went_or a.met place a.run a.table (run_from (label_in r) full (suc place) blocks a.run a.table)
      go rest (met y a q s n c e) =
          ap (λ (p : Reply). met_or p place y (cost_from caller (suc place) blocks y)) s
          ∙ (λ i. record { answer = Ok (Met (number_of q) place (c i)); scratch = e i })
          ∙ ap (λ (o : Result (Unit {0}) Refusal). went_or o place a.run a.table (run_from (label_in r) full (suc place) blocks a.run a.table)) (sym n)
      go rest (went y a u f m c e G) =
          goes y.said place y (cost_from caller (suc place) blocks y) f
          ∙ rest a.table a.run u G y e c
          ∙ ap (λ (o : Result (Unit {0}) Refusal). went_or o place a.run a.table (run_from (label_in r) full (suc place) blocks a.run a.table)) (sym m)

  pub cost_is_run : (t : List ℕ) → Fair t r → (blocks : List ℕ) → cost_from caller 0 blocks (not_started (box_of ssd hdd t r))
      ≡ run_from (label_in r) full 0 blocks (begun r.hand r.newest) t
  cost_is_run t F blocks = run_is blocks 0 t (begun r.hand r.newest) r.unconfirmed F (not_started (box_of ssd hdd t r)) refl refl

-- how the question is judged: a page of 4,096 bytes stands for a scratch table as long as the table
module _ (ssd hdd t : List ℕ) (r : Record) (blocks : List ℕ) (caller : ℕ) (scratch : List ℕ) (page : ℕ)
    (lent : eqb page 4096 ≡ eqb (length scratch) (length t)) where
  abbrev x : Box
  x = box_of ssd hdd t r

  abbrev c : Call
  c = ask (cost blocks caller (length scratch))

  abbrev left : CostLeft
  left = cost_of ssd hdd t r blocks caller scratch

  begins : Judges c x (ready_then (length ssd) (length hdd) page t r None) (BadScan ∷ UnknownCaller ∷ [])
  unfolding first_of test sound_then length_test lengths_test
  begins = record { begins = BadRecord ∷ WrongLength ∷ BadRows ∷ WrongPhase ∷ []; chain_is = refl; first_is = rw lent }

  judges : Judges c x (ready_then (length ssd) (length hdd) page t r (scan_then blocks caller None)) []
  unfolding first_of test sound_then length_test lengths_test
  judges = record {
    begins = BadRecord ∷ WrongLength ∷ BadRows ∷ WrongPhase ∷ BadScan ∷ UnknownCaller ∷ [];
    chain_is = refl;
    first_is = rw lent;
  }

  refused-cost : (o : Option Refusal) (more : List Refusal) → Judges c x o more → (e : Refusal) → o ≡ Some e
      → record { answer = Err e; scratch = scratch } ≡ left
  unfolding cost_in
  refused-cost o more J e k = ap (λ (o : Option Refusal). cost_by o blocks caller scratch x) (sym (first_judged c x o more J e k))

  pub cost_unready : (e : Refusal) → ready_then (length ssd) (length hdd) page t r None ≡ Some e
      → record { answer = Err e; scratch = scratch } ≡ left
  cost_unready e k = refused-cost _ _ begins e k

  module _ (ready : ready_then (length ssd) (length hdd) page t r None ≡ None) where
    on : (rest : Option Refusal) → ready_then (length ssd) (length hdd) page t r rest ≡ rest
    on = goes_on (ready_asks (length ssd) (length hdd) page t r) ready

    pub cost-refused : (e : Refusal) → scan_then blocks caller None ≡ Some e → record { answer = Err e; scratch = scratch } ≡ left
    cost-refused e k = refused-cost _ _ judges e (on _ ∙ k)

    pub cost_runs : scan_then blocks caller None ≡ None → cost_from caller 0 blocks (not_started x) ≡ left
    unfolding cost_in
    cost_runs e = ap (λ (o : Option Refusal). cost_by o blocks caller scratch x) (sym (judged_on c x _ [] judges (on _ ∙ e) ∙ end _))
