-- A run so far, place after place: what is left of it is the whole run.
use Prim.Native.Nat.{ℕ, zero, suc, ◌+◌, ◌≤◌, ◌<◌}
use mathlib.Core.Path.{◌≡◌, refl, sym, ap, subst, ◌∙◌}
use mathlib.Core.Bool.{true}
use mathlib.Core.List.{List}
use native.Mathlib.Omega.{arith}
use native.Mathlib.Numerals.{add-one}
use lib.ListN.{length, get_or, drop, drop_of_length-le}
use lib.Seq.{drop-cons}
use Rattle.layout.specs.declared.Slot.{Slot}
use Rattle.layout.specs.declared.Block.{Block}
use Rattle.layout.specs.declared.Label.{Label}
use Rattle.protocol.specs.declared.Cost.TheVariants.{Counted, Met}
use Rattle.std.specs.Prelude.{Option, Result, Ok, Err}
use Rattle.protocol.specs.declared.Refusal.{Refusal}
use Rattle.protocol.specs.Judge.{number_of, names_once}
use Rattle.protocol.specs.Cost.{CostLeft}
use Rattle.locating.specs.Places.{places_of}
use Rattle.list_turns.specs.Found.{bound, Found}
use Rattle.scan_rule.proofs.ScanLaws.{once-apart}
use Rattle.list_turns.proofs.FoundLaws.{found_first}
use Rattle.import_run.specs.declared.Run.{Run}
use Rattle.import_run.specs.Runs.{After, counts_in, begun, place_after, went_or, run_from, Steady}
use Rattle.import_run.proofs.PlaceLaws.{Placed, steady_placed, steady_sweeps}

abbrev pub at : ℕ → List ℕ → Block
at j blocks = record { 0 = get_or blocks j 0 }

module _ (l : Label) (full : Option Refusal) (blocks words : List ℕ) (whole : CostLeft) where
  -- j places are done: the rest of the run is the whole one, and each later block is where the one pass found it, or lower rows do not hold it
  pub record Going (t : List ℕ) (r : Run) (j : ℕ) : Type 0 where
    pub steady : Steady l t r.hand
    pub rest : run_from l full j (drop j blocks) r t ≡ whole
    pub few_copies : r.copies ≤ j
    pub few_metadata : r.metadata ≤ j
    pub few_landings : r.landings ≤ j
    pub found : (k : ℕ) → j ≤ k → k < length blocks → Found l.slots t (get_or blocks k 0) (get_or words k 0)

  low-bound : (w : ℕ) → w ≤ l.slots → bound l.slots w ≤ l.slots
  low-bound zero h = omega arith
  low-bound (suc w) h = omega arith

  module _ (t : List ℕ) (r : Run) (j : ℕ) (G : Going t r j) (h : j < length blocks) {o : Result (Unit {0}) Refusal} {q : Run} {v : List ℕ}
      (left : record { met = o; run = q; table = v } ≡ place_after l t r full (at j blocks)) where
    one_more : run_from l full j (drop j blocks) r t ≡ went_or o j q v (run_from l full (suc j) (drop (suc j) blocks) q v)
    unfolding run_from
    one_more = ap (λ (bs : List ℕ). run_from l full j bs r t) (drop-cons blocks j 0 h)
        ∙ ap (λ (a : After). went_or a.met j a.run a.table (run_from l full (suc j) (drop (suc j) blocks) a.run a.table)) (sym left)

    -- a place meets a refusal
    pub stops : (e : Refusal) → o ≡ Err e → record { answer = Ok (Met (number_of e) j (counts_in q)); scratch = v } ≡ whole
    stops e k = ap (λ (o : Result (Unit {0}) Refusal). went_or o j q v (run_from l full (suc j) (drop (suc j) blocks) q v)) (sym k)
        ∙ sym one_more ∙ G.rest

    -- or none
    pub goes_on : names_once blocks ≡ true → (u : Unit {0}) → o ≡ Ok u → Going v q (j + 1)
    goes_on once u k =
        let P : Placed l t r (at j blocks) (record { met = o; run = q; table = v }) =
        subst (Placed l t r (at j blocks)) (sym left) (steady_placed r G.steady full (at j blocks)) in
        record {
          steady = P.steady;
          rest =
              rw (add-one j)
              (ap (λ (o : Result (Unit {0}) Refusal). went_or o j q v (run_from l full (suc j) (drop (suc j) blocks) q v)) (sym k)
              ∙ sym one_more ∙ G.rest);
          few_copies = omega (arith, P.few_copies, G.few_copies);
          few_metadata = omega (arith, P.few_metadata, G.few_metadata);
          few_landings = omega (arith, P.few_landings, G.few_landings);
          found = λ k q m. let F = G.found k (omega arith) m in
              (F.0, P.unheld _ (get_or blocks k 0) (low-bound (get_or words k 0) F.0) (once-apart blocks once j k (omega arith) m) F.1);
        }

  -- the last place is done
  pub done : (t : List ℕ) (r : Run) (j : ℕ) → Going t r j → length blocks ≤ j
      → record { answer = Ok (Counted (counts_in r)); scratch = t } ≡ whole
  unfolding run_from
  done t r j G h = sym (ap (λ (bs : List ℕ). run_from l full j bs r t) (drop_of_length-le blocks {i = j} h)) ∙ G.rest

-- before the first place
pub begins : (l : Label) (full : Option Refusal) (blocks words t : List ℕ) (hand : Slot) (newest : ℕ) → Steady l t hand → words ≡ places_of t blocks
    → Going l full blocks words (run_from l full 0 blocks (begun hand newest) t) t (begun hand newest) 0
begins l full blocks words t hand newest S e = record {
  steady = S;
  rest = refl;
  few_copies = omega arith;
  few_metadata = omega arith;
  few_landings = omega arith;
  found = λ k q h. rw e (found_first t blocks l.slots (steady_sweeps S).size k h);
}
