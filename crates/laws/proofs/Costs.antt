-- What an import would cost (document 02, N8), as demand 3's lists have it: the number of its refusal, or done.
use Prim.Native.Nat.{ℕ, suc}
use mathlib.Core.Path.{◌≡◌, refl, sym, ap}
use mathlib.Core.List.{List, [], ◌∷◌}
use Rattle.std.specs.Prelude.{Option, Some, None}
use lib.ListN.{length}
use Rattle.protocol.specs.Reply.{Reply, refusal, answer, dealt}
use Rattle.protocol.specs.Box.{Box}
use Rattle.protocol.specs.Plan.{Call, ask, cost, plan}
use Rattle.protocol.specs.Perform.{perform}
use Rattle.protocol.specs.declared.Refusal.{Refusal}
use Rattle.protocol.specs.Judge.{number_of, judged}
use Rattle.protocol.specs.Calls.{number_in, decided, effect_of}
use Rattle.protocol.specs.Cost.{Tally, imports, met_or, cost_from, not_started, cost_by, cost_in}
use Rattle.protocol.specs.Beside.{said_by, CostSays}
use Rattle.protocol.proofs.Reasons.{number_some}
use Rattle.laws.proofs.SlotMaps.{said_some}

-- a run is no refusal of the question
run_says : (blocks : List ℕ) (caller place : ℕ) (w : Tally) → number_in (cost_from caller place blocks w).answer ≡ 0
unfolding cost_from
run_says [] caller place w = refl
run_says (b ∷ blocks) caller place w = by (imports caller (record { 0 = b }) w).said (run_says blocks caller (suc place) (imports caller (record { 0 = b }) w))
  where
    v : Tally
    v = imports caller (record { 0 = b }) w

    by : (p : Reply) → number_in (cost_from caller (suc place) blocks v).answer ≡ 0
        → number_in (met_or p place v (cost_from caller (suc place) blocks v)).answer ≡ 0
    by (refusal n) h = refl
    by (answer n s) h = h
    by (dealt n) h = h

pub cost_says : (blocks : List ℕ) (caller : ℕ) (scratch : List ℕ) (x : Box) → CostSays blocks caller scratch x
unfolding effect_of plan perform cost_in
cost_says blocks caller scratch x = go (judged q x)
  where
    q : Call
    q = ask (cost blocks caller (length scratch))

    go : (o : Option Refusal) → (decided o q x).said ≡ said_by (number_in (cost_by o blocks caller scratch x).answer)
    go (Some r) = said_some (number_of r) (number_some r)
    go None = ap said_by (sym (run_says blocks caller 0 (not_started x)))
