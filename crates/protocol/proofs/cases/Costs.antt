-- Document 02, N8: what an import would cost.
use Prim.Native.Nat.{ℕ}
use mathlib.Core.Path.{refl}
use mathlib.Core.Bool.{true, false}
use mathlib.Core.List.{List, [], ◌∷◌, ◌++◌}
use lib.ListN.{replicate}
use Rattle.std.specs.Prelude.{Ok}
use Rattle.layout.specs.declared.Label.{Label}
use Rattle.layout.specs.Places.{ssd_length, hdd_length}
use Rattle.record.specs.declared.Phase.TheVariants.{Ready}
use Rattle.record.specs.Record.{record_of}
use Rattle.protocol.specs.declared.Counts.{Counts}
use Rattle.protocol.specs.declared.Cost.{Cost}
use Rattle.protocol.specs.declared.Cost.TheVariants.{Counted, Met}
use Rattle.protocol.specs.Box.{Box}
use Rattle.protocol.specs.Judge.{judged, length_test, lengths_test}
use Rattle.protocol.specs.Calls.{effect_of}
use Rattle.protocol.specs.Cost.{tallies, offers_to, imports, CostLeft, cost_from}
use Rattle.protocol.proofs.cases.Known.{known}
use Rattle.protocol.proofs.cases.Case.{Case, AllHold, ◌first◌, one, two, costs}
use Rattle.protocol.proofs.cases.Maps.{Rooms}

-- a settled, ready box of these sizes with nothing open, its images of the right lengths
abbrev pub ready : Label → List ℕ → ℕ → ℕ → Box
ready l table hand newest = record {
  images = record { ssd = replicate (ssd_length l) 0; hdd = replicate (hdd_length l) 0 };
  table = table;
  state = record_of l (record { 0 = hand }) newest Ready false [];
}

abbrev pub leaves : Cost → List ℕ → CostLeft
leaves said table = record { answer = Ok said; scratch = table }

abbrev pub counts : ℕ → ℕ → ℕ → Counts
counts c m d = record { copies = c; metadata = m; landings = d }

-- P8's box after its landing: 1 copies out slot 0, which it then takes; 0 is an overwrite, so only its landing stores; 13 is met after the
-- copy-out
abbrev pub costed : List Case
costed =
    costs (0 ∷ []) 0 (ready one (0 ∷ 11 ∷ []) 0 1) (leaves (Counted (counts 0 0 1)) (0 ∷ 11 ∷ []))
    ∷ costs (1 ∷ []) 0 (ready one (0 ∷ 11 ∷ []) 0 1) (leaves (Counted (counts 1 1 1)) (1 ∷ 11 ∷ []))
    ∷ costs (0 ∷ 1 ∷ []) 0 (ready one (0 ∷ 11 ∷ []) 0 1) (leaves (Counted (counts 1 1 2)) (1 ∷ 11 ∷ []))
    ∷ costs (1 ∷ []) 0 (ready one (0 ∷ 11 ∷ []) 0 4294967232) (leaves (Met 13 0 (counts 1 0 0)) (0 ∷ 1 ∷ []))
    -- 13 is met as by single offers, one stamp each; block 3 of 3 is met at its place
    ∷ costs (0 ∷ 1 ∷ []) 0 (ready two (0 ∷ 1 ∷ 0 ∷ 0 ∷ []) 1 4294967231) (leaves (Met 13 1 (counts 0 1 1)) (0 ∷ 11 ∷ 0 ∷ 0 ∷ []))
    ∷ costs (0 ∷ 1 ∷ 3 ∷ []) 1 (ready two (replicate 4 0) 0 1) (leaves (Met 7 2 (counts 0 2 2)) (0 ∷ 11 ∷ 1 ∷ 11 ∷ []))
    -- the slot that was copied out is taken, with the hand on it, and the used flag of the other was cleared on the way
    ∷ costs (2 ∷ []) 0 (ready two (0 ∷ 11 ∷ 1 ∷ 11 ∷ []) 0 1) (leaves (Counted (counts 1 1 1)) (2 ∷ 11 ∷ 1 ∷ 3 ∷ []))
    ∷ []

pub Costed : AllHold costed
unfolding known effect_of judged length_test lengths_test tallies offers_to imports cost_from
Costed = Rooms first (refl, (refl, (refl, (refl, (refl, (refl, (refl, tt)))))))
