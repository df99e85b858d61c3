-- A reopening after 2 and 4: the pages judged, then table and record from them.
use Prim.Native.Nat.{ℕ}
use mathlib.Core.Path.{◌≡◌, refl, ap, ◌∙◌}
use mathlib.Core.Bool.{Bool, true, false, not}
use mathlib.Core.List.{List, [], ◌∷◌}
use Rattle.std.specs.Prelude.{Option, Some, None}
use Rattle.layout.specs.declared.Label.{Label}
use Rattle.protocol.specs.Box.{Box}
use Rattle.protocol.specs.Plan.{reopen, plan}
use Rattle.protocol.specs.Recovery.{label_at, metas_of, spent_stamp, pages_test, recover_if, recover_from}
use Rattle.protocol.specs.Perform.{perform}
use Rattle.protocol.specs.declared.Refusal.{Refusal}
use Rattle.protocol.specs.declared.Refusal.TheVariants.{NoLabel, WrongLength, BadRows}
use Rattle.protocol.specs.Judge.{test, first_of, judged}
use Rattle.protocol.specs.Calls.{decided, effect_of}
use Rattle.protocol.specs.Beside.{recovered_to, ReopensFrom}

decided_from : (x : Box) (l : Label) (pages : List (List ℕ)) → l ≡ label_at x.images.ssd → pages ≡ metas_of l x.images.ssd → (t : Bool)
    → decided (elim (not t) [ true ↦ Some BadRows | false ↦ None ]) reopen x
    ≡ recovered_to x (recover_if t l pages (spent_stamp l x.images.ssd))
unfolding plan perform
decided_from x l pages e f true = rw (f, e) refl
decided_from x l pages e f false = refl

-- the third of three reasons is asked where neither of the first two holds
third : (p q r : Refusal) (h : Refusal → Bool) → h p ≡ false → h q ≡ false
    → first_of (p ∷ q ∷ r ∷ []) h ≡ elim (h r) [ true ↦ Some r | false ↦ None ]
unfolding first_of
third p q r h a b = rw (first_of, a) (rw (first_of, b) refl)

pub reopens_from_lem : (x : Box) → ReopensFrom x
unfolding effect_of judged test recover_from
reopens_from_lem x a b =
    ap (λ (o : Option Refusal). decided o reopen x) (third NoLabel WrongLength BadRows (λ r. test r reopen x) a b)
    ∙ decided_from x (label_at x.images.ssd) (metas_of (label_at x.images.ssd) x.images.ssd) refl refl
    (pages_test (label_at x.images.ssd) (metas_of (label_at x.images.ssd) x.images.ssd))
