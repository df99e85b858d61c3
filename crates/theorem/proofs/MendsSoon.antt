-- Mending takes at most 63 steps, whatever the box.
use Prim.Native.Nat.{ℕ, zero, suc, ◌+◌, ◌≤◌, ◌<◌}
use mathlib.Core.Path.{◌≡◌, ap, subst, ◌∙◌}
use mathlib.Core.Bool.{true, false, not}
use mathlib.Core.List.{List}
use Rattle.std.specs.Prelude.{Option, None}
use native.Mathlib.Omega.{arith}
use lib.ListN.{length}
use borrow.Author.Tests.{not-true}
use Rattle.theorem.proofs.refine.Formatting.{steps_more}
use Rattle.layout.specs.declared.Slot.{Slot}
use Rattle.record.specs.declared.Phase.{Phase}
use Rattle.record.specs.declared.Phase.TheVariants.{Recovering}
use Rattle.protocol.specs.Reply.{refused}
use Rattle.record.specs.Record.{window_in}
use Rattle.protocol.specs.Box.{Box}
use Rattle.protocol.specs.Recovery.{off_page}
use Rattle.protocol.specs.Plan.{step, lowest_page, stepping, plan}
use Rattle.protocol.specs.Perform.{confirmed, perform}
use Rattle.protocol.specs.declared.Refusal.{Refusal}
use Rattle.protocol.specs.Judge.{is_empty, agree_test, judged}
use Rattle.protocol.specs.Calls.{decided, effect_of, result_of}
use Rattle.protocol.specs.Events.{steps}
use Rattle.protocol.specs.Beside.{MendsSoon}
use Rattle.layout.proofs.Booleans.{and_parts}
use Rattle.laws.proofs.refine.Windows.{length_nums, some_length}
use Rattle.record.proofs.WindowLaws.{take-array}
use Rattle.theorem.proofs.refine.MendingCalls.{fewer}
use Rattle.theorem.proofs.UpdateFirst.{none_of}
use Rattle.laws.proofs.Accepted.{step_legal}

-- a step that is not refused leaves the pending slots of other pages
module _ (x : Box) (e : judged step x ≡ None) (on : x.state.phase ≡ Recovering) where
  rest : List Slot
  rest = off_page (lowest_page (window_in x.state)) (window_in x.state)

  pub step_window : window_in (result_of step x).state ≡ off_page (lowest_page (window_in x.state)) (window_in x.state)
  unfolding effect_of plan perform confirmed window_in
  step_window =
      ap (λ (o : Option Refusal). window_in (decided o step x).state) e
      ∙ ap (λ (q : Phase). window_in (perform (stepping x.state q) x).state) on
      ∙ take-array (off_page (lowest_page (window_in x.state)) (window_in x.state))

  pending : is_empty (window_in x.state) ≡ false
  pending = not-true (is_empty (window_in x.state))
      (and_parts (not (is_empty (window_in x.state))) _
      (subst (λ (q : Phase). agree_test q x.table (window_in x.state) ≡ true) on (step_legal x e).agree)).0

  pub some_left : 0 < length (window_in x.state)
  some_left = some_length (window_in x.state) pending

  pub step_less : length (window_in (result_of step x).state) < length (window_in x.state)
  step_less = rw step_window (fewer (window_in x.state) pending)

module _ (x : Box) (k : ℕ) (f : (j : ℕ) → j ≤ k → refused (result_of step (steps j x)).said ≡ false)
    (on : (j : ℕ) → j ≤ k → (steps j x).state.phase ≡ Recovering) where
  taken : (j : ℕ) → j ≤ k → judged step (steps j x) ≡ None
  taken j h = none_of step (steps j x) (f j h)

  less : (j : ℕ) → j ≤ k → length (window_in (steps j x).state) + j ≤ 63
  unfolding steps
  less zero h = omega (arith, (step_legal x (taken 0 h)).window-rule.fits, length_nums (window_in x.state))
  less (suc j) h =
      let q : length (window_in (steps (suc j) x).state) ≡ length (window_in (result_of step (steps j x)).state) =
      ap (λ (y : Box). length (window_in y.state)) (steps_more j x) in
      let i : j ≤ k = omega arith in
      omega (arith, less j i, step_less (steps j x) (taken j i) (on j i))

pub mends_soon : (x : Box) → MendsSoon x
mends_soon x k f on = omega (
  arith,
  less x k f on k (omega arith),
  some_left (steps k x) (taken x k f on k (omega arith)) (on k (omega arith)),
)
