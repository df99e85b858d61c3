-- What calls answer: a plan no refusal, and every answer its own number and values.
use Prim.Native.Nat.{ℕ, ◌-◌}
use mathlib.Core.Path.{◌≡◌, refl, sym, ap, ◌∙◌}
use mathlib.Core.Bool.{false}
use mathlib.Core.List.{[], ◌∷◌}
use Rattle.std.specs.Prelude.{None}
use lib.ListN.{get_or}
use Rattle.layout.specs.declared.Slot.{Slot}
use Rattle.record.specs.declared.Phase.{Phase}
use Rattle.record.specs.declared.Phase.TheVariants.{Formatting, Recovering, Ready}
use Rattle.protocol.specs.declared.Answer.{Answer}
use Rattle.protocol.specs.declared.Answer.TheVariants.{Announced, Overwrite, CopiedOut, Looked, NothingToDo, Done, Dealt}
use Rattle.protocol.specs.declared.Condition.TheVariants.{NotCached, Clean, Dirty, Writing, Fetching}
use Rattle.protocol.specs.Reply.{Reply, refusal, answer, dealt, reply_of, refused}
use Rattle.protocol.specs.Box.{Box}
use Rattle.protocol.specs.Plan.{Call, stepping, plan}
use Rattle.protocol.specs.Perform.{confirmed, perform}
use Rattle.protocol.specs.Judge.{judged}
use Rattle.laws.proofs.Does.{does_said}
use Rattle.laws.proofs.Sorted.{Sorted, is_format, is_reopen, is_step, is_service, sorted}

-- what a call does that no reason refuses is no refusal
pub plan_answers : (c : Call) (x : Box) → judged c x ≡ None → refused (perform (plan c x) x).said ≡ false
plan_answers c x = go (sorted c)
  where
    step_answers : (p : Phase) → refused (perform (stepping x.state p) x).said ≡ false
    step_answers (Formatting d) = unfold perform in refl
    step_answers Recovering = unfold perform confirmed in refl
    step_answers Ready = unfold perform in refl

    go : {c : Call} → Sorted c → judged c x ≡ None → refused (perform (plan c x) x).said ≡ false
    go (is_format slots blocks) e = unfold plan perform in refl
    go is_reopen e = unfold plan perform in refl
    go is_step e = unfold plan in (step_answers x.state.phase)
    go (is_service K does) e = does_said (does x e)

-- an answer is told by its number and values
answer_as : ℕ → Slot → Answer
answer_as n s = get_or (Done ∷ Announced s ∷ Overwrite ∷ CopiedOut ∷ Done ∷ Done ∷ NothingToDo ∷ Looked NotCached ∷ Looked (Clean s)
    ∷ Looked (Dirty s) ∷ Looked (Writing s) ∷ Looked (Fetching s) ∷ []) (n - 100) Done

answer_of : Reply → Answer
answer_of (refusal n) = Done
answer_of (answer n s) = answer_as n (get_or s 0 (record { 0 = 0 }))
answer_of (dealt n) = Dealt n

answer_back : (a : Answer) → answer_of (reply_of a) ≡ a
unfolding answer_of answer_as
answer_back (Announced s) = refl
answer_back Overwrite = refl
answer_back CopiedOut = refl
answer_back (Looked NotCached) = refl
answer_back (Looked (Clean s)) = refl
answer_back (Looked (Dirty s)) = refl
answer_back (Looked (Writing s)) = refl
answer_back (Looked (Fetching s)) = refl
answer_back NothingToDo = refl
answer_back Done = refl
answer_back (Dealt n) = refl

pub reply_injective : (a b : Answer) → reply_of a ≡ reply_of b → a ≡ b
reply_injective a b e = sym (answer_back a) ∙ ap answer_of e ∙ answer_back b
