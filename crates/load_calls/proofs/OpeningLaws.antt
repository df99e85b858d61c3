-- A call, and the same call past a copy-out.
use mathlib.Core.Path.{refl, ◌≡◌, sym, ap, ◌∙◌}
use mathlib.Core.Bool.{Bool, true, false}
use Rattle.protocol.specs.declared.Answer.{Answer}
use Rattle.protocol.specs.declared.Answer.TheVariants.{Announced, Overwrite, CopiedOut, Looked, NothingToDo, Done, Dealt}
use Rattle.protocol.specs.declared.Condition.TheVariants.{NotCached, Clean, Dirty, Writing, Fetching}
use Rattle.protocol.specs.Reply.{reply_of, refused}
use Rattle.protocol.specs.Box.{Box, Result, box_after}
use Rattle.protocol.specs.Plan.{Call}
use Rattle.protocol.specs.Calls.{result_of}
use Rattle.protocol.specs.Cost.{is_copied_out}
use Rattle.load_calls.specs.Openings.{again_if, past}

module _ (c : Call) (x : Box) (r : Result) (e : r ≡ result_of c x) where
  pub not-again : is_copied_out r.said ≡ false → r ≡ past c x
  unfolding past
  not-again h = e ∙ ap (λ (b : Bool). again_if b c (result_of c x)) (sym h ∙ ap (λ (q : Result). is_copied_out q.said) e)

  pub made_again : (q : Result) → is_copied_out r.said ≡ true → q ≡ result_of c (box_after r) → q ≡ past c x
  unfolding past
  made_again q h f =
      f ∙ ap (λ (v : Result). result_of c (box_after v)) e
      ∙ ap (λ (b : Bool). again_if b c (result_of c x)) (sym h ∙ ap (λ (v : Result). is_copied_out v.said) e)

-- any other answer is none
pub other_answer : (a : Answer) → (a ≡ CopiedOut → ⊥) → is_copied_out (reply_of a) ≡ false
other_answer (Announced s) n = refl
other_answer Overwrite n = refl
other_answer CopiedOut n = absurd (n refl)
other_answer (Looked NotCached) n = refl
other_answer (Looked (Clean s)) n = refl
other_answer (Looked (Dirty s)) n = refl
other_answer (Looked (Writing s)) n = refl
other_answer (Looked (Fetching s)) n = refl
other_answer NothingToDo n = refl
other_answer Done n = refl
other_answer (Dealt n) k = refl

-- an answer is no refusal
pub no_refusal : (a : Answer) → refused (reply_of a) ≡ false
no_refusal (Announced s) = refl
no_refusal Overwrite = refl
no_refusal CopiedOut = refl
no_refusal (Looked NotCached) = refl
no_refusal (Looked (Clean s)) = refl
no_refusal (Looked (Dirty s)) = refl
no_refusal (Looked (Writing s)) = refl
no_refusal (Looked (Fetching s)) = refl
no_refusal NothingToDo = refl
no_refusal Done = refl
no_refusal (Dealt n) = refl
