-- A list of blocks looked up is the single look-ups in list order, on any box.
use Prim.Native.Nat.{ℕ, ◌<◌}
use mathlib.Core.Path.{◌≡◌, refl, sym, ap, subst, ◌∙◌}
use mathlib.Core.Bool.{true, false, not, ◌&&◌}
use mathlib.Core.List.{List, [], ◌∷◌}
use Rattle.std.specs.Prelude.{Option, Some, None}
use native.Mathlib.Omega.{arith}
use lib.ListN.{length}
use borrow.Author.Tests.{leb-false, lt-leb}
use Rattle.layout.specs.declared.Slot.{Slot}
use Rattle.layout.specs.declared.Block.{Block}
use Rattle.layout.proofs.Booleans.{clash}
use Rattle.record.specs.declared.Phase.TheVariants.{Ready}
use Rattle.record.specs.Record.{label_in}
use Rattle.protocol.specs.declared.Condition.{Condition}
use Rattle.protocol.specs.declared.Condition.TheVariants.{NotCached, Clean, Dirty, Writing, Fetching}
use Rattle.protocol.specs.Reply.{refused}
use Rattle.protocol.specs.Box.{Box, Result, left, box_after}
use Rattle.protocol.specs.Condition.{condition_of, word_of, words_of, closed_slot, closed_slots}
use Rattle.protocol.specs.Plan.{Call, look_up, look_up_list, looking_up, plan}
use Rattle.protocol.specs.Perform.{used_all, perform}
use Rattle.protocol.specs.Kinds.{highest}
use Rattle.protocol.specs.declared.Refusal.{Refusal}
use Rattle.protocol.specs.declared.Refusal.TheVariants.{BlockTooHigh}
use Rattle.protocol.specs.Judge.{test, judged}
use Rattle.protocol.specs.Calls.{decided, effect_of, result_of, words_by, words_left}
use Rattle.protocol.specs.Demand3.{slot_said}
use Rattle.protocol.specs.Beside.{word_said, Singles, singles, LooksAlike}
use Rattle.laws.proofs.refine.Sweeps.{alike_same}
use Rattle.laws.proofs.Judged.{passed, accepted, performs}
use Rattle.laws.proofs.Accepted.{Legal, service_legal, service_ready, legal-first}
use Rattle.laws.proofs.Used.{AllValid, closed-valid, used-alike, alike-legal, conditions_used, words-kept, closed-kept, used_both}
use Rattle.laws.proofs.why.Answers.{plan_answers}
use Rattle.theorem.proofs.UpdateFirst.{none_of}

-- the box with another table
abbrev tabled : Box → List ℕ → Box
tabled x v = record { images = x.images; table = v; state = x.state }

-- every listed block is below a number
abbrev AllBelow : ℕ → List ℕ → Type 0
AllBelow n [] = Unit {0}
AllBelow n (b ∷ blocks) = (b < n) × AllBelow n blocks

below-highest : (n : ℕ) (blocks : List ℕ) → highest blocks < n → AllBelow n blocks
unfolding highest
below-highest n [] h = tt
below-highest n (b ∷ blocks) h = (omega arith, below-highest n blocks (omega arith))

-- one look-up, by the block's condition: its word, and the used flag that it sets
record Looks (x : Box) (z : Condition) (r : Result) : Type 0 where
  word : word_said (slot_said r.said) ≡ word_of z
  box : box_after r ≡ tabled x (used_all (closed_slot z) x.table)
  taken : refused r.said ≡ false

looks : (x : Box) (z : Condition) → Looks x z (left (perform (looking_up z) x) x.images)
unfolding perform used_all
looks x NotCached = record { word = refl; box = refl; taken = refl }
looks x (Clean s) = record { word = refl; box = refl; taken = refl }
looks x (Dirty s) = record { word = refl; box = refl; taken = refl }
looks x (Writing s) = record { word = refl; box = refl; taken = refl }
looks x (Fetching s) = record { word = refl; box = refl; taken = refl }

-- a look-up before the rest
abbrev before : Result → Singles → Singles
before r rest = record {
  words = word_said (slot_said r.said) ∷ rest.words;
  box = rest.box;
  taken = not (refused r.said) && rest.taken;
}

-- what the list does
abbrev listed : List ℕ → Box → Singles
listed blocks x = record {
  words = words_of x.table blocks;
  box = tabled x (used_all (closed_slots x.table blocks) x.table);
  taken = true;
}

module _ (x : Box) (L : Legal x) (on : x.state.phase ≡ Ready) (b : Block) (low : b.0 < x.state.label.blocks) where
  abbrev z : Condition
  z = condition_of x.table b

  abbrev v : List ℕ
  v = used_all (closed_slot z) x.table

  goes : judged (look_up b) x ≡ None
  unfolding test
  goes = accepted (look_up b) x (legal-first x L on (look_up b) refl refl) (lt-leb _ _ low, tt)

  result_is : result_of (look_up b) x ≡ left (perform (looking_up z) x) x.images
  unfolding plan
  result_is = sym (performs (look_up b) x (looking_up z) goes refl)

  held : AllValid (label_in x.state) x.table (closed_slot z)
  held = closed-valid (label_in x.state) x.table L.table-size b

  next_legal : Legal (tabled x v)
  next_legal = alike-legal x L on v
      (used-alike (label_in x.state) x.table L.rows x.table
      (alike_same (label_in x.state) x.table L.table-size L.rows) held)

  kept : (c : Block) → condition_of v c ≡ condition_of x.table c
  kept c = conditions_used (label_in x.state) x.table x.table L.table-size held c

  looked_at : Looks x z (result_of (look_up b) x)
  looked_at = subst (Looks x z) (sym result_is) (looks x z)

  -- the first of a list and then the rest of it
  more : (blocks : List ℕ) → before (result_of (look_up b) x) (listed blocks (tabled x v)) ≡ listed (b.0 ∷ blocks) x
  unfolding closed_slots
  more blocks =
      let w = looked_at.word in
      let ws = words-kept x.table v kept blocks in
      let ss = ap (λ (us : List Slot). used_all us v) (closed-kept x.table v kept blocks)
      ∙ sym (used_both (closed_slot z) (closed_slots x.table blocks) x.table) in
      let k = looked_at.taken in
      (λ i. record { words = w i ∷ ws i; box = tabled x (ss i); taken = not (k i) && true })

singles_are : (blocks : List ℕ) (x : Box) → Legal x → x.state.phase ≡ Ready → AllBelow x.state.label.blocks blocks
    → singles blocks x ≡ listed blocks x
unfolding singles closed_slots used_all
singles_are [] x L on low = refl
singles_are (b ∷ blocks) x L on low =
    let c : Block = record { 0 = b } in
    ap (λ (y : Box). before (result_of (look_up c) x) (singles blocks y)) (looked_at x L on c low.0).box
    ∙ ap (before (result_of (look_up c) x)) (singles_are blocks (tabled x (v x L on c low.0)) (next_legal x L on c low.0) on low.1)
    ∙ more x L on c low.0 blocks

module _ (blocks words : List ℕ) (x : Box) where
  abbrev c : Call
  c = look_up_list blocks (length words)

  module _ (f : refused (result_of c x).said ≡ false) where
    e : judged c x ≡ None
    e = none_of c x f

    all-singles : singles blocks x ≡ listed blocks x
    unfolding test
    all-singles = singles_are blocks x (service_legal c x refl e) (service_ready c x refl e)
        (below-highest _ blocks (leb-false _ _ (passed c x e BlockTooHigh refl)))

    words_are : words_left blocks words x ≡ (singles blocks x).words
    unfolding words_left
    words_are = ap (λ (o : Option Refusal). words_by o x.table blocks words) e ∙ ap (λ (s : Singles). s.words) (sym all-singles)

    box_is : box_after (result_of c x) ≡ (singles blocks x).box
    unfolding effect_of plan perform
    box_is = ap (λ (o : Option Refusal). box_after (left (decided o c x) x.images)) e ∙ ap (λ (s : Singles). s.box) (sym all-singles)

  no_words : refused (result_of c x).said ≡ true → words_left blocks words x ≡ words
  unfolding words_left effect_of
  no_words = go (judged c x) refl
    where
      go : (o : Option Refusal) → judged c x ≡ o → refused (decided o c x).said ≡ true → words_by o x.table blocks words ≡ words
      go (Some r) j h = refl
      go None j h = clash h (plan_answers c x j)

pub looks-alike : LooksAlike
looks-alike blocks words x = record {
  same-words = words_are blocks words x;
  same-box = box_is blocks words x;
  all-taken = λ f. ap (λ (s : Singles). s.taken) (all-singles blocks words x f);
  no_word = no_words blocks words x;
}
