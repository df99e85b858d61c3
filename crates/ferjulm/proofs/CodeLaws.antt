-- What a call leaves at the C interface, by its answer and by what its contract says.
use Prim.Native.Nat.{ℕ}
use mathlib.Core.Path.{◌≡◌, refl, ap, ◌∙◌}
use mathlib.Core.Bool.{true, false}
use mathlib.Core.List.{List}
use Rattle.std.specs.Prelude.{Option, Some, None}
use Rattle.std.specs.Prelude.{Result as OrRefused}
use lib.ListN.{length}
use borrow.Author.Tests.{eq-eqb, ne_eqb}
use Rattle.layout.specs.declared.Block.{Block}
use Rattle.record.specs.declared.Record.{Record}
use Rattle.protocol.specs.declared.Condition.{Condition}
use Rattle.protocol.specs.declared.Condition.TheVariants.{NotCached, Clean, Dirty, Writing, Fetching}
use Rattle.protocol.specs.declared.Outcome.{Outcome}
use Rattle.protocol.specs.declared.Stored.{Stored}
use Rattle.protocol.specs.Reply.{Reply, refusal, answer, dealt, reply_of}
use Rattle.protocol.specs.Box.{Box, Result}
use Rattle.protocol.specs.Condition.{condition_of}
use Rattle.protocol.specs.Plan.{Call, look_up, look_up_list, looking_up, plan}
use Rattle.protocol.specs.Perform.{perform}
use Rattle.protocol.specs.declared.Refusal.{Refusal}
use Rattle.protocol.specs.Judge.{judged}
use Rattle.protocol.specs.Calls.{decided, effect_of, result_of, box_of, list_words_of, said_in, stored_in, state_in, ends}
use Rattle.c_answers.specs.declared.Place.{Place}
use Rattle.c_record.specs.Words.{words_of, unpacked, is_record}
use Rattle.c_answers.specs.Codes.{code_of, slot_after, dealt_after, place_after}
use Rattle.c_closing.specs.Closing.{closed_by}
use Rattle.c_record.proofs.RoundTrip.{words-kept}
use Rattle.ferjulm.specs.Calls.{kept, left_by, c_call, c_slot, c_dealt, c_place, c_fresh}
use Rattle.ferjulm.specs.List.{c_located}

-- what a call and the closing after it leave is what the call's result leaves
left_is : (R : Result) (said : Reply) (stored : Option Stored) (state : Record) (table ssd hdd words after : List ℕ) (code : ℕ)
    → record { said = said; stored = stored; state = state; table = table; ssd = ssd; hdd = hdd } ≡ R
    → record { code = code; words = after } ≡ closed_by said state words
    → record { code = code; words = after; table = table; ssd = ssd; hdd = hdd } ≡ left_by R words
left_is R said stored state table ssd hdd words after code p q =
    (λ i. record { code = (q i).code; words = (q i).words; table = table; ssd = ssd; hdd = hdd })
    ∙ ap (λ (r : Result). left_by r words) p

-- a look-up leaves the record
pub look_up_state : (b : Block) (x : Box) → (result_of (look_up b) x).state ≡ x.state
unfolding effect_of plan perform
look_up_state b x = by_reason (judged (look_up b) x)
  where
    looks : (k : Condition) → (perform (looking_up k) x).state ≡ x.state
    looks NotCached = refl
    looks (Clean s) = refl
    looks (Dirty s) = refl
    looks (Writing s) = refl
    looks (Fetching s) = refl

    by_reason : (o : Option Refusal) → (decided o (look_up b) x).state ≡ x.state
    by_reason (Some q) = refl
    by_reason None = looks (condition_of x.table b)

-- so does a list
pub list-state : (blocks : List ℕ) (room : ℕ) (x : Box) → (result_of (look_up_list blocks room) x).state ≡ x.state
unfolding effect_of plan perform
list-state blocks room x = by_reason (judged (look_up_list blocks room) x)
  where
    by_reason : (o : Option Refusal) → (decided o (look_up_list blocks room) x).state ≡ x.state
    by_reason (Some q) = refl
    by_reason None = refl

-- the words for the answer, by words that are no record, and by those that unpack to one
module _ (blocks ssd hdd table words before : List ℕ) where
  pub located_barred : is_record words ≡ false → before ≡ c_located blocks ssd hdd table words before
  unfolding c_located
  located_barred h = rw h

  pub located_past : (r : Record) → r ≡ unpacked words → is_record words ≡ true
      → list_words_of ssd hdd table r blocks before ≡ c_located blocks ssd hdd table words before
  unfolding c_located
  located_past r e h = rw h (ap (λ (q : Record). list_words_of ssd hdd table q blocks before) e)

module _ (c : Call) (ssd hdd table words : List ℕ) where
  -- no record: 3, and nothing changes
  pub record Barred : Type 0 where
    pub left : kept 3 ssd hdd table words ≡ c_call c ssd hdd table words
    pub slot : (before : ℕ) → before ≡ c_slot c ssd hdd table words before
    pub places : (before : ℕ) → before ≡ c_dealt c ssd hdd table words before
    pub place : (before : Place) → before ≡ c_place c ssd hdd table words before

  pub barred : is_record words ≡ false → Barred
  unfolding c_call c_slot c_dealt c_place
  barred h = record { left = rw h; slot = λ before. rw h; places = λ before. rw h; place = λ before. rw h }

  -- a call on what the words unpack to, and the closing: what it leaves
  module _ (r : Record) (o : OrRefused Outcome Refusal) {table' ssd' hdd' : List ℕ} (unpack : r ≡ unpacked words)
      (call : ends r o ssd' hdd' table'
      ≡ result_of c (box_of ssd hdd table r)) where
    abbrev R : Record → Result
    R q = result_of c (box_of ssd hdd table q)

    abbrev Closes : List ℕ → ℕ → Type 0
    Closes after code = record { code = code; words = after } ≡ closed_by (said_in o) (state_in r o) words

    called : {after : List ℕ} {code : ℕ} → Closes after code
        → record { code = code; words = after; table = table'; ssd = ssd'; hdd = hdd' } ≡ left_by (R (unpacked words)) words
    called {after} {code} close =
        left_is (R r) (said_in o) (stored_in o) (state_in r o) table' ssd' hdd' words after code call close
        ∙ ap (λ (q : Record). left_by (R q) words) unpack

    -- words that are a record, of a call that leaves it, are closed as they are
    unchanged : is_record words ≡ true → (R r).state ≡ r → {code : ℕ} → code ≡ code_of (said_in o) → Closes words code
    unchanged h same {code} e = go (said_in o) e
      where
        state-words : words_of (state_in r o) ≡ words
        state-words = ap words_of (ap (λ (q : Result). q.state) call ∙ same ∙ unpack) ∙ words-kept words h

        go : (said : Reply) → code ≡ code_of said → record { code = code; words = words } ≡ closed_by said (state_in r o) words
        go (refusal n) e = rw e
        go (answer n s) e = rw (e, state-words)
        go (dealt n) e = rw (e, state-words)

    -- by words that are a record: with the slot and the place
    pub record Past : Type 0 where
      pub left : {after : List ℕ} {code : ℕ} → Closes after code
          → record { code = code; words = after; table = table'; ssd = ssd'; hdd = hdd' } ≡ c_call c ssd hdd table words
      pub still : (R r).state ≡ r → {code : ℕ} → code ≡ code_of (said_in o)
          → record { code = code; words = words; table = table'; ssd = ssd'; hdd = hdd' } ≡ c_call c ssd hdd table words
      pub slot : (before : ℕ) {next : ℕ} → next ≡ slot_after (said_in o) before → next ≡ c_slot c ssd hdd table words before
      pub places : (before : ℕ) {next : ℕ} → next ≡ dealt_after (said_in o) before → next ≡ c_dealt c ssd hdd table words before
      pub place : (before : Place) {next : Place} → next ≡ place_after (said_in o) (stored_in o) before
          → next ≡ c_place c ssd hdd table words before

    pub past : is_record words ≡ true → Past
    unfolding c_call c_slot c_dealt c_place
    past h = record {
      left = λ close. rw h (called close);
      still = λ same e. rw h (called (unchanged h same e));
      slot = λ before e. rw h (e ∙ ap (λ (q : Result). slot_after q.said before) call ∙ ap (λ (q : Record). slot_after (R q).said before) unpack);
      places = λ before e. rw h (e ∙ ap (λ (q : Result). dealt_after q.said before) call
          ∙ ap (λ (q : Record). dealt_after (R q).said before) unpack);
      place = λ before e. rw h (e ∙ ap (λ (q : Result). place_after q.said q.stored before) call
          ∙ ap (λ (q : Record). place_after (R q).said (R q).stored before) unpack);
    }

    -- by any 134 words
    pub on_words : {after : List ℕ} {code : ℕ} → Closes after code → (n : ℕ) → length words ≡ 134
        → record { code = code; words = after; table = table'; ssd = ssd'; hdd = hdd' } ≡ c_fresh n c ssd hdd table words
    unfolding c_fresh
    on_words close n h = rw (eq-eqb (length words) 134 h) (called close)

  -- a result that is in hand, by any 134 words
  pub fresh-words : (n : ℕ) (said : Reply) (stored : Option Stored) (state : Record) {table' ssd' hdd' after : List ℕ} {code : ℕ} → length words ≡ 134
      → record { said = said; stored = stored; state = state; table = table'; ssd = ssd'; hdd = hdd' }
      ≡ result_of c (box_of ssd hdd table (unpacked words))
      → record { code = code; words = after } ≡ closed_by said state words
      → record { code = code; words = after; table = table'; ssd = ssd'; hdd = hdd' } ≡ c_fresh n c ssd hdd table words
  unfolding c_fresh
  fresh-words n said stored state {table'} {ssd'} {hdd'} {after} {code} h p q =
      rw (eq-eqb (length words) 134 h) (left_is (result_of c (box_of ssd hdd table (unpacked words))) said stored state table' ssd' hdd' words after code p q)

  -- words of another number
  pub other_length : (n code : ℕ) → (length words ≡ 134 → ⊥) → code ≡ n → kept code ssd hdd table words ≡ c_fresh n c ssd hdd table words
  unfolding c_fresh
  other_length n code h e = rw (ne_eqb (length words) 134 h, e)
