-- A result code tells a refusal from an answer: 1 to 99 are refusals, which change nothing; 0 and from 101 on are answers, of
-- which 101 and 108 to 111 carry a slot, and 113 is an import's cost alone, where the import would meet a refusal.
use Prim.Native.Nat.{ℕ, ◌≤◌}
use mathlib.Core.Path.{◌≡◌, refl}
use mathlib.Core.Bool.{true, false, ◌&&◌, ◌||◌}
use mathlib.Core.List.{List}
use Rattle.std.specs.Prelude.{Option, Some, None, Ok, Err}
use Rattle.std.specs.Prelude.{Result as OrRefused}
use native.Mathlib.Omega.{arith}
use lib.Dec.{eqb, leb}
use Rattle.record.specs.declared.Record.{Record}
use Rattle.protocol.specs.declared.Answer.{Answer}
use Rattle.protocol.specs.declared.Answer.TheVariants.{Announced, Overwrite, CopiedOut, Looked, NothingToDo, Done, Dealt}
use Rattle.protocol.specs.declared.Condition.TheVariants.{NotCached, Clean, Dirty, Writing, Fetching}
use Rattle.protocol.specs.declared.Cost.{Cost}
use Rattle.protocol.specs.declared.Cost.TheVariants.{Counted, Met}
use Rattle.protocol.specs.declared.Counts.{Counts}
use Rattle.protocol.specs.declared.Stored.{Stored}
use Rattle.protocol.specs.Reply.{Reply, refusal, answer, dealt, reply_of, refused}
use Rattle.protocol.specs.Box.{Box, left}
use Rattle.protocol.specs.Plan.{Call}
use Rattle.protocol.specs.declared.Refusal.{Refusal}
use Rattle.protocol.specs.declared.Refusal.TheVariants.{BadLimits, NoLabel, BadRecord, WrongLength, BadRows, WrongPhase, BlockTooHigh, SlotOpen, WrongState, HasSlot, WindowFull, AllOpen, StampsSpent, SheetShort, BadScan, BadList, ImportFull, UnknownCaller}
use Rattle.protocol.specs.Judge.{number_of, judged}
use Rattle.protocol.specs.Calls.{decided, effect_of, result_of, box_of}
use Rattle.layout.proofs.Booleans.{clash}
use Rattle.laws.proofs.why.Answers.{plan_answers}
use Rattle.c_answers.specs.declared.Place.{Place}
use Rattle.c_answers.specs.Codes.{code_of, slot_after, dealt_after, place_after}
use Rattle.c_closing.specs.Counts.{CostNumbers, cost_code, numbers_after}
use Rattle.ferjulm.specs.Calls.{kept, left_by}

pub record IsRefusal (code : ℕ) : Type 0 where
  pub least : 1 ≤ code
  pub most : code ≤ 99

pub number_refuses : (r : Refusal) → IsRefusal (number_of r)
number_refuses BadLimits = omega arith
number_refuses NoLabel = omega arith
number_refuses BadRecord = omega arith
number_refuses WrongLength = omega arith
number_refuses BadRows = omega arith
number_refuses WrongPhase = omega arith
number_refuses BlockTooHigh = omega arith
number_refuses SlotOpen = omega arith
number_refuses WrongState = omega arith
number_refuses HasSlot = omega arith
number_refuses WindowFull = omega arith
number_refuses AllOpen = omega arith
number_refuses StampsSpent = omega arith
number_refuses SheetShort = omega arith
number_refuses BadScan = omega arith
number_refuses BadList = omega arith
number_refuses ImportFull = omega arith
number_refuses UnknownCaller = omega arith

-- a call that is refused has a code from 1 to 99
pub refusal-code : (c : Call) (x : Box) → refused (result_of c x).said ≡ true → IsRefusal (code_of (result_of c x).said)
unfolding effect_of
refusal-code c x h = by_reason (judged c x) refl h
  where
    by_reason : (o : Option Refusal) → judged c x ≡ o → refused (decided o c x).said ≡ true → IsRefusal (code_of (decided o c x).said)
    by_reason (Some r) e h = number_refuses r
    by_reason None e h = clash h (plan_answers c x e)

-- and changes nothing that was lent
pub refusal-keeps : (c : Call) (ssd hdd table words : List ℕ) (r : Record)
    → let R = result_of c (box_of ssd hdd table r) in refused R.said ≡ true
    → left_by R words ≡ kept (code_of R.said) ssd hdd table words
unfolding effect_of
refusal-keeps c ssd hdd table words r h = by_reason (judged c (box_of ssd hdd table r)) refl h
  where
    x : Box
    x = box_of ssd hdd table r

    by_reason : (o : Option Refusal) → judged c x ≡ o → let R = left (decided o c x) x.images in refused R.said ≡ true
        → left_by R words ≡ kept (code_of R.said) ssd hdd table words
    by_reason (Some q) e h = refl
    by_reason None e h = clash h (plan_answers c x e)

-- out-parameters included
pub refusal-leaves : (said : Reply) (stored : Option Stored) (slot : ℕ) (place : Place) → refused said ≡ true
    → (slot_after said slot ≡ slot) × (dealt_after said slot ≡ slot) × (place_after said stored place ≡ place)
refusal-leaves (refusal n) stored slot place h = (refl, refl, refl)
refusal-leaves (answer n s) stored slot place h = clash h refl
refusal-leaves (dealt n) stored slot place h = clash h refl

-- any other answer has 0 or a code from 101 on
pub answer-code : (a : Answer) → refused (reply_of a) ≡ false → (eqb (code_of (reply_of a)) 0 || leb 101 (code_of (reply_of a))) ≡ true
answer-code (Announced s) h = refl
answer-code Overwrite h = refl
answer-code CopiedOut h = refl
answer-code (Looked NotCached) h = refl
answer-code (Looked (Clean s)) h = refl
answer-code (Looked (Dirty s)) h = refl
answer-code (Looked (Writing s)) h = refl
answer-code (Looked (Fetching s)) h = refl
answer-code NothingToDo h = refl
answer-code Done h = refl
answer-code (Dealt n) h = refl

-- the slot changes with 101 and from 108 to 111 alone
pub slot-code : (a : Answer) (before : ℕ)
    → (eqb (code_of (reply_of a)) 101 || leb 108 (code_of (reply_of a)) && leb (code_of (reply_of a)) 111) ≡ false
    → slot_after (reply_of a) before ≡ before
slot-code (Announced s) before h = clash refl h
slot-code Overwrite before h = refl
slot-code CopiedOut before h = refl
slot-code (Looked NotCached) before h = refl
slot-code (Looked (Clean s)) before h = clash refl h
slot-code (Looked (Dirty s)) before h = clash refl h
slot-code (Looked (Writing s)) before h = clash refl h
slot-code (Looked (Fetching s)) before h = clash refl h
slot-code NothingToDo before h = refl
slot-code Done before h = refl
slot-code (Dealt n) before h = refl

-- the places dealt with change with 112 alone
pub dealt-code : (a : Answer) (before : ℕ) → eqb (code_of (reply_of a)) 112 ≡ false → dealt_after (reply_of a) before ≡ before
dealt-code (Announced s) before h = refl
dealt-code Overwrite before h = refl
dealt-code CopiedOut before h = refl
dealt-code (Looked NotCached) before h = refl
dealt-code (Looked (Clean s)) before h = refl
dealt-code (Looked (Dirty s)) before h = refl
dealt-code (Looked (Writing s)) before h = refl
dealt-code (Looked (Fetching s)) before h = refl
dealt-code NothingToDo before h = refl
dealt-code Done before h = refl
dealt-code (Dealt n) before h = clash refl h

-- an import's cost that meets a refusal has 113, which no call's answer has
pub met-code : (n place : ℕ) (counts : Counts) (a : Answer) → refused (reply_of a) ≡ false
    → (cost_code (Ok (Met n place counts)) ≡ 113) × (eqb (code_of (reply_of a)) 113 ≡ false)
met-code n place counts (Announced s) h = (refl, refl)
met-code n place counts Overwrite h = (refl, refl)
met-code n place counts CopiedOut h = (refl, refl)
met-code n place counts (Looked NotCached) h = (refl, refl)
met-code n place counts (Looked (Clean s)) h = (refl, refl)
met-code n place counts (Looked (Dirty s)) h = (refl, refl)
met-code n place counts (Looked (Writing s)) h = (refl, refl)
met-code n place counts (Looked (Fetching s)) h = (refl, refl)
met-code n place counts NothingToDo h = (refl, refl)
met-code n place counts Done h = (refl, refl)
met-code n place counts (Dealt m) h = (refl, refl)

-- the number and the place of a refusal met change with 113 alone
pub cost_code_lem : (a : OrRefused Cost Refusal) (before : CostNumbers) → eqb (cost_code a) 113 ≡ false
    → ((numbers_after a before).number ≡ before.number) × ((numbers_after a before).place ≡ before.place)
cost_code_lem (Err r) before h = (refl, refl)
cost_code_lem (Ok (Counted counts)) before h = (refl, refl)
cost_code_lem (Ok (Met n place counts)) before h = clash refl h
