-- Packing and unpacking undo each other: a record's words are that record, and words that are a record are its words.
use Prim.Native.Nat.{ℕ, zero, suc, ◌≤◌}
use mathlib.Core.Path.{◌≡◌, refl, sym, ap, ◌∙◌}
use mathlib.Core.Bool.{Bool, true, false, cond}
use mathlib.Core.List.{List, [], ◌∷◌, ◌++◌}
use Rattle.std.specs.Prelude.{Some, None}
use native.Mathlib.Omega.{arith}
use lib.ListN.{length, get_or, take, drop, length-append, take-append-drop}
use lib.Seq.{drop-cons, drop-drop, take_at, drop_at}
use lib.Dec.{eqb, leb}
use borrow.Author.Tests.{eq-eqb, ne_eqb, lt-leb, eqb-true}
use Rattle.layout.specs.declared.Slot.{Slot}
use Rattle.record.specs.declared.Record.{Record}
use Rattle.record.specs.declared.Phase.{Phase}
use Rattle.record.specs.declared.Phase.TheVariants.{Formatting, Recovering, Ready}
use Rattle.layout.proofs.Booleans.{clash, and_parts}
use Rattle.c_record.specs.Words.{phase_word, steps_word, flag_word, phase_in, is_phase, numbers_of, slots_of, words_of, unpacked, is_record, record_in}
use Rattle.c_record.proofs.WordLaws.{numbers-length}
use Rattle.c_record.proofs.Examples as computed-first

slots_back : (w : List Slot) → slots_of (numbers_of w) ≡ w
unfolding numbers_of slots_of
slots_back [] = refl
slots_back (s ∷ w) = ap (λ (t : List Slot). s ∷ t) (slots_back w)

numbers_back : (l : List ℕ) → numbers_of (slots_of l) ≡ l
unfolding numbers_of slots_of
numbers_back [] = refl
numbers_back (n ∷ l) = ap (λ (t : List ℕ). n ∷ t) (numbers_back l)

-- a phase's words are that phase
phase_words : (p : Phase) → is_phase (phase_word p) (steps_word p) ≡ true
phase_words (Formatting d) = refl
phase_words Recovering = refl
phase_words Ready = refl

phase_back : (p : Phase) → phase_in (phase_word p) (steps_word p) ≡ p
phase_back (Formatting d) = refl
phase_back Recovering = refl
phase_back Ready = refl

flag_word_lem : (b : Bool) → leb (flag_word b) 1 ≡ true
flag_word_lem true = refl
flag_word_lem false = refl

flag_back : (b : Bool) → eqb (flag_word b) 1 ≡ b
flag_back true = refl
flag_back false = refl

-- a record with a window of 63 slots and 63 callers is packed as words that are that record
pub record Whole (r : Record) : Type 0 where
  pub slots : length r.window ≡ 63
  pub callers : length r.callers ≡ 63

pub packed_is : (r : Record) → Whole r → is_record (words_of r) ≡ true
unfolding is_record words_of
packed_is r W =
    let n = numbers-length r.window in
    let m = length-append (numbers_of r.window) r.callers in
    let e : eqb (length (words_of r)) 134 ≡ true = eq-eqb (length (words_of r)) 134 (omega (arith, W.slots, W.callers)) in
    rw (e, phase_words r.phase) (flag_word_lem r.unconfirmed)

pub unpacked_is : (r : Record) → Whole r → unpacked (words_of r) ≡ r
unfolding unpacked words_of
unpacked_is r W =
    let n : length (numbers_of r.window) ≡ 63 = numbers-length r.window ∙ W.slots in
    rw (
      phase_back r.phase,
      flag_back r.unconfirmed,
      take_at (numbers_of r.window) r.callers 63 n,
      drop_at (numbers_of r.window) r.callers 63 n,
      slots_back r.window,
    )

pub packed_unpacked : (r : Record) → Whole r → record_in (words_of r) ≡ Some r
packed_unpacked r W = rw (packed_is r W, unpacked_is r W)

-- two words that are a phase are that phase's words
no_phase : (n steps : ℕ) → is_phase (suc (suc (suc n))) steps ≡ false
no_phase n steps = rw (ne_eqb (suc (suc (suc n))) 0 (λ e. omega arith), lt-leb (suc (suc (suc n))) 2 (omega arith))

phase_kept : (phase steps : ℕ) → is_phase phase steps ≡ true → phase_word (phase_in phase steps) ≡ phase
phase_kept zero steps h = refl
phase_kept (suc zero) steps h = refl
phase_kept (suc (suc zero)) steps h = refl
phase_kept (suc (suc (suc n))) steps h = clash h (no_phase n steps)

steps-kept : (phase steps : ℕ) → is_phase phase steps ≡ true → steps_word (phase_in phase steps) ≡ steps
steps-kept zero steps h = refl
steps-kept (suc zero) steps h = sym (eqb-true _ _ h)
steps-kept (suc (suc zero)) steps h = sym (eqb-true _ _ h)
steps-kept (suc (suc (suc n))) steps h = clash h (no_phase n steps)

flag_kept : (n : ℕ) → leb n 1 ≡ true → flag_word (eqb n 1) ≡ n
flag_kept zero h = refl
flag_kept (suc zero) h = refl
flag_kept (suc (suc n)) h = clash h (lt-leb (suc (suc n)) 1 (omega arith))

-- the first eight words and the rest
eight : (l : List ℕ) → 8 ≤ length l
    → get_or l 0 0 ∷ get_or l 1 0 ∷ get_or l 2 0 ∷ get_or l 3 0 ∷ get_or l 4 0 ∷ get_or l 5 0 ∷ get_or l 6 0 ∷ get_or l 7 0 ∷ drop 8 l ≡ l
eight l h =
    let e0 = drop-cons l 0 0 (omega arith) in
    let e1 = drop-cons l 1 0 (omega arith) in
    let e2 = drop-cons l 2 0 (omega arith) in
    let e3 = drop-cons l 3 0 (omega arith) in
    let e4 = drop-cons l 4 0 (omega arith) in
    let e5 = drop-cons l 5 0 (omega arith) in
    let e6 = drop-cons l 6 0 (omega arith) in
    let e7 = drop-cons l 7 0 (omega arith) in
    cc

pub words-kept : (words : List ℕ) → is_record words ≡ true → words_of (unpacked words) ≡ words
unfolding is_record words_of unpacked
words-kept words h =
    let all : length words ≡ 134 = eqb-true _ _ (and_parts (eqb (length words) 134) _ h).0 in
    let rest = (and_parts (eqb (length words) 134) _ h).1 in
    let p = (and_parts (is_phase (get_or words 4 0) (get_or words 5 0)) _ rest).0 in
    let u = (and_parts (is_phase (get_or words 4 0) (get_or words 5 0)) _ rest).1 in
    rw (
      phase_kept (get_or words 4 0) (get_or words 5 0) p,
      steps-kept (get_or words 4 0) (get_or words 5 0) p,
      flag_kept (get_or words 6 0) u,
      numbers_back (take 63 (drop 8 words)),
      rejoined words,
    ) (eight words (omega arith))
  where
    rejoined : (l : List ℕ) → take 63 (drop 8 l) ++ drop 71 l ≡ drop 8 l
    rejoined l = ap (λ (t : List ℕ). take 63 (drop 8 l) ++ t) (sym (drop-drop 63 8 l)) ∙ take-append-drop 63 (drop 8 l)

-- words that are a record are its words
pub unpacked_packed : (words : List ℕ) (r : Record) → record_in words ≡ Some r → words_of r ≡ words
unpacked_packed words r e = by_test (is_record words) refl e
  where
    by_test : (b : Bool) → is_record words ≡ b → cond b (Some (unpacked words)) None ≡ Some r → words_of r ≡ words
    by_test true h f = let g : r ≡ unpacked words = cc in ap words_of g ∙ words-kept words h
    by_test false h f = let z : ◌≡◌ {A = ℕ} 0 1 = cc in absurd (omega arith)
