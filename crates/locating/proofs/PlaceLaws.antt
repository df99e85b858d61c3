-- The places found: what a word's place makes of it, and that used flags leave every other place as it was.
use Prim.Native.Nat.{ℕ, zero, suc, ◌+◌, ◌-◌, ◌*◌, ◌/◌, ◌%◌, ◌≤◌, ◌<◌}
use mathlib.Core.Path.{◌≡◌, refl, sym, ap, ◌∙◌}
use mathlib.Core.Logic.{◌≢◌}
use mathlib.Core.Bool.{Bool, true, false}
use mathlib.Core.List.{List, [], ◌∷◌, ◌++◌}
use Rattle.std.specs.Prelude.{Option, Some, None}
use native.Mathlib.Omega.{arith}
use native.Mathlib.Decide.{ℕ_discrete, dec_lt}
use native.Mathlib.Numerals.{add-one}
use lib.ListN.{length, get_or, drop, drop_of_length-le, length-set, get_or-eq_default}
use lib.Seq.{drop-cons, get_or-set_same, get_or-set_other}
use borrow.Author.Tests.{eqb-false, eq-eqb, ne_eqb}
use Rattle.layout.specs.declared.Slot.{Slot}
use Rattle.layout.specs.declared.Block.{Block}
use Rattle.layout.specs.Places.{table_length}
use Rattle.layout.proofs.Booleans.{Told, told, told_true, told_false}
use Rattle.record.specs.declared.Record.{Record}
use Rattle.record.specs.Record.{label_in}
use Rattle.protocol.specs.declared.Condition.{Condition}
use Rattle.protocol.specs.Rows.{row_flags, set_flags, dirty, writing, used, with_used}
use Rattle.protocol.specs.Condition.{open_as, closed_as, slot_of, condition_at, condition_of, word_of, words_of, closed_slot, closed_slots}
use Rattle.protocol.specs.Perform.{used_all}
use Rattle.laws.proofs.refine.Conditions.{Located, at, nowhere, located}
use Rattle.laws.proofs.Used.{used_at, used_both}
use Rattle.table.specs.Scan.{legal_rows}
use Rattle.judging.proofs.SlotLaws.{flags_low}
use Rattle.locating.specs.Places.{place_word, place_of, places_of, condition_there, closed_words, slots_there}

-- a slot's word and the slot to use, by its writing flag
module _ (t : List ℕ) (s : Slot) where
  pub open_there : writing (row_flags t s) ≡ true
      → (closed_slot (condition_at t (Some s)) ≡ []) × (word_of (condition_at t (Some s)) ≡ 0)
  open_there e = (rw (condition_at, e) (go (dirty (row_flags t s))).0, rw (condition_at, e) (go (dirty (row_flags t s))).1)
    where
      go : (d : Bool) → (closed_slot (open_as d s) ≡ []) × (word_of (open_as d s) ≡ 0)
      go true = (refl, refl)
      go false = (refl, refl)

  pub shut_there : writing (row_flags t s) ≡ false
      → (closed_slot (condition_at t (Some s)) ≡ s ∷ []) × (word_of (condition_at t (Some s)) ≡ s.0 + 1)
  shut_there e = (rw (condition_at, e) (go (dirty (row_flags t s))).0, rw (condition_at, e) (go (dirty (row_flags t s))).1)
    where
      go : (d : Bool) → (closed_slot (closed_as d s) ≡ s ∷ []) × (word_of (closed_as d s) ≡ s.0 + 1)
      go true = (refl, refl)
      go false = (refl, refl)

-- a word's place: none, open, or closed
module _ (t : List ℕ) where
  pub none_word : (w : ℕ) → w ≡ 0 → (0 ≡ word_of (condition_there t w)) × (t ≡ used_all (closed_slot (condition_there t w)) t)
  unfolding used_all
  none_word zero e = (refl, refl)
  none_word (suc n) e = absurd (omega arith)

  pub open_word : (w : ℕ) → w ≢ 0 → get_or t (2 * (w - 1) + 1) 0 / 4 % 2 ≡ 1
      → (0 ≡ word_of (condition_there t w)) × (t ≡ used_all (closed_slot (condition_there t w)) t)
  unfolding used_all
  open_word zero n e = absurd (n refl)
  open_word (suc n) z e =
      let q : suc n - 1 ≡ n = omega arith in
      let o = open_there t (record { 0 = n }) (eq-eqb _ 1 (rw q at e)) in
      (sym o.1, ap (λ (ss : List Slot). used_all ss t) (sym o.0))

  pub shut_word : (w : ℕ) → w ≢ 0 → get_or t (2 * (w - 1) + 1) 0 / 4 % 2 ≢ 1
      → (w ≡ word_of (condition_there t w))
      × (set_flags t (record { 0 = w - 1 }) (with_used (row_flags t (record { 0 = w - 1 }))) ≡ used_all (closed_slot (condition_there t w)) t)
  unfolding used_all
  shut_word zero n e = absurd (n refl)
  shut_word (suc n) z e =
      let q : suc n - 1 ≡ n = omega arith in
      let o = shut_there t (record { 0 = n }) (ne_eqb _ 1 (rw q at e)) in (
        sym (add-one n) ∙ sym o.1,
        ap (λ (m : ℕ). set_flags t (record { 0 = m }) (with_used (row_flags t (record { 0 = m })))) q
            ∙ ap (λ (ss : List Slot). used_all ss t) (sym o.0),
      )

-- every row's flags are low
abbrev pub Low : List ℕ → Type 0
Low t = (s : ℕ) → get_or t (2 * s + 1) 0 < 16

-- the table after some used flags were set: as long, low, and every place in the condition that it was in
pub record Still (before t : List ℕ) : Type 0 where
  pub size : length t ≡ length before
  pub low : Low t
  pub there : (o : Option Slot) → condition_at t o ≡ condition_at before o

used_low : (f : ℕ) → f < 16 → with_used f < 16
used_low f h = go (told (used f))
  where
    go : Told (used f) → with_used f < 16
    go (told_true u) = rw u h
    go (told_false u) = rw u (omega (arith, eqb-false (f / 8 % 2) 1 u))

module _ (before t : List ℕ) (S : Still before t) where
  still_used : (s : Slot) → 2 * s.0 + 1 < length t → Still before (set_flags t s (with_used (row_flags t s)))
  still_used s row = record {
    size = length-set t (2 * s.0 + 1) _ ∙ S.size;
    low = λ u. go u (ℕ_discrete u s.0);
    there = λ o. used_at t s row o ∙ S.there o;
  }
    where
      go : (u : ℕ) → Dec (u ≡ s.0) → get_or (set_flags t s (with_used (row_flags t s))) (2 * u + 1) 0 < 16
      go u (yes e) = rw (e, get_or-set_same t (2 * s.0 + 1) (with_used (row_flags t s)) 0 row) (used_low (row_flags t s) (S.low s.0))
      go u (no n) = rw (get_or-set_other t (2 * s.0 + 1) (2 * u + 1) (with_used (row_flags t s)) 0 (λ q. n (omega arith))) (S.low u)

  -- a word's place was used
  pub still_more : (w : ℕ) → 2 * w ≤ length t → Still before (used_all (closed_slot (condition_there t w)) t)
  unfolding used_all
  still_more zero h = S
  still_more (suc n) h = go (told (writing (row_flags t s)))
    where
      s : Slot
      s = record { 0 = n }

      go : Told (writing (row_flags t s)) → Still before (used_all (closed_slot (condition_at t (Some s))) t)
      go (told_true e) = rw (open_there t s e).0 S
      go (told_false e) = rw (shut_there t s e).0 (still_used s (omega arith))

pub still_begin : (t : List ℕ) → Low t → Still t t
still_begin t L = record { size = refl; low = L; there = λ o. refl }

-- the next word's place, and then the rest
pub use_more : (before t words : List ℕ) → Still before t → (j : ℕ) → j < length words
    → used_all (slots_there before (drop (j + 1) words)) (used_all (closed_slot (condition_there t (get_or words j 0))) t)
    ≡ used_all (slots_there before (drop j words)) t
unfolding slots_there
use_more before t words S j h =
    let w = get_or words j 0 in
    let rest = slots_there before (drop (suc j) words) in
    sym (ap (λ (l : List ℕ). used_all (slots_there before l) t) (drop-cons words j 0 h)
    ∙ used_both (closed_slot (condition_there before w)) rest t
    ∙ ap (λ (z : Condition). used_all rest (used_all (closed_slot z) t)) (sym (S.there (place_of w)))
    ∙ ap (λ (n : ℕ). used_all (slots_there before (drop n words)) (used_all (closed_slot (condition_there t w)) t)) (sym (add-one j)))

pub use_end : (before t words : List ℕ) (j : ℕ) → length words ≤ j → t ≡ used_all (slots_there before (drop j words)) t
unfolding slots_there used_all
use_end before t words j h = ap (λ (l : List ℕ). used_all (slots_there before l) t) (sym (drop_of_length-le words {i = j} h))

-- the places that a pass finds are in the table, and are the blocks' slots
place_back : (o : Option Slot) → place_of (place_word o) ≡ o
place_back None = refl
place_back (Some s) = ap place_of (add-one s.0)

module _ (t : List ℕ) where
  there_is : (b : ℕ) → condition_there t (place_word (slot_of t (record { 0 = b }))) ≡ condition_of t (record { 0 = b })
  unfolding condition_of
  there_is b = ap (condition_at t) (place_back (slot_of t (record { 0 = b })))

  pub words_are : (blocks : List ℕ) → closed_words t (places_of t blocks) ≡ words_of t blocks
  words_are [] = refl
  words_are (b ∷ blocks) = λ i. word_of (there_is b i) ∷ words_are blocks i

  pub slots_are : (blocks : List ℕ) → slots_there t (places_of t blocks) ≡ closed_slots t blocks
  unfolding slots_there closed_slots
  slots_are [] = refl
  slots_are (b ∷ blocks) = λ i. closed_slot (there_is b i) ++ slots_are blocks i

  place_in : (b : Block) → 2 * place_word (slot_of t b) ≤ length t
  place_in b = go (located 0 t b)
    where
      go : {o : Option Slot} → Located 0 t b.0 o → 2 * place_word o ≤ length t
      go (nowhere h) = omega arith
      go (at i h v q low) = omega arith

  pub places_in_is : (blocks : List ℕ) (j : ℕ) → 2 * get_or (places_of t blocks) j 0 ≤ length t
  places_in_is [] j = omega arith
  places_in_is (b ∷ blocks) zero = place_in (record { 0 = b })
  places_in_is (b ∷ blocks) (suc j) = places_in_is blocks j

-- the flags of a judged table are low
pub rows-low : (r : Record) (t : List ℕ) → length t ≡ table_length (label_in r) → legal_rows (label_in r) t ≡ true → Low t
rows-low r t size h s = go (dec_lt s r.label.slots)
  where
    go : Dec (s < r.label.slots) → get_or t (2 * s + 1) 0 < 16
    go (yes k) = flags_low r t size h (record { 0 = s }) k
    go (no k) = let e : get_or t (2 * s + 1) 0 ≡ 0 = get_or-eq_default t 0 (omega arith) in omega arith
