-- Used flags set one after the other change nothing else: rows are alike, a legal box stays legal, and every block's condition stays.
use Prim.Native.Nat.{ℕ, ◌+◌, ◌*◌, ◌/◌, ◌%◌, ◌<◌}
use mathlib.Core.Path.{◌≡◌, refl, sym, ap, subst, ◌∙◌}
use mathlib.Core.Bool.{Bool, true, false}
use mathlib.Core.List.{List, [], ◌∷◌, ◌++◌}
use Rattle.std.specs.Prelude.{Option, Some, None}
use native.Mathlib.Omega.{arith}
use native.Mathlib.Decide.{ℕ_discrete}
use lib.ListN.{length, get_or, length-set}
use lib.Seq.{get_or-set_same, get_or-set_other}
use Rattle.layout.specs.declared.Slot.{Slot}
use Rattle.layout.specs.declared.Block.{Block}
use Rattle.layout.specs.declared.Label.{Label}
use Rattle.layout.specs.Places.{table_length}
use Rattle.layout.proofs.Booleans.{Told, told, told_true, told_false}
use Rattle.record.specs.declared.Phase.{Phase}
use Rattle.record.specs.declared.Phase.TheVariants.{Ready}
use Rattle.record.specs.Record.{label_in, window_in}
use Rattle.protocol.specs.declared.Condition.{Condition}
use Rattle.protocol.specs.Rows.{row_flags, set_flags, valid, dirty, writing, used, with_used}
use Rattle.protocol.specs.Box.{Box}
use Rattle.protocol.specs.Condition.{open_as, closed_as, slot_of, condition_at, condition_of, word_of, words_of, closed_slot, closed_slots}
use Rattle.protocol.specs.Perform.{used_all}
use Rattle.protocol.specs.Judge.{agree_test}
use Rattle.laws.proofs.model.Model as model
use Rattle.laws.proofs.refine.Flags.{changed_used}
use Rattle.laws.proofs.refine.Tables.{Rows, at_valid}
use Rattle.laws.proofs.refine.Conditions.{Stands, absent, is_clean, is_dirty, is_writing_is, is_fetching, stands, slot_kept}
use Rattle.laws.proofs.refine.Sweeps.{Alike, alike_flags}
use Rattle.laws.proofs.Sound.{sound_alike, sound_agree}
use Rattle.laws.proofs.Accepted.{Legal, legal_sound}
use Rattle.laws.proofs.why.RowsRules.{agree_same}

-- slots whose rows are valid
pub data AllValid (l : Label) (t : List ℕ) : List Slot → Type 0 where
  no_more : AllValid l t []
  one_more : {s : Slot} {ss : List Slot} → s.0 < l.slots → valid (row_flags t s) ≡ true → AllValid l t ss → AllValid l t (s ∷ ss)

pub valid_both : {l : Label} {t : List ℕ} {ss us : List Slot} → AllValid l t ss → AllValid l t us → AllValid l t (ss ++ us)
valid_both no_more U = U
valid_both (one_more h v S) U = one_more h v (valid_both S U)

-- those of a list's clean and dirty blocks are
module _ (l : Label) (t : List ℕ) (size : length t ≡ table_length l) where
  pub closed-valid : (b : Block) → AllValid l t (closed_slot (condition_of t b))
  closed-valid b = go (stands l t size b)
    where
      go : {z : Condition} → Stands l t b.0 z → AllValid l t (closed_slot z)
      go (absent h) = no_more
      go (is_clean s H w d) = one_more H.low H.held no_more
      go (is_dirty s H w d) = one_more H.low H.held no_more
      go (is_writing_is s H w d) = no_more
      go (is_fetching s H w d) = no_more

  pub all_valid : (blocks : List ℕ) → AllValid l t (closed_slots t blocks)
  unfolding closed_slots
  all_valid [] = no_more
  all_valid (b ∷ blocks) = valid_both (closed-valid (record { 0 = b })) (all_valid blocks)

-- a row's used flag is set, and so those of many
module _ (l : Label) (t : List ℕ) (R : Rows l t) where
  pub used-alike : (v : List ℕ) → Alike l t v → {ss : List Slot} → AllValid l t ss → Alike l t (used_all ss v)
  unfolding used_all
  used-alike v A no_more = A
  used-alike v A (one_more {s = s} h q S) =
      let k : valid (row_flags v s) ≡ true =
      sym (at_valid l v A.legal s.0 h) ∙ ap model.valid (A.row s.0) ∙ at_valid l t R s.0 h ∙ q in
      used-alike (set_flags v s (with_used (row_flags v s))) (alike_flags l t v A s.0 _ h (changed_used (A.legal s.0 h).flags _ k)) S

-- a legal, ready box with such a table is legal
module _ (x : Box) (L : Legal x) (on : x.state.phase ≡ Ready) (v : List ℕ) (A : Alike (label_in x.state) x.table v) where
  pub alike-legal : Legal (record { images = x.images; table = v; state = x.state })
  alike-legal =
      let S = sound_alike (legal_sound x L on) A in
      record {
        limits = L.limits;
        hand-low = L.hand-low;
        steps = L.steps;
        count_is = L.count_is;
        array_is = L.array_is;
        named = L.named;
        window-rule = L.window-rule;
        ssd-size = L.ssd-size;
        hdd-size = L.hdd-size;
        table-size = A.size;
        rows = A.legal;
        agree = subst (λ (p : Phase). agree_test p v (window_in x.state) ≡ true) (sym on)
            ((agree_same Ready v (window_in x.state)).1 (sound_agree S));
      }

-- valid, dirty and writing stay, whatever the flags
used-kept : (P : ℕ → Bool) (f : ℕ) → P (f + 8) ≡ P f → P (with_used f) ≡ P f
used-kept P f e = go (told (used f))
  where
    go : Told (used f) → P (with_used f) ≡ P f
    go (told_true u) = rw u
    go (told_false u) = rw u e

module _ (t : List ℕ) (s : Slot) (row : 2 * s.0 + 1 < length t) where
  abbrev after : List ℕ
  after = set_flags t s (with_used (row_flags t s))

  flag_kept : (P : ℕ → Bool) → ((f : ℕ) → P (f + 8) ≡ P f) → (u : ℕ) → P (get_or after (2 * u + 1) 0) ≡ P (get_or t (2 * u + 1) 0)
  flag_kept P e u = go (ℕ_discrete u s.0)
    where
      go : Dec (u ≡ s.0) → P (get_or after (2 * u + 1) 0) ≡ P (get_or t (2 * u + 1) 0)
      go (yes q) = rw (q, get_or-set_same t (2 * s.0 + 1) (with_used (row_flags t s)) 0 row) (used-kept P (row_flags t s) (e (row_flags t s)))
      go (no n) = ap P (get_or-set_other t (2 * s.0 + 1) (2 * u + 1) _ 0 (λ q. n (omega arith)))

  valid-kept : valid (with_used (row_flags t s)) ≡ valid (row_flags t s)
  valid-kept = used-kept valid (row_flags t s) (let q : (row_flags t s + 8) % 2 ≡ row_flags t s % 2 = omega arith in rw q)

  -- so do the slot of every block and what is there
  pub used_at : (o : Option Slot) → condition_at after o ≡ condition_at t o
  used_at None = refl
  used_at (Some u) =
      let w = flag_kept writing (λ f. let q : (f + 8) / 4 % 2 ≡ f / 4 % 2 = omega arith in rw q) u.0 in
      let d = flag_kept dirty (λ f. let q : (f + 8) / 2 % 2 ≡ f / 2 % 2 = omega arith in rw q) u.0 in
      (λ i. elim (w i) [ true ↦ open_as (d i) u | false ↦ closed_as (d i) u ])

  pub condition_used : (b : Block) → condition_of after b ≡ condition_of t b
  unfolding condition_of
  condition_used b = ap (condition_at after) (slot_kept 0 t s.0 _ b valid-kept) ∙ used_at (slot_of t b)

-- and after many of them
module _ (l : Label) (t : List ℕ) where
  pub conditions_used : (v : List ℕ) → length v ≡ table_length l → {ss : List Slot} → AllValid l t ss → (b : Block)
      → condition_of (used_all ss v) b ≡ condition_of v b
  unfolding used_all
  conditions_used v size no_more b = refl
  conditions_used v size (one_more {s = s} h q S) b =
      conditions_used (set_flags v s (with_used (row_flags v s))) (length-set v (2 * s.0 + 1) _ ∙ size) S b
      ∙ condition_used v s (omega arith) b

-- words and closed slots of a list rest on the conditions alone
module _ (t v : List ℕ) (kept : (b : Block) → condition_of v b ≡ condition_of t b) where
  pub words-kept : (blocks : List ℕ) → words_of v blocks ≡ words_of t blocks
  words-kept [] = refl
  words-kept (b ∷ blocks) = λ i. word_of (kept (record { 0 = b }) i) ∷ words-kept blocks i

  pub closed-kept : (blocks : List ℕ) → closed_slots v blocks ≡ closed_slots t blocks
  unfolding closed_slots
  closed-kept [] = refl
  closed-kept (b ∷ blocks) = λ i. closed_slot (kept (record { 0 = b }) i) ++ closed-kept blocks i

-- one after the other
pub used_both : (ss us : List Slot) (t : List ℕ) → used_all (ss ++ us) t ≡ used_all us (used_all ss t)
unfolding used_all
used_both [] us t = refl
used_both (s ∷ ss) us t = used_both ss us (set_flags t s (with_used (row_flags t s)))
