-- 8 to 12: a block's slot, and what its condition says of it.
use Prim.Native.Nat.{ℕ, ◌<◌}
use mathlib.Core.Path.{◌≡◌, refl, sym, ap, ◌∙◌}
use mathlib.Core.Bool.{Bool, true, false, not, ◌&&◌, ◌||◌, or-true}
use mathlib.Core.Logic.{◌⊎◌, inl, inr}
use mathlib.Core.List.{List}
use Rattle.std.specs.Prelude.{Option, Some}
use native.Mathlib.Omega.{arith}
use native.Mathlib.Nat.{zero-add}
use native.Mathlib.Decide.{dec_lt}
use Rattle.layout.specs.declared.Slot.{Slot}
use Rattle.layout.specs.declared.Block.{Block}
use borrow.Author.Tests.{not-true}
use Rattle.layout.proofs.Booleans.{Told, told, told_true, told_false, clash, and_of, and_parts, or_cases, not_of}
use Rattle.layout.proofs.RuleLaws.{◌⇔◌}
use Rattle.protocol.specs.declared.Condition.{Condition}
use Rattle.protocol.specs.declared.Condition.TheVariants.{NotCached}
use Rattle.protocol.specs.Rows.{row_flags, dirty, writing}
use Rattle.protocol.specs.Condition.{open_as, closed_as, condition_at, condition_of, is_open, is_cached, is_writing, has_other, takes_write, takes_fetch}
use Rattle.protocol.specs.Why.{SlotOf}
use Rattle.laws.proofs.refine.Conditions.{Located, at, nowhere, located}
use Rattle.laws.proofs.why.Basics.{none_same, via}

-- a block has one slot at most: the lowest
same-slot : (table : List ℕ) (b : Block) (s t : SlotOf table b) → t.slot ≡ s.slot
same-slot table b s t = go (dec_lt s.slot.0 t.slot.0) (dec_lt t.slot.0 s.slot.0)
  where
    go : Dec (s.slot.0 < t.slot.0) → Dec (t.slot.0 < s.slot.0) → t.slot ≡ s.slot
    go (yes h) d = absurd (t.lowest s.slot h s.valid-row s.block)
    go (no h) (yes k) = absurd (s.lowest t.slot k t.valid-row t.block)
    go (no h) (no k) = let e : t.slot.0 ≡ s.slot.0 = omega arith in ap (λ (n : ℕ). record { 0 = n }) e

-- a block's condition: none without a slot, else by its slot's flags
abbrev pub cached_as : Bool → Bool → Slot → Condition
cached_as true d s = open_as d s
cached_as false d s = closed_as d s

pub data Found (table : List ℕ) (b : Block) : Condition → Type 0 where
  missing : (SlotOf table b → ⊥) → Found table b NotCached
  held : (s : SlotOf table b) → Found table b (cached_as (writing (row_flags table s.slot)) (dirty (row_flags table s.slot)) s.slot)

pub found : (table : List ℕ) (b : Block) → Found table b (condition_of table b)
unfolding condition_of
found table b = go (located 0 table b)
  where
    by_flags : (s : SlotOf table b)
        → condition_at table (Some s.slot) ≡ cached_as (writing (row_flags table s.slot)) (dirty (row_flags table s.slot)) s.slot
    by_flags s = by (told (writing (row_flags table s.slot)))
      where
        by : Told (writing (row_flags table s.slot))
            → condition_at table (Some s.slot) ≡ cached_as (writing (row_flags table s.slot)) (dirty (row_flags table s.slot))
            s.slot
        by (told_true w) = rw (condition_at, w)
        by (told_false w) = rw (condition_at, w)

    go : {o : Option Slot} → Located 0 table b.0 o → Found table b (condition_at table o)
    go (nowhere h) = missing λ s. h s.slot.0 s.row s.valid-row s.block
    go (at i h v q low) =
        let s : SlotOf table b = record { slot = record { 0 = i }; row = h; valid-row = v; block = q; lowest = λ t. low t.0 } in
        rw (zero-add i, by_flags s) (held s)

-- a test of a condition that asks for flags of the slot
flags_same : (table : List ℕ) (b : Block) (t : Condition → Bool) (q : Bool → Bool → Bool) → t NotCached ≡ false
    → ((w d : Bool) → (s : Slot) → t (cached_as w d s) ≡ q w d)
    → t (condition_of table b) ⇔ ((s : SlotOf table b) × (q (writing (row_flags table s.slot)) (dirty (row_flags table s.slot)) ≡ true))
flags_same table b t q z e = go (found table b)
  where
    go : {k : Condition} → Found table b k
        → t k ⇔ ((s : SlotOf table b) × (q (writing (row_flags table s.slot)) (dirty (row_flags table s.slot)) ≡ true))
    go (missing n) = (λ h. clash h z, λ s. absurd (n s.0))
    go (held s) =
        let e = e (writing (row_flags table s.slot)) (dirty (row_flags table s.slot)) s.slot in
        (λ h. (s, sym e ∙ h), λ h. e ∙ (rw (same-slot table b s h.0) at h.1))

four : (P : Bool → Bool → Type 0) → P true true → P true false → P false true → P false false → (w d : Bool) → P w d
four P a b c d true true = a
four P a b c d true false = b
four P a b c d false true = c
four P a b c d false false = d

-- what the tests of a condition say
module _ (table : List ℕ) (b : Block) where
  pub cached_same : is_cached (condition_of table b) ⇔ SlotOf table b
  cached_same = via (flags_same table b is_cached (λ w d. true) refl (four _ (λ s. refl) (λ s. refl) (λ s. refl) (λ s. refl))) (λ h. h.0)
      (λ s. (s, refl))

  pub open_same : is_open (condition_of table b) ⇔ ((s : SlotOf table b) × (writing (row_flags table s.slot) ≡ true))
  open_same = flags_same table b is_open (λ w d. w) refl (four _ (λ s. refl) (λ s. refl) (λ s. refl) (λ s. refl))

  pub write_same : takes_write (condition_of table b) ⇔ ((s : SlotOf table b) × (dirty (row_flags table s.slot) ≡ true))
  write_same = flags_same table b takes_write (λ w d. d) refl (four _ (λ s. refl) (λ s. refl) (λ s. refl) (λ s. refl))

  pub fetch_same : takes_fetch (condition_of table b) ⇔
      ((s : SlotOf table b) × (writing (row_flags table s.slot) ≡ true) × (dirty (row_flags table s.slot) ≡ false))
  fetch_same =
      via (flags_same table b takes_fetch (λ w d. w && not d) refl (four _ (λ s. refl) (λ s. refl) (λ s. refl) (λ s. refl)))
      (λ h. let p = and_parts _ _ h.1 in (h.0, p.0, not-true _ p.1))
      (λ h. (h.0, and_of h.1 (not_of _ h.2)))

  -- of a fetch
  pub writing-same : is_writing (condition_of table b) ⇔
      ((s : SlotOf table b) × (writing (row_flags table s.slot) ≡ true) × (dirty (row_flags table s.slot) ≡ true))
  writing-same =
      via (flags_same table b is_writing (λ w d. w && d) refl (four _ (λ s. refl) (λ s. refl) (λ s. refl) (λ s. refl)))
      (λ h. let p = and_parts _ _ h.1 in (h.0, p.0, p.1))
      (λ h. (h.0, and_of h.1 h.2))

  pub other-same : has_other (condition_of table b) ⇔
      ((s : SlotOf table b) × ((writing (row_flags table s.slot) ≡ false) ⊎ (dirty (row_flags table s.slot) ≡ false)))
  other-same =
      via (flags_same table b has_other (λ w d. not w || not d) refl (four _ (λ s. refl) (λ s. refl) (λ s. refl) (λ s. refl)))
      (λ h. (h.0, either (or_cases _ _ h.1))) (λ h. (h.0, neither h.1))
    where
      either : {w d : Bool} → (not w ≡ true) ⊎ (not d ≡ true) → (w ≡ false) ⊎ (d ≡ false)
      either (inl e) = inl (not-true _ e)
      either (inr e) = inr (not-true _ e)

      neither : {w d : Bool} → (w ≡ false) ⊎ (d ≡ false) → (not w || not d) ≡ true
      neither (inl e) = rw e
      neither {w} (inr e) = rw e (or-true (not w))

  -- no slot of it is dirty
  pub clean-same : not (takes_write (condition_of table b)) ⇔ ((s : SlotOf table b) → dirty (row_flags table s.slot) ≡ false)
  clean-same =
      via (none_same write_same)
      (λ h s. go s h (told (dirty (row_flags table s.slot))))
      (λ h p. clash p.1 (h p.0))
    where
      go : (s : SlotOf table b) → (((s : SlotOf table b) × (dirty (row_flags table s.slot) ≡ true)) → ⊥)
          → Told (dirty (row_flags table s.slot)) → dirty (row_flags table s.slot) ≡ false
      go s h (told_true d) = absurd (h (s, d))
      go s h (told_false d) = d
