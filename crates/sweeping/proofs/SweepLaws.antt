-- The sweep: the two loops find and clear what protocol's sweep takes and clears.
use Prim.Native.Nat.{ℕ, zero, suc, ◌+◌, ◌-◌, ◌*◌, ◌/◌, ◌%◌, ◌≤◌, ◌<◌}
use mathlib.Core.Path.{◌≡◌, refl, sym, ap, subst, ◌∙◌}
use mathlib.Core.Logic.{◌≢◌, ◌⊎◌, inl, inr}
use mathlib.Core.Bool.{true, false}
use mathlib.Core.List.{List}
use Rattle.std.specs.Prelude.{Option, Some, None}
use native.Mathlib.Omega.{arith}
use native.Mathlib.Numerals.{add-one}
use native.Mathlib.Decide.{ℕ_discrete}
use lib.ListN.{length, length-set}
use lib.Seq.{get_or-set_same, get_or-set_other, set-get_or}
use lib.Dec.{eqb, ltb}
use borrow.Author.Tests.{lt-ltb, le-ltb, ltb-true, ltb-false, eqb-true}
use Rattle.layout.specs.declared.Slot.{Slot}
use Rattle.layout.specs.declared.Label.{Label}
use Rattle.layout.specs.Places.{table_length}
use Rattle.protocol.specs.Rows.{row_flags, set_flags, writing, used, without_used}
use Rattle.protocol.specs.Sweep.{next_slot, Victim, sweep_from, sweep}
use Rattle.layout.proofs.Booleans.{Told, told, told_true, told_false}
use Rattle.laws.proofs.refine.Flags.{changed_unused}
use Rattle.laws.proofs.refine.Sweeps.{Alike, alike_flags, next_low}
use Rattle.sweeping.specs.Sweeps.{slot_past, closed, unused, first_closed, swept_after, lap_end, lap_from, swept_of, passed, cleared_from, victim_of}

-- the next slot, as code has it
pub next_in : (l : Label) (s : Slot) → s.0 + 1 < l.slots → record { 0 = s.0 + 1 } ≡ next_slot l s
next_in l s h = let e : ltb (suc s.0) l.slots ≡ true = lt-ltb (suc s.0) l.slots (omega arith) in
    rw (next_slot, e, add-one s.0) refl

pub next_wraps : (l : Label) (s : Slot) → l.slots ≤ s.0 + 1 → record { 0 = 0 } ≡ next_slot l s
next_wraps l s h = let e : ltb (suc s.0) l.slots ≡ false = le-ltb (suc s.0) l.slots (omega arith) in rw (next_slot, e) refl

-- the slot k past s, as code has it: as many steps on
pub past_in : (l : Label) (s : Slot) (k : ℕ) → s.0 + k < l.slots → slot_past k l s ≡ record { 0 = s.0 + k }
past_in l s k h = let e : ltb (s.0 + k) l.slots ≡ true = lt-ltb _ _ h in rw e

pub past_over : (l : Label) (s : Slot) (k : ℕ) → l.slots ≤ s.0 + k → slot_past k l s ≡ record { 0 = s.0 + k - l.slots }
past_over l s k h = let e : ltb (s.0 + k) l.slots ≡ false = le-ltb _ _ h in rw e

pub past_none : (l : Label) (s : Slot) → s.0 < l.slots → slot_past 0 l s ≡ s
past_none l s h = let n : s.0 + 0 ≡ s.0 = omega arith in past_in l s 0 (omega arith) ∙ ap (λ (m : ℕ). record { 0 = m }) n

pub past_next : (l : Label) (s : Slot) (k : ℕ) → s.0 < l.slots → k < l.slots → next_slot l (slot_past k l s) ≡ slot_past (k + 1) l s
past_next l s k h q = go (told (ltb (s.0 + k) l.slots)) (told (ltb (s.0 + (k + 1)) l.slots))
  where
    at : (n m : ℕ) → n ≡ m → ◌≡◌ {A = Slot} (record { 0 = n }) (record { 0 = m })
    at n m e = ap (λ (i : ℕ). record { 0 = i }) e

    go : Told (ltb (s.0 + k) l.slots) → Told (ltb (s.0 + (k + 1)) l.slots) → next_slot l (slot_past k l s) ≡ slot_past (k + 1) l s
    go (told_true e) (told_true f) =
        let a : s.0 + k < l.slots = ltb-true _ _ e in
        let b : s.0 + (k + 1) < l.slots = ltb-true _ _ f in
        ap (next_slot l) (past_in l s k a)
        ∙ sym (next_in l (record { 0 = s.0 + k }) (omega arith))
        ∙ at (s.0 + k + 1) _ (omega arith)
        ∙ sym (past_in l s (k + 1) b)
    go (told_true e) (told_false f) =
        let a : s.0 + k < l.slots = ltb-true _ _ e in
        let b : l.slots ≤ s.0 + (k + 1) = ltb-false _ _ f in
        ap (next_slot l) (past_in l s k a)
        ∙ sym (next_wraps l (record { 0 = s.0 + k }) (omega arith))
        ∙ at 0 _ (omega arith)
        ∙ sym (past_over l s (k + 1) b)
    go (told_false e) (told_true f) =
        let a : l.slots ≤ s.0 + k = ltb-false _ _ e in
        let b : s.0 + (k + 1) < l.slots = ltb-true _ _ f in
        absurd (omega arith)
    go (told_false e) (told_false f) =
        let a : l.slots ≤ s.0 + k = ltb-false _ _ e in
        let b : l.slots ≤ s.0 + (k + 1) = ltb-false _ _ f in
        ap (next_slot l) (past_over l s k a)
        ∙ sym (next_in l (record { 0 = s.0 + k - l.slots }) (omega arith))
        ∙ at (s.0 + k - l.slots + 1) _ (omega arith)
        ∙ sym (past_over l s (k + 1) b)

-- the slot k places on
unfoldable pub nth : Label → ℕ → Slot → Slot
nth l zero s = s
nth l (suc k) s = nth l k (next_slot l s)

pub data Next (l : Label) (s : Slot) : Slot → Type 0 where
  on : s.0 + 1 < l.slots → Next l s (record { 0 = s.0 + 1 })
  wraps : s.0 + 1 ≡ l.slots → Next l s (record { 0 = 0 })

next_of : (l : Label) (s : Slot) → s.0 < l.slots → Next l s (next_slot l s)
next_of l s h = go (told (ltb (suc s.0) l.slots))
  where
    go : Told (ltb (suc s.0) l.slots) → Next l s (next_slot l s)
    go (told_true e) = let q : suc s.0 < l.slots = ltb-true _ _ e in subst (Next l s) (next_in l s (omega arith)) (on (omega arith))
    go (told_false e) = let q : l.slots ≤ suc s.0 = ltb-false _ _ e in
        subst (Next l s) (next_wraps l s (omega arith)) (wraps (omega arith))

pub nth_low : (l : Label) (k : ℕ) (s : Slot) → s.0 < l.slots → (nth l k s).0 < l.slots
unfolding nth
nth_low l zero s h = h
nth_low l (suc k) s h = nth_low l k (next_slot l s) (next_low l s h)

pub nth_value : (l : Label) (k : ℕ) (s : Slot) → s.0 < l.slots → k ≤ l.slots
    → ((nth l k s).0 ≡ s.0 + k) ⊎ ((nth l k s).0 + l.slots ≡ s.0 + k)
unfolding nth
nth_value l zero s h m = inl (omega arith)
nth_value l (suc k) s h m = go (next_slot l s) (next_of l s h) (nth_value l k (next_slot l s) (next_low l s h) (omega arith))
  where
    go : (t : Slot) → Next l s t → ((nth l k t).0 ≡ t.0 + k) ⊎ ((nth l k t).0 + l.slots ≡ t.0 + k)
        → ((nth l k t).0 ≡ s.0 + suc k) ⊎ ((nth l k t).0 + l.slots ≡ s.0 + suc k)
    go t (on q) (inl e) = inl (omega (arith, e))
    go t (on q) (inr e) = inr (omega (arith, e))
    go t (wraps q) (inl e) = inr (omega (arith, e, q))
    go t (wraps q) (inr e) = absurd (omega (arith, e, q, m))

slot_is : (s t : Slot) → s.0 ≡ t.0 → s ≡ t
slot_is s t e = ap (λ (n : ℕ). record { 0 = n }) e

-- once round, and no place twice on the way
pub nth_round : (l : Label) (s : Slot) → s.0 < l.slots → nth l l.slots s ≡ s
nth_round l s h = slot_is _ s (go (nth_value l l.slots s h (omega arith)) (nth_low l l.slots s h))
  where
    go : ((nth l l.slots s).0 ≡ s.0 + l.slots) ⊎ ((nth l l.slots s).0 + l.slots ≡ s.0 + l.slots)
        → (nth l l.slots s).0 < l.slots → (nth l l.slots s).0 ≡ s.0
    go (inl e) q = absurd (omega (arith, e, q))
    go (inr e) q = omega (arith, e)

nth_other : (l : Label) (k : ℕ) (s : Slot) → s.0 < l.slots → 0 < k → k < l.slots → (nth l k s).0 ≢ s.0
nth_other l k s h a b f = go (nth_value l k s h (omega arith))
  where
    go : ((nth l k s).0 ≡ s.0 + k) ⊎ ((nth l k s).0 + l.slots ≡ s.0 + k) → ⊥
    go (inl e) = omega (arith, e, f, a)
    go (inr e) = omega (arith, e, f, b)

-- every slot is met
pub nth_meets : (l : Label) (s u : Slot) → s.0 < l.slots → u.0 < l.slots → (k : ℕ) × (k < l.slots) × (nth l k s ≡ u)
nth_meets l s u h g = go (told (ltb u.0 s.0))
  where
    at : (k : ℕ) → k < l.slots → (s.0 + k ≡ u.0) ⊎ (s.0 + k ≡ u.0 + l.slots) → (j : ℕ) × (j < l.slots) × (nth l j s ≡ u)
    at k q c = (k, q, slot_is _ u (same (nth_value l k s h (omega arith)) c (nth_low l k s h)))
      where
        same : ((nth l k s).0 ≡ s.0 + k) ⊎ ((nth l k s).0 + l.slots ≡ s.0 + k) → (s.0 + k ≡ u.0) ⊎ (s.0 + k ≡ u.0 + l.slots)
            → (nth l k s).0 < l.slots → (nth l k s).0 ≡ u.0
        same (inl e) (inl d) w = e ∙ d
        same (inl e) (inr d) w = absurd (omega (arith, e, d, w))
        same (inr e) (inl d) w = absurd (omega (arith, e, d, g))
        same (inr e) (inr d) w = omega (arith, e, d)

    go : Told (ltb u.0 s.0) → (j : ℕ) × (j < l.slots) × (nth l j s ≡ u)
    go (told_true e) = let q : u.0 < s.0 = ltb-true _ _ e in at (u.0 + l.slots - s.0) (omega arith) (inr (omega arith))
    go (told_false e) = let q : s.0 ≤ u.0 = ltb-false _ _ e in at (u.0 - s.0) (omega arith) (inl (omega arith))

-- flags that were passed: open as before, and not used unless open
pub passed-writing : (f : ℕ) → writing (passed f) ≡ writing f
passed-writing f = go (told (writing f)) (told (used f))
  where
    go : Told (writing f) → Told (used f) → writing (passed f) ≡ writing f
    go (told_true w) x = rw (w, w) refl
    go (told_false w) (told_true u) =
        let e : f / 8 % 2 ≡ 1 = eqb-true _ _ u in
        let d : (f - 8) / 4 % 2 ≡ f / 4 % 2 = omega arith in
        rw (w, u) (ap (λ (n : ℕ). eqb n 1) d ∙ w)
    go (told_false w) (told_false u) = rw (w, u) w

pub passed-unused : (f : ℕ) → writing f ≡ false → used (passed f) ≡ false
passed-unused f w = go (told (used f))
  where
    go : Told (used f) → used (passed f) ≡ false
    go (told_true u) =
        let e : f / 8 % 2 ≡ 1 = eqb-true _ _ u in
        let d : (f - 8) / 8 % 2 ≡ 0 = omega arith in
        rw (w, u) (ap (λ (n : ℕ). eqb n 1) d)
    go (told_false u) = rw (w, u) u

nth_snoc : (l : Label) (k : ℕ) (s : Slot) → nth l (suc k) s ≡ next_slot l (nth l k s)
unfolding nth
nth_snoc l zero s = refl
nth_snoc l (suc k) s = nth_snoc l k (next_slot l s)

module _ (l : Label) where
  -- a row that was passed, and the others
  passed_at : List ℕ → Slot → List ℕ
  passed_at t s = set_flags t s (passed (row_flags t s))

  flags_here : (t : List ℕ) (s : Slot) (f : ℕ) → length t ≡ table_length l → s.0 < l.slots → row_flags (set_flags t s f) s ≡ f
  flags_here t s f e h = get_or-set_same t (2 * s.0 + 1) f 0 (omega (arith, e, h))

  flags_there : (t : List ℕ) (s u : Slot) (f : ℕ) → u.0 ≢ s.0 → row_flags (set_flags t s f) u ≡ row_flags t u
  flags_there t s u f n = get_or-set_other t (2 * s.0 + 1) (2 * u.0 + 1) f 0 (λ e. n (omega (arith, e)))

  length-passed : (t : List ℕ) (s : Slot) → length (set_flags t s (passed (row_flags t s))) ≡ length t
  length-passed t s = length-set t (2 * s.0 + 1) (passed (row_flags t s))

  row-writing : (t : List ℕ) (s u : Slot) → length t ≡ table_length l → s.0 < l.slots
      → writing (row_flags (set_flags t s (passed (row_flags t s))) u) ≡ writing (row_flags t u)
  row-writing t s u e h = go (ℕ_discrete u.0 s.0)
    where
      go : Dec (u.0 ≡ s.0) → writing (row_flags (set_flags t s (passed (row_flags t s))) u) ≡ writing (row_flags t u)
      go (yes d) =
          let q : u ≡ s = slot_is u s d in
          rw q (ap writing (flags_here t s (passed (row_flags t s)) e h) ∙ passed-writing (row_flags t s))
      go (no n) = ap writing (flags_there t s u (passed (row_flags t s)) n)

  -- not used unless open
  abbrev Spent : List ℕ → Slot → Type 0
  Spent t u = writing (row_flags t u) ≡ false → used (row_flags t u) ≡ false

  spent_here : (t : List ℕ) (s : Slot) → length t ≡ table_length l → s.0 < l.slots → Spent (set_flags t s (passed (row_flags t s))) s
  spent_here t s e h w =
      ap used (flags_here t s (passed (row_flags t s)) e h) ∙ passed-unused (row_flags t s) (sym (row-writing t s s e h) ∙ w)

  spent_still : (t : List ℕ) (s u : Slot) → length t ≡ table_length l → s.0 < l.slots → Spent t u
      → Spent (set_flags t s (passed (row_flags t s))) u
  spent_still t s u e h k = go (ℕ_discrete u.0 s.0)
    where
      go : Dec (u.0 ≡ s.0) → Spent (set_flags t s (passed (row_flags t s))) u
      go (yes d) = let q : s ≡ u = slot_is s u (sym d) in
          subst (λ (v : Slot). Spent (set_flags t s (passed (row_flags t s))) v) q (spent_here t s e h)
      go (no n) = λ w. ap used (flags_there t s u (passed (row_flags t s)) n) ∙ k (sym (row-writing t s u e h) ∙ w)

  cleared_writing : (n : ℕ) (t : List ℕ) (s u : Slot) → length t ≡ table_length l → s.0 < l.slots
      → writing (row_flags (cleared_from n l t s) u) ≡ writing (row_flags t u)
  unfolding cleared_from
  cleared_writing zero t s u e h = refl
  cleared_writing (suc n) t s u e h =
      cleared_writing n (set_flags t s (passed (row_flags t s))) (next_slot l s) u (length-passed t s ∙ e) (next_low l s h)
      ∙ row-writing t s u e h

  cleared_still : (n : ℕ) (t : List ℕ) (s u : Slot) → length t ≡ table_length l → s.0 < l.slots → Spent t u → Spent (cleared_from n l t s) u
  unfolding cleared_from
  cleared_still zero t s u e h k = k
  cleared_still (suc n) t s u e h k =
      cleared_still n (set_flags t s (passed (row_flags t s))) (next_slot l s) u (length-passed t s ∙ e) (next_low l s h)
      (spent_still t s u e h k)

  cleared_met : (n j : ℕ) (t : List ℕ) (s u : Slot) → length t ≡ table_length l → s.0 < l.slots → j < n → nth l j s ≡ u
      → Spent (cleared_from n l t s) u
  unfolding cleared_from nth
  cleared_met zero j t s u e h q f = absurd (omega arith)
  cleared_met (suc n) zero t s u e h q f =
      cleared_still n (set_flags t s (passed (row_flags t s))) (next_slot l s) u (length-passed t s ∙ e) (next_low l s h)
      (subst (λ (v : Slot). Spent (set_flags t s (passed (row_flags t s))) v) f (spent_here t s e h))
  cleared_met (suc n) (suc j) t s u e h q f =
      cleared_met n j (set_flags t s (passed (row_flags t s))) (next_slot l s) u (length-passed t s ∙ e) (next_low l s h) (omega arith) f

  -- a slot that is still ahead is as it was
  ahead : (k m : ℕ) (t : List ℕ) (s : Slot) → length t ≡ table_length l → s.0 < l.slots → k ≤ m → m < l.slots
      → row_flags (cleared_from k l t s) (nth l m s) ≡ row_flags t (nth l m s)
  unfolding cleared_from nth
  ahead zero m t s e h a b = refl
  ahead (suc k) zero t s e h a b = absurd (omega arith)
  ahead (suc k) (suc m) t s e h a b =
      ahead k m (set_flags t s (passed (row_flags t s))) (next_slot l s) (length-passed t s ∙ e) (next_low l s h) (omega arith) (omega arith)
      ∙ flags_there t s (nth l m (next_slot l s)) (passed (row_flags t s)) (nth_other l (suc m) s h (omega arith) b)

  cleared_snoc : (k : ℕ) (t : List ℕ) (s : Slot)
      → cleared_from (suc k) l t s
      ≡ set_flags (cleared_from k l t s) (nth l k s) (passed (row_flags (cleared_from k l t s) (nth l k s)))
  unfolding cleared_from nth
  cleared_snoc zero t s = refl
  cleared_snoc (suc k) t s = cleared_snoc k (set_flags t s (passed (row_flags t s))) (next_slot l s)

-- used flags that are cleared change nothing else
pub cleared_alike : (n : ℕ) (l : Label) (t v : List ℕ) → Alike l t v → (s : Slot) → s.0 < l.slots → Alike l t (cleared_from n l v s)
unfolding cleared_from
cleared_alike zero l t v A s h = A
cleared_alike (suc n) l t v A s h = cleared_alike n l t _ (one (told (writing (row_flags v s)))) (next_slot l s) (next_low l s h)
  where
    one : Told (writing (row_flags v s)) → Alike l t (set_flags v s (passed (row_flags v s)))
    one (told_true w) = rw (w, set-get_or v (2 * s.0 + 1) 0) A
    one (told_false w) = rw w (alike_flags l t v A s.0 (without_used (row_flags v s)) h (changed_unused (A.legal s.0 h).flags _))

-- the lowest-numbered choice of the code: the first closed slot met
unfoldable pub closed_from : ℕ → Label → List ℕ → Slot → Option Slot → Option Slot
closed_from zero l t s first = first
closed_from (suc n) l t s first = closed_from n l t (next_slot l s) (first_closed first s (closed (row_flags t s)))

closed-kept : (n : ℕ) (l : Label) (t : List ℕ) (s first : Slot) → closed_from n l t s (Some first) ≡ Some first
unfolding closed_from
closed-kept zero l t s first = refl
closed-kept (suc n) l t s first = closed-kept n l t (next_slot l s) first

-- one slot of the sweep
sweep_step : (l : Label) (n : ℕ) (t : List ℕ) (s : Slot) (r : Option Victim)
    → sweep_from n l (set_flags t s (passed (row_flags t s))) (next_slot l s) ≡ r
    → sweep_from (suc n) l t s ≡ elim (unused (row_flags t s)) [ true ↦ Some (record { slot = s; table = t }) | false ↦ r ]
unfolding sweep_from
sweep_step l n t s r e = go (told (writing (row_flags t s))) (told (used (row_flags t s)))
  where
    go : Told (writing (row_flags t s)) → Told (used (row_flags t s))
        → sweep_from (suc n) l t s ≡ elim (unused (row_flags t s)) [ true ↦ Some (record { slot = s; table = t }) | false ↦ r ]
    go (told_true w) x =
        let q : sweep_from n l (set_flags t s (row_flags t s)) (next_slot l s) ≡ r = rw w at e in
        rw (sweep_from, w) (ap (λ (v : List ℕ). sweep_from n l v (next_slot l s)) (sym (set-get_or t (2 * s.0 + 1) 0)) ∙ q)
    go (told_false w) (told_true u) =
        let q : sweep_from n l (set_flags t s (without_used (row_flags t s))) (next_slot l s) ≡ r = rw w at e in
        rw (sweep_from, w, u) q
    go (told_false w) (told_false u) = rw (sweep_from, w, u) refl

module _ (l : Label) (t : List ℕ) (h : Slot) (size : length t ≡ table_length l) (low : h.0 < l.slots) where
  -- a round from place k on, or what comes after it
  unfoldable round_from : ℕ → ℕ → Option Victim → Option Victim
  round_from zero k rest = rest
  round_from (suc n) k rest =
      elim (unused (row_flags t (nth l k h))) [
        | true ↦ Some (record { slot = nth l k h; table = cleared_from k l t h })
        | false ↦ round_from n (suc k) rest
      ]

  first_round : (n m k p : ℕ) → p ≡ n + m → n + k ≡ l.slots
      → sweep_from p l (cleared_from k l t h) (nth l k h)
      ≡ round_from n k (sweep_from m l (cleared_from l.slots l t h) (nth l l.slots h))
  unfolding round_from
  first_round zero m k p z e =
      let c : p ≡ m = omega arith in
      let d : k ≡ l.slots = omega arith in
      ap (λ (j : ℕ). sweep_from j l (cleared_from k l t h) (nth l k h)) c
      ∙ ap (λ (j : ℕ). sweep_from m l (cleared_from j l t h) (nth l j h)) d
  first_round (suc n) m k zero z e = absurd (omega arith)
  first_round (suc n) m k (suc p) z e =
      let r = round_from n (suc k) (sweep_from m l (cleared_from l.slots l t h) (nth l l.slots h)) in
      let q : sweep_from p l
      (set_flags (cleared_from k l t h) (nth l k h) (passed (row_flags (cleared_from k l t h) (nth l k h)))) (next_slot l (nth l k h)) ≡ r =
      ap (λ (v : List ℕ). sweep_from p l v (next_slot l (nth l k h))) (sym (cleared_snoc l k t h))
      ∙ ap (λ (s : Slot). sweep_from p l (cleared_from (suc k) l t h) s) (sym (nth_snoc l k h))
      ∙ first_round n m (suc k) p (omega arith) (omega arith) in
      let a : row_flags (cleared_from k l t h) (nth l k h) ≡ row_flags t (nth l k h) = ahead l k k t h size low (omega arith) (omega arith) in
      sweep_step l p (cleared_from k l t h) (nth l k h) r q
      ∙ ap (λ (f : ℕ). elim (unused f) [ true ↦ Some (record { slot = nth l k h; table = cleared_from k l t h }) | false ↦ r ]) a

  -- what the code finds, in the same terms
  found_round : (n k : ℕ) (first : Option Slot)
      → victim_of l t h (lap_from n k l t (nth l k h) first)
      ≡ round_from n k (victim_of l t h (lap_end l.slots (closed_from n l t (nth l k h) first)))
  unfolding round_from lap_from closed_from
  found_round zero k first = refl
  found_round (suc n) k first = go (told (unused (row_flags t (nth l k h))))
      (found_round n (suc k) (first_closed first (nth l k h) (closed (row_flags t (nth l k h)))))
    where
      go : Told (unused (row_flags t (nth l k h)))
          → victim_of l t h (lap_from n (suc k) l t (nth l (suc k) h)
          (first_closed first (nth l k h) (closed (row_flags t (nth l k h)))))
          ≡ round_from n (suc k) (victim_of l t h (lap_end l.slots
          (closed_from n l t (nth l (suc k) h) (first_closed first (nth l k h) (closed (row_flags t (nth l k h)))))))
          → victim_of l t h (lap_from (suc n) k l t (nth l k h) first)
          ≡ round_from (suc n) k (victim_of l t h (lap_end l.slots (closed_from (suc n) l t (nth l k h) first)))
      go (told_true e) ih = rw (lap_from, round_from, e) refl
      go (told_false e) ih = rw (lap_from, round_from, e) (rw (nth_snoc l k h) at ih)

  -- the second round takes the first closed slot
  second_round : (n : ℕ) (s : Slot) → s.0 < l.slots
      → sweep_from n l (cleared_from l.slots l t h) s ≡ victim_of l t h (lap_end l.slots (closed_from n l t s None))
  unfolding sweep_from closed_from
  second_round zero s q = refl
  second_round (suc n) s q = go (told (writing (row_flags t s))) (second_round n (next_slot l s) (next_low l s q))
    where
      same : writing (row_flags (cleared_from l.slots l t h) s) ≡ writing (row_flags t s)
      same = cleared_writing l l.slots t h s size low

      spent : writing (row_flags t s) ≡ false → used (row_flags (cleared_from l.slots l t h) s) ≡ false
      spent w = let m = nth_meets l h s low q in cleared_met l l.slots m.0 t h s size low m.1 m.2 (same ∙ w)

      go : Told (writing (row_flags t s))
          → sweep_from n l (cleared_from l.slots l t h) (next_slot l s)
          ≡ victim_of l t h (lap_end l.slots (closed_from n l t (next_slot l s) None))
          → sweep_from (suc n) l (cleared_from l.slots l t h) s
          ≡ victim_of l t h (lap_end l.slots (closed_from (suc n) l t s None))
      go (told_true w) ih = rw (sweep_from, closed_from, same, w) ih
      go (told_false w) ih =
          rw (
            sweep_from,
            closed_from,
            same,
            w,
            spent w,
            closed-kept n l t (next_slot l s) s,
          ) refl

  -- slot and table are those of protocol's sweep
  pub sweep_is : sweep l t h ≡ victim_of l t h (swept_of l t h)
  unfolding cleared_from nth
  sweep_is =
      first_round l.slots l.slots 0 (2 * l.slots) (omega arith) (omega arith)
      ∙ ap (round_from l.slots 0)
      (ap (sweep_from l.slots l (cleared_from l.slots l t h)) (nth_round l h low) ∙ second_round l.slots h low)
      ∙ sym (found_round l.slots 0 None)

-- the loops' steps: of n slots k are passed
down : (n k : ℕ) → k < n → n - k ≡ suc (n - (k + 1))
down n k h = omega arith

pub lap_on : (n k : ℕ) (l : Label) (t : List ℕ) (s : Slot) (first : Option Slot) → k < n → unused (row_flags t s) ≡ false
    → lap_from (n - k) k l t s first
    ≡ lap_from (n - (k + 1)) (k + 1) l t (next_slot l s) (first_closed first s (closed (row_flags t s)))
unfolding lap_from
lap_on n k l t s first h e = rw (down n k h, add-one k) (rw (lap_from, e) refl)

pub lap_took : (n k : ℕ) (l : Label) (t : List ℕ) (s : Slot) (first : Option Slot) → k < n → unused (row_flags t s) ≡ true
    → lap_from (n - k) k l t s first ≡ swept_after s k
unfolding lap_from
lap_took n k l t s first h e = rw (down n k h) (rw (lap_from, e) refl)

pub lap_done : (n k : ℕ) (l : Label) (t : List ℕ) (s : Slot) (first : Option Slot) → n ≤ k → lap_from (n - k) k l t s first ≡ lap_end l.slots first
unfolding lap_from
lap_done n k l t s first h = let z : n - k ≡ 0 = omega arith in rw z refl

pub clear_on : (n k : ℕ) (l : Label) (t : List ℕ) (s : Slot) → k < n
    → cleared_from (n - k) l t s ≡ cleared_from (n - (k + 1)) l (set_flags t s (passed (row_flags t s))) (next_slot l s)
unfolding cleared_from
clear_on n k l t s h = rw (down n k h) refl

pub clear_done : (n k : ℕ) (l : Label) (t : List ℕ) (s : Slot) → n ≤ k → cleared_from (n - k) l t s ≡ t
unfolding cleared_from
clear_done n k l t s h = let z : n - k ≡ 0 = omega arith in rw z refl

pub lap_begun : (n : ℕ) (l : Label) (t : List ℕ) (s : Slot) → lap_from (n - 0) 0 l t s None ≡ lap_from n 0 l t s None
lap_begun n l t s = let z : n - 0 ≡ n = omega arith in ap (λ (m : ℕ). lap_from m 0 l t s None) z

pub clear_begun : (n : ℕ) (l : Label) (t : List ℕ) (s : Slot) → cleared_from (n - 0) l t s ≡ cleared_from n l t s
clear_begun n l t s = let z : n - 0 ≡ n = omega arith in ap (λ (m : ℕ). cleared_from m l t s) z
