-- What a sweep finds: all slots open, or a slot that is not open; and what the table is after it.
use Rattle.std.specs.Prelude.{Option, None}
use Prim.Native.Nat.{ℕ, zero, suc, ◌+◌, ◌*◌, ◌≤◌, ◌<◌}
use mathlib.Core.Path.{◌≡◌, refl, sym, ap, subst, ◌∙◌}
use mathlib.Core.Bool.{Bool, true, false}
use mathlib.Core.List.{List}
use Rattle.std.specs.Prelude.{Some}
use native.Mathlib.Omega.{arith}
use lib.ListN.{length, get_or}
use borrow.Author.Tests.{lt-ltb, le-ltb}
use Rattle.layout.specs.declared.Slot.{Slot}
use Rattle.layout.specs.declared.Label.{Label}
use Rattle.layout.specs.Places.{table_length}
use Rattle.protocol.specs.Rows.{row_block, row_flags, dirty, writing, all_writing}
use Rattle.protocol.specs.Sweep.{next_slot, Victim, sweep}
use Rattle.layout.proofs.Booleans.{Told, told, told_true, told_false, clash}
use Rattle.laws.proofs.model.Model.{dirty_row, open_row}
use Rattle.laws.proofs.refine.Flags.{dirty_holds}
use Rattle.laws.proofs.refine.Tables.{Rows, at_dirty, at_open, each_get, each_of}
use Rattle.laws.proofs.refine.Sweeps.{alike_same, next_low, swept}
use Rattle.sweeping.specs.declared.Swept.{Swept}
use Rattle.sweeping.specs.Sweeps.{closed, unused, first_closed, lap_end, lap_from, swept_of, cleared_from, victim_of, swept_after}
use Rattle.sweeping.proofs.SweepLaws.{nth, nth_meets, cleared_alike, sweep_is}

abbrev took_some : Option Swept → Bool
took_some (Some w) = true
took_some None = false

never : (s : Slot) (k : ℕ) → swept_after s k ≡ None → ⊥
never s k e = clash {b = true} refl (ap took_some e)

module _ (l : Label) (t : List ℕ) where
  lap_on : (n k : ℕ) (s : Slot) (first : Option Slot) → unused (row_flags t s) ≡ false
      → lap_from (suc n) k l t s first ≡ lap_from n (suc k) l t (next_slot l s) (first_closed first s (closed (row_flags t s)))
  unfolding lap_from
  lap_on n k s first e = rw (lap_from, e)

  lap_takes : (n k : ℕ) (s : Slot) (first : Option Slot) → unused (row_flags t s) ≡ true → lap_from (suc n) k l t s first ≡ swept_after s k
  unfolding lap_from
  lap_takes n k s first e = rw (lap_from, e)

  lap_ends : (k : ℕ) (s : Slot) (first : Option Slot) → lap_from 0 k l t s first ≡ lap_end l.slots first
  unfolding lap_from
  lap_ends k s first = refl

  -- a closed slot was met: the round does not end stuck
  not_stuck : (n k : ℕ) (s first : Slot) → lap_from n k l t s (Some first) ≡ None → ⊥
  not_stuck zero k s first e = never _ _ (sym (lap_ends k s (Some first)) ∙ e)
  not_stuck (suc n) k s first e = go (told (unused (row_flags t s))) (not_stuck n (suc k) (next_slot l s) first)
    where
      go : Told (unused (row_flags t s)) → (lap_from n (suc k) l t (next_slot l s) (Some first) ≡ None → ⊥) → ⊥
      go (told_true u) ih = never _ _ (sym (lap_takes n k s (Some first) u) ∙ e)
      go (told_false u) ih = ih (sym (lap_on n k s (Some first) u) ∙ e)

  -- a round that ends stuck met open slots alone
  met_open : (n k : ℕ) (s : Slot) → s.0 < l.slots → lap_from n k l t s None ≡ None
      → (j : ℕ) → j < n → writing (row_flags t (nth l j s)) ≡ true
  unfolding nth
  met_open zero k s h e j q = absurd (omega arith)
  met_open (suc n) k s h e j q = go (told (unused (row_flags t s))) (told (writing (row_flags t s))) j q
      (λ g. met_open n (suc k) (next_slot l s) (next_low l s h) g)
    where
      rest : unused (row_flags t s) ≡ false → (m : Option Slot) → first_closed None s (closed (row_flags t s)) ≡ m
          → lap_from n (suc k) l t (next_slot l s) m ≡ None
      rest u m d = ap (lap_from n (suc k) l t (next_slot l s)) (sym d) ∙ sym (lap_on n k s None u) ∙ e

      go : Told (unused (row_flags t s)) → Told (writing (row_flags t s)) → (j : ℕ) → j < suc n
          → (lap_from n (suc k) l t (next_slot l s) None ≡ None → (i : ℕ) → i < n → writing (row_flags t (nth l i (next_slot l s))) ≡ true)
          → writing (row_flags t (nth l j s)) ≡ true
      go (told_true u) w j p ih = absurd (never _ _ (sym (lap_takes n k s None u) ∙ e))
      go (told_false u) (told_true w) zero p ih = w
      go (told_false u) (told_true w) (suc i) p ih = ih (rest u None (rw w)) i (omega arith)
      go (told_false u) (told_false w) j p ih =
          absurd (not_stuck n (suc k) (next_slot l s) s (rest u (Some s) (rw w)))

  -- 12: no slot was found
  pub stuck_all : (h : Slot) → length t ≡ table_length l → h.0 < l.slots → swept_of l t h ≡ None → all_writing t ≡ true
  stuck_all h size low e = each_of (λ s block flags. writing flags) 0 t each
    where
      each : (s : ℕ) → 2 * s + 1 < length t → writing (get_or t (2 * s + 1) 0) ≡ true
      each s q =
          let m = nth_meets l h (record { 0 = s }) low (omega (arith, size)) in
          subst (λ (u : Slot). writing (row_flags t u) ≡ true) m.2
          (met_open l.slots 0 h low e m.0 m.1)

-- a slot was found: one of the table's, and not open
pub record Found (l : Label) (t : List ℕ) (s : Slot) : Type 0 where
  pub low : s.0 < l.slots
  pub shut : writing (row_flags t s) ≡ false

-- a dirty row's block is the label's
pub dirty-block : (l : Label) (t : List ℕ) → Rows l t → (s : Slot) → s.0 < l.slots → dirty (row_flags t s) ≡ true
    → (row_block t s).0 < l.blocks
dirty-block l t R s h d = let r = R s.0 h in r.low (dirty_holds r.flags d)

-- the table once n slots were passed: its rows, but for used flags
pub record Passed (l : Label) (t v : List ℕ) : Type 0 where
  pub size : length v ≡ table_length l
  pub legal : Rows l v
  pub dirty_is : (s : Slot) → s.0 < l.slots → dirty (row_flags v s) ≡ dirty (row_flags t s)

pub passed_is : (n : ℕ) (l : Label) (t : List ℕ) (h : Slot) → length t ≡ table_length l → Rows l t → h.0 < l.slots
    → Passed l t (cleared_from n l t h)
passed_is n l t h size R low =
    let A = cleared_alike n l t t (alike_same l t size R) h low in
    record {
      size = A.size;
      legal = A.legal;
      dirty_is = λ s k. sym (at_dirty l (cleared_from n l t h) A.legal s.0 k) ∙ ap dirty_row (A.row s.0) ∙ at_dirty l t R s.0 k;
    }

module _ (l : Label) (t : List ℕ) (h s : Slot) (k : ℕ) (size : length t ≡ table_length l) (R : Rows l t) (low : h.0 < l.slots)
    (e : swept_after s k ≡ swept_of l t h) where
  pub swept_is : sweep l t h ≡ Some (record { slot = s; table = cleared_from k l t h })
  swept_is = sweep_is l t h size low ∙ ap (victim_of l t h) (sym e)

  of : {v : Victim} → Rattle.laws.proofs.refine.Sweeps.Swept l t (Some v) → Found l t v.slot
  of (Rattle.laws.proofs.refine.Sweeps.took v a w u A) = record {
    low = a;
    shut = sym (at_open l t R v.slot.0 a) ∙ ap open_row (sym (A.row v.slot.0)) ∙ at_open l v.table A.legal v.slot.0 a ∙ w;
  }

  pub took_is : Found l t s
  took_is = of (subst (Rattle.laws.proofs.refine.Sweeps.Swept l t) swept_is (swept (2 * l.slots) l t t (alike_same l t size R) h low))

  -- 12 does not hold
  pub not-all : all_writing t ≡ false
  not-all = go (told (all_writing t))
    where
      go : Told (all_writing t) → all_writing t ≡ false
      go (told_true a) = clash (each_get (λ s block flags. writing flags) 0 t a s.0 (omega (arith, size, took_is.low))) took_is.shut
      go (told_false a) = a
