-- What a sweep takes: a slot that is not open, with nothing but used flags changed.
use Prim.Native.Nat.{ℕ, zero, suc, ◌+◌, ◌*◌, ◌%◌, ◌<◌}
use mathlib.Core.Path.{◌≡◌, refl, ◌∙◌}
use mathlib.Core.Bool.{true, false}
use mathlib.Core.List.{List}
use Rattle.std.specs.Prelude.{Option, Some, None}
use native.Mathlib.Omega.{arith}
use native.Mathlib.Decide.{ℕ_discrete}
use lib.ListN.{length, get_or, set, length-set}
use lib.Dec.{ltb}
use borrow.Author.Tests.{ltb-true}
use Rattle.layout.specs.declared.Slot.{Slot}
use Rattle.layout.specs.declared.Label.{Label}
use Rattle.layout.specs.Places.{table_length}
use Rattle.protocol.specs.Rows.{row_flags, set_flags, writing, used, without_used}
use Rattle.protocol.specs.Sweep.{next_slot, Victim, sweep_from}
use Rattle.layout.proofs.Booleans.{Told, told, told_true, told_false}
use Rattle.laws.proofs.model.Base.{upd, upd_same, upd_other}
use Rattle.laws.proofs.refine.Flags.{row_of, Changed, changed_row, changed_unused}
use Rattle.laws.proofs.refine.Tables.{row_at, Rows, flags_at, flags_rows}

-- two tables with the same rows, but for used flags
pub record Alike (l : Label) (t v : List ℕ) : Type 0 where
  pub size : length v ≡ table_length l
  pub legal : Rows l v
  pub row : (u : ℕ) → row_at v u ≡ row_at t u

pub alike_same : (l : Label) (t : List ℕ) → length t ≡ table_length l → Rows l t → Alike l t t
alike_same l t size R = record { size = size; legal = R; row = λ u. refl }

-- a change of one row's flags that leaves the model's row
pub alike_flags : (l : Label) (t v : List ℕ) → Alike l t v → (s f : ℕ) → s < l.slots
    → Changed (get_or v (2 * s) 0) (get_or v (2 * s + 1) 0) f (row_of (get_or v (2 * s) 0) (get_or v (2 * s + 1) 0 % 8))
    → Alike l t (set v (2 * s + 1) f)
unfolding row_at
alike_flags l t v A s f h C =
    record {
      size = length-set v (2 * s + 1) f ∙ A.size;
      legal = flags_rows l v A.size s f h A.legal (changed_row (A.legal s h) C);
      row = λ u. flags_at l v A.size s f h u ∙ go u (ℕ_discrete u s) ∙ A.row u;
    }
  where
    go : (u : ℕ) → Dec (u ≡ s) → upd (row_at v) s (row_of (get_or v (2 * s) 0) (f % 8)) u ≡ row_at v u
    go u (yes e) = rw (e, upd_same) C.row
    go u (no n) = upd_other (row_at v) s _ u n

pub next_low : (l : Label) (s : Slot) → s.0 < l.slots → (next_slot l s).0 < l.slots
next_low l s h = go (told (ltb (suc s.0) l.slots))
  where
    go : Told (ltb (suc s.0) l.slots) → (next_slot l s).0 < l.slots
    go (told_true e) = rw (next_slot, e) (ltb-true _ _ e)
    go (told_false e) = rw (next_slot, e) (omega arith)

pub data Swept (l : Label) (t : List ℕ) : Option Victim → Type 0 where
  took : (v : Victim) → v.slot.0 < l.slots → writing (row_flags v.table v.slot) ≡ false
      → used (row_flags v.table v.slot) ≡ false → Alike l t v.table → Swept l t (Some v)
  stuck : Swept l t None

pub swept : (n : ℕ) (l : Label) (t v : List ℕ) → Alike l t v → (s : Slot) → s.0 < l.slots → Swept l t (sweep_from n l v s)
unfolding sweep_from
swept zero l t v A s h = stuck
swept (suc n) l t v A s h = go (told (writing (row_flags v s))) (told (used (row_flags v s)))
    (λ z B. swept n l t z B (next_slot l s) (next_low l s h))
  where
    go : Told (writing (row_flags v s)) → Told (used (row_flags v s))
        → ((z : List ℕ) → Alike l t z → Swept l t (sweep_from n l z (next_slot l s)))
        → Swept l t (elim (writing (row_flags v s)) [
          | true ↦ sweep_from n l v (next_slot l s)
          | false ↦ elim (used (row_flags v s)) [
            | true ↦ sweep_from n l (set_flags v s (without_used (row_flags v s))) (next_slot l s)
            | false ↦ Some (record { slot = s; table = v })
          ]
        ])
    go (told_true w) x ih = rw w (ih v A)
    go (told_false w) (told_true u) ih =
        rw (w, u) (ih (set_flags v s (without_used (row_flags v s)))
        (alike_flags l t v A s.0 (without_used (row_flags v s)) h (changed_unused (A.legal s.0 h).flags _)))
    go (told_false w) (told_false u) ih = rw (w, u) (took (record { slot = s; table = v }) h w u A)
