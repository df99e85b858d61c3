-- 5 of a table: the rule of each row, and that rows, window and phase agree.
use Prim.Native.Nat.{ℕ, ◌%◌, ◌<◌}
use mathlib.Core.Path.{◌≡◌, refl, ap}
use mathlib.Core.Bool.{Bool, true, false, not, ◌&&◌}
use mathlib.Core.List.{List, [], ◌∷◌}
use native.Mathlib.Nat.{zero-add}
use lib.Dec.{eqb}
use borrow.Author.Tests.{ltb-true, eqb-true, not-true, lt-ltb, eq-eqb}
use Rattle.layout.specs.declared.Slot.{Slot}
use Rattle.layout.specs.declared.Label.{Label}
use Rattle.layout.specs.PageRule.{listed}
use Rattle.layout.proofs.Booleans.{clash, not_of}
use Rattle.layout.proofs.RuleLaws.{◌⇔◌, pair-rule}
use Rattle.record.specs.declared.Record.{Record}
use Rattle.record.specs.declared.Phase.{Phase}
use Rattle.record.specs.declared.Phase.TheVariants.{Formatting, Recovering, Ready}
use Rattle.protocol.specs.Rows.{row_block, row_flags, valid, writing, used, each_row}
use Rattle.record.specs.Record.{label_in, window_in}
use Rattle.protocol.specs.Judge.{row_test, is_empty, agree_test, rows_test}
use Rattle.record.specs.Window.{each_slot}
use Rattle.protocol.specs.Why.{IsRow, RowRule, Agree, RowsRule}
use Rattle.laws.proofs.refine.Tables.{each_get, each_of}
use Rattle.laws.proofs.why.Basics.{none_same, and_same, if_same, is_same, via}
use Rattle.record.proofs.Each.{listed_same}

-- a test at every row
pub each_same : (t : ℕ → ℕ → ℕ → Bool) (P : ℕ → ℕ → ℕ → Type 0) → ((s b f : ℕ) → t s b f ⇔ P s b f)
    → (table : List ℕ) → each_row t 0 table ⇔ ((s : Slot) → IsRow table s → P s.0 (row_block table s).0 (row_flags table s))
each_same t P e table = (
  λ h s q. (e s.0 _ _).0 (rw zero-add at (each_get t 0 table h s.0 q)),
  λ h. each_of t 0 table λ s q. rw zero-add ((e s _ _).1 (h (record { 0 = s }) q)),
)

-- and at every slot of a window
slots_same : (t : Slot → Bool) (P : Slot → Type 0) → ((s : Slot) → t s ⇔ P s) → (w : List Slot)
    → each_slot t w ⇔ ((s : Slot) → listed s w ≡ true → P s)
slots_same t P e w = (λ h s q. (e s).0 ((listed_same t w).0 h s q), λ h. (listed_same t w).1 (λ s q. (e s).1 (h s q)))

pub row_same : (l : Label) (block flags : ℕ) → row_test l block flags ⇔ RowRule l block flags
unfolding row_test
row_same l block flags =
    via
    (and_same (pair-rule l block (flags % 8))
    (and_same {P = flags < 16} (ltb-true _ _, lt-ltb _ _) (if_same (is_same (used flags)) (is_same (valid flags)))))
    (λ h. record { pair = h.0; no_more = h.1.0; used-valid = h.1.1 })
    (λ h. (h.pair, (h.no_more, h.used-valid)))

zero_same : (b f : ℕ) → (eqb b 0 && eqb f 0) ⇔ ((b ≡ 0) × (f ≡ 0))
zero_same b f = and_same (eqb-true b 0, eq-eqb b 0) (eqb-true f 0, eq-eqb f 0)

false_same : (t : Bool) → not t ⇔ (t ≡ false)
false_same t = (not-true t, not_of t)

empty_same : (w : List Slot) → is_empty w ⇔ (w ≡ [])
empty_same [] = (λ h. refl, λ h. refl)
empty_same (s ∷ w) = (λ h. clash h refl, λ h. ap is_empty h)

pub agree_same : (p : Phase) (table : List ℕ) (w : List Slot) → agree_test p table w ⇔ Agree p table w
agree_same Ready table w =
    via
    (and_same
    (slots_same _ (λ s. writing (row_flags table s) ≡ true) (λ s. is_same _) w)
    (each_same _ (λ s b f. writing f ≡ true → listed (record { 0 = s }) w ≡ true) (λ s b f. if_same (is_same _) (is_same _)) table))
    (λ h. record { listed_open = h.0; open_listed = h.1 })
    (λ h. (h.listed_open, h.open_listed))
agree_same Recovering table w =
    via
    (and_same (none_same (empty_same w))
    (and_same
    (slots_same _ (λ s. ((row_block table s).0 ≡ 0) × (row_flags table s ≡ 0)) (λ s. zero_same _ _) w)
    (each_same _ (λ s b f. writing f ≡ false) (λ s b f. false_same _) table)))
    (λ h. record { some_pending = h.0; pending_zero = h.1.0; none_writing = h.1.1 })
    (λ h. (h.some_pending, (h.pending_zero, h.none_writing)))
agree_same (Formatting d) table w =
    via
    (and_same (empty_same w) (each_same _ (λ s b f. (b ≡ 0) × (f ≡ 0)) (λ s b f. zero_same b f) table))
    (λ h. record { none_listed = h.0; all_zero_is = h.1 })
    (λ h. (h.none_listed, h.all_zero_is))

pub rows_same : (r : Record) (table : List ℕ) → rows_test r table ⇔ RowsRule r table
unfolding rows_test
rows_same r table =
    via
    (and_same (each_same _ (λ s b f. RowRule (label_in r) b f) (λ s b f. row_same (label_in r) b f) table)
    (agree_same r.phase table (window_in r)))
    (λ h. record { each = h.0; agree = h.1 })
    (λ h. (h.each, h.agree))
