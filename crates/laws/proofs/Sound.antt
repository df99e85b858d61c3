-- What every service of a ready box rests on: table and window are sound. It is what 3 and 5 ask of a ready box, and each change that a
-- call makes of a row or of the window keeps it.
use Prim.Native.Nat.{ℕ, ◌+◌, ◌*◌, ◌%◌, ◌≤◌, ◌<◌}
use mathlib.Core.Path.{◌≡◌, refl, sym, ap, ◌∙◌}
use mathlib.Core.Bool.{Bool, true, false, not, ◌&&◌}
use mathlib.Core.List.{List, [], ◌∷◌, ◌++◌}
use native.Mathlib.Omega.{arith}
use native.Mathlib.Decide.{ℕ_discrete, dec_lt}
use lib.ListN.{length, get_or, set, length-set, get_or-eq_default}
use lib.Dec.{eqb, leb}
use borrow.Author.Tests.{leb-true, le-leb}
use Rattle.layout.specs.declared.Slot.{Slot}
use Rattle.layout.specs.declared.Label.{Label}
use Rattle.layout.specs.Places.{table_length}
use Rattle.layout.specs.PageRule.{distinct, in_range}
use Rattle.layout.proofs.Booleans.{Told, told, told_true, told_false, clash}
use Rattle.layout.proofs.RuleLaws.{◌⇔◌}
use Rattle.record.specs.declared.Phase.TheVariants.{Ready}
use Rattle.protocol.specs.Rows.{set_flags, set_row, row_flags, valid, writing, with_used, without_dirty, each_row, open_rows}
use Rattle.record.specs.Window.{without}
use Rattle.protocol.specs.Perform.{landed_flags}
use Rattle.protocol.specs.Judge.{row_test, agree_test}
use Rattle.protocol.specs.Why.{ReadyAgree}
use Rattle.laws.proofs.model.Base as base
use Rattle.laws.proofs.model.Base.{upd, upd_same, upd_other, has, Window, snoc_window, keep_window, has_snoc, has_snoc_other, has_keep_in, has_keep_out, not_same, not-other}
use Rattle.laws.proofs.model.Model.{Row, open_row, shut}
use Rattle.laws.proofs.model.Rows.{shut_open, cleaned_open}
use Rattle.laws.proofs.refine.Windows.{nums, length_nums, nums_append, nums_one, has_nums, nums_without, distinct_nums, below_nums, window_of_lem}
use Rattle.laws.proofs.refine.Flags.{row_of, LegalRow, legal-row, row-legal, Changed, changed_row, changed_clean, changed_used, changed_landed}
use Rattle.laws.proofs.refine.Tables.{row_at, row_at_out, Rows, set_at, set-rows, length-row, flags_at, flags_rows, at_open, each_get, each_of}
use Rattle.laws.proofs.refine.Counting.{window-count}
use Rattle.laws.proofs.refine.Sweeps.{Alike}
use Rattle.laws.proofs.why.Basics.{and_same, via}
use Rattle.laws.proofs.why.RowsRules.{agree_same}

-- the table has its length and every row is legal, the window keeps its rule, and its slots are exactly the writing rows
pub record Sound (l : Label) (t : List ℕ) (w : List Slot) : Type 0 where
  pub size : length t ≡ table_length l
  pub legal : Rows l t
  pub rule : Window l.slots (nums w)
  pub open_is : (s : ℕ) → open_row (row_at t s) ≡ has (nums w) s

module _ {l : Label} {t : List ℕ} {w : List Slot} (S : Sound l t w) where
  pub listed-low : (s : ℕ) → has (nums w) s ≡ true → s < l.slots
  listed-low s h = go (dec_lt s l.slots)
    where
      go : Dec (s < l.slots) → s < l.slots
      go (yes q) = q
      go (no q) = clash (S.open_is s ∙ h) (ap open_row (row_at_out t s (omega (arith, S.size))))

  pub writing_is : (s : ℕ) → s < l.slots → writing (get_or t (2 * s + 1) 0) ≡ has (nums w) s
  writing_is s h = sym (at_open l t S.legal s h) ∙ S.open_is s

  -- where fewer than 63 rows are open the window has room
  pub room : open_rows t < 63 → length (nums w) < 63
  room h = omega (arith, window-count (nums w) t S.rule.apart each)
    where
      each : (s : ℕ) → has (nums w) s ≡ true → (2 * s + 1 < length t) × (writing (get_or t (2 * s + 1) 0) ≡ true)
      each s q = (omega (arith, listed-low s q, S.size), writing_is s (listed-low s q) ∙ q)

  pub sound_agree : ReadyAgree t w
  sound_agree = record {
    listed_open = λ s h. let q = has_nums w s.0 ∙ h in writing_is s.0 (listed-low s.0 q) ∙ q;
    open_listed = λ s h o. sym (has_nums w s.0) ∙ sym (writing_is s.0 (omega (arith, S.size))) ∙ o;
  }

  -- used flags alone are changed: a sweep's passing
  pub sound_alike : {v : List ℕ} → Alike l t v → Sound l v w
  sound_alike A = record { size = A.size; legal = A.legal; rule = S.rule; open_is = λ s. ap open_row (A.row s) ∙ S.open_is s }

  -- the flags of a row are changed, and it is open as it was
  sound_flags : (s g : ℕ) {r : Row} → s < l.slots → Changed (get_or t (2 * s) 0) (get_or t (2 * s + 1) 0) g r → open_row r ≡ open_row (row_at t s)
      → Sound l (set t (2 * s + 1) g) w
  sound_flags s g h C o = record {
    size = length-set t (2 * s + 1) g ∙ S.size;
    legal = flags_rows l t S.size s g h S.legal (changed_row (S.legal s h) C);
    rule = S.rule;
    open_is = λ u. ap open_row (flags_at l t S.size s g h u) ∙ at u (ℕ_discrete u s);
  }
    where
      at : (u : ℕ) → Dec (u ≡ s) → open_row (upd (row_at t) s (row_of (get_or t (2 * s) 0) (g % 8)) u) ≡ has (nums w) u
      at u (yes e) = rw (e, upd_same) (ap open_row C.row ∙ o ∙ S.open_is s)
      at u (no n) = rw upd_other (S.open_is u)

  -- used is set
  pub sound_uses : (s : ℕ) → s < l.slots → valid (get_or t (2 * s + 1) 0) ≡ true
      → Sound l (set_flags t (record { 0 = s }) (with_used (row_flags t (record { 0 = s })))) w
  sound_uses s h v = sound_flags s _ h (changed_used (S.legal s h).flags _ v) (unfold row_at in refl)

  -- a closed slot is copied out
  pub sound_copies : (s : ℕ) → s < l.slots → writing (get_or t (2 * s + 1) 0) ≡ false
      → Sound l (set_flags t (record { 0 = s }) (without_dirty (row_flags t (record { 0 = s })))) w
  sound_copies s h o = sound_flags s _ h (changed_clean (S.legal s h).flags _ o) (unfold row_at in (cleaned_open (row_at t s)))

  -- a slot is opened
  pub sound_opens : (s b f : ℕ) → s < l.slots → LegalRow l b f → open_row (row_of b (f % 8)) ≡ true → open_row (row_at t s) ≡ false
      → length (nums w) < 63 → Sound l (set_row t (record { 0 = s }) (record { 0 = b }) f) (w ++ (record { 0 = s } ∷ []))
  sound_opens s b f h L o c few = record {
    size = length-row l t S.size s b f h;
    legal = set-rows l t S.size s b f h S.legal L;
    rule = rw names (snoc_window l.slots (nums w) s h (sym (S.open_is s) ∙ c) few S.rule);
    open_is = λ u. ap open_row (set_at l t S.size s b f h u) ∙ at u (ℕ_discrete u s) ∙ ap (λ (z : List ℕ). has z u) (sym names);
  }
    where
      names : nums (w ++ (record { 0 = s } ∷ [])) ≡ nums w ++ (s ∷ [])
      names = nums_append w (record { 0 = s } ∷ []) ∙ ap (λ (z : List ℕ). nums w ++ z) (nums_one (record { 0 = s }))

      at : (u : ℕ) → Dec (u ≡ s) → open_row (upd (row_at t) s (row_of b (f % 8)) u) ≡ has (nums w ++ (s ∷ [])) u
      at u (yes e) = rw (e, upd_same, has_snoc) o
      at u (no n) = rw (upd_other, has_snoc_other) (S.open_is u)

  -- a page lands in a slot that is not open
  pub sound_lands : (write : Bool) (s : ℕ) → s < l.slots → valid (get_or t (2 * s + 1) 0) ≡ true → writing (get_or t (2 * s + 1) 0) ≡ false
      → Sound l (set_flags t (record { 0 = s }) (landed_flags write (row_flags t (record { 0 = s })))) w
  sound_lands write s h v o =
      sound_flags s _ h (changed_landed write (S.legal s h).flags _ v)
      (shut_open (row_of (get_or t (2 * s) 0) (get_or t (2 * s + 1) 0 % 8)) ∙ sym (at_open l t S.legal s h ∙ o))

  -- a page lands in an open slot, which is closed
  pub sound_closes : (write : Bool) (s : ℕ) → s < l.slots → valid (get_or t (2 * s + 1) 0) ≡ true
      → Sound l (set_flags t (record { 0 = s }) (landed_flags write (row_flags t (record { 0 = s })))) (without (record { 0 = s }) w)
  sound_closes write s h v = record {
    size = length-set t (2 * s + 1) _ ∙ S.size;
    legal = flags_rows l t S.size s _ h S.legal (changed_row (S.legal s h) C);
    rule = rw names (keep_window _ l.slots (nums w) S.rule);
    open_is = λ u. ap open_row (flags_at l t S.size s _ h u) ∙ at u (ℕ_discrete u s) ∙ ap (λ (z : List ℕ). has z u) (sym names);
  }
    where
      C : Changed (get_or t (2 * s) 0) (get_or t (2 * s + 1) 0) (landed_flags write (get_or t (2 * s + 1) 0))
          (shut (row_of (get_or t (2 * s) 0) (get_or t (2 * s + 1) 0 % 8)))
      C = changed_landed write (S.legal s h).flags (get_or t (2 * s) 0) v

      names : nums (without (record { 0 = s }) w) ≡ base.without (nums w) s
      names = nums_without (record { 0 = s }) w (sym (distinct_nums w) ∙ S.rule.apart)

      at : (u : ℕ) → Dec (u ≡ s)
          → open_row (upd (row_at t) s (row_of (get_or t (2 * s) 0) (landed_flags write (get_or t (2 * s + 1) 0) % 8)) u) ≡ has (base.without (nums w) s) u
      at u (yes e) =
          rw (e, upd_same, C.row, has_keep_out (λ z. not (eqb z s)) (nums w) s (not_same s))
          (shut_open (row_of (get_or t (2 * s) 0) (get_or t (2 * s + 1) 0 % 8)))
      at u (no n) = rw (upd_other, has_keep_in (λ z. not (eqb z s)) (nums w) u (not-other u s n)) (S.open_is u)

-- The tests of 3 and 5.

-- every row is legal
pub rows-legal : (l : Label) (t : List ℕ) → length t ≡ table_length l → each_row (λ s block flags. row_test l block flags) 0 t ⇔ Rows l t
rows-legal l t size = (
  λ e s h. legal-row l _ _ (each_get (λ s block flags. row_test l block flags) 0 t e s (omega arith)),
  λ R. each_of (λ s block flags. row_test l block flags) 0 t (λ s h. row-legal l _ _ (R s (omega arith))),
)

-- the window's rule
window_same : (l : Label) (w : List Slot) → (leb (length w) 63 && (in_range l w && distinct w)) ⇔ Window l.slots (nums w)
window_same l w =
    via
    (and_same {P = length w ≤ 63} (leb-true _ _, le-leb _ _)
    (and_same {P = in_range l w ≡ true} {Q = distinct w ≡ true} (λ h. h, λ h. h) (λ h. h, λ h. h)))
    (λ h. window_of_lem l w h.0 h.1.1 h.1.0)
    (λ W. (omega (arith, W.fits, length_nums w), (sym (below_nums l w) ∙ W.in_slots, sym (distinct_nums w) ∙ W.apart)))

-- what 3 and 5 ask of table and window of a ready box
abbrev pub asked : Label → List ℕ → List Slot → Bool
asked l t w =
    (leb (length w) 63 && (in_range l w && distinct w))
    && (each_row (λ s block flags. row_test l block flags) 0 t && agree_test Ready t w)

pub sound_of : (l : Label) (t : List ℕ) (w : List Slot) → length t ≡ table_length l → Rows l t → Window l.slots (nums w) → ReadyAgree t w
    → Sound l t w
sound_of l t w size R W A = record { size = size; legal = R; rule = W; open_is = λ s. go s (dec_lt s l.slots) (told (has (nums w) s)) }
  where
    here : (s : ℕ) → has (nums w) s ≡ true → writing (get_or t (2 * s + 1) 0) ≡ true
    here s h = A.listed_open (record { 0 = s }) (sym (has_nums w s) ∙ h)

    closed : (s : ℕ) → s < l.slots → has (nums w) s ≡ false → Told (writing (get_or t (2 * s + 1) 0))
        → writing (get_or t (2 * s + 1) 0) ≡ false
    closed s q h (told_true o) = clash (has_nums w s ∙ A.open_listed (record { 0 = s }) (omega arith) o) h
    closed s q h (told_false o) = o

    go : (s : ℕ) → Dec (s < l.slots) → Told (has (nums w) s) → open_row (row_at t s) ≡ has (nums w) s
    go s (yes q) (told_true h) = at_open l t R s q ∙ here s h ∙ sym h
    go s (yes q) (told_false h) = at_open l t R s q ∙ closed s q h (told (writing (get_or t (2 * s + 1) 0))) ∙ sym h
    go s (no q) (told_true h) = clash (here s h) (ap writing (get_or-eq_default t 0 {n = 2 * s + 1} (omega arith)))
    go s (no q) (told_false h) = ap open_row (row_at_out t s (omega arith)) ∙ sym h

pub sound_same : (l : Label) (t : List ℕ) (w : List Slot) → length t ≡ table_length l → asked l t w ⇔ Sound l t w
sound_same l t w size =
    via (and_same (window_same l w) (and_same (rows-legal l t size) (agree_same Ready t w)))
    (λ h. sound_of l t w size h.1.0 h.0 h.1.1)
    (λ S. (S.rule, (S.legal, sound_agree S)))
