-- The record's rule, number 3 of document 01's table: the test, and beside it the proposition in its words.
use Rattle.std.specs.Prelude.{ℕ, ◌+◌, ◌≤◌, ◌<◌, ◌≡◌, ◌≢◌, Bool, true, ◌&&◌, length, get_or, drop, eqb, ltb, leb}
use Rattle.layout.specs.declared.Label.{Label}
use Rattle.layout.specs.Places.{Limits, within_limits, meta_span}
use Rattle.layout.specs.PageRule.{distinct, in_range}
use Rattle.layout.specs.Window.{window_most}
use Rattle.record.specs.declared.Record.{Record}
use Rattle.record.specs.declared.Phase.{Phase}
use Rattle.record.specs.declared.Phase.TheVariants.{Formatting, Recovering, Ready}
use Rattle.record.specs.Window.{zero_slots}
use Rattle.record.specs.Callers.{named_places, callers_test}
use Rattle.record.specs.Record.{window_in}

-- 3: "a record number out of range, window repeated or not zero past its length" (the window is an array of 63); document 02, N7: and
-- each place's caller, 0 "where pending or past the length (another is 3)"
abbrev pub steps_test : Label → Phase → Bool
steps_test l (Formatting d) = leb d (meta_span l + 1)
steps_test l Recovering = true
steps_test l Ready = true

unfoldable pub record_test : Record → Bool
record_test r =
    within_limits r.label
    && (ltb r.hand.0 r.label.slots
    && (steps_test r.label r.phase
    && (leb r.count window_most
    && (eqb (length r.window) window_most
    && (in_range r.label (window_in r)
    && (distinct (window_in r)
    && (zero_slots (drop r.count r.window) && callers_test (named_places r.phase r.count) r.callers)))))))

-- 3: every number of the record in range, the window's slots in range, none repeated, zero past its length; each place's caller 0 or 1,
-- and 0 past the length, and while mending, when every place is pending
pub record RecordRule (r : Record) : Type 0 where
  pub limits : Limits r.label
  pub hand : r.hand.0 < r.label.slots
  pub steps : (d : ℕ) → r.phase ≡ Formatting d → d ≤ meta_span r.label + 1
  pub count : r.count ≤ 63
  pub array : length r.window ≡ 63
  pub in_range_is : (k : ℕ) → k < r.count → (get_or r.window k (record { 0 = 0 })).0 < r.label.slots
  pub apart : (k m : ℕ) → k < m → m < r.count → (get_or r.window k (record { 0 = 0 })).0 ≢ (get_or r.window m (record { 0 = 0 })).0
  pub past : (k : ℕ) → r.count ≤ k → (get_or r.window k (record { 0 = 0 })).0 ≡ 0
  pub callers : length r.callers ≡ 63
  pub known : (k : ℕ) → k < r.count → get_or r.callers k 0 ≤ 1
  pub nobody_past : (k : ℕ) → r.count ≤ k → get_or r.callers k 0 ≡ 0
  pub nobody_pending : r.phase ≡ Recovering → (k : ℕ) → get_or r.callers k 0 ≡ 0
