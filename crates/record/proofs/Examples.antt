-- Computed cases of the record and its window.
use Prim.Native.Nat.{ℕ}
use mathlib.Core.Path.{◌≡◌, refl}
use mathlib.Core.Bool.{true, false}
use mathlib.Core.List.{List, [], ◌∷◌}
use lib.ListN.{replicate}
use Rattle.layout.specs.declared.Slot.{Slot}
use Rattle.layout.specs.Places.{label_of, within_limits, meta_pages, meta_span}
use Rattle.layout.specs.PageRule.{listed, distinct, in_range}
use Rattle.layout.specs.Window.{window_from, array_of}
use Rattle.record.specs.declared.Record.{Record}
use Rattle.record.specs.declared.Phase.{Phase}
use Rattle.record.specs.declared.Phase.TheVariants.{Formatting, Recovering, Ready}
use Rattle.record.specs.Window.{each_place, zero_slots, without, beside}
use Rattle.record.specs.Callers.{open_by, caller_array}
use Rattle.record.specs.Record.{window_in, callers_in, record_with, record_of, with_hand, with_phase, with_stamp, with_window, with_callers}
use Rattle.record.specs.Rule.{record_test}

abbrev slot : ℕ → Slot
slot n = record { 0 = n }

-- of three slots one leaves: the order of the others stays
leaves : without (slot 1) (slot 2 ∷ slot 1 ∷ slot 0 ∷ []) ≡ slot 2 ∷ slot 0 ∷ []
unfolding without
leaves = refl

-- its caller leaves with it, and is counted no more
leaves-caller : beside {A = ℕ} (slot 1) (slot 2 ∷ slot 1 ∷ slot 0 ∷ []) (1 ∷ 0 ∷ 1 ∷ []) ≡ 1 ∷ 1 ∷ []
unfolding beside
leaves-caller = refl

import_leaves : open_by 1 (beside (slot 2) (slot 2 ∷ slot 1 ∷ slot 0 ∷ []) (1 ∷ 0 ∷ 1 ∷ [])) ≡ 1
unfolding open_by beside
import_leaves = refl

-- a record of 4 slots and 8 blocks
abbrev boxed : Slot → Phase → List Slot → Record
boxed hand phase w = record_of (label_of 4 8) hand 7 phase true w

reads_back : window_in (boxed (slot 3) Ready (slot 2 ∷ slot 0 ∷ [])) ≡ slot 2 ∷ slot 0 ∷ []
unfolding window_in array_of
reads_back = refl

-- the stamp of a store, and settled; the rest stays
stamped : with_stamp (boxed (slot 3) Ready (slot 2 ∷ [])) 8 ≡ record_with (label_of 4 8) (slot 3) 8 Ready false (window_from (slot 2 ∷ []))
stamped = refl

-- each change is of its own field
others : with_phase (with_hand (with_window (boxed (slot 3) Ready (slot 2 ∷ [])) false []) (slot 1)) Recovering
    ≡ record_of (label_of 4 8) (slot 1) 7 Recovering false []
others = refl

-- "hand 4 with slots 4"; a window repeated; a slot out of range; not zero past its length; more steps than a format has
taken : record_test (boxed (slot 3) Ready (slot 2 ∷ slot 0 ∷ [])) ≡ true
unfolding record_test window_in array_of within_limits in_range distinct listed zero_slots each_place
taken = refl

hand_high : record_test (boxed (slot 4) Ready []) ≡ false
unfolding record_test window_in array_of within_limits in_range distinct listed zero_slots each_place
hand_high = refl

twice : record_test (boxed (slot 3) Ready (slot 2 ∷ slot 2 ∷ [])) ≡ false
unfolding record_test window_in array_of within_limits in_range distinct listed zero_slots each_place
twice = refl

slot_high : record_test (boxed (slot 3) Ready (slot 4 ∷ [])) ≡ false
unfolding record_test window_in array_of within_limits in_range distinct listed zero_slots each_place
slot_high = refl

past-length : record_test (record_with (label_of 4 8) (slot 3) 7 Ready true (record { slots = replicate 63 (slot 2); count = 1 })) ≡ false
unfolding record_test window_in array_of within_limits in_range distinct listed zero_slots each_place
past-length = refl

steps-most : record_test (boxed (slot 3) (Formatting 2) []) ≡ true
unfolding record_test window_in array_of within_limits meta_span meta_pages in_range distinct listed zero_slots each_place
steps-most = refl

steps_high : record_test (boxed (slot 3) (Formatting 3) []) ≡ false
unfolding record_test window_in array_of within_limits meta_span meta_pages in_range distinct listed zero_slots each_place
steps_high = refl

-- callers: another than 0 or 1; one past the window's length; one while mending
abbrev named : Phase → List Slot → List ℕ → Record
named phase w callers = with_callers (boxed (slot 3) phase w) callers

reads-callers : callers_in (named Ready (slot 2 ∷ slot 0 ∷ []) (1 ∷ 0 ∷ [])) ≡ 1 ∷ 0 ∷ []
unfolding callers_in array_of caller_array
reads-callers = refl

callers-taken : record_test (named Ready (slot 2 ∷ slot 0 ∷ []) (1 ∷ 0 ∷ [])) ≡ true
unfolding record_test window_in array_of caller_array within_limits in_range distinct listed zero_slots each_place
callers-taken = refl

caller_high : record_test (named Ready (slot 2 ∷ slot 0 ∷ []) (1 ∷ 2 ∷ [])) ≡ false
unfolding record_test window_in array_of caller_array within_limits in_range distinct listed zero_slots each_place
caller_high = refl

caller-past : record_test (named Ready (slot 2 ∷ []) (0 ∷ 1 ∷ [])) ≡ false
unfolding record_test window_in array_of caller_array within_limits in_range distinct listed zero_slots each_place
caller-past = refl

caller_pending : record_test (named Recovering (slot 2 ∷ []) (1 ∷ [])) ≡ false
unfolding record_test window_in array_of caller_array within_limits in_range distinct listed zero_slots each_place
caller_pending = refl

-- "Reopening starts with nothing open": a new record names no caller
nobody_new : callers_in (boxed (slot 3) Ready (slot 2 ∷ slot 0 ∷ [])) ≡ 0 ∷ 0 ∷ []
unfolding callers_in array_of
nobody_new = refl
