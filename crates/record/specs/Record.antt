-- The record (document 01, "Record"): its label, its window and the callers of its places (document 02, N7), and the record with another
-- value of a field.
use Rattle.std.specs.Prelude.{ℕ, Bool, false, List, take, replicate}
use Rattle.layout.specs.declared.Slot.{Slot}
use Rattle.layout.specs.declared.Label.{Label}
use Rattle.layout.specs.declared.Window.{Window}
use Rattle.layout.specs.Window.{window_most, window_from}
use Rattle.record.specs.declared.Record.{Record}
use Rattle.record.specs.declared.Phase.{Phase}
use Rattle.record.specs.Callers.{caller_array}

-- the label of a record
abbrev pub label_in : Record → Label
label_in r = r.label

-- the record's window, "zero past its length"; its slots, up to its length
abbrev pub window_of : Record → Window
window_of r = record { slots = r.window; count = r.count }

unfoldable pub window_in : Record → List Slot
window_in r = take r.count r.window

-- "Each window place in the record names its caller": those of its places, up to its length
unfoldable pub callers_in : Record → List ℕ
callers_in r = take r.count r.callers

-- a new record: "Reopening starts with nothing open", and so does a format; every caller is 0
abbrev pub record_with : Label → Slot → ℕ → Phase → Bool → Window → Record
record_with l hand newest phase unconfirmed w = record {
  label = l;
  hand = hand;
  newest = newest;
  phase = phase;
  unconfirmed = unconfirmed;
  window = w.slots;
  count = w.count;
  callers = replicate window_most 0;
}

-- the same, with the slots of its window
abbrev pub record_of : Label → Slot → ℕ → Phase → Bool → List Slot → Record
record_of l hand newest phase unconfirmed window = record_with l hand newest phase unconfirmed (window_from window)

-- a record with other values of the fields that calls change, the callers apart
abbrev remade : Record → Slot → ℕ → Phase → Bool → Window → Record
remade r hand newest phase unconfirmed w = record {
  label = r.label;
  hand = hand;
  newest = newest;
  phase = phase;
  unconfirmed = unconfirmed;
  window = w.slots;
  count = w.count;
  callers = r.callers;
}

-- the record with another hand; with another phase; with the stamp of a metadata store ("it clears unsettled"); with
-- another window and unconfirmed
abbrev pub with_hand : Record → Slot → Record
with_hand r hand = remade r hand r.newest r.phase r.unconfirmed (window_of r)

abbrev pub with_phase : Record → Phase → Record
with_phase r phase = remade r r.hand r.newest phase r.unconfirmed (window_of r)

abbrev pub with_stamp : Record → ℕ → Record
with_stamp r newest = remade r r.hand newest r.phase false (window_of r)

abbrev pub put_window : Record → Bool → Window → Record
put_window r unconfirmed w = remade r r.hand r.newest r.phase unconfirmed w

abbrev pub with_window : Record → Bool → List Slot → Record
with_window r unconfirmed window = put_window r unconfirmed (window_from window)

-- the record with another array of callers; with other callers of its places
abbrev pub put_callers : Record → List ℕ → Record
put_callers r callers = record {
  label = r.label;
  hand = r.hand;
  newest = r.newest;
  phase = r.phase;
  unconfirmed = r.unconfirmed;
  window = r.window;
  count = r.count;
  callers = callers;
}

abbrev pub with_callers : Record → List ℕ → Record
with_callers r callers = put_callers r (caller_array callers)
