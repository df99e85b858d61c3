-- A place by its turn: what it leaves is what document 02 says of it, and what an opening rests on.
use Prim.Native.Nat.{ℕ, ◌+◌, ◌*◌, ◌%◌, ◌<◌}
use mathlib.Core.Path.{◌≡◌, refl, sym, ap, subst, ◌∙◌}
use mathlib.Core.Bool.{Bool, true, false}
use mathlib.Core.List.{List}
use Rattle.std.specs.Prelude.{Option, Some, None, Result, Ok, Err}
use native.Mathlib.Omega.{arith}
use lib.ListN.{get_or}
use lib.Dec.{leb}
use borrow.Author.Tests.{leb-true, leb-false, lt-leb}
use Rattle.layout.specs.declared.Slot.{Slot}
use Rattle.layout.specs.declared.Block.{Block}
use Rattle.layout.specs.declared.Label.{Label}
use Rattle.layout.proofs.Booleans.{Told, told, told_true, told_false, clash}
use Rattle.record.specs.declared.Record.{Record}
use Rattle.record.specs.Record.{label_in}
use Rattle.protocol.specs.declared.Condition.{Condition}
use Rattle.protocol.specs.declared.Condition.TheVariants.{NotCached, Clean, Dirty, Writing, Fetching}
use Rattle.protocol.specs.declared.Refusal.{Refusal}
use Rattle.protocol.specs.declared.Refusal.TheVariants.{BlockTooHigh, SlotOpen, WindowFull, AllOpen, ImportFull}
use Rattle.protocol.specs.Reply.{overwrite}
use Rattle.protocol.specs.Rows.{row_flags, dirty, with_writing, open_rows}
use Rattle.protocol.specs.Box.{Box}
use Rattle.protocol.specs.Condition.{condition_of}
use Rattle.protocol.specs.Sweep.{next_slot}
use Rattle.protocol.specs.Plan.{stay, opens, takes, takes_as, offering, import_open, Offered, declines, dealt_with, placed_as}
use Rattle.laws.proofs.model.Model.{Row, open_row}
use Rattle.laws.proofs.refine.Flags.{row_of, LegalRow, f7, Changed, changed_open, changed_row}
use Rattle.laws.proofs.refine.Tables.{Rows, at_open}
use Rattle.laws.proofs.refine.Conditions.{Stands, absent, is_clean, is_dirty, is_writing_is, is_fetching, stands}
use Rattle.laws.proofs.refine.Sweeps.{alike_same, next_low}
use Rattle.sweeping.specs.declared.Swept.{Swept}
use Rattle.sweeping.specs.Sweeps.{swept_of, cleared_from, swept_after}
use Rattle.sweeping.proofs.SweepLaws.{cleared_alike}
use Rattle.turns.specs.declared.turn.Turn.{Turn}
use Rattle.turns.specs.declared.turn.Turn.TheVariants.{Passes, Opens, CopiesOut}
use Rattle.turns.specs.Turns.{crowd_of, if_room, take_turn, offer_turn, Performable}
use Rattle.turns.proofs.SweepingLaws.{Found, stuck_all, swept_is, took_is, not-all, passed_is}
use Rattle.turns.proofs.TurnLaws.{hand-low, crowd_import, crowd_full, crowd_none}
use Rattle.list_turns.proofs.PlaceTurnLaws.{turn_high, turn_low}
use Rattle.list_run.specs.Runs.{Fair, bare, place_turn}
use Rattle.list_run.proofs.FairLaws.{fair-rows, fair-count, Opened}

module _ (t : List ℕ) (r : Record) (b : Block) (caller : ℕ) where
  abbrev x : Box
  x = bare t r

  -- a place whose block is in a condition
  abbrev place : Condition → Offered → Option Offered
  place k z = placed_as (declines x b caller k) z (offering x b caller k)

  -- what a turn is of it: refused; passed; a slot opened; a slot to copy out
  pub data Placing (k : Condition) : Result Turn Refusal → Type 0 where
    declined : (n : Refusal) → ((z : Offered) → place k z ≡ None) → Placing k (Err n)
    passing : ((z : Offered) → place k z ≡ dealt_with z (stay overwrite)) → Placing k (Ok Passes)
    opening : (s : Slot) (f n : ℕ) (hand : Slot)
        → ((z : Offered) → place k z ≡ dealt_with z (opens r s b caller f (cleared_from n (label_in r) t r.hand) hand))
        → Opened t r b s f (cleared_from n (label_in r) t r.hand) hand → Placing k (Ok (Opens s f n hand))
    copying : (s : Slot) (n : ℕ) → ((z : Offered) → place k z ≡ None) → s.0 < r.label.slots → dirty (row_flags t s) ≡ true
        → Placing k (Ok (CopiesOut s n))

  -- it can be performed
  pub placing_performs : Fair t r → {k : Condition} {T : Result Turn Refusal} → Placing k T → Performable T t r
  placing_performs F (declined n h) = tt
  placing_performs F (passing h) = tt
  placing_performs F (opening s f n hand h O) = (O.low, omega (arith, fair-count F, O.few))
  placing_performs F (copying s n h low d) = (low, d)

  module _ (F : Fair t r) (bl : b.0 < r.label.blocks) where
    abbrev l : Label
    l = label_in r

    R : Rows l t
    R = fair-rows F

    low : r.hand.0 < r.label.slots
    low = hand-low r F.record_kept

    within : leb r.label.blocks b.0 ≡ false
    within = lt-leb r.label.blocks b.0 bl

    -- declined, or not
    by : (k : Condition) {d : Bool} → declines x b caller k ≡ d → (z : Offered) → place k z ≡ placed_as d z (offering x b caller k)
    by k e z = ap (λ (q : Bool). placed_as q z (offering x b caller k)) e

    -- 17 and 11 leave room, or refuse
    crowd : (k : Condition) (T : Result Turn Refusal) → (import_open caller r ≡ true → declines x b caller k ≡ true)
        → (import_open caller r ≡ false → leb 63 (open_rows t) ≡ true → declines x b caller k ≡ true)
        → (import_open caller r ≡ false → leb 63 (open_rows t) ≡ false → Placing k T) → Placing k (if_room (crowd_of t r caller) T)
    crowd k T yes17 yes11 room = go (told (import_open caller r)) (told (leb 63 (open_rows t)))
      where
        at : (n : Option Refusal) → n ≡ crowd_of t r caller → Placing k (if_room n T) → Placing k (if_room (crowd_of t r caller) T)
        at n e p = subst (λ (m : Option Refusal). Placing k (if_room m T)) e p

        go : Told (import_open caller r) → Told (leb 63 (open_rows t)) → Placing k (if_room (crowd_of t r caller) T)
        go (told_true a) f = at (Some ImportFull) (crowd_import t r caller a) (declined ImportFull (by k (yes17 a)))
        go (told_false a) (told_true f) = at (Some WindowFull) (crowd_full t r caller a f) (declined WindowFull (by k (yes11 a f)))
        go (told_false a) (told_false f) = at None (crowd_none t r caller a f) (room a f)

    -- a slot that the sweep took
    took : (s : Slot) (n : ℕ) → swept_of l t r.hand ≡ swept_after s n → open_rows t < 63 → declines x b caller NotCached ≡ false
        → Placing NotCached (take_turn l t 7 (swept_after s n))
    took s n e few kept = go (told (dirty (row_flags t s)))
      where
        v : List ℕ
        v = cleared_from n l t r.hand

        H : Found l t s
        H = took_is l t r.hand s n F.size R low (sym e)

        move : offering x b caller NotCached ≡ takes_as (dirty (row_flags t s)) r b caller 7 (record { slot = s; table = v })
        move = ap (takes r b caller 7) (swept_is l t r.hand s n F.size R low (sym e))
            ∙ ap (λ (d : Bool). takes_as d r b caller 7 (record { slot = s; table = v }))
            ((passed_is n l t r.hand F.size R low).dirty_is s H.low)

        moved : {d : Bool} → dirty (row_flags t s) ≡ d → (z : Offered)
            → place NotCached z ≡ dealt_with z (takes_as d r b caller 7 (record { slot = s; table = v }))
        moved d z = by NotCached kept z ∙ ap (dealt_with z) (move ∙ ap (λ (d : Bool). takes_as d r b caller 7 (record { slot = s; table = v })) d)

        go : Told (dirty (row_flags t s)) → Placing NotCached (take_turn l t 7 (swept_after s n))
        go (told_true d) = rw (d, take_turn) (copying s n (moved d) H.low d)
        go (told_false d) = rw (d, take_turn) (opening s 7 n (next_slot l s) (moved d) (record {
          low = H.low;
          alike = cleared_alike n l t t (alike_same l t F.size R) r.hand low;
          hand-low = next_low l s H.low;
          row = record { flags = f7; low = λ _. bl; free = λ q. clash {b = true} refl q };
          is_open_is = unfold row_of in refl;
          was_shut = at_open l t R s.0 H.low ∙ H.shut;
          few = few;
        }))

    swept : (w : Option Swept) → swept_of l t r.hand ≡ w → import_open caller r ≡ false → leb 63 (open_rows t) ≡ false
        → Placing NotCached (take_turn l t 7 w)
    swept None e a f = declined AllOpen (by NotCached {d = true} (rw (within, a, f) (stuck_all l t r.hand F.size low e)))
    swept (Some v) e a f = took v.slot v.passed e (leb-false 63 (open_rows t) f)
        (rw (within, a, f) (not-all l t r.hand v.slot v.passed F.size R low (sym e)))

    stand : {k : Condition} → Stands l t b.0 k → Placing k (offer_turn t r caller k)
    unfolding cleared_from
    stand (absent h) =
        crowd NotCached _ (λ a. rw (within, a)) (λ a f. rw (within, a, f)) (λ a f. swept (swept_of l t r.hand) refl a f)
    stand (is_clean s H w d) =
        crowd (Clean (record { 0 = s })) _ (λ a. rw (within, a)) (λ a f. rw (within, a, f)) (λ a f. clean a f)
      where
        flags : ℕ
        flags = with_writing (get_or t (2 * s + 1) 0)

        C : Changed (get_or t (2 * s) 0) (get_or t (2 * s + 1) 0) flags (Row.writing (get_or t (2 * s) 0))
        C = changed_open (R s H.low).flags (get_or t (2 * s) 0) H.held w d

        clean : import_open caller r ≡ false → leb 63 (open_rows t) ≡ false
            → Placing (Clean (record { 0 = s })) (Ok (Opens (record { 0 = s }) (with_writing (row_flags t (record { 0 = s }))) 0 r.hand))
        clean a f = opening (record { 0 = s }) flags 0 r.hand (by (Clean (record { 0 = s })) {d = false} (rw (within, a, f))) (record {
          low = H.low;
          alike = alike_same l t F.size R;
          hand-low = low;
          row = subst (λ (n : ℕ). LegalRow l n flags) H.block (changed_row (R s H.low) C);
          is_open_is = subst (λ (n : ℕ). open_row (row_of n (flags % 8)) ≡ true) H.block (ap open_row C.row);
          was_shut = at_open l t R s H.low ∙ w;
          few = leb-false 63 (open_rows t) f;
        })
    stand (is_dirty s H w d) = passing (by (Dirty (record { 0 = s })) {d = false} (rw within))
    stand (is_writing_is s H w d) = declined SlotOpen (by (Writing (record { 0 = s })) {d = true} (rw within))
    stand (is_fetching s H w d) = declined SlotOpen (by (Fetching (record { 0 = s })) {d = true} (rw within))

    pub placing : Placing (condition_of t b) (offer_turn t r caller (condition_of t b))
    placing = stand (stands l t F.size b)

  -- 7 refuses it
  pub placing_high : leb r.label.blocks b.0 ≡ true → (k : Condition) → Placing k (Err BlockTooHigh)
  placing_high e k = declined BlockTooHigh (λ z. ap (λ (q : Bool). placed_as q z (offering x b caller k)) high)
    where
      high : declines x b caller k ≡ true
      high = rw e

  pub place_turn_is : Fair t r → Placing (condition_of t b) (place_turn t r b caller)
  place_turn_is F = go (told (leb r.label.blocks b.0))
    where
      at : {T : Result Turn Refusal} → T ≡ place_turn t r b caller → Placing (condition_of t b) T → Placing (condition_of t b) (place_turn t r b caller)
      at e p = subst (λ (T : Result Turn Refusal). Placing (condition_of t b) T) e p

      go : Told (leb r.label.blocks b.0) → Placing (condition_of t b) (place_turn t r b caller)
      go (told_true e) = at (turn_high (label_in r) t r.hand (crowd_of t r caller) b (leb-true _ _ e)) (placing_high e (condition_of t b))
      go (told_false e) = at (turn_low (label_in r) t r.hand (crowd_of t r caller) b (leb-false _ _ e)) (placing F (leb-false _ _ e))
