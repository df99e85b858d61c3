-- What a turn of a place rests on, and the tables that it leaves: closed slots stay closed, so table and window stay sound.
use Prim.Native.Nat.{ℕ, suc, ◌+◌, ◌-◌, ◌*◌, ◌%◌, ◌<◌}
use mathlib.Core.Path.{◌≡◌, refl, sym, ap, subst, ◌∙◌}
use mathlib.Core.Logic.{◌⊎◌, inl, inr}
use mathlib.Core.Bool.{Bool, true, false}
use mathlib.Core.List.{List}
use Rattle.std.specs.Prelude.{Option, Some, None, Result, Ok, Err}
use Rattle.protocol.specs.declared.Refusal.{Refusal}
use Rattle.protocol.specs.declared.Refusal.TheVariants.{SlotOpen, AllOpen}
use native.Mathlib.Omega.{arith}
use native.Mathlib.Decide.{ℕ_discrete}
use native.Mathlib.Nat.{zero-add}
use lib.ListN.{length, get_or, set, length-set}
use lib.Dec.{ltb}
use lib.Seq.{get_or-set_same, set-set}
use borrow.Author.Tests.{lt-ltb, le-leb, eq-eqb, ltb-true}
use Rattle.layout.specs.declared.Slot.{Slot}
use Rattle.layout.specs.declared.Block.{Block}
use Rattle.layout.specs.declared.Label.{Label}
use Rattle.layout.proofs.Booleans.{Told, told, told_true, told_false, clash, and_of}
use Rattle.record.specs.declared.Record.{Record}
use Rattle.record.specs.declared.Phase.{Phase}
use Rattle.record.specs.declared.Phase.TheVariants.{Ready}
use Rattle.record.specs.Record.{label_in, window_in, window_of, with_hand, with_stamp, put_window}
use Rattle.record.specs.Rule.{record_test}
use Rattle.record.proofs.RecordLaws.{parts}
use Rattle.protocol.specs.declared.Condition.{Condition}
use Rattle.protocol.specs.declared.Condition.TheVariants.{NotCached, Dirty}
use Rattle.protocol.specs.Rows.{row_flags, set_flags, set_row, valid, dirty, writing, used, without_dirty, with_writing}
use Rattle.protocol.specs.Condition.{condition_at, condition_of}
use Rattle.protocol.specs.Sweep.{Victim, next_slot}
use Rattle.protocol.specs.Perform.{landed_flags}
use Rattle.protocol.specs.Judge.{agree_test, rows_test}
use Rattle.laws.proofs.model.Base.{upd, upd_same, upd_other, has}
use Rattle.laws.proofs.model.Model.{open_row}
use Rattle.laws.proofs.refine.Flags.{row_of, Flags, f0, f1, f3, f5, f7, f9, f11, f13, f15, LegalRow, flags_legal_lem, cleaned_flags}
use Rattle.laws.proofs.refine.Tables.{row_at, Rows, at_open, set_at, set-rows, length-row}
use Rattle.laws.proofs.refine.Windows.{nums}
use Rattle.laws.proofs.refine.Conditions.{Located, at, nowhere, located}
use Rattle.laws.proofs.refine.Sweeps as sweeps
use Rattle.laws.proofs.refine.Sweeps.{Alike, alike_same, next_low}
use Rattle.laws.proofs.Sound.{Sound, sound_agree, sound_alike, sound_copies, sound_lands, rows-legal}
use Rattle.laws.proofs.why.RowsRules.{agree_same}
use Rattle.sweeping.specs.declared.Swept.{Swept}
use Rattle.sweeping.specs.Sweeps.{lap_from, swept_of, cleared_from, swept_after}
use Rattle.turns.specs.declared.turn.Turn.{Turn}
use Rattle.turns.specs.declared.turn.Turn.TheVariants.{Passes, Opens, CopiesOut}
use Rattle.turns.specs.Turns.{if_room, take_turn, offer_turn_at}
use Rattle.turns.proofs.SweepingLaws.{swept_is, passed_is}
use Rattle.turns.proofs.TurnLaws.{hand-low}
use Rattle.list_turns.specs.Found.{Unheld}
use Rattle.list_run.specs.Runs.{Fair}
use Rattle.list_run.proofs.FairLaws.{fair-rows, fair_sound}
use Rattle.import_run.specs.Runs.{landed_row, copied_table, Lands}

-- the record of a run: of the one that was handed in hand, newest stamp and unconfirmed alone are others
abbrev pub ran_as : Record → Slot → ℕ → Bool → Record
ran_as r hand newest u = put_window (with_stamp (with_hand r hand) newest) u (window_of r)

-- a closed slot's row is set, and stays closed
pub sound_sets : {l : Label} {t : List ℕ} {w : List Slot} → Sound l t w → (s b f : ℕ) → s < l.slots → LegalRow l b f
    → open_row (row_of b (f % 8)) ≡ false → open_row (row_at t s) ≡ false → Sound l (set_row t (record { 0 = s }) (record { 0 = b }) f) w
sound_sets {l} {t} {w} S s b f h L o c = record {
  size = length-row l t S.size s b f h;
  legal = set-rows l t S.size s b f h S.legal L;
  rule = S.rule;
  open_is = λ u. ap open_row (set_at l t S.size s b f h u) ∙ go u (ℕ_discrete u s);
}
  where
    go : (u : ℕ) → Dec (u ≡ s) → open_row (upd (row_at t) s (row_of b (f % 8)) u) ≡ has (nums w) u
    go u (yes e) = rw (e, upd_same) (o ∙ sym c ∙ S.open_is s)
    go u (no n) = rw upd_other (S.open_is u)

-- what 3 to 6 ask of a run's record and table
pub fair_of : (r : Record) → record_test r ≡ true → r.phase ≡ Ready → {t : List ℕ} → Sound (label_in r) t (window_in r) → (hand : Slot)
    → hand.0 < r.label.slots → (newest : ℕ) (u : Bool) → Fair t (ran_as r hand newest u)
unfolding record_test rows_test window_in
fair_of r e on {t} S hand low newest u =
    let P = parts r e in
    record {
      size = S.size;
      record_kept = rw (
        P.in_limits,
        lt-ltb _ _ low,
        P.steps,
        le-leb r.count 63 P.most,
        eq-eqb _ _ P.size,
        P.ranged,
        P.apart,
        P.past,
      ) P.named;
      rows = and_of ((rows-legal (label_in r) t S.size).1 S.legal)
          (subst (λ (p : Phase). agree_test p t (window_in r) ≡ true) (sym on) ((agree_same Ready t (window_in r)).1 (sound_agree S)));
      ready = on;
    }

-- the flags of a slot that is opened: 7, or 15 of a clean one that was used
abbrev pub Opened : ℕ → Type 0
Opened f = (f ≡ 7) ⊎ (f ≡ 15)

pub landed_flags_lem : {f : ℕ} → Opened f → landed_flags true f ≡ 11
landed_flags_lem (inl e) = rw e
landed_flags_lem (inr e) = rw e

pub opened_few : {f : ℕ} → Opened f → f < 16
opened_few (inl e) = omega arith
opened_few (inr e) = omega arith

clean-opened : {f : ℕ} → Flags f → valid f ≡ true → writing f ≡ false → dirty f ≡ false → Opened (with_writing f)
clean-opened f0 v w d = clash {b = false} v refl
clean-opened f1 v w d = inl refl
clean-opened f3 v w d = clash {b = true} refl d
clean-opened f5 v w d = clash {b = true} refl w
clean-opened f7 v w d = clash {b = true} refl w
clean-opened f9 v w d = inr refl
clean-opened f11 v w d = clash {b = true} refl d
clean-opened f13 v w d = clash {b = true} refl w
clean-opened f15 v w d = clash {b = true} refl w

-- a sweep from such a slot takes it
sweeps-first : (l : Label) (t : List ℕ) (s : Slot) → 0 < l.slots → writing (row_flags t s) ≡ false → used (row_flags t s) ≡ false
    → swept_of l t s ≡ swept_after s 0
unfolding lap_from
sweeps-first l t s h w u =
    let n : ℕ = l.slots - 1 in
    let e : l.slots ≡ suc n = omega arith in
    ap (λ (m : ℕ). lap_from m 0 l t s None) e ∙ rw (lap_from, w, u)

-- a place of a fair table, whose block is low; this refuses another slot, if anything does
module _ {t : List ℕ} {r : Record} (F : Fair t r) (b : Block) (bl : b.0 < r.label.blocks) (number : Option Refusal) where
  abbrev l : Label
  l = label_in r

  abbrev v : ℕ → List ℕ
  v n = cleared_from n l t r.hand

  -- a closed slot is opened; no row below it holds the block
  pub record OpensAt (s : Slot) (f n : ℕ) (hand : Slot) : Type 0 where
    pub low : s.0 < r.label.slots
    pub alike : Alike l t (v n)
    pub hand-low : hand.0 < r.label.slots
    pub flags : Opened f
    pub was_shut : open_row (row_at t s.0) ≡ false
    pub unheld : Unheld s.0 t b.0
    pub room : number ≡ None

  -- a closed, dirty slot is copied out; no row holds the block
  pub record CopiesAt (s : Slot) (n : ℕ) : Type 0 where
    pub low : s.0 < r.label.slots
    pub alike : Alike l t (v n)
    pub is_shut : writing (row_flags (v n) s) ≡ false
    pub is_unused : used (row_flags (v n) s) ≡ false
    pub is_dirty : dirty (row_flags (v n) s) ≡ true
    pub unheld : Unheld r.label.slots t b.0
    pub room : number ≡ None

  -- what a turn is
  pub data Turned : Condition → Result Turn Refusal → Type 0 where
    refuses : {k : Condition} (e : Refusal) → Turned k (Err e)
    passes : (s : Slot) → s.0 < r.label.slots → valid (row_flags t s) ≡ true → writing (row_flags t s) ≡ false → Turned (Dirty s) (Ok Passes)
    opens : {k : Condition} (s : Slot) (f n : ℕ) (hand : Slot) → OpensAt s f n hand → Turned k (Ok (Opens s f n hand))
    copies : (s : Slot) (n : ℕ) → CopiesAt s n → Turned NotCached (Ok (CopiesOut s n))

  R : Rows l t
  R = fair-rows F

  low : r.hand.0 < r.label.slots
  low = hand-low r F.record_kept

  -- another slot is refused, or there is room
  roomy : {k : Condition} (T : Result Turn Refusal) → (number ≡ None → Turned k T) → Turned k (if_room number T)
  roomy {k} T f = go number f
    where
      go : (o : Option Refusal) → (o ≡ None → Turned k T) → Turned k (if_room o T)
      go None g = g refl
      go (Some e) g = refuses e

  module _ (none-holds : Unheld r.label.slots t b.0) (room : number ≡ None) where
    took : (s : Slot) (n : ℕ) → swept_of l t r.hand ≡ swept_after s n → Turned NotCached (take_turn l t 7 (swept_after s n))
    took s n e = go (subst (λ (o : Option Victim). sweeps.Swept l t o) (swept_is l t r.hand s n F.size R low (sym e))
        (sweeps.swept (2 * l.slots) l t t (alike_same l t F.size R) r.hand low))
      where
        go : sweeps.Swept l t (Some (record { slot = s; table = v n })) → Turned NotCached (take_turn l t 7 (swept_after s n))
        go (sweeps.took _ a w u A) = by (told (dirty (row_flags t s)))
          where
            was_shut : open_row (row_at t s.0) ≡ false
            was_shut = ap open_row (sym (A.row s.0)) ∙ at_open l (v n) A.legal s.0 a ∙ w

            by : Told (dirty (row_flags t s)) → Turned NotCached (take_turn l t 7 (swept_after s n))
            by (told_true d) = rw (d, take_turn) (copies s n (record {
              low = a;
              alike = A;
              is_shut = w;
              is_unused = u;
              is_dirty = (passed_is n l t r.hand F.size R low).dirty_is s a ∙ d;
              unheld = none-holds;
              room = room;
            }))
            by (told_false d) = rw (d, take_turn) (opens s 7 n (next_slot l s) (record {
              low = a;
              alike = A;
              hand-low = next_low l s a;
              flags = inl refl;
              was_shut = was_shut;
              unheld = λ u k. none-holds u (omega arith);
              room = room;
            }))

    swept : (w : Option Swept) → swept_of l t r.hand ≡ w → Turned NotCached (take_turn l t 7 w)
    swept None e = refuses AllOpen
    swept (Some v) e = took v.slot v.passed e

  pub turned : Turned (condition_of t b) (offer_turn_at l t r.hand number (condition_of t b))
  unfolding condition_of cleared_from
  turned = go (located 0 t b)
    where
      by_flags : (s : Slot) → s.0 < r.label.slots → valid (row_flags t s) ≡ true → Unheld s.0 t b.0
          → Told (writing (row_flags t s)) → Told (dirty (row_flags t s))
          → Turned (condition_at t (Some s)) (offer_turn_at l t r.hand number (condition_at t (Some s)))
      by_flags s h val un (told_true w) (told_true d) = rw (condition_at, w, d) (refuses SlotOpen)
      by_flags s h val un (told_true w) (told_false d) = rw (condition_at, w, d) (refuses SlotOpen)
      by_flags s h val un (told_false w) (told_true d) = rw (condition_at, w, d) (passes s h val w)
      by_flags s h val un (told_false w) (told_false d) = rw (condition_at, w, d) (roomy _ (λ z. opens s (with_writing (row_flags t s)) 0
          r.hand (record {
            low = h;
            alike = alike_same l t F.size R;
            hand-low = low;
            flags = clean-opened (R s.0 h).flags val w d;
            was_shut = at_open l t R s.0 h ∙ w;
            unheld = un;
            room = z;
          })))

      go : {o : Option Slot} → Located 0 t b.0 o → Turned (condition_at t o) (offer_turn_at l t r.hand number (condition_at t o))
      go (nowhere h) = roomy _ (λ z. swept (λ s k. h s (omega (arith, F.size))) z (swept_of l t r.hand) refl)
      go (at i h val q un) = rw (zero-add i) (by_flags (record { 0 = i }) (omega (arith, F.size)) val un
          (told (writing (get_or t (2 * i + 1) 0))) (told (dirty (get_or t (2 * i + 1) 0))))

  S : Sound l t (window_in r)
  S = fair_sound F

  -- a page lands in a dirty slot
  pub lands_in_is : (s : Slot) → s.0 < r.label.slots → Lands t s
  lands_in_is s h = (omega (arith, F.size), few (flags_legal_lem (R s.0 h).flags).1)
    where
      few : ltb (row_flags t s) 16 ≡ true → row_flags t s < 16
      few e = ltb-true _ _ e

  pub lands_sound : (s : Slot) → s.0 < r.label.slots → valid (row_flags t s) ≡ true → writing (row_flags t s) ≡ false
      → Sound l (landed_row t s) (window_in r)
  lands_sound s h val w = sound_lands S true s.0 h val w

  -- a slot is opened and its page lands
  module _ (s : Slot) (f n : ℕ) (hand : Slot) (O : OpensAt s f n hand) where
    row_fits : 2 * s.0 + 1 < length (v n)
    row_fits = omega (arith, O.alike.size, O.low)

    pub opened_flags : row_flags (set_row (v n) s b f) s ≡ f
    opened_flags = get_or-set_same (set (v n) (2 * s.0) b.0) (2 * s.0 + 1) f 0 (omega (
      arith,
      row_fits,
      length-set (v n) (2 * s.0)
          b.0,
    ))

    pub landed_is : landed_row (set_row (v n) s b f) s ≡ set_row (v n) s b 11
    landed_is =
        ap (λ (g : ℕ). set_flags (set_row (v n) s b f) s (landed_flags true g)) opened_flags
        ∙ ap (λ (g : ℕ). set_flags (set_row (v n) s b f) s g) (landed_flags_lem O.flags)
        ∙ set-set (set (v n) (2 * s.0) b.0) (2 * s.0 + 1) f 11

    pub opened_sound : Sound l (landed_row (set_row (v n) s b f) s) (window_in r)
    opened_sound = rw landed_is
        (sound_sets (sound_alike S O.alike) s.0 b.0 11 O.low
        (record { flags = f11; low = λ _. bl; free = λ q. clash {b = true} refl q })
        (unfold row_of in refl) (ap open_row (O.alike.row s.0) ∙ O.was_shut))

  -- a slot is copied out, and the next turn takes it
  module _ (s : Slot) (n : ℕ) (C : CopiesAt s n) where
    abbrev t₂ : List ℕ
    t₂ = copied_table l t r.hand s n

    pub copied_sound : Sound l t₂ (window_in r)
    copied_sound = sound_copies (sound_alike S C.alike) s.0 C.low C.is_shut

    flags_are : row_flags t₂ s ≡ without_dirty (row_flags (v n) s)
    flags_are = get_or-set_same (v n) (2 * s.0 + 1) _ 0 (omega (arith, C.alike.size, C.low))

    pub copied_shut : writing (row_flags t₂ s) ≡ false
    copied_shut =
        ap writing flags_are ∙ (cleaned_flags (C.alike.legal s.0 C.low).flags C.is_shut C.is_unused).0

    pub next_turn : offer_turn_at l t₂ s number NotCached ≡ Ok (Opens s 7 0 (next_slot l s))
    next_turn =
        let f = cleaned_flags (C.alike.legal s.0 C.low).flags C.is_shut C.is_unused in
        ap (λ (m : Option Refusal). if_room m (take_turn l t₂ 7 (swept_of l t₂ s))) C.room
        ∙ ap (take_turn l t₂ 7) (sweeps-first l t₂ s (omega (arith, C.low)) (ap writing flags_are ∙ f.0) (ap used flags_are ∙ f.1))
        ∙ ap (λ (d : Bool). elim d [ true ↦ Ok (CopiesOut s 0) | false ↦ Ok (Opens s 7 0 (next_slot l s)) ]) (ap dirty flags_are ∙ f.2)
