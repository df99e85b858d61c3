-- A place of an import, as the definition has it, is the place of the run in memory.
use Prim.Native.Nat.{ℕ, ◌+◌, ◌*◌, ◌%◌, ◌≤◌, ◌<◌}
use mathlib.Core.Path.{◌≡◌, refl, sym, ap, subst, ◌∙◌}
use mathlib.Core.Logic.{inl, inr}
use mathlib.Core.Bool.{Bool, true, false, not}
use mathlib.Core.List.{List, [], ◌∷◌}
use Rattle.std.specs.Prelude.{Option, Some, None, Result, Ok, Err}
use Rattle.std.proofs.lemmas.Option.{none-some}
use native.Mathlib.Omega.{arith}
use lib.ListN.{length, get_or, set}
use lib.Seq.{get_or-set_same, get_or-set_other}
use lib.Dec.{leb}
use borrow.Author.Tests.{leb-false, le-ltb, lt-leb, eq-eqb}
use Rattle.pages.specs.Pages.{zero_page}
use Rattle.pages.proofs.PageLaws.{length_zero}
use Rattle.layout.specs.declared.Slot.{Slot}
use Rattle.layout.specs.declared.Block.{Block}
use Rattle.layout.specs.declared.Label.{Label}
use Rattle.layout.specs.Places.{ssd_length, hdd_length}
use Rattle.layout.specs.PageRule.{listed}
use Rattle.layout.proofs.Booleans.{Told, told, told_true, told_false, clash}
use Rattle.record.specs.declared.Record.{Record}
use Rattle.record.specs.declared.Phase.TheVariants.{Ready}
use Rattle.record.specs.Record.{label_in, window_in, callers_in, with_stamp}
use Rattle.record.specs.Rule.{record_test}
use Rattle.protocol.specs.declared.Condition.{Condition}
use Rattle.protocol.specs.declared.Condition.TheVariants.{NotCached, Dirty, Writing}
use Rattle.protocol.specs.Reply.{Reply, refusal, refused, copied_out}
use Rattle.protocol.specs.Rows.{row_flags, set_row, valid, dirty, writing, open_rows}
use Rattle.protocol.specs.Box.{Box, Effect, refusing}
use Rattle.protocol.specs.Condition.{open_as, closed_as, condition_of, takes_write}
use Rattle.protocol.specs.Sweep.{next_slot}
use Rattle.protocol.specs.Plan.{offer, land, lands, opens as opening, landing, plan}
use Rattle.protocol.specs.Perform.{joined, landed_state, confirmed, perform}
use Rattle.protocol.specs.Kinds.{to_write, to_land}
use Rattle.protocol.specs.declared.Refusal.{Refusal}
use Rattle.protocol.specs.declared.Refusal.TheVariants.{BlockTooHigh, WrongState, WindowFull, StampsSpent, ImportFull}
use Rattle.protocol.specs.Judge.{number_of, lengths_test, rows_test, test}
use Rattle.protocol.specs.Calls.{effect_of, box_of}
use Rattle.protocol.specs.Cost.{Tally, tallied, tallies, is_copied_out, repeats, offers_to, lands_unless, imports}
use Rattle.laws.proofs.model.Model.{open_row}
use Rattle.laws.proofs.refine.Flags.{row_of, f7, f15, LegalRow}
use Rattle.laws.proofs.refine.Tables.{row_at}
use Rattle.laws.proofs.refine.Windows.{has_nums}
use Rattle.laws.proofs.Judged.{first_no, refuses as refusing-is, does}
use Rattle.judging.specs.Judging.{sound_then, ready_then, serves_then}
use Rattle.judging.proofs.JudgingLaws.{goes_on, ready_asks}
use Rattle.judging.proofs.ServeLaws.{end, first_judged, judged_on, offer_judges, land_judges}
use Rattle.sweeping.specs.Sweeps.{cleared_from}
use Rattle.turns.specs.declared.turn.Turn.{Turn}
use Rattle.turns.specs.declared.turn.Turn.TheVariants.{Passes, Opens, CopiesOut}
use Rattle.turns.specs.Turns.{held_by, crowd_by, offer_turn_at, spent, turned as performed}
use Rattle.turns.proofs.TurnLaws.{hand-low, record_limits}
use Rattle.performing.proofs.PerformLaws.{offer_turned}
use Rattle.list_turns.specs.Found.{Unheld}
use Rattle.list_run.specs.Runs.{Fair}
use Rattle.list_run.proofs.FairLaws.{fair-rows, fair_sound, fair-count, opened-fair}
use Rattle.list_turns.proofs.FoundLaws.{unheld_alike}
use Rattle.import_run.specs.declared.Run.{Run}
use Rattle.import_run.specs.Runs.{Steady, After, meets, copies_out, landed_row, lands_in, opens_if, taken, copied_table, offered, dirty_slot, place_after, counts_in}
use Rattle.import_run.proofs.RowLaws.{ran_as, fair_of, Opened, OpensAt, CopiesAt, Turned, refuses, passes, opens, copies, turned, lands_sound, opened_flags, opened_sound, next_turn}
use Rattle.import_run.proofs.PlaceLaws.{is_copy, copied_fair, opens_next, still_unheld}
use Rattle.import_cost.proofs.StateLaws.{landed-again, condition_at_lem, condition_none}

-- a steady table has few enough slots
pub steady_slots : {l : Label} {t : List ℕ} {h : Slot} → Steady l t h → l.slots ≤ 57600
steady_slots S = subst (λ (l : Label). l.slots ≤ 57600) S.label_is (record_limits S.state S.fair.record_kept).slots-most

-- the flags of a slot that is opened
opened-writing : {f : ℕ} → Opened f → (writing f ≡ true) × (dirty f ≡ true) × (valid f ≡ true)
opened-writing (inl e) = rw e (refl, refl, refl)
opened-writing (inr e) = rw e (refl, refl, refl)

opened-row : {l : Label} {b f : ℕ} → b < l.blocks → Opened f → LegalRow l b f × (open_row (row_of b (f % 8)) ≡ true)
unfolding row_of
opened-row h (inl e) = rw e (record { flags = f7; low = λ _. h; free = λ q. clash {b = true} refl q }, refl)
opened-row h (inr e) = rw e (record { flags = f15; low = λ _. h; free = λ q. clash {b = true} refl q }, refl)

-- where no number refuses another slot fewer than 63 are open
room_few : (all mine : ℕ) → crowd_by all mine ≡ None → all < 63
room_few all mine e = go (told (leb 8 mine)) (told (leb 63 all))
  where
    go : Told (leb 8 mine) → Told (leb 63 all) → all < 63
    go (told_true a) f = let z : Some ImportFull ≡ crowd_by all mine = rw (a, crowd_by) in absurd (none-some ImportFull (sym (z ∙ e)))
    go (told_false a) (told_true f) = let z : Some WindowFull ≡ crowd_by all mine = rw (a, f, crowd_by) in absurd (none-some WindowFull (sym (z ∙ e)))
    go (told_false a) (told_false f) = leb-false 63 all f

-- a table and a record that 3 to 6 do not refuse, with images of the right lengths
module _ (ssd hdd t : List ℕ) (q : Record) (F : Fair t q) (ssd-size : length ssd ≡ ssd_length (label_in q))
    (hdd-size : length hdd ≡ hdd_length (label_in q)) where
  abbrev y : Box
  y = box_of ssd hdd t q

  is_ready_is : ready_then (length ssd) (length hdd) 4096 t q None ≡ None
  unfolding sound_then lengths_test
  is_ready_is = rw (F.record_kept, eq-eqb _ _ ssd-size, eq-eqb _ _ hdd-size, eq-eqb _ _ F.size, F.rows, F.ready)

  on : (rest : Option Refusal) → ready_then (length ssd) (length hdd) 4096 t q rest ≡ rest
  on = goes_on (ready_asks (length ssd) (length hdd) 4096 t q) is_ready_is

  serves : (b : Block) (caller : ℕ) → caller ≤ 1 → b.0 < q.label.blocks → serves_then (length ssd) (length hdd) 4096 t q b caller None ≡ None
  serves b caller known bl = on _ ∙ rw (le-ltb 1 caller known, lt-leb q.label.blocks b.0 bl)

  offer_high : (b : Block) (caller : ℕ) → caller ≤ 1 → leb q.label.blocks b.0 ≡ true → effect_of (offer b caller) y ≡ refusing 7 y
  offer_high b caller known e =
      let z : serves_then (length ssd) (length hdd) 4096 t q b caller None ≡ Some BlockTooHigh = on _ ∙ rw (le-ltb 1 caller known, e) in
      refusing-is (offer b caller) y BlockTooHigh (first_judged (offer b caller) y _ _ (offer_judges ssd hdd t q b caller) BlockTooHigh z)

  offer_low : (b : Block) (caller : ℕ) → caller ≤ 1 → b.0 < q.label.blocks
      → effect_of (offer b caller) y ≡ performed (offer_turn_at (label_in q) t q.hand (crowd_by q.count (held_by caller q))
      (condition_of t b)) b caller y
  offer_low b caller known bl =
      offer_turned ssd hdd t q b caller (serves b caller known bl)
      ∙ ap (λ (n : ℕ). performed (offer_turn_at (label_in q) t q.hand (crowd_by n (held_by caller q)) (condition_of t b)) b caller y) (sym
      (fair-count F))

  land-low : (b : Block) → b.0 < q.label.blocks → (k : Condition) → condition_of t b ≡ k → takes_write k ≡ true
      → effect_of (land b zero_page) y ≡ perform (landing zero_page k) y
  unfolding test plan
  land-low b bl k e o = does (land b zero_page) y (landing zero_page k)
      (judged_on (land b zero_page) y _ (WrongState ∷ []) (land_judges ssd hdd t q b zero_page) (rw length_zero (serves b 0 (omega arith) bl))
      ∙ first_no _ WrongState [] (ap not (ap takes_write e ∙ o)) ∙ end _)
      (ap (landing zero_page) e)

-- the run of one question
module _ (ssd hdd : List ℕ) (r : Record) (kept : record_test r ≡ true) (ready : r.phase ≡ Ready)
    (ssd-size : length ssd ≡ ssd_length (label_in r)) (hdd-size : length hdd ≡ hdd_length (label_in r)) (caller : ℕ) (known : caller ≤ 1) where
  abbrev l : Label
  l = label_in r

  -- what refuses another slot is the same at every place
  abbrev number : Option Refusal
  number = crowd_by r.count (held_by caller r)

  abbrev box : List ℕ → Slot → ℕ → Bool → Box
  box t h n u = box_of ssd hdd t (ran_as r h n u)

  -- where a place ends: met a refusal, or went on
  pub data Done : Tally → After → Type 0 where
    met : (y : Tally) (a : After) (e : Refusal) → y.said ≡ refusal (number_of e) → a.met ≡ Err e → y.counts ≡ counts_in a.run
        → y.box.table ≡ a.table → Done y a
    went : (y : Tally) (a : After) (u : Bool) → refused y.said ≡ false → a.met ≡ Ok tt → y.counts ≡ counts_in a.run
        → y.box ≡ box a.table a.run.hand a.run.newest u → Fair a.table (ran_as r a.run.hand a.run.newest u) → Done y a

  -- at a place: the table, the run so far, and the box with it
  module _ (t : List ℕ) (z : Run) (u : Bool) (F : Fair t (ran_as r z.hand z.newest u)) (b : Block) where
    abbrev q : Record
    q = ran_as r z.hand z.newest u

    abbrev x : Box
    x = box t z.hand z.newest u

    abbrev tally : Reply → Tally
    tally said = record { box = x; counts = counts_in z; said = said }

    effect_low : b.0 < r.label.blocks → effect_of (offer b caller) x
        ≡ performed (offer_turn_at l t z.hand number (condition_of t b)) b caller x
    unfolding callers_in
    effect_low bl = offer_low ssd hdd t q F ssd-size hdd-size b caller known bl

    out : (s : Slot) → open_row (row_at t s.0) ≡ false → listed s (window_in q) ≡ false
    out s e = sym (has_nums (window_in q) s.0) ∙ sym ((fair_sound F).open_is s.0) ∙ e

    -- 7 refuses it
    high_ends : (said : Reply) → effect_of (offer b caller) x ≡ refusing 7 x
        → Done (imports caller b (tally said)) (meets BlockTooHigh z t)
    unfolding imports offers_to tallies
    high_ends said e = subst
        (λ (f : Effect). let w : Tally = tallied to_write f (tally said) in
        let v : Tally = repeats (is_copied_out w.said) (offer b caller) w in Done (lands_unless (refused v.said) b v)
        (meets BlockTooHigh z t))
        (sym e) (met _ _ BlockTooHigh refl refl refl refl)

    module _ (said : Reply) (bl : b.0 < r.label.blocks) where
      abbrev first : Tally
      first = tallies (offer b caller) (tally said)

      by_turn : {T : Result Turn Refusal} → offer_turn_at l t z.hand number (condition_of t b) ≡ T
          → first ≡ tallied to_write (performed T b caller x) (tally said)
      unfolding tallies
      by_turn e = ap (λ (f : Effect). tallied to_write f (tally said)) (effect_low bl)
          ∙ ap (λ (T : Result Turn Refusal). tallied to_write (performed T b caller x) (tally said)) e

      -- landed, unless it was refused
      abbrev lands_after : Tally → Tally
      lands_after y = lands_unless (refused y.said) b y

      -- one that copies nothing out
      record Finished (a : After) : Type 0 where
        once : is_copied_out first.said ≡ false
        end : Done (lands_after first) a

      at : {y : Tally} {a : After} → first ≡ y → is_copied_out y.said ≡ false → Done (lands_after y) a → Finished a
      at {y} {a} e c d = record {
        once = ap (λ (w : Tally). is_copied_out w.said) e
            ∙ c;
        end = subst (λ (w : Tally). Done (lands_after w) a) (sym e) d;
      }

      refuses_ends : (e : Refusal) → offer_turn_at l t z.hand number (condition_of t b) ≡ Err e → Finished (meets e z t)
      refuses_ends e k = at (by_turn k) refl (met _ _ e refl refl refl refl)

      passes-ends : (s : Slot) → s.0 < r.label.slots → valid (row_flags t s) ≡ true → writing (row_flags t s) ≡ false
          → condition_of t b ≡ Dirty s → offer_turn_at l t z.hand number (condition_of t b) ≡ Ok Passes → Finished (lands_in t z s)
      unfolding tallies perform
      passes-ends s h v w k e = at (by_turn e) refl
          (went _ _ u (ap (λ (f : Effect). refused f.said) landing_is) refl (ap (λ (f : Effect). (tallied (to_land zero_page) f (tally
          first.said)).counts) landing_is)
          (ap (λ (f : Effect). record { images = x.images; table = f.table; state = f.state }) landing_is ∙ state_is)
          (fair_of q F.record_kept F.ready (lands_sound F b bl number s h v w) z.hand (hand-low q F.record_kept) z.newest u))
        where
          landing_is : effect_of (land b zero_page) x ≡ perform (lands true s zero_page) x
          landing_is = land-low ssd hdd t q F ssd-size hdd-size b bl (Dirty s) k refl

          state_is : record { images = x.images; table = landed_row t s; state = landed_state (writing (row_flags t s)) s q }
              ≡ box (landed_row t s) z.hand z.newest u
          state_is = ap {B = Box} (λ (o : Bool). record { images = x.images; table = landed_row t s; state = landed_state o s q }) w

      -- a slot is opened
      module _ (s : Slot) (f n : ℕ) (hand : Slot) (O : OpensAt F b bl number s f n hand) where
        abbrev t₁ : List ℕ
        t₁ = set_row (cleared_from n l t z.hand) s b f

        abbrev q₁ : Record
        q₁ = with_stamp (joined s caller hand q) (z.newest + 1)

        few : open_rows t < 63
        few = rw (sym (fair-count F)) (room_few r.count (held_by caller r) O.room)

        F₁ : Fair t₁ q₁
        unfolding record_test rows_test window_in
        F₁ =
            let L = opened-row bl O.flags in
            let G = opened-fair F (record {
              low = O.low;
              alike = O.alike;
              hand-low = O.hand-low;
              row = L.0;
              is_open_is = L.1;
              was_shut = O.was_shut;
              few = few;
            }) caller known in
            record { size = G.size; record_kept = G.record_kept; rows = G.rows; ready = G.ready }

        flags_are : row_flags t₁ s ≡ f
        flags_are = opened_flags F b bl number s f n hand O

        row_in : 2 * s.0 + 1 < length t₁
        row_in = omega (arith, F₁.size, O.low)

        block_is : get_or t₁ (2 * s.0) 0 ≡ b.0
        block_is =
            let v : List ℕ = cleared_from n l t z.hand in
            get_or-set_other (set v (2 * s.0) b.0) (2 * s.0 + 1) (2 * s.0) f 0 (omega arith)
            ∙ get_or-set_same v (2 * s.0) b.0 0 (omega (arith, O.alike.size, O.low))

        -- no row below it holds the block, so it is open there
        unheld-₁ : Unheld s.0 t₁ b.0
        unheld-₁ k h held e =
            let v : List ℕ = cleared_from n l t z.hand in
            let w : List ℕ = set v (2 * s.0) b.0 in
            let b-is = get_or-set_other w (2 * s.0 + 1) (2 * k) f 0 (omega arith)
            ∙ get_or-set_other v (2 * s.0) (2 * k) b.0 0 (omega arith) in
            let f-is = get_or-set_other w (2 * s.0 + 1) (2 * k + 1) f 0 (omega arith)
            ∙ get_or-set_other v (2 * s.0) (2 * k + 1) b.0 0 (omega arith) in
            unheld_alike l t v (fair-rows F) O.alike s.0 b.0 (omega (arith, O.low)) O.unheld k h
            (ap valid (sym f-is) ∙ held) (sym b-is ∙ e)

        is_open_is : condition_of t₁ b ≡ Writing s
        is_open_is =
            let w = opened-writing O.flags in
            condition_at_lem t₁ b s row_in (ap valid flags_are ∙ w.2) block_is unheld-₁
            ∙ ap (λ (g : ℕ). elim (writing g) [ true ↦ open_as (dirty g) s | false ↦ closed_as (dirty g) s ]) flags_are
            ∙ ap (λ (o : Bool). elim o [ true ↦ open_as (dirty f) s | false ↦ closed_as (dirty f) s ]) w.0
            ∙ ap (λ (o : Bool). open_as o s) w.1

        landing-₁ : effect_of (land b zero_page) (box_of ssd hdd t₁ q₁) ≡ perform (lands true s zero_page) (box_of ssd hdd t₁ q₁)
        landing-₁ = land-low ssd hdd t₁ q₁ F₁ ssd-size hdd-size b bl (Writing s) is_open_is refl

        state-₁ : landed_state (writing (row_flags t₁ s)) s q₁ ≡ ran_as r hand (z.newest + 1) true
        state-₁ = ap (λ (o : Bool). landed_state o s q₁) (ap writing flags_are ∙ (opened-writing O.flags).0)
            ∙ landed-again q F.record_kept s (out s O.was_shut) caller hand (z.newest + 1)

        abbrev branch : Bool → Tally
        branch o = tallied to_write (elim o [
          | true ↦ refusing 13 x
          | false ↦ perform (opening q s b caller f (cleared_from n l t z.hand) hand) x
        ]) (tally said)

        opens-ends : offer_turn_at l t z.hand number (condition_of t b) ≡ Ok (Opens s f n hand)
            → Finished (opens_if (spent l z.newest) l t z b s f n hand)
        unfolding tallies perform confirmed
        opens-ends e = go (told (spent l z.newest))
          where
            go : Told (spent l z.newest) → Finished (opens_if (spent l z.newest) l t z b s f n hand)
            go (told_true p) = rw (p, opens_if) (at (by_turn e ∙ ap branch p) refl (met _ _ StampsSpent refl refl refl refl))
            go (told_false p) = rw (p, opens_if) (at (by_turn e ∙ ap branch p) refl
                (went _ _ true (ap (λ (f : Effect). refused f.said) landing-₁) refl
                (ap (λ (f : Effect). (tallied (to_land zero_page) f (branch false)).counts) landing-₁)
                (ap (λ (f : Effect). record { images = x.images; table = f.table; state = f.state }) landing-₁
                ∙ ap {B = Box} (λ (k : Record). record { images = x.images; table = landed_row t₁ s; state = k }) state-₁)
                (fair_of q F.record_kept F.ready (opened_sound F b bl number s f n hand O) hand O.hand-low (z.newest + 1) true)))

      -- what a turn that copies nothing out leaves, and its landing
      turn_ends : {k : Condition} {T : Result Turn Refusal} → Turned F b bl number k T → is_copy T ≡ false → condition_of t b ≡ k
          → offer_turn_at l t z.hand number (condition_of t b) ≡ T → Finished (taken T l t z b (dirty_slot k))
      turn_ends (refuses n) c k e = refuses_ends n e
      turn_ends (passes s h v w) c k e = passes-ends s h v w k e
      turn_ends (opens s f n hand O) c k e = opens-ends s f n hand O e
      turn_ends (copies s n C) c k e = clash {b = true} refl c

      -- it is offered once
      offered-once : {a : After} → Finished a → Done (imports caller b (tally said)) a
      unfolding imports offers_to
      offered-once {a} G = subst (λ (o : Bool). Done (lands_after (repeats o (offer b caller) first)) a) (sym G.once) G.end

  -- a slot is copied out, and then taken
  module _ (t : List ℕ) (z : Run) (u : Bool) (F : Fair t (ran_as r z.hand z.newest u)) (b : Block) (said : Reply)
      (bl : b.0 < r.label.blocks) (s : Slot) (n : ℕ) (C : CopiesAt F b bl number s n) where
    abbrev t₂ : List ℕ
    t₂ = copied_table l t z.hand s n

    abbrev F₂ : Fair t₂ (ran_as r s z.newest u)
    F₂ = copied_fair (ran_as r z.hand z.newest u) F b bl number s n C z.newest u

    O₂ : OpensAt F₂ b bl number s 7 0 (next_slot l s)
    O₂ = opens_next (ran_as r z.hand z.newest u) F b bl number s n C z.newest u

    none-₂ : condition_of t₂ b ≡ NotCached
    none-₂ = condition_none t₂ b r.label.slots F₂.size
        (still_unheld (ran_as r z.hand z.newest u) F b bl number s n C r.label.slots b.0 (omega arith) C.unheld)

    again : offer_turn_at l t₂ s number (condition_of t₂ b) ≡ Ok (Opens s 7 0 (next_slot l s))
    again = ap (offer_turn_at l t₂ s number) none-₂ ∙ next_turn F b bl number s n C

    copies-ends : (d : Slot) → offer_turn_at l t z.hand number (condition_of t b) ≡ Ok (CopiesOut s n)
        → Done (imports caller b (tally t z u F b said)) (offered (Ok (CopiesOut s n)) l t z number b d)
    unfolding imports offers_to perform
    copies-ends d e =
        let y : Run = copies_out s z in
        let G = turn_ends t₂ y u F₂ b copied_out bl (opens {k = NotCached} s 7 0 (next_slot l s) O₂) refl none-₂ again in
        let v : Tally = tallies (offer b caller) (tally t₂ y u F₂ b copied_out) in
        subst
        (λ (w : Tally). let o : Tally = repeats (is_copied_out w.said) (offer b caller) w in
        Done (lands_unless (refused o.said) b o) (offered (Ok (CopiesOut s n)) l t z number b d))
        (sym (by_turn t z u F b said bl e))
        (subst (λ (T : Result Turn Refusal). Done (lands_unless (refused v.said) b v) (taken T l t₂ y b d)) (sym (next_turn F b bl number s n C))
        G.end)

  -- any place
  pub place-ends : (t : List ℕ) (z : Run) (u : Bool) (F : Fair t (ran_as r z.hand z.newest u)) (b : Block) (said : Reply)
      → Done (imports caller b (tally t z u F b said)) (place_after l t z number b)
  unfolding place_after
  place-ends t z u F b said = go (told (leb r.label.blocks b.0))
    where
      low : (bl : b.0 < r.label.blocks) {k : Condition} {T : Result Turn Refusal} → Turned F b bl number k T → condition_of t b ≡ k
          → offer_turn_at l t z.hand number (condition_of t b) ≡ T
          → Done (imports caller b (tally t z u F b said)) (offered T l t z number b (dirty_slot k))
      low bl {k} (refuses n) c e = offered-once t z u F b said bl (turn_ends t z u F b said bl {k = k} (refuses n) refl c e)
      low bl (passes s h v w) c e = offered-once t z u F b said bl (turn_ends t z u F b said bl (passes s h v w) refl c e)
      low bl {k} (opens s f n hand O) c e = offered-once t z u F b said bl (turn_ends t z u F b said bl {k = k}
          (opens s f n hand O) refl c e)
      low bl (copies s n C) c e = copies-ends t z u F b said bl s n C _ e

      high : leb r.label.blocks b.0 ≡ true
          → Done (imports caller b (tally t z u F b said)) (meets BlockTooHigh z t)
      high e = offered-once_high (offer_high ssd hdd t (ran_as r z.hand z.newest u) F ssd-size hdd-size b caller known e)
        where
          offered-once_high : effect_of (offer b caller) (box t z.hand z.newest u) ≡ refusing 7 (box t z.hand z.newest u)
              → Done (imports caller b (tally t z u F b said)) (meets BlockTooHigh z t)
          offered-once_high f = high_ends t z u F b said f

      go : Told (leb r.label.blocks b.0) → Done (imports caller b (tally t z u F b said)) (place_after l t z number b)
      go (told_true e) = rw (place_after, e) (high e)
      go (told_false e) = rw (place_after, e)
          (let bl : b.0 < r.label.blocks = leb-false _ _ e in low bl (turned F b bl number) refl refl)
