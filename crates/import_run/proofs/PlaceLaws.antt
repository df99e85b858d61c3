-- A place of a run: what its turn asks of the scratch table, and what it leaves.
use Prim.Native.Nat.{ℕ, ◌+◌, ◌*◌, ◌≤◌, ◌<◌}
use mathlib.Core.Path.{◌≡◌, refl, sym, ap, subst, ◌∙◌}
use mathlib.Core.Logic.{◌≢◌, inl}
use mathlib.Core.Bool.{Bool, true, false}
use mathlib.Core.List.{List}
use native.Mathlib.Omega.{arith}
use Rattle.std.specs.Prelude.{Option, Result, Ok, Err}
use Rattle.protocol.specs.declared.Refusal.{Refusal}
use Rattle.protocol.specs.declared.Refusal.TheVariants.{BlockTooHigh, StampsSpent}
use native.Mathlib.Decide.{ℕ_discrete}
use lib.ListN.{length, get_or, set}
use lib.Seq.{get_or-set_same, get_or-set_other}
use lib.Dec.{leb}
use borrow.Author.Tests.{leb-false, lt-leb}
use Rattle.layout.specs.declared.Slot.{Slot}
use Rattle.layout.specs.declared.Block.{Block}
use Rattle.layout.specs.declared.Label.{Label}
use Rattle.layout.proofs.Booleans.{Told, told, told_true, told_false, clash}
use Rattle.record.specs.declared.Record.{Record}
use Rattle.record.specs.Record.{label_in, window_in}
use Rattle.protocol.specs.declared.Condition.{Condition}
use Rattle.protocol.specs.declared.Condition.TheVariants.{NotCached}
use Rattle.protocol.specs.Rows.{row_flags, set_row, valid, dirty}
use Rattle.protocol.specs.Condition.{condition_of}
use Rattle.protocol.specs.Sweep.{next_slot}
use Rattle.laws.proofs.refine.Flags.{changed_clean, changed_landed}
use Rattle.laws.proofs.refine.Tables.{at_open}
use Rattle.laws.proofs.refine.Conditions.{Stands, absent, is_clean, is_dirty, is_writing_is, is_fetching, stands}
use Rattle.laws.proofs.refine.Sweeps.{alike_same, next_low}
use Rattle.laws.proofs.Sound.{Sound}
use Rattle.sweeping.specs.Sweeps.{cleared_from}
use Rattle.turns.specs.declared.turn.Turn.{Turn}
use Rattle.turns.specs.declared.turn.Turn.TheVariants.{Passes, Opens, CopiesOut}
use Rattle.turns.specs.Turns.{Sweepable, Within, offer_turn_at, spent}
use Rattle.turns.proofs.TurnLaws.{hand-low}
use Rattle.list_turns.specs.Found.{Unheld}
use Rattle.list_run.specs.Runs.{Fair}
use Rattle.list_run.proofs.FairLaws.{fair-legal, fair-rows}
use Rattle.list_turns.proofs.FoundLaws.{unheld_alike, unheld_row}
use Rattle.import_run.specs.declared.Run.{Run}
use Rattle.import_run.specs.Runs.{After, meets, copies_out, landed_row, opens_if, taken, copied_table, offered, dirty_slot, place_in, place_after, Steady, Takes}
use Rattle.import_run.proofs.RowLaws.{ran_as, fair_of, opened_few, OpensAt, CopiesAt, Turned, refuses, passes, opens, copies, turned, lands_in_is, lands_sound, landed_is, opened_sound, copied_sound, copied_shut, next_turn}

-- flags that stay valid, or not, leave every block where it is
unheld_flags : (t : List ℕ) (s f : ℕ) → 2 * s + 1 < length t → valid f ≡ valid (get_or t (2 * s + 1) 0) → (n c : ℕ) → Unheld n t c
    → Unheld n (set t (2 * s + 1) f) c
unheld_flags t s f h same n c H u k = go (ℕ_discrete u s)
  where
    block_is : get_or (set t (2 * s + 1) f) (2 * u) 0 ≡ get_or t (2 * u) 0
    block_is = get_or-set_other t (2 * s + 1) (2 * u) f 0 (omega arith)

    go : Dec (u ≡ s) → valid (get_or (set t (2 * s + 1) f) (2 * u + 1) 0) ≡ true → get_or (set t (2 * s + 1) f) (2 * u) 0 ≢ c
    go (yes q) held e =
        let f-is = ap (λ (i : ℕ). get_or (set t (2 * s + 1) f) (2 * i + 1) 0) q ∙ get_or-set_same t (2 * s + 1) f 0 h in
        H u k (ap (λ (i : ℕ). valid (get_or t (2 * i + 1) 0)) q ∙ sym same ∙ ap valid (sym f-is) ∙ held) (sym block_is ∙ e)
    go (no q) held e =
        let f-is = get_or-set_other t (2 * s + 1) (2 * u + 1) f 0 (λ z. q (omega arith)) in
        H u k (ap valid (sym f-is) ∙ held) (sym block_is ∙ e)

-- a steady table, by its record
abbrev steady_of : {t : List ℕ} (r : Record) → Fair t r → Steady (label_in r) t r.hand
steady_of r F = record { state = r; fair = F; label_is = refl; hand_is = refl }

steady_by : {l : Label} {t : List ℕ} {h : Slot} (P : Label → Slot → Type 0) (S : Steady l t h) → P (label_in S.state) S.state.hand
    → P l h
steady_by {l = l} P S p = subst (λ (k : Slot). P l k) S.hand_is (subst (λ (k : Label). P k S.state.hand) S.label_is p)

pub steady_sweeps : {l : Label} {t : List ℕ} {h : Slot} → Steady l t h → Sweepable l t h
steady_sweeps {t = t} S = steady_by (λ l h. Sweepable l t h) S (record {
  size = S.fair.size;
  rows = fair-legal S.fair;
  low = hand-low S.state S.fair.record_kept;
})

-- a condition's slot is one of the table's
pub condition_within : {l : Label} {t : List ℕ} {h : Slot} → Steady l t h → (b : Block) → Within l.slots (condition_of t b)
condition_within {l} {t} S b = go (stands l t (steady_sweeps S).size b)
  where
    go : {k : Condition} → Stands l t b.0 k → Within l.slots k
    go (absent h) = tt
    go (is_clean s H w d) = H.low
    go (is_dirty s H w d) = H.low
    go (is_writing_is s H w d) = H.low
    go (is_fetching s H w d) = H.low

-- what the turn of a place asks for
pub steady_takes : {l : Label} {t : List ℕ} {h : Slot} → Steady l t h → (number : Option Refusal) (b : Block) → b.0 < l.blocks
    → Takes (offer_turn_at l t h number (condition_of t b)) l t (dirty_slot (condition_of t b))
steady_takes {t = t} S number b = steady_by
    (λ l h. b.0 < l.blocks → Takes (offer_turn_at l t h number (condition_of t b)) l t (dirty_slot (condition_of t b))) S (λ bl. go bl
    (turned S.fair b bl number))
  where
    go : (bl : b.0 < S.state.label.blocks) → {k : Condition} {T : Result Turn Refusal} → Turned S.fair b bl number k T
        → Takes T (label_in S.state) t (dirty_slot k)
    go bl (refuses n) = tt
    go bl (passes s h v w) = lands_in_is S.fair b bl number s h
    go bl (opens s f n hand O) = (O.low, opened_few O.flags)
    go bl (copies s n C) = tt

-- a slot is copied out, and then taken
pub record Copied (l : Label) (t : List ℕ) (h : Slot) (number : Option Refusal) (s : Slot) (n : ℕ) : Type 0 where
  pub low : s.0 < l.slots
  pub was_dirty : dirty (row_flags (cleared_from n l t h) s) ≡ true
  pub steady : Steady l (copied_table l t h s n) s
  pub next : offer_turn_at l (copied_table l t h s n) s number NotCached ≡ Ok (Opens s 7 0 (next_slot l s))

abbrev pub is_copy : Result Turn Refusal → Bool
is_copy (Err e) = false
is_copy (Ok Passes) = false
is_copy (Ok (Opens s f n hand)) = false
is_copy (Ok (CopiesOut s n)) = true

copied_by : {t : List ℕ} (r : Record) (F : Fair t r) (number : Option Refusal) (b : Block) (bl : b.0 < r.label.blocks) (s : Slot) (n : ℕ)
    → CopiesAt F b bl number s n → Copied (label_in r) t r.hand number s n
copied_by r F number b bl s n C = record {
  low = C.low;
  was_dirty = C.is_dirty;
  steady = steady_of (ran_as r s 0 false) (fair_of r F.record_kept F.ready (copied_sound F b bl number s n C) s C.low 0 false);
  next = next_turn F b bl number s n C;
}

pub steady_copies : {l : Label} {t : List ℕ} {h : Slot} → Steady l t h → (number : Option Refusal) (b : Block) → b.0 < l.blocks → (s : Slot) (n : ℕ)
    → offer_turn_at l t h number (condition_of t b) ≡ Ok (CopiesOut s n) → Copied l t h number s n
steady_copies {t = t} S number b bl s n = steady_by
    (λ l h. b.0 < l.blocks → offer_turn_at l t h number (condition_of t b) ≡ Ok (CopiesOut s n) → Copied l t h number s n) S
    (λ bl. go bl (turned S.fair b bl number)) bl
  where
    go : (bl : b.0 < S.state.label.blocks) → {k : Condition} {T : Result Turn Refusal} → Turned S.fair b bl number k T → T ≡ Ok (CopiesOut s n)
        → Copied (label_in S.state) t S.state.hand number s n
    go bl (refuses m) e = clash {b = true} refl (sym (ap is_copy e))
    go bl (passes u h v w) e = clash {b = true} refl (sym (ap is_copy e))
    go bl (opens u f m hand O) e = clash {b = true} refl (sym (ap is_copy e))
    go bl (copies u m C) e =
        let a : u ≡ s = cc in
        let d : m ≡ n = cc in
        rw (a, d) at (copied_by S.state S.fair number b bl u m C)

-- what a place leaves: a steady table with no other row for another block, and no more than one store of a kind more
pub record Placed (l : Label) (t : List ℕ) (r : Run) (b : Block) (a : After) : Type 0 where
  pub steady : Steady l a.table a.run.hand
  pub same_size : length a.table ≡ length t
  pub few_copies : a.run.copies ≤ r.copies + 1
  pub few_metadata : a.run.metadata ≤ r.metadata + 1
  pub few_landings : a.run.landings ≤ r.landings + 1
  pub unheld : (n c : ℕ) → n ≤ l.slots → b.0 ≢ c → Unheld n t c → Unheld n a.table c

unmoved : {l : Label} {t : List ℕ} {r : Run} {b : Block} → Steady l t r.hand → (e : Refusal)
    → Placed l t r b (meets e r t)
unmoved S e = record {
  steady = S;
  same_size = refl;
  few_copies = omega arith;
  few_metadata = omega arith;
  few_landings = omega arith;
  unheld = λ n c h d H. H;
}

-- of a fair table and its record
module _ {t : List ℕ} (s : Record) (F : Fair t s) (b : Block) (bl : b.0 < s.label.blocks) (number : Option Refusal) where
  abbrev l : Label
  l = label_in s

  -- one that copies nothing out
  takes-placed : {k : Condition} {T : Result Turn Refusal} → Turned F b bl number k T → is_copy T ≡ false → (r : Run) → r.hand ≡ s.hand
      → Placed l t r b (taken T l t r b (dirty_slot k))
  takes-placed (refuses n) e r q = unmoved (rw q (steady_of s F)) n
  takes-placed (passes u h v w) e r q =
      let S = lands_sound F b bl number u h v w in
      record {
        steady = rw q (steady_of (ran_as s s.hand 0 false) (fair_of s F.record_kept F.ready S s.hand (hand-low s
            F.record_kept) 0 false));
        same_size = S.size ∙ sym F.size;
        few_copies = omega arith;
        few_metadata = omega arith;
        few_landings = omega arith;
        unheld = λ n c z d H. unheld_flags t u.0 _ (omega (arith, F.size))
            (changed_landed true (fair-rows F u.0 h).flags (get_or t (2 * u.0) 0) v).still n c H;
      }
  takes-placed (opens u f n hand O) e r q = go (told (spent l r.newest))
    where
      S : Sound l (landed_row (set_row (cleared_from n l t s.hand) u b f) u) (window_in s)
      S = opened_sound F b bl number u f n hand O

      go : Told (spent l r.newest) → Placed l t r b (opens_if (spent l r.newest) l t r b u f n hand)
      go (told_true z) = rw (z, opens_if) (unmoved (rw q (steady_of s F)) StampsSpent)
      go (told_false z) = rw (z, opens_if, q) (record {
        steady = steady_of (ran_as s hand 0 false) (fair_of s F.record_kept F.ready S hand O.hand-low 0 false);
        same_size = S.size ∙ sym F.size;
        few_copies = omega arith;
        few_metadata = omega arith;
        few_landings = omega arith;
        unheld = λ m c z d H. rw (landed_is F b bl number u f n hand O)
            (unheld_row (cleared_from n l t s.hand) u b 11 (omega (arith, O.alike.size, O.low)) m c d
            (unheld_alike l t (cleared_from n l t s.hand) (fair-rows F) O.alike m c z H));
      })
  takes-placed (copies u n C) e r q = clash {b = true} refl e

  takes-copies : (T : Result Turn Refusal) (r : Run) (d : Slot) → (taken T l t r b d).run.copies ≡ r.copies
  takes-copies (Err e) r d = refl
  takes-copies (Ok Passes) r d = refl
  takes-copies (Ok (Opens u f n hand)) r d = go (spent l r.newest)
    where
      go : (z : Bool) → (opens_if z l t r b u f n hand).run.copies ≡ r.copies
      go true = refl
      go false = refl
  takes-copies (Ok (CopiesOut u n)) r d = refl

-- one that copies a slot out, which it then takes
module _ {t : List ℕ} (s : Record) (F : Fair t s) (b : Block) (bl : b.0 < s.label.blocks) (number : Option Refusal) (u : Slot) (n : ℕ)
    (C : CopiesAt F b bl number u n) where
  abbrev m : Label
  m = label_in s

  abbrev t₂ : List ℕ
  t₂ = copied_table m t s.hand u n

  pub still_unheld : (k c : ℕ) → k ≤ s.label.slots → Unheld k t c → Unheld k t₂ c
  still_unheld k c h H =
      let v : List ℕ = cleared_from n m t s.hand in
      unheld_flags v u.0 _ (omega (arith, C.alike.size, C.low))
      (changed_clean (C.alike.legal u.0 C.low).flags (get_or v (2 * u.0) 0) C.is_shut).still k c
      (unheld_alike m t v (fair-rows F) C.alike k c h H)

  pub copied_fair : (newest : ℕ) (w : Bool) → Fair t₂ (ran_as s u newest w)
  copied_fair newest w = fair_of s F.record_kept F.ready (copied_sound F b bl number u n C) u C.low newest w

  pub opens_next : (newest : ℕ) (w : Bool) → OpensAt (copied_fair newest w) b bl number u 7 0 (next_slot m u)
  unfolding cleared_from
  opens_next newest w =
      let G = copied_fair newest w in
      record {
        low = C.low;
        alike = alike_same m t₂ G.size (fair-rows G);
        hand-low = next_low m u C.low;
        flags = inl refl;
        was_shut = at_open m t₂ (fair-rows G) u.0 C.low ∙ copied_shut F b bl number u n C;
        unheld = still_unheld u.0 b.0 (omega (arith, C.low)) (λ k h. C.unheld k (omega (arith, C.low)));
        room = C.room;
      }

  copies-placed : (r : Run) → r.hand ≡ s.hand → (d : Slot) → Placed m t r b (offered (Ok (CopiesOut u n)) m t r number b d)
  copies-placed r q d =
      let G = copied_fair 0 false in
      let T : Result Turn Refusal = Ok (Opens u 7 0 (next_slot m u)) in
      let P = takes-placed (ran_as s u 0 false) G b bl number (opens {k = NotCached} u 7 0 (next_slot m u) (opens_next 0 false)) refl
      (copies_out u r) refl in
      let e = takes-copies (ran_as s u 0 false) G b bl number T (copies_out u r) d in
      rw (q, next_turn F b bl number u n C) (record {
        steady = P.steady;
        same_size = P.same_size ∙ (copied_sound F b bl number u n C).size ∙ sym F.size;
        few_copies = omega (arith, e);
        few_metadata = P.few_metadata;
        few_landings = P.few_landings;
        unheld = λ k c h d H. P.unheld k c h d (still_unheld k c h H);
      })

-- any
turns-placed : {t : List ℕ} (s : Record) (F : Fair t s) (b : Block) (bl : b.0 < s.label.blocks) (number : Option Refusal) {k : Condition} {T : Result Turn Refusal}
    → Turned F b bl number k T → (r : Run) → r.hand ≡ s.hand → Placed (label_in s) t r b (offered T (label_in s) t r number b (dirty_slot k))
turns-placed s F b bl number {k} (refuses n) r q = takes-placed s F b bl number {k = k} (refuses n) refl r q
turns-placed s F b bl number (passes u h v w) r q = takes-placed s F b bl number (passes u h v w) refl r q
turns-placed s F b bl number {k} (opens u f n hand O) r q = takes-placed s F b bl number {k = k} (opens u f n hand O) refl r q
turns-placed s F b bl number (copies u n C) r q = copies-placed s F b bl number u n C r q _

pub steady_placed : {l : Label} {t : List ℕ} (r : Run) → Steady l t r.hand → (number : Option Refusal) (b : Block)
    → Placed l t r b (place_after l t r number b)
unfolding place_after
steady_placed {l} {t} r S number b = go (told (leb l.blocks b.0))
  where
    low : b.0 < l.blocks → Placed l t r b (place_in (condition_of t b) l t r number b)
    low = subst (λ (k : Label). b.0 < k.blocks → Placed k t r b (place_in (condition_of t b) k t r number b)) S.label_is
        (λ bl. subst
        (λ (h : Slot). Placed (label_in S.state) t r b
        (offered (offer_turn_at (label_in S.state) t h number (condition_of t b)) (label_in S.state) t r number b (dirty_slot
        (condition_of t b))))
        S.hand_is (turns-placed S.state S.fair b bl number (turned S.fair b bl number) r (sym S.hand_is)))

    go : Told (leb l.blocks b.0) → Placed l t r b (place_after l t r number b)
    go (told_true e) = rw (place_after, e) (unmoved S BlockTooHigh)
    go (told_false e) = rw (place_after, e) (low (leb-false _ _ e))

-- a place that 7 does not refuse, by its condition and its turn
pub place_low : (l : Label) (t : List ℕ) (r : Run) (full : Option Refusal) (b : Block) → b.0 < l.blocks → {k : Condition} → k ≡ condition_of t b
    → {T : Result Turn Refusal} → T ≡ offer_turn_at l t r.hand full k → offered T l t r full b (dirty_slot k) ≡ place_after l t r full b
unfolding place_after
place_low l t r full b h {k} e f =
    ap (λ (T : Result Turn Refusal). offered T l t r full b (dirty_slot k)) f
    ∙ ap (λ (k : Condition). place_in k l t r full b) e ∙ rw (place_after, lt-leb l.blocks b.0 h)
