-- What a service that no reason refuses does, and what is known of the box as it does it: all that is shown of services rests on this.
use Prim.Native.Nat.{ℕ, ◌+◌, ◌*◌, ◌%◌, ◌≤◌, ◌<◌}
use mathlib.Core.Path.{◌≡◌, refl, sym, ap, subst, ◌∙◌}
use mathlib.Core.Logic.{◌≢◌, ◌⊎◌, inl, inr}
use mathlib.Core.Bool.{Bool, true, false, not, ◌&&◌}
use mathlib.Core.List.{List, [], ◌∷◌, ◌++◌}
use Rattle.std.specs.Prelude.{Option, None}
use lib.ListN.{length, get_or}
use native.Mathlib.Omega.{arith}
use lib.Dec.{eqb, ltb, leb}
use borrow.Author.Tests.{leb-false, ltb-false, eqb-true, not-false}
use Rattle.pages.specs.Pages.{page_at}
use Rattle.layout.specs.declared.Slot.{Slot}
use Rattle.layout.specs.declared.Block.{Block}
use Rattle.layout.specs.declared.Label.{Label}
use Rattle.layout.specs.Places.{block_place, meta_of, table_length}
use Rattle.layout.specs.Stamps.{largest_stamp, opening_bound}
use Rattle.protocol.specs.declared.Condition.{Condition}
use Rattle.protocol.specs.Reply.{Reply, overwrite, copied_out, nothing_to_do, refused}
use Rattle.protocol.specs.Rows.{row_flags, set_flags, set_row, valid, dirty, writing, with_writing, open_rows}
use Rattle.record.specs.declared.Record.{Record}
use Rattle.record.specs.Callers.{open_by}
use Rattle.record.specs.Record.{label_in, window_in, callers_in}
use Rattle.record.proofs.CallerLaws.{by_more}
use Rattle.protocol.specs.Box.{Box}
use Rattle.protocol.specs.Condition.{condition_of, closed_slots, is_open, takes_write, takes_fetch}
use Rattle.protocol.specs.Sweep.{Victim, sweep}
use Rattle.protocol.specs.Plan.{flush, offer, fetch, land_fetch, look_up, view, write_back, land, look_up_list, ask, Ask, slot_map, cost, grown, Move, stay, uses, uses_all, announces, opens, lands, copies, confirms, takes_as, takes, offering, fetching, landing, landing_fetch, looking_up, writing_back, flushing, plan, stores_meta, import_open}
use Rattle.protocol.specs.Perform.{confirmed, landed_flags, landed_state, used_all, perform}
use Rattle.protocol.specs.Kinds.{to_serve, to_settle, to_write, to_fetch, to_land_fetch, to_land, Aim, aims, aims_by, aims_all, ask_aim, no_block}
use Rattle.protocol.specs.declared.Refusal.TheVariants.{WrongLength, BlockTooHigh, SlotOpen, WrongState, WindowFull, StampsSpent, ImportFull, UnknownCaller}
use Rattle.protocol.specs.Judge.{length_test, test, judged}
use Rattle.protocol.specs.ReferenceDisk.{Disk, fed_call}
use Rattle.layout.proofs.Booleans.{Told, told, told_true, told_false, clash, and_parts}
use Rattle.laws.proofs.model.Model.{dirty_row, open_row, block_of}
use Rattle.laws.proofs.refine.Flags.{row_of, Flags, f5, f7, LegalRow, changed_open, changed_row}
use Rattle.laws.proofs.refine.Tables.{row_at, Rows, at_open, at_dirty}
use Rattle.laws.proofs.refine.Conditions.{Held, Stands, absent, is_clean, is_dirty, is_writing_is, is_fetching, stands}
use Rattle.laws.proofs.refine.Sweeps.{Alike, alike_same, next_low, Swept, took, stuck, swept}
use Rattle.record.proofs.WindowLaws.{take-array}
use Rattle.laws.proofs.Sound.{Sound, room, sound_alike, sound_uses, sound_copies, sound_opens, sound_lands, sound_closes}
use Rattle.laws.proofs.Judged.{passed}
use Rattle.laws.proofs.Accepted.{Legal, service_legal}
use Rattle.laws.proofs.Used.{all_valid, used-alike}

-- no row holds a block
abbrev pub Absent : Label → List ℕ → ℕ → Type 0
Absent l t b = (s : ℕ) → s < l.slots → valid (get_or t (2 * s + 1) 0) ≡ true → get_or t (2 * s) 0 ≢ b

-- a slot is opened for a block with these flags, in the table v that a sweep left: it is closed and clean, and holds the block if any
-- slot does
pub record Opening (x : Box) (s : Slot) (b : Block) (caller f : ℕ) (v : List ℕ) (hand : Slot) : Type 0 where
  pub low : s.0 < x.state.label.slots
  pub alike : Alike (label_in x.state) x.table v
  pub hand-low : hand.0 < x.state.label.slots
  pub row : LegalRow (label_in x.state) b.0 f
  pub is_open_is : open_row (row_of b.0 (f % 8)) ≡ true
  pub block_is : block_of (row_of b.0 (f % 8)) ≡ b.0
  pub block-low : b.0 < x.state.label.blocks
  pub was_shut : open_row (row_at x.table s.0) ≡ false
  pub was_clean : dirty_row (row_at x.table s.0) ≡ false
  pub fresh : Absent (label_in x.state) x.table b.0 ⊎ Held (label_in x.state) x.table b.0 s.0
  pub few : open_rows x.table < 63
  pub known : caller ≤ 1
  pub import_few : open_by 1 (callers_in x.state) ≤ 8 → open_by 1 (callers_in x.state ++ (caller ∷ [])) ≤ 8

-- the box with slots opened, before their store
abbrev pub later : Box → List ℕ → Slot → List Slot → List ℕ → Box
later x t h w cs = record { images = x.images; table = t; state = grown x.state h w cs }

-- slots of metadata page q are opened one after another: the table, the hand, the window and its callers after
pub data Openings (x : Box) (q : ℕ) : List ℕ → Slot → List Slot → List ℕ → Type 0 where
  opens_one : {s : Slot} {b : Block} {c f : ℕ} {v : List ℕ} {hand : Slot} → Opening x s b c f v hand → meta_of s ≡ q
      → Openings x q (set_row v s b f) hand (window_in x.state ++ (s ∷ [])) (callers_in x.state ++ (c ∷ []))
  opens_more : {t : List ℕ} {h : Slot} {w : List Slot} {cs : List ℕ} {s : Slot} {b : Block} {c f : ℕ} {v : List ℕ} {hand : Slot}
      → Openings x q t h w cs → Opening (later x t h w cs) s b c f v hand → meta_of s ≡ q
      → Openings x q (set_row v s b f) hand (window_in (grown x.state h w cs) ++ (s ∷ [])) (callers_in (grown x.state h w cs) ++ (c ∷ []))

-- a closed, dirty slot is copied out, in such a table
pub record Copying (x : Box) (s : Slot) (v : List ℕ) (hand : Slot) : Type 0 where
  pub low : s.0 < x.state.label.slots
  pub alike : Alike (label_in x.state) x.table v
  pub hand-low : hand.0 < x.state.label.slots
  pub is_shut : writing (row_flags v s) ≡ false
  pub is_dirty : dirty (row_flags v s) ≡ true

-- what a call asks for feeds the reference disk nothing
abbrev pub Quiet : Aim → Type 0
Quiet a = (d : Disk) → fed_call a.purpose a.block d ≡ d

pub data Does (x : Box) : Aim → Move → Type 0 where
  does_nothing : {a : Aim} {said : Reply} → Quiet a → refused said ≡ false → Does x a (stay said)
  does_use : {a : Aim} {b : ℕ} {s : Slot} {said : Reply} → Quiet a → refused said ≡ false → Held (label_in x.state) x.table b s.0
      → Does x a (uses s said)
  does_use_all : {a : Aim} {ss : List Slot} → Quiet a → Alike (label_in x.state) x.table (used_all ss x.table) → Does x a (uses_all ss)
  does_announce : {a : Aim} {said : Reply} {q : ℕ} {t : List ℕ} {h : Slot} {w : List Slot} {cs : List ℕ} → Quiet a
      → refused said ≡ false → Openings x q t h w cs → x.state.newest < opening_bound (label_in x.state)
      → Does x a (announces said q t h w cs)
  does_copy : {a : Aim} {s : Slot} {said : Reply} {v : List ℕ} {hand : Slot} → Quiet a → refused said ≡ false → Copying x s v hand
      → Does x a (copies s said v hand)
  -- a write lands in its block's slot, open or dirty; a fetch in one that is open
  does_land : {b : Block} {s : Slot} {page : List ℕ} → Held (label_in x.state) x.table b.0 s.0 → b.0 < x.state.label.blocks
      → dirty (row_flags x.table s) ≡ true → length page ≡ 4096 → Does x (aims b (to_land page)) (lands true s page)
  does_fetch : {a : Aim} {b : Block} {s : Slot} → Quiet a → Held (label_in x.state) x.table b.0 s.0 → b.0 < x.state.label.blocks
      → writing (row_flags x.table s) ≡ true → Does x a (lands false s (page_at x.images.hdd (block_place (label_in x.state) b)))
  -- a flush with nothing to confirm, and with something
  does_rest : {b : Block} {said : Reply} → refused said ≡ false → x.state.unconfirmed ≡ false → Does x (aims b to_settle) (stay said)
  does_confirm : {b : Block} → x.state.unconfirmed ≡ true → x.state.newest < largest_stamp (label_in x.state)
      → Does x (aims b to_settle) confirms

-- it is no refusal
pub does_said : {x : Box} {a : Aim} {m : Move} → Does x a m → refused (perform m x).said ≡ false
unfolding perform confirmed
does_said (does_nothing z n) = n
does_said (does_use z n H) = n
does_said (does_use_all z A) = refl
does_said (does_announce z n O spare) = n
does_said (does_copy z n C) = n
does_said (does_land H bl y size) = refl
does_said (does_fetch z H bl w) = refl
does_said (does_rest n u) = n
does_said (does_confirm u n) = refl

-- and table and window stay sound, of any box
pub opening_sound : {x : Box} {s : Slot} {b : Block} {c f : ℕ} {v : List ℕ} {hand : Slot} → Opening x s b c f v hand
    → {w : List Slot} → Sound (label_in x.state) x.table w → Sound (label_in x.state) (set_row v s b f) (w ++ (s ∷ []))
opening_sound {s = s} {b = b} {f = f} O S =
    sound_opens (sound_alike S O.alike) s.0 b.0 f O.low O.row O.is_open_is (ap open_row (O.alike.row s.0) ∙ O.was_shut)
    (room S O.few)

pub grown-window : (r : Record) (h : Slot) (w : List Slot) (cs : List ℕ) → window_in (grown r h w cs) ≡ w
unfolding window_in
grown-window r h w cs = take-array w

-- so all of them leave table and window sound
pub openings_sound : {x : Box} {q : ℕ} {t : List ℕ} {h : Slot} {w : List Slot} {cs : List ℕ} → Openings x q t h w cs
    → Sound (label_in x.state) x.table (window_in x.state) → Sound (label_in x.state) t w
openings_sound (opens_one O e) S = opening_sound O S
openings_sound {x = x} (opens_more {h = h} {w = w} {cs = cs} Os O e) S =
    opening_sound O {w = window_in (grown x.state h w cs)} (rw grown-window (openings_sound Os S))

abbrev Kept : Box → Move → Type 0
Kept x m = Sound (label_in x.state) (perform m x).table (window_in (perform m x).state)

module _ (x : Box) (S : Sound (label_in x.state) x.table (window_in x.state)) where
  lands_sound : (write : Bool) {b : ℕ} {s : Slot} → Held (label_in x.state) x.table b s.0 → (page : List ℕ)
      → Kept x (lands write s page)
  unfolding perform window_in
  lands_sound write {b} {s} H page = go (writing (row_flags x.table s)) refl
    where
      go : (o : Bool) → writing (row_flags x.table s) ≡ o
          → Sound (label_in x.state) (set_flags x.table s (landed_flags write (row_flags x.table s)))
          (window_in (landed_state o s x.state))
      go true e = rw take-array (sound_closes S write s.0 H.low H.held)
      go false e = sound_lands S write s.0 H.low H.held e

  pub does_sound : {a : Aim} {m : Move} → Does x a m → Kept x m
  unfolding perform confirmed window_in
  does_sound (does_nothing z n) = S
  does_sound (does_use {s = s} z n H) = sound_uses S s.0 H.low H.held
  does_sound (does_use_all z A) = sound_alike S A
  does_sound (does_announce z n O spare) = rw take-array (openings_sound O S)
  does_sound (does_copy {s = s} z n C) = sound_copies (sound_alike S C.alike) s.0 C.low C.is_shut
  does_sound (does_land {page = page} H bl y size) = lands_sound true H page
  does_sound (does_fetch {b = b} z H bl w) = lands_sound false H (page_at x.images.hdd (block_place (label_in x.state) b))
  does_sound (does_rest n u) = S
  does_sound (does_confirm u n) = S

-- "overwrite", or what no offer or fetch that is not refused answers
pub data Still : Reply → Type 0 where
  still_overwrite : Still overwrite
  still_nothing : Still nothing_to_do

still_said : {said : Reply} → Still said → refused said ≡ false
still_said still_overwrite = refl
still_said still_nothing = refl

-- what an offer or a fetch does, 13 apart
pub data Taken (x : Box) : Move → Type 0 where
  taken-stay : {said : Reply} → Still said → Taken x (stay said)
  taken_open : {s : Slot} {b : Block} {c f : ℕ} {v : List ℕ} {hand : Slot} → Opening x s b c f v hand
      → Taken x (opens x.state s b c f v hand)
  taken_copy : {s : Slot} {v : List ℕ} {hand : Slot} → Copying x s v hand → Taken x (copies s copied_out v hand)

pub taken_does : {x : Box} {a : Aim} → Quiet a → {m : Move} → Taken x m
    → (stores_meta m && leb (opening_bound (label_in x.state)) x.state.newest) ≡ false → Does x a m
taken_does z (taken-stay n) spent = does_nothing z (still_said n)
taken_does z (taken_open O) spent = does_announce z refl (opens_one O refl) (leb-false _ _ spent)
taken_does z (taken_copy C) spent = does_copy z refl C

-- what they rest on
pub record Fit (x : Box) : Type 0 where
  pub table-size : length x.table ≡ table_length (label_in x.state)
  pub rows : Rows (label_in x.state) x.table
  pub hand-low : x.state.hand.0 < x.state.label.slots

pub fit : {x : Box} → Legal x → Fit x
fit L = record { table-size = L.table-size; rows = L.rows; hand-low = L.hand-low }

module _ (x : Box) (L : Fit x) where
  abbrev lab : Label
  lab = label_in x.state

  same : Alike lab x.table x.table
  same = alike_same lab x.table L.table-size L.rows

  pub here : (b : Block) → Stands lab x.table b.0 (condition_of x.table b)
  here b = stands lab x.table L.table-size b

  row_of_lem : (b : ℕ) {f : ℕ} → Flags f → valid f ≡ true → b < x.state.label.blocks → LegalRow lab b f
  row_of_lem b k v h = record { flags = k; low = λ _. h; free = λ e. clash v e }

  -- a caller that neither 18 nor 17 refuses
  record Calls (caller : ℕ) : Type 0 where
    known : caller ≤ 1
    room : open_by 1 (callers_in x.state) ≤ 8 → open_by 1 (callers_in x.state ++ (caller ∷ [])) ≤ 8

  calls : (caller : ℕ) → ltb 1 caller ≡ false → import_open caller x.state ≡ false → Calls caller
  unfolding open_by
  calls caller u f = record { known = ltb-false 1 caller u; room = λ h. rw by_more (few (told (eqb caller 1)) h) }
    where
      one : {b : Bool} → eqb caller 1 ≡ b → open_by 1 (caller ∷ []) ≡ elim b [ true ↦ 1 | false ↦ 0 ]
      one e = ap (λ (o : Bool). elim o [ true ↦ 1 | false ↦ 0 ]) e

      few : Told (eqb caller 1) → open_by 1 (callers_in x.state) ≤ 8 → open_by 1 (callers_in x.state) + open_by 1 (caller ∷ []) ≤ 8
      few (told_true e) h = omega (arith, one e, leb-false 8 (open_by 1 (callers_in x.state)) (rw e at f))
      few (told_false e) h = omega (arith, one e)

  -- a slot is swept for
  sweeping : (b : Block) {c : ℕ} (f : ℕ) → Calls c → b.0 < x.state.label.blocks → Flags f → valid f ≡ true
      → open_row (row_of b.0 (f % 8)) ≡ true → block_of (row_of b.0 (f % 8)) ≡ b.0 → Absent lab x.table b.0 → open_rows x.table < 63
      → {o : Option Victim} → Swept lab x.table o → Taken x (takes x.state b c f o)
  sweeping b f C bl k v o-row b-row none-holds few stuck = taken-stay still_nothing
  sweeping b {c} f C bl k v o-row b-row none-holds few (took u low shut unused A) = by (dirty (row_flags u.table u.slot)) refl
    where
      by : (d : Bool) → dirty (row_flags u.table u.slot) ≡ d → Taken x (takes_as d x.state b c f u)
      by true e = taken_copy (record { low = low; alike = A; hand-low = low; is_shut = shut; is_dirty = e })
      by false e = taken_open (record {
        low = low;
        alike = A;
        hand-low = next_low lab u.slot low;
        row = row_of_lem b.0 k v bl;
        is_open_is = o-row;
        block_is = b-row;
        block-low = bl;
        was_shut = ap open_row (sym (A.row u.slot.0)) ∙ at_open lab u.table A.legal u.slot.0 low ∙ shut;
        was_clean = ap dirty_row (sym (A.row u.slot.0)) ∙ at_dirty lab u.table A.legal u.slot.0 low ∙ e;
        fresh = inl none-holds;
        few = few;
        known = C.known;
        import_few = C.room;
      })

  sweep_here : Swept lab x.table (sweep lab x.table x.state.hand)
  sweep_here = swept (2 * x.state.label.slots) lab x.table x.table same x.state.hand L.hand-low

  pub offers : (b : Block) (c : ℕ) → ltb 1 c ≡ false → b.0 < x.state.label.blocks → {z : Condition} → Stands lab x.table b.0 z
      → is_open z ≡ false → (not (takes_write z) && import_open c x.state) ≡ false
      → (not (takes_write z) && leb 63 (open_rows x.table)) ≡ false → Taken x (offering x b c z)
  unfolding row_of
  offers b c u bl (absent h) o by full = sweeping b 7 (calls c u by) bl f7 refl refl refl h (leb-false _ _ full) sweep_here
  offers b c u bl (is_clean s H w d) o by full =
      let C = changed_open (L.rows s H.low).flags (get_or x.table (2 * s) 0) H.held w d in
      let flags : ℕ = with_writing (get_or x.table (2 * s + 1) 0) in
      taken_open (record {
        low = H.low;
        alike = same;
        hand-low = L.hand-low;
        row = subst (λ (n : ℕ). LegalRow lab n flags) H.block (changed_row (L.rows s H.low) C);
        is_open_is = subst (λ (n : ℕ). open_row (row_of n (flags % 8)) ≡ true) H.block (ap open_row C.row);
        block_is = subst (λ (n : ℕ). block_of (row_of n (flags % 8)) ≡ n) H.block (ap block_of C.row);
        block-low = bl;
        was_shut = at_open lab x.table L.rows s H.low ∙ w;
        was_clean = at_dirty lab x.table L.rows s H.low ∙ d;
        fresh = inr H;
        few = leb-false _ _ full;
        known = (calls c u by).known;
        import_few = (calls c u by).room;
      })
  offers b c u bl (is_dirty s H w d) o by full = taken-stay still_overwrite
  offers b c u bl (is_writing_is s H w d) o by full = clash {b = true} refl o
  offers b c u bl (is_fetching s H w d) o by full = clash {b = true} refl o

  fetches : (b : Block) (c : ℕ) → ltb 1 c ≡ false → b.0 < x.state.label.blocks → {z : Condition} → Stands lab x.table b.0 z
      → import_open c x.state ≡ false → leb 63 (open_rows x.table) ≡ false → Taken x (fetching x b c z)
  unfolding row_of
  fetches b c u bl (absent h) by full = sweeping b 5 (calls c u by) bl f5 refl refl refl h (leb-false _ _ full) sweep_here
  fetches b c u bl (is_clean s H w d) by full = taken-stay still_nothing
  fetches b c u bl (is_dirty s H w d) by full = taken-stay still_nothing
  fetches b c u bl (is_writing_is s H w d) by full = taken-stay still_nothing
  fetches b c u bl (is_fetching s H w d) by full = taken-stay still_nothing

  landings : (b : Block) (page : List ℕ) → b.0 < x.state.label.blocks → length page ≡ 4096 → {z : Condition}
      → Stands lab x.table b.0 z → takes_write z ≡ true → Does x (aims b (to_land page)) (landing page z)
  landings b page bl size (absent h) t = clash {b = false} t refl
  landings b page bl size (is_clean s H w d) t = clash {b = false} t refl
  landings b page bl size (is_dirty s H w d) t = does_land H bl d size
  landings b page bl size (is_writing_is s H w d) t = does_land H bl d size
  landings b page bl size (is_fetching s H w d) t = clash {b = false} t refl

  land_fetches : (b : Block) → b.0 < x.state.label.blocks → {z : Condition} → Stands lab x.table b.0 z → takes_fetch z ≡ true
      → Does x (aims b to_land_fetch) (landing_fetch x b z)
  land_fetches b bl (absent h) t = clash {b = false} t refl
  land_fetches b bl (is_clean s H w d) t = clash {b = false} t refl
  land_fetches b bl (is_dirty s H w d) t = clash {b = false} t refl
  land_fetches b bl (is_writing_is s H w d) t = clash {b = false} t refl
  land_fetches b bl (is_fetching s H w d) t = does_fetch (λ d. refl) H bl w

  looks_up : (b : Block) → {z : Condition} → Stands lab x.table b.0 z → Does x (aims b to_serve) (looking_up z)
  looks_up b (absent h) = does_nothing (λ d. refl) refl
  looks_up b (is_clean s H w d) = does_use (λ d. refl) refl H
  looks_up b (is_dirty s H w d) = does_use (λ d. refl) refl H
  looks_up b (is_writing_is s H w d) = does_nothing (λ d. refl) refl
  looks_up b (is_fetching s H w d) = does_nothing (λ d. refl) refl

  looks_up_all : (blocks : List ℕ) (room : ℕ) → Does x (aims_all blocks room) (uses_all (closed_slots x.table blocks))
  looks_up_all blocks room =
      does_use_all (λ d. refl) (used-alike lab x.table L.rows x.table same (all_valid lab x.table L.table-size blocks))

  writes_back : (b : Block) → {z : Condition} → Stands lab x.table b.0 z → Does x (aims b to_serve) (writing_back x z)
  writes_back b (absent h) = does_nothing (λ d. refl) refl
  writes_back b (is_clean s H w d) = does_nothing (λ d. refl) refl
  writes_back b (is_dirty s H w d) = does_copy (λ d. refl) refl
      (record { low = H.low; alike = same; hand-low = L.hand-low; is_shut = w; is_dirty = d })
  writes_back b (is_writing_is s H w d) = does_nothing (λ d. refl) refl
  writes_back b (is_fetching s H w d) = does_nothing (λ d. refl) refl

  flushes : (u : Bool) → x.state.unconfirmed ≡ u → (stores_meta (flushing u) && leb (largest_stamp (label_in x.state))
      x.state.newest) ≡ false
      → Does x (aims no_block to_settle) (flushing u)
  flushes true e spent = does_confirm e (leb-false _ _ spent)
  flushes false e spent = does_rest refl e

-- each service, not refused
module _ (x : Box) where
  pub flush_does : judged flush x ≡ None → Does x (aims no_block to_settle) (plan flush x)
  unfolding test plan
  flush_does e = flushes x (fit (service_legal flush x refl e)) x.state.unconfirmed refl (passed flush x e StampsSpent refl)

  pub ask_does : (a : Ask) → judged (ask a) x ≡ None → Does x (ask_aim a) (plan (ask a) x)
  unfolding plan
  ask_does (slot_map n) e = does_nothing (λ d. refl) refl
  ask_does (cost blocks caller n) e = does_nothing (λ d. refl) refl

  pub look_up_list_does : (blocks : List ℕ) (room : ℕ) → judged (look_up_list blocks room) x ≡ None
      → Does x (aims_all blocks room) (plan (look_up_list blocks room) x)
  unfolding plan
  look_up_list_does blocks room e = looks_up_all x (fit (service_legal (look_up_list blocks room) x refl e)) blocks room

  module _ (b : Block) where
    pub offer_does : (c : ℕ) → judged (offer b c) x ≡ None → Does x (aims_by b to_write c) (plan (offer b c) x)
    unfolding test plan
    offer_does c e =
        let L = fit (service_legal (offer b c) x refl e) in
        let q = passed (offer b c) x e in
        taken_does (λ d. refl)
        (offers x L b c (q UnknownCaller refl) (leb-false _ _ (q BlockTooHigh refl)) (here x L b) (q SlotOpen refl) (q ImportFull refl)
        (q WindowFull refl)) (q StampsSpent refl)

    pub fetch_does : (c : ℕ) → judged (fetch b c) x ≡ None → Does x (aims_by b to_fetch c) (plan (fetch b c) x)
    unfolding test plan
    fetch_does c e =
        let L = fit (service_legal (fetch b c) x refl e) in
        let q = passed (fetch b c) x e in
        taken_does (λ d. refl)
        (fetches x L b c (q UnknownCaller refl) (leb-false _ _ (q BlockTooHigh refl)) (here x L b) (q ImportFull refl)
        (q WindowFull refl)) (q StampsSpent refl)

    pub land_fetch_does : judged (land_fetch b) x ≡ None → Does x (aims b to_land_fetch) (plan (land_fetch b) x)
    unfolding test plan
    land_fetch_does e =
        let L = fit (service_legal (land_fetch b) x refl e) in
        let q = passed (land_fetch b) x e in
        land_fetches x L b (leb-false _ _ (q BlockTooHigh refl)) (here x L b) (not-false _ (q WrongState refl))

    pub look_up_does : judged (look_up b) x ≡ None → Does x (aims b to_serve) (plan (look_up b) x)
    unfolding plan
    look_up_does e = let L = fit (service_legal (look_up b) x refl e) in looks_up x L b (here x L b)

    pub view_does : judged (view b) x ≡ None → Does x (aims b to_serve) (plan (view b) x)
    unfolding plan
    view_does e = does_nothing (λ d. refl) refl

    pub write_back_does : judged (write_back b) x ≡ None → Does x (aims b to_serve) (plan (write_back b) x)
    unfolding plan
    write_back_does e = let L = fit (service_legal (write_back b) x refl e) in writes_back x L b (here x L b)

    pub land_does : (page : List ℕ) → judged (land b page) x ≡ None → Does x (aims b (to_land page)) (plan (land b page) x)
    unfolding test plan
    land_does page e =
        let L = fit (service_legal (land b page) x refl e) in
        let q = passed (land b page) x e in
        let sizes = and_parts (length_test (label_in x.state) x.images x.table) _ (not-false _ (q WrongLength refl)) in
        landings x L b page (leb-false _ _ (q BlockTooHigh refl)) (eqb-true _ _ sizes.1) (here x L b) (not-false _ (q WrongState refl))
