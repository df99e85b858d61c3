-- The plain disk, the lists of demand 3 and where a block is, by what they come to: each sentence of document 01 once more, of any world
-- or of a small one, so that it is false where the definition says something else.
use Prim.Native.Nat.{ℕ}
use mathlib.Core.Path.{◌≡◌, refl, ap, ◌∙◌}
use mathlib.Core.Logic.{◌⊎◌, inl, inr}
use mathlib.Core.Bool.{Bool, true, false, not, ◌&&◌}
use mathlib.Core.List.{List, [], ◌∷◌}
use Rattle.std.specs.Prelude.{Some, None}
use native.Mathlib.Omega.{arith}
use lib.Dec.{eqb}
use borrow.Author.Tests.{eqb-true}
use Rattle.layout.specs.declared.Slot.{Slot}
use Rattle.layout.specs.declared.Block.{Block}
use Rattle.layout.specs.PageRule.{listed}
use Rattle.layout.proofs.Booleans.{clash, or_cases}
use Rattle.record.specs.declared.Record.{Record}
use Rattle.record.specs.declared.Phase.TheVariants.{Recovering}
use Rattle.record.specs.Record.{record_of}
use Rattle.protocol.specs.Reply.{refused, nothing_to_do}
use Rattle.protocol.specs.Box.{Box, Store, Result, box_after}
use Rattle.protocol.specs.Plan.{Call, format, step, flush, reopen, offer, fetch, land_fetch, look_up, view, write_back, land, ask, Ask, slot_map, cost}
use Rattle.protocol.specs.Kinds.{kind, aim}
use Rattle.protocol.specs.Judge.{is_ready}
use Rattle.protocol.specs.Calls.{effect_of, result_of}
use Rattle.protocol.specs.Recovery.{label_at, metas_of, entry_in}
use Rattle.protocol.specs.ReferenceDisk.{Disk, durable, fed_call, fed}
use Rattle.protocol.specs.Events.{World, Memory, Arrival, old, new, reopens, cut, read_of, may_finish, reads_if, called, crashed, start_of, CallFits, RightLength, Fits}
use Rattle.protocol.specs.Demand3.{stored_window, Outside, in_window, place}
use Rattle.protocol.proofs.cases.Report.{disk_of, filled, label_page, meta_page, pages}
use Rattle.protocol.proofs.cases.Known.{known}
use Rattle.protocol.proofs.cases.Case.{two, text_of}
use Rattle.protocol.proofs.cases.Rejected as rejected-first

-- a block's page is this, and its only content
abbrev pub Only : Disk → Block → List ℕ → Type 0
Only d b page = (d.page b ≡ page) × (d.contents b ≡ page ∷ [])

-- "Landing a write: the bytes become the block's page and join its contents": of a disk of one-byte pages, block 1 twice, block 2 never
abbrev pub twice_landed : Disk
twice_landed =
    let d = durable (λ b. b.0 ∷ []) in
    fed (land (record { 0 = 1 }) (8 ∷ [])) false None (fed (land (record { 0 = 1 }) (7 ∷ [])) false None d)

pub lands : (twice_landed.page (record { 0 = 1 }) ≡ 8 ∷ [])
    × (twice_landed.contents (record { 0 = 1 }) ≡ (8 ∷ []) ∷ (7 ∷ []) ∷ (1 ∷ []) ∷ [])
    × Only twice_landed (record { 0 = 2 }) (2 ∷ [])
lands = (refl, refl, (refl, refl))

module _ (w : World) where
  -- what a call leaves of the box, and of the disk
  abbrev R : Call → Result
  R c = result_of c w.box

  abbrev after : Call → Disk
  after c = (called c w).disk

  -- "Flush, "nothing to do" too: each block's contents become its page alone"
  pub settles : refused (R flush).said ≡ false → (b : Block) → Only (after flush) b (w.disk.page b)
  unfolding called
  settles h b = rw h (refl, refl)

  pub settles_idle : (R flush).said ≡ nothing_to_do → (b : Block) → Only (after flush) b (w.disk.page b)
  settles_idle h = settles (ap refused h)

  -- "Reopening, when finished (at once, or by the last step): .. from then on its page and only content"
  abbrev Resets : Call → Type 0
  Resets c = refused (R c).said ≡ false → is_ready (R c).state.phase ≡ true → (b : Block) → Only (after c) b (read_of (box_after (R c)) b)

  pub finished_resets : Resets reopen × Resets step
  unfolding called
  finished_resets = (λ h r b. rw (h, r) (refl, refl), λ h r b. rw (h, r) (refl, refl))

  -- "Anything else, refused calls and cuts: no change": a refused call; a reopening or a step that leaves more to mend; the other calls
  pub refusal_unfed : (c : Call) → refused (R c).said ≡ true → after c ≡ w.disk
  unfolding called
  refusal_unfed c h = rw h

  unfed : (c : Call) → (may_finish (kind c) && is_ready (R c).state.phase) ≡ false
      → fed_call (aim c).purpose (aim c).block w.disk ≡ w.disk → after c ≡ w.disk
  unfolding called
  unfed c m q = go (refused (R c).said)
    where
      go : (b : Bool) → fed c b (reads_if (not b && (may_finish (kind c) && is_ready (R c).state.phase)) (box_after (R c))) w.disk ≡ w.disk
      go true = refl
      go false = rw m q

  abbrev GoesOn : Call → Type 0
  GoesOn c = is_ready (R c).state.phase ≡ false → after c ≡ w.disk

  pub unfinished_unfed : GoesOn reopen × GoesOn step
  unfinished_unfed = (λ h. unfed reopen h refl, λ h. unfed step h refl)

  abbrev Unfed : Call → Type 0
  Unfed c = after c ≡ w.disk

  pub others_unfed : (b : Block) (caller : ℕ)
      → Unfed (offer b caller) × Unfed (fetch b caller) × Unfed (land_fetch b) × Unfed (look_up b) × Unfed (view b) × Unfed (write_back b)
  others_unfed b caller = (
    unfed (offer b caller) refl refl,
    unfed (fetch b caller) refl refl,
    unfed (land_fetch b) refl refl,
    unfed (look_up b) refl refl,
    unfed (view b) refl refl,
    unfed (write_back b) refl refl,
  )

  -- and a slot map (document 02, N1)
  pub map_unfed : (n : ℕ) → Unfed (ask (slot_map n))
  map_unfed n = unfed (ask (slot_map n)) refl refl

  -- and what an import would cost (N8)
  pub cost_unfed : (blocks : List ℕ) (caller n : ℕ) → Unfed (ask (cost blocks caller n))
  cost_unfed blocks caller n = unfed (ask (cost blocks caller n)) refl refl

  -- "A cut finds .. the page of the call it breaks off old or new; that call counts as made exactly if its store was done"
  pub cut_old : (c : Call) → crashed c old w ≡ w
  unfolding crashed
  cut_old c = refl

  pub cut_new : (c : Call) (s : Store) → (effect_of c w.box).store ≡ Some s → crashed c new w ≡ called c w
  unfolding crashed called
  cut_new c s h = rw h

  pub cut_idle : (c : Call) → (effect_of c w.box).store ≡ None → crashed c new w ≡ w
  unfolding crashed
  cut_idle c h = rw h

  -- "Calls that later requests add to the box join it, as do refused formats"
  pub calls_join : (b : Block) (caller : ℕ) (page : List ℕ) (a : Ask)
      → CallFits step w × CallFits flush w × CallFits reopen w × CallFits (offer b caller) w × CallFits (fetch b caller) w × CallFits (land_fetch b) w
      × CallFits (look_up b) w × CallFits (view b) w × CallFits (write_back b) w × CallFits (land b page) w × CallFits (ask a) w
  calls_join b caller page a = (tt, tt, tt, tt, tt, tt, tt, tt, tt, tt, tt)

  pub refused-format-joins : (slots blocks : ℕ) → refused (R (format slots blocks)).said ≡ true
      → CallFits (format slots blocks) w
  refused-format-joins slots blocks h = h

  -- "Then comes a reopening, with any record and any table of the right length", whether the page is old or new: right for the images
  -- that the cut leaves, whatever label the record has
  pub any_memory_joins : (c : Call) → CallFits c w → (a : Arrival) (table : List ℕ) (state : Record)
      → RightLength (crashed c a w).box.images table
      → let j : Memory = record { table = table; state = state } in Fits (cut c a j) w × Fits (reopens j) w
  any_memory_joins c k a table state h = ((k, h), tt)

-- A box of two slots that mends: slot 0 has block 1, dirty; slot 1, alone in the newest window, has block 2, writing.
abbrev pub mending : Box
mending = record {
  images = record {
    ssd = pages (
        label_page (text_of 50 51)
        ∷ meta_page (2 ∷ 0 ∷ 0 ∷ 0 ∷ 1 ∷ 0 ∷ []) (1 ∷ 0 ∷ 0 ∷ 0 ∷ []) (1 ∷ 0 ∷ 0 ∷ 0 ∷ 3 ∷ 0 ∷ 0 ∷ 0 ∷ 2 ∷ 0 ∷ 0 ∷ 0 ∷ 7 ∷ 0 ∷ 0 ∷ 0 ∷ [])
        ∷ filled 9 ∷ filled 8 ∷ []);
    hdd = disk_of two;
  };
  table = 1 ∷ 3 ∷ 0 ∷ 0 ∷ [];
  state = record_of two (record { 0 = 0 }) 2 Recovering false (record { 0 = 1 } ∷ []);
}

-- "Each block has a page and the contents .., both at first its HDD page"
pub starts : Only (start_of two mending).disk (record { 0 = 2 }) (filled 66)
unfolding known
starts = (refl, refl)

-- its images are of this label, and this is the length of a table for them
label_is : label_at mending.images.ssd ≡ two
unfolding known text_of
label_is = refl

pub right-length : RightLength mending.images mending.table
unfolding known text_of
right-length = refl

-- "A block is outside the newest stored window .. if no slot in it has an entry for that block": the window is slot 1, whose entry is
-- for block 2
window_is : stored_window two mending.images ≡ record { 0 = 1 } ∷ []
unfolding known text_of
window_is = refl

entry_is : (entry_in (metas_of two mending.images.ssd) (record { 0 = 1 })).block.0 ≡ 2
unfolding known text_of
entry_is = refl

named : (s : Slot) → listed s (stored_window two mending.images) ≡ true → (entry_in (metas_of two mending.images.ssd) s).block.0 ≡ 2
unfolding listed
named s h = ap (λ (n : ℕ). (entry_in (metas_of two mending.images.ssd) (record { 0 = n })).block.0) (only (rw window_is at h)) ∙ entry_is
  where
    only : listed s (record { 0 = 1 } ∷ []) ≡ true → s.0 ≡ 1
    only k = go (or_cases _ _ k)
      where
        go : (eqb s.0 1 ≡ true) ⊎ (false ≡ true) → s.0 ≡ 1
        go (inl e) = eqb-true _ _ e
        go (inr e) = clash e refl

pub outside : Outside mending.images (record { 0 = 0 }) × Outside mending.images (record { 0 = 1 })
outside = (
  λ s h e. omega (arith, named s (rw label_is at h), rw label_is at e),
  λ s h e. omega
      (arith, named s (rw label_is at h), rw label_is at e),
)

pub inside : Outside mending.images (record { 0 = 2 }) → ⊥
unfolding known text_of
inside h = h (record { 0 = 1 }) refl refl

-- "From a cut, or the start of a reopening, till a reopening is finished, a block's slot and page are those of its valid entry if it is
-- outside and has one, else none and its HDD page": whatever the record says, but that the box is not ready
abbrev pub mending_by : Record → Box
mending_by r = record { images = mending.images; table = mending.table; state = r }

pub places : (r : Record) → is_ready r.phase ≡ false
    → (place (mending_by r) (record { 0 = 0 }) ≡ record { slot = None; page = filled 64 })
    × (place (mending_by r) (record { 0 = 1 }) ≡ record { slot = Some (record { 0 = 0 }); page = filled 9 })
    × (place (mending_by r) (record { 0 = 2 }) ≡ record { slot = None; page = filled 66 })
unfolding known text_of place in_window
places r h = rw h (refl, refl, refl)
