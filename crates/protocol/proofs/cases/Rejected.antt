-- Demand 3's claim rejects something: worlds that a bad box would leave, and that Safe is false of each, one at least for each field.
use Prim.Native.Nat.{ℕ, zero, suc, ◌<◌}
use mathlib.Core.Path.{◌≡◌, refl, sym, ap, subst, ◌∙◌}
use mathlib.Core.Logic.{◌≢◌}
use mathlib.Core.Bool.{Bool, true, false, not, ◌&&◌}
use mathlib.Core.List.Memᴰ
use mathlib.Core.List.{List, [], ◌∷◌}
use Rattle.std.specs.Prelude.{Some, None}
use Rattle.std.proofs.lemmas.Option.{none-some}
use native.Mathlib.Omega.{arith}
use lib.ListN.{get_or}
use Rattle.pages.specs.Pages.{page_at}
use Rattle.layout.specs.declared.Block.{Block}
use Rattle.layout.specs.declared.Label.{Label}
use Rattle.layout.specs.Places.{data_place, within_limits}
use Rattle.layout.specs.PageRule.{listed}
use Rattle.layout.proofs.Booleans.{clash}
use Rattle.protocol.specs.Reply.{Reply, refused, looked, done}
use Rattle.protocol.specs.declared.Condition.TheVariants.{NotCached, Dirty}
use Rattle.record.specs.declared.Phase.{Phase}
use Rattle.record.specs.declared.Phase.TheVariants.{Recovering, Ready}
use Rattle.record.specs.Record.{record_of}
use Rattle.record.specs.Rule.{record_test}
use Rattle.protocol.specs.Rows.{row_flags, valid}
use Rattle.protocol.specs.Box.{Box}
use Rattle.protocol.specs.Plan.{step, flush, reopen, offer, land, look_up}
use Rattle.protocol.specs.Kinds.{kind}
use Rattle.protocol.specs.Judge.{is_ready, label_test, test, first_of, judged}
use Rattle.protocol.specs.Calls.{effect_of, result_of, view_of}
use Rattle.protocol.specs.ReferenceDisk.{durable, fed}
use Rattle.protocol.specs.Events.{World, call, may_finish, called, run, steps, start_of}
use Rattle.protocol.specs.Demand3.{stored_window, Place, slot_said, place, own, Mends, Kept, own_label, Safe}
use Rattle.protocol.proofs.cases.Report.{nothing, Line, line, lines_of, Report, reads_of, report, lost, start, filled}
use Rattle.protocol.proofs.cases.Known.{known}
use Rattle.protocol.proofs.cases.Case.{Script, scripted, Computed, shows, usual, one, text_of, fresh}
use Rattle.protocol.proofs.cases.Refusals.{sized_one}
use Rattle.protocol.proofs.cases.Cases.{shown_3, shown_4}

unfoldable pub five : Block
five = record { 0 = 5 }

-- the box while it mends after a write that landed and was not flushed (P4), and after one that did not land (P3)
unfoldable pub landed_then_cut : Box
landed_then_cut = (run (call (offer five 0) ∷ call (land five (filled 9)) ∷ lost usual ∷ []) (start usual)).box

unfoldable pub announced_then_cut : Box
announced_then_cut = (run (call (offer five 0) ∷ lost usual ∷ []) (start usual)).box

-- A box that loses a flushed page: the plain disk was fed the landing and a flush, but the box is the one whose flush stored nothing.
unfoldable pub loses_flushed : World
loses_flushed = record {
  box = landed_then_cut;
  disk = fed flush false None (fed (land five (filled 9)) false None (start usual).disk);
}

-- A box whose finished mending reads another page than the only one that the plain disk has of the block.
unfoldable pub mends_to_another : World
mends_to_another = record { box = announced_then_cut; disk = durable (λ b. filled 9) }

ended : Line → Bool
ended k = not (refused k.said) && (may_finish (kind step) && is_ready k.phase)

other-page : filled 69 ≢ filled 9
other-page e = let q : ◌≡◌ {A = ℕ} 69 9 = ap (λ (l : List ℕ). get_or l 0 0) e in omega arith

low : {w : World} → Safe usual w → five.0 < (own_label w).blocks
unfolding five
low S = subst (λ (l : Label). 5 < l.blocks) (sym S.label) (omega arith)

pub loses_flushed_lem : Safe usual loses_flushed → ⊥
unfolding loses_flushed landed_then_cut five ended run report lines_of reads_of called
loses_flushed_lem S =
    let lines = ap (λ (r : Report). ended (get_or r.lines 3 (line done nothing Ready))) shown_4 in
    let reads = ap (λ (r : Report). get_or r.reads 0 []) shown_4 in
    other-page (sym reads ∙ Memᴰ.eq_of_singleton (S.allowed (call step) tt lines five (low S)))

pub mends_to_another_lem : Safe usual mends_to_another → ⊥
unfolding mends_to_another announced_then_cut five ended run report lines_of reads_of called
mends_to_another_lem S =
    let lines = ap (λ (r : Report). ended (get_or r.lines 2 (line done nothing Ready))) shown_3 in
    let reads = ap (λ (r : Report). get_or r.reads 0 []) shown_3 in
    other-page (sym reads ∙ Memᴰ.eq_of_singleton (S.allowed (call step) tt lines five (low S)))

-- A ready box that reads another page than the plain disk's.
unfoldable pub reads_another : World
reads_another = record {
  box = (run (call (offer five 0) ∷ call (land five (filled 9)) ∷ lost usual ∷ call step ∷ []) (start usual)).box;
  disk = durable (λ b. filled 9);
}

pub reads_another_lem : Safe usual reads_another → ⊥
unfolding reads_another five report reads_of
reads_another_lem S =
    let on = ap (λ (r : Report). is_ready r.state.phase) shown_4 in
    let reads = ap (λ (r : Report). get_or r.reads 0 []) shown_4 in
    other-page (sym reads ∙ S.reads on five (low S))

-- Boxes with hand 4 of 4 slots and no images, whose record is refused by 3: ready, and mending.
abbrev pub handless : Phase → World
handless p = record {
  box = record { images = record { ssd = []; hdd = [] }; table = []; state = record_of usual (record { 0 = 4 }) 0 p false [] };
  disk = durable (λ b. []);
}

-- the record has another label than the format's
pub other-label : Safe one (handless Ready) → ⊥
other-label S = let q : ◌≡◌ {A = ℕ} 4 1 = ap (λ (l : Label). l.slots) S.label in omega arith

-- the SSD image has no label
pub loses_label : Safe usual (handless Ready) → ⊥
unfolding known
loses_label S = let q : ◌≡◌ {A = ℕ} 0 4 = ap (λ (l : Label). l.slots) S.stored-label in omega arith

-- a view of a ready box is refused
pub refuses_view : Safe usual (handless Ready) → ⊥
unfolding view_of judged first_of test record_test within_limits
refuses_view S = let q : ◌≡◌ {A = ℕ} 3 0 = S.views refl (record { 0 = 0 }) (omega arith) in omega arith

-- a flush of a ready box is refused
pub refuses_flush : Safe usual (handless Ready) → ⊥
unfolding effect_of judged first_of test record_test within_limits
refuses_flush S = clash {b = true} refl (S.flushes refl)

-- a reopening is refused
pub refuses_reopening : Safe usual (handless Ready) → ⊥
unfolding effect_of judged first_of test label_test
refuses_reopening S = clash {b = true} refl (S.taken (call reopen) tt own)

-- a mending does not go on
pub never_mends : Safe usual (handless Recovering) → ⊥
unfolding effect_of judged first_of test record_test within_limits steps
never_mends S = go (S.mends refl)
  where
    go : Mends (handless Recovering).box → ⊥
    go M = by M.number M.none_refused M.ends
      where
        by : (n : ℕ) → ((k : ℕ) → k < n → refused (result_of step (steps k (handless Recovering).box)).said ≡ false)
            → is_ready (steps n (handless Recovering).box).state.phase ≡ true → ⊥
        by zero f e = clash {b = false} e refl
        by (suc n) f e = clash {b = true} refl (f 0 (omega arith))

-- A ready box that has block 1 in slot 0, of which no page of the SSD image says anything.
abbrev pub unstored : Box
unstored = record { images = (fresh one (text_of 49 50)).images; table = 1 ∷ 3 ∷ []; state = record_of one (record { 0 = 0 }) 1 Ready false [] }

abbrev pub showing : List Line → List ℕ → ℕ → Report
showing lines table newest = record {
  lines = lines;
  state = record_of one (record { 0 = 0 }) newest Ready false [];
  table = table;
  ssd = unstored.images.ssd;
  hdd = unstored.images.hdd;
  reads = [];
}

-- a look-up names slot 0; a reopening leaves what a format does, and then a look-up names none
abbrev found : Script
found = scripted one (start_of one unstored) (call (look_up (record { 0 = 1 })) ∷ []) []
    (showing (line (looked (Dirty (record { 0 = 0 }))) nothing Ready ∷ []) (1 ∷ 11 ∷ []) 1)

abbrev forgotten : Script
forgotten = scripted one (start_of one unstored) (call reopen ∷ []) [] (showing (line done nothing Ready ∷ []) (0 ∷ 0 ∷ []) 0)

abbrev missed : Script
missed = scripted one (start_of one (fresh one (text_of 49 50))) (call (look_up (record { 0 = 1 })) ∷ []) []
    (showing (line (looked NotCached) nothing Ready ∷ []) (0 ∷ 0 ∷ []) 0)

computed_found : Computed found unstored
unfolding known text_of
computed_found = refl

computed_forgotten : Computed forgotten unstored
unfolding known text_of
computed_forgotten = refl

computed_missed : Computed missed (fresh one (text_of 49 50))
unfolding known text_of
computed_missed = refl

first_said : Report → Reply
first_said r = (get_or r.lines 0 (line done nothing Ready)).said

slot_said_lem : (result_of (look_up (record { 0 = 1 })) unstored).said ≡ looked (Dirty (record { 0 = 0 }))
unfolding report lines_of first_said
slot_said_lem = ap first_said (shows found unstored refl sized_one computed_found)

none_said : (result_of (look_up (record { 0 = 1 })) (fresh one (text_of 49 50))).said ≡ looked NotCached
unfolding report lines_of first_said
none_said = ap first_said (shows missed (fresh one (text_of 49 50)) refl sized_one computed_missed)

reopened_is : (called reopen (start_of one unstored)).box ≡ fresh one (text_of 49 50)
unfolding report run called
reopened_is =
    ap (λ (r : Report). record { images = record { ssd = r.ssd; hdd = r.hdd }; table = r.table; state = r.state })
    (shows forgotten unstored refl sized_one computed_forgotten)

slot-page : page_at unstored.images.ssd (data_place one (record { 0 = 0 })) ≡ filled 170
unfolding known text_of
slot-page = refl

-- the slot that a look-up names has another page than the plain disk
pub looks_another : Safe one (record { box = unstored; disk = durable (λ b. filled 9) }) → ⊥
looks_another S =
    let e = sym slot-page ∙ S.looks refl (record { 0 = 1 }) (omega arith) (record { 0 = 0 }) (ap slot_said slot_said_lem) in
    let q : ◌≡◌ {A = ℕ} 170 9 = ap (λ (l : List ℕ). get_or l 0 0) e in
    omega arith

-- a reopening takes slot and row from a block that is outside the newest stored window
window_none : stored_window one unstored.images ≡ []
unfolding known text_of
window_none = refl

place-slot : (x : Box) (b : Block) → is_ready x.state.phase ≡ true → (place x b).slot ≡ slot_said (result_of (look_up b) x).said
unfolding place
place-slot x b h = rw h

was_there : (place unstored (record { 0 = 1 })).slot ≡ Some (record { 0 = 0 })
was_there = place-slot unstored (record { 0 = 1 }) refl ∙ ap slot_said slot_said_lem

must_keep : Safe one (start_of one unstored) → Kept (call reopen) [] (record { 0 = 1 }) (start_of one unstored)
unfolding listed
must_keep S = S.keeps (call reopen) tt own (record { 0 = 1 }) (omega arith)
    (λ s h. clash (rw (S.stored-label, window_none) at h) refl) [] tt tt

pub loses_slot : Safe one (start_of one unstored) → ⊥
unfolding run
loses_slot S =
    let b : Block = record { 0 = 1 } in
    let gone : (place (called reopen (start_of one unstored)).box b).slot ≡ None =
    ap (λ (x : Box). (place x b).slot) reopened_is ∙ place-slot (fresh one (text_of 49 50)) b refl ∙ ap slot_said none_said in
    none-some _ (sym (sym was_there ∙ sym (ap (λ (p : Place). p.slot) (must_keep S).place_kept) ∙ gone))

pub loses_row : Safe one (start_of one unstored) → ⊥
loses_row S =
    clash ((must_keep S).row_back (record { 0 = 0 }) was_there).0.valid-row
    (ap (λ (x : Box). valid (row_flags x.table (record { 0 = 0 }))) reopened_is)
