-- Refusals: each leaves everything as it was.
use Prim.Native.Nat.{ℕ, zero, suc}
use mathlib.Core.Path.{◌≡◌, refl, ◌∙◌}
use mathlib.Core.Bool.{true, false, ◌||◌}
use mathlib.Core.List.{List, [], ◌∷◌, ◌++◌}
use Rattle.std.specs.Prelude.{Option, Some, None}
use lib.Dec.{eqb}
use lib.ListN.{replicate}
use Rattle.record.specs.declared.Record.{Record}
use Rattle.record.specs.declared.Phase.TheVariants.{Formatting, Recovering, Ready}
use Rattle.record.specs.Record.{record_of, with_callers}
use Rattle.protocol.specs.Reply.{done}
use Rattle.protocol.specs.Box.{Box, Effect, refusing}
use Rattle.protocol.specs.Plan.{Call, format, step, flush, offer, land, fetch, land_fetch, look_up, view, reopen, write_back, look_up_list, offer_list, ask, slot_map, cost}
use Rattle.protocol.specs.declared.Refusal.{Refusal}
use Rattle.protocol.specs.declared.Refusal.TheVariants.{WindowFull, AllOpen, StampsSpent, ImportFull, UnknownCaller, BadList}
use Rattle.protocol.specs.Judge.{number_of, chain, first_of, label_for, lengths_test, length_test, judged}
use Rattle.protocol.specs.Calls.{effect_of}
use Rattle.protocol.proofs.cases.Report.{disk_of, filled, meta_page, label_page}
use Rattle.protocol.proofs.cases.Known.{Sized, known, effect_known, effect_known_lem}
use Rattle.protocol.specs.Kinds.{kind}
use Rattle.layout.proofs.PlaceLaws.{same_label}
use Rattle.protocol.proofs.cases.Case.{Case, AllHold, ◌also◌, ◌first◌, usual, one, two, text_of, fresh, imageless, leaving, recovery, effect, condition}
use Rattle.protocol.proofs.cases.TwoPages.{Same-stamps}

-- A box of one slot and two blocks, with this table and record.
abbrev pub boxed : List ℕ → Record → Box
boxed table state = record { images = (fresh one (text_of 49 50)).images; table = table; state = state }

abbrev pub settled_at : ℕ → Record
settled_at newest = record_of one (record { 0 = 0 }) newest Ready false []

abbrev pub open_at : ℕ → Record
open_at newest = record_of one (record { 0 = 0 }) newest Ready false (record { 0 = 0 } ∷ [])

abbrev pub unsettled_at : ℕ → Record
unsettled_at newest = record_of one (record { 0 = 0 }) newest Ready true []

-- the last stamps, of an offer and of a fetch
abbrev pub stamps : List Case
stamps =
    condition StampsSpent (offer (record { 0 = 0 }) 0) (boxed (0 ∷ 0 ∷ []) (settled_at 4294967231)) false
    ∷ condition StampsSpent (offer (record { 0 = 0 }) 0) (boxed (0 ∷ 0 ∷ []) (settled_at 4294967232)) true
    ∷ condition StampsSpent (fetch (record { 0 = 0 }) 0) (boxed (0 ∷ 0 ∷ []) (settled_at 4294967231)) false
    ∷ condition StampsSpent (fetch (record { 0 = 0 }) 0) (boxed (0 ∷ 0 ∷ []) (settled_at 4294967232)) true
    ∷ []

-- 62 open of 63 are not refused by 11, 63 are: a fetch, a clean and an uncached block; a dirty one is not
unfoldable pub open_rows_from : ℕ → ℕ → List ℕ
open_rows_from b zero = []
open_rows_from b (suc n) = b ∷ 7 ∷ open_rows_from (suc b) n

abbrev pub of_rows : List ℕ → Box
of_rows table = imageless (record { table = table; state = settled_at 0 })

abbrev pub windows : List Case
windows =
    condition WindowFull (offer (record { 0 = 99 }) 0) (of_rows (open_rows_from 0 62 ++ (0 ∷ 0 ∷ []))) false
    ∷ condition WindowFull (offer (record { 0 = 99 }) 0) (of_rows (open_rows_from 0 63)) true
    ∷ condition WindowFull (fetch (record { 0 = 99 }) 0) (of_rows (open_rows_from 0 62 ++ (0 ∷ 0 ∷ []))) false
    ∷ condition WindowFull (fetch (record { 0 = 99 }) 0) (of_rows (open_rows_from 0 63)) true
    ∷ condition WindowFull (offer (record { 0 = 99 }) 0) (of_rows (open_rows_from 0 63 ++ (99 ∷ 1 ∷ []))) true
    ∷ condition WindowFull (offer (record { 0 = 99 }) 0) (of_rows (open_rows_from 0 63 ++ (99 ∷ 3 ∷ []))) false
    ∷ condition AllOpen (offer (record { 0 = 99 }) 0) (of_rows (open_rows_from 0 62 ++ (0 ∷ 0 ∷ []))) false
    ∷ condition AllOpen (offer (record { 0 = 99 }) 0) (of_rows (open_rows_from 0 63)) true
    ∷ []

-- document 02, N6: lists of 0, 1, 64 and 65 blocks, and answer lists that are shorter and longer by one
abbrev pub lengths : List Case
lengths =
    condition BadList (look_up_list [] 0) (of_rows []) true
    ∷ condition BadList (look_up_list (0 ∷ []) 1) (of_rows []) false
    ∷ condition BadList (look_up_list (replicate 64 0) 64) (of_rows []) false
    ∷ condition BadList (look_up_list (replicate 65 0) 65) (of_rows []) true
    ∷ condition BadList (look_up_list (replicate 64 0) 63) (of_rows []) true
    ∷ condition BadList (look_up_list (replicate 64 0) 65) (of_rows []) true
    ∷ []

-- 5 of a reopening: pages that break a rule, each but for one thing a legal page of two slots and three blocks
abbrev pub broken : List ℕ → List ℕ → List ℕ → Case
broken head window entries = recovery two (meta_page head window entries ∷ []) None

abbrev pub page-refusals : List Case
page-refusals =
    -- stamp 0 with a window; a window of 64
    broken (0 ∷ 0 ∷ 0 ∷ 0 ∷ 1 ∷ 0 ∷ []) [] (2 ∷ 0 ∷ 0 ∷ 0 ∷ 7 ∷ [])
    ∷ broken (1 ∷ 0 ∷ 0 ∷ 0 ∷ 64 ∷ 0 ∷ []) [] []
    -- a byte after the window length; a slot out of range, or twice, or past the length
    ∷ broken (1 ∷ 0 ∷ 0 ∷ 0 ∷ 0 ∷ 0 ∷ 1 ∷ []) [] []
    ∷ broken (1 ∷ 0 ∷ 0 ∷ 0 ∷ 1 ∷ 0 ∷ []) (2 ∷ []) []
    ∷ broken (1 ∷ 0 ∷ 0 ∷ 0 ∷ 2 ∷ 0 ∷ []) [] (2 ∷ 0 ∷ 0 ∷ 0 ∷ 7 ∷ [])
    ∷ broken (1 ∷ 0 ∷ 0 ∷ 0 ∷ 0 ∷ 0 ∷ []) (1 ∷ []) []
    -- flags 2, or 9; a free entry's block; a byte after the flags; block 3 of 3; an entry beyond the last slot
    ∷ broken (1 ∷ 0 ∷ 0 ∷ 0 ∷ 0 ∷ 0 ∷ []) [] (0 ∷ 0 ∷ 0 ∷ 0 ∷ 2 ∷ [])
    ∷ broken (1 ∷ 0 ∷ 0 ∷ 0 ∷ 0 ∷ 0 ∷ []) [] (0 ∷ 0 ∷ 0 ∷ 0 ∷ 9 ∷ [])
    ∷ broken (1 ∷ 0 ∷ 0 ∷ 0 ∷ 0 ∷ 0 ∷ []) [] (1 ∷ [])
    ∷ broken (1 ∷ 0 ∷ 0 ∷ 0 ∷ 0 ∷ 0 ∷ []) [] (1 ∷ 0 ∷ 0 ∷ 0 ∷ 1 ∷ 1 ∷ [])
    ∷ broken (1 ∷ 0 ∷ 0 ∷ 0 ∷ 0 ∷ 0 ∷ []) [] (3 ∷ 0 ∷ 0 ∷ 0 ∷ 1 ∷ [])
    ∷ broken (1 ∷ 0 ∷ 0 ∷ 0 ∷ 0 ∷ 0 ∷ []) [] (replicate 16 0 ++ (1 ∷ 0 ∷ 0 ∷ 0 ∷ 1 ∷ []))
    -- a block in two entries; a slot of the newest window whose entry is not writing
    ∷ broken (1 ∷ 0 ∷ 0 ∷ 0 ∷ 0 ∷ 0 ∷ []) [] (1 ∷ 0 ∷ 0 ∷ 0 ∷ 1 ∷ 0 ∷ 0 ∷ 0 ∷ 1 ∷ 0 ∷ 0 ∷ 0 ∷ 3 ∷ [])
    ∷ broken (1 ∷ 0 ∷ 0 ∷ 0 ∷ 1 ∷ 0 ∷ []) [] (1 ∷ 0 ∷ 0 ∷ 0 ∷ 3 ∷ [])
    -- but a writing entry outside the newest window is kept
    ∷ recovery two (meta_page (1 ∷ 0 ∷ 0 ∷ 0 ∷ 0 ∷ 0 ∷ []) [] (1 ∷ 0 ∷ 0 ∷ 0 ∷ 5 ∷ 0 ∷ 0 ∷ 0 ∷ 2 ∷ 0 ∷ 0 ∷ 0 ∷ 7 ∷ []) ∷ [])
    (Some (record { table = 1 ∷ 1 ∷ 2 ∷ 3 ∷ []; state = record_of two (record { 0 = 0 }) 1 Ready false [] }))
    ∷ []

abbrev pub refuses_by : ℕ → Call → Box → Case
refuses_by n c x = effect c x (refusing n x)

-- a label page of other text, of a whole SSD image
abbrev pub labelled : List ℕ → Box
labelled text = record {
  images = record { ssd = label_page text ++ (filled 0 ++ filled 170); hdd = disk_of one };
  table = 0 ∷ 0 ∷ [];
  state = settled_at 0;
}

abbrev pub refusals : List Case
refusals =
    refuses_by 1 (format 0 8) (boxed [] (settled_at 0))
    ∷ refuses_by 1 (format 57601 8) (boxed [] (settled_at 0))
    ∷ refuses_by 1 (format 4 16777217) (boxed [] (settled_at 0))
    -- `layout=01`
    ∷ refuses_by 2 reopen (labelled (99 ∷ 97 ∷ 99 ∷ 104 ∷ 101 ∷ 61 ∷ 108 ∷ 117 ∷ 102 ∷ 117 ∷ 119 ∷ 10 ∷ 108 ∷ 97 ∷ 121 ∷ 111 ∷ 117 ∷ 116 ∷
    61 ∷ 48 ∷ 49 ∷ 10 ∷ []))
    ∷ refuses_by 2 reopen (labelled [])
    -- hand 4 with slots 4; a slot twice in the window; not zero past its length
    ∷ refuses_by 3 flush (boxed (replicate 8 0) (record_of usual (record { 0 = 4 }) 0 Ready false []))
    ∷ refuses_by 3 flush (boxed (replicate 8 0) (record_of usual (record { 0 = 0 }) 0 Ready false (record { 0 = 1 } ∷ record { 0 = 1 } ∷ [])))
    ∷ refuses_by 3 step (boxed (replicate 8 0) (record_of usual (record { 0 = 0 }) 0 (Formatting 3) false []))
    -- 4,095 bytes landed; images of another format
    ∷ refuses_by 4 (land (record { 0 = 0 }) (replicate 4095 9)) (boxed (0 ∷ 7 ∷ []) (open_at 1))
    ∷ refuses_by 4 (format 4 8) (boxed (0 ∷ 0 ∷ []) (settled_at 0))
    ∷ []

abbrev pub row-refusals : List Case
row-refusals =
    -- flags 2; used without valid; more flags; a free row's block; a writing row outside the window, and the other way round
    refuses_by 5 flush (boxed (0 ∷ 2 ∷ []) (settled_at 0))
    ∷ refuses_by 5 flush (boxed (0 ∷ 8 ∷ []) (settled_at 0))
    ∷ refuses_by 5 flush (boxed (0 ∷ 17 ∷ []) (settled_at 0))
    ∷ refuses_by 5 flush (boxed (1 ∷ 0 ∷ []) (settled_at 0))
    ∷ refuses_by 5 flush (boxed (2 ∷ 1 ∷ []) (settled_at 0))
    ∷ refuses_by 5 flush (boxed (0 ∷ 7 ∷ []) (settled_at 0))
    ∷ refuses_by 5 flush (boxed (0 ∷ 3 ∷ []) (open_at 1))
    ∷ []

abbrev pub call-refusals : List Case
call-refusals =
    -- step when ready; block 2 of 2
    refuses_by 6 step (boxed (0 ∷ 0 ∷ []) (settled_at 0))
    ∷ refuses_by 7 (offer (record { 0 = 2 }) 0) (boxed (0 ∷ 0 ∷ []) (settled_at 0))
    -- the block's slot is open
    ∷ refuses_by 8 (offer (record { 0 = 0 }) 0) (boxed (0 ∷ 7 ∷ []) (open_at 1))
    ∷ refuses_by 8 (fetch (record { 0 = 0 }) 0) (boxed (0 ∷ 7 ∷ []) (open_at 1))
    ∷ refuses_by 8 (write_back (record { 0 = 0 })) (boxed (0 ∷ 15 ∷ []) (open_at 1))
    -- land 1, uncached; landed on a clean row, and on one open for fetch; a fetch landed on a write
    ∷ refuses_by 9 (land (record { 0 = 1 }) (filled 9)) (boxed (0 ∷ 0 ∷ []) (settled_at 0))
    ∷ refuses_by 9 (land (record { 0 = 0 }) (filled 9)) (boxed (0 ∷ 1 ∷ []) (settled_at 0))
    ∷ refuses_by 9 (land (record { 0 = 0 }) (filled 9)) (boxed (0 ∷ 5 ∷ []) (open_at 1))
    ∷ refuses_by 9 (land_fetch (record { 0 = 0 })) (boxed (0 ∷ 7 ∷ []) (open_at 1))
    -- fetch 0 when cached
    ∷ refuses_by 10 (fetch (record { 0 = 0 }) 0) (boxed (0 ∷ 3 ∷ []) (settled_at 1))
    -- it is being fetched (document 02, N9)
    ∷ refuses_by 10 (fetch (record { 0 = 0 }) 0) (boxed (0 ∷ 5 ∷ []) (open_at 1))
    ∷ refuses_by 10 (fetch (record { 0 = 0 }) 0) (boxed (0 ∷ 13 ∷ []) (open_at 1))
    -- the second offer on one slot
    ∷ refuses_by 12 (offer (record { 0 = 1 }) 0) (boxed (0 ∷ 7 ∷ []) (open_at 1))
    -- the last stamps
    ∷ refuses_by 13 (offer (record { 0 = 0 }) 0) (boxed (0 ∷ 0 ∷ []) (settled_at 4294967232))
    ∷ refuses_by 13 flush (boxed (0 ∷ 0 ∷ []) (unsettled_at 4294967295))
    ∷ []

-- a look-up while mending; block 2 of 2 where a fetch lands, of a view and of a write back, which is judged of its own block; a fetch with
-- all slots open; a map into 66 bytes, and while mending into none
abbrev pub edge_refusals : List Case
edge_refusals =
    refuses_by 6 (look_up (record { 0 = 0 })) (boxed (0 ∷ 0 ∷ []) (record_of one (record { 0 = 0 }) 1 Recovering false (record { 0 = 0 } ∷ [])))
    ∷ refuses_by 7 (land_fetch (record { 0 = 2 })) (boxed (0 ∷ 5 ∷ []) (open_at 1))
    ∷ refuses_by 7 (view (record { 0 = 2 })) (boxed (0 ∷ 1 ∷ []) (settled_at 1))
    ∷ refuses_by 7 (write_back (record { 0 = 2 })) (boxed (0 ∷ 1 ∷ []) (settled_at 1))
    ∷ refuses_by 8 (write_back (record { 0 = 1 })) (boxed (1 ∷ 7 ∷ []) (open_at 1))
    ∷ refuses_by 12 (fetch (record { 0 = 1 }) 0) (boxed (0 ∷ 7 ∷ []) (open_at 1))
    -- block 2 of 2 from caller 2 (document 02, N7)
    ∷ refuses_by 18 (offer (record { 0 = 2 }) 2) (boxed (0 ∷ 0 ∷ []) (settled_at 0))
    ∷ refuses_by 18 (fetch (record { 0 = 2 }) 2) (boxed (0 ∷ 0 ∷ []) (settled_at 0))
    ∷ refuses_by 14 (ask (slot_map 66)) (boxed (0 ∷ 7 ∷ []) (open_at 1))
    ∷ refuses_by 6 (ask (slot_map 0)) (boxed (0 ∷ 0 ∷ []) (record_of one (record { 0 = 0 }) 1 Recovering false (record { 0 = 0 } ∷ [])))
    ∷ []

-- a list (document 02, N6): 16 after 6 and before 7; block 2 of 2 is 7 at any place
abbrev pub list-refusals : List Case
list-refusals =
    refuses_by 6 (look_up_list [] 0) (boxed (0 ∷ 0 ∷ []) (record_of one (record { 0 = 0 }) 1 Recovering false (record { 0 = 0 } ∷ [])))
    ∷ refuses_by 16 (look_up_list (2 ∷ []) 2) (boxed (0 ∷ 1 ∷ []) (settled_at 1))
    ∷ refuses_by 7 (look_up_list (0 ∷ 1 ∷ 2 ∷ []) 3) (boxed (0 ∷ 1 ∷ []) (settled_at 1))
    ∷ refuses_by 7 (look_up_list (2 ∷ 1 ∷ 0 ∷ []) 3) (boxed (0 ∷ 1 ∷ []) (settled_at 1))
    ∷ []

-- a list that is offered (N3): 15 after 6, before 18 and before 7, "of 8 blocks" or of 2; then 18, and 7 to 13 as of the first block
abbrev pub scan_refusals : List Case
scan_refusals =
    refuses_by 6 (offer_list [] 2) (boxed (0 ∷ 0 ∷ []) (record_of one (record { 0 = 0 }) 1 Recovering false (record { 0 = 0 } ∷ [])))
    ∷ refuses_by 15 (offer_list (9 ∷ 9 ∷ []) 2) (boxed (0 ∷ 1 ∷ []) (settled_at 1))
    ∷ refuses_by 18 (offer_list (9 ∷ []) 2) (boxed (0 ∷ 1 ∷ []) (settled_at 1))
    ∷ refuses_by 7 (offer_list (2 ∷ 0 ∷ []) 0) (boxed (0 ∷ 1 ∷ []) (settled_at 1))
    ∷ refuses_by 8 (offer_list (0 ∷ 1 ∷ []) 0) (boxed (0 ∷ 5 ∷ []) (open_at 1))
    ∷ refuses_by 12 (offer_list (1 ∷ 0 ∷ []) 0) (boxed (0 ∷ 7 ∷ []) (open_at 1))
    ∷ refuses_by 13 (offer_list (0 ∷ 1 ∷ []) 0) (boxed (0 ∷ 1 ∷ []) (settled_at 4294967232))
    ∷ []

-- what an import would cost (N8): 4 of a scratch table one word short or long, before 6, 15 and 18; 6 before 15, 15 before 18; then block 9
-- of 2 is no refusal
abbrev pub cost-refusals : List Case
cost-refusals =
    refuses_by 4 (ask (cost [] 2 1)) (boxed (0 ∷ 0 ∷ []) (record_of one (record { 0 = 0 }) 1 Recovering false (record { 0 = 0 } ∷ [])))
    ∷ refuses_by 4 (ask (cost (0 ∷ []) 0 3)) (boxed (0 ∷ 1 ∷ []) (settled_at 1))
    ∷ refuses_by 6 (ask (cost [] 2 2)) (boxed (0 ∷ 0 ∷ []) (record_of one (record { 0 = 0 }) 1 Recovering false (record { 0 = 0 } ∷ [])))
    ∷ refuses_by 15 (ask (cost (9 ∷ 9 ∷ []) 2 2)) (boxed (0 ∷ 1 ∷ []) (settled_at 1))
    ∷ refuses_by 18 (ask (cost (9 ∷ []) 2 2)) (boxed (0 ∷ 1 ∷ []) (settled_at 1))
    ∷ effect (ask (cost (9 ∷ []) 1 2)) (boxed (0 ∷ 1 ∷ []) (settled_at 1)) (leaving done None (boxed (0 ∷ 1 ∷ []) (settled_at 1)))
    ∷ []

-- document 02, N7: the import with 7, 8 and 9 open, and people with 8 of the import's; of a clean and a dirty block; a caller past the
-- window's length does not count
abbrev pub open_both : ℕ → List ℕ → List ℕ → Box
open_both count callers table =
    imageless (record { table = table; state = with_callers (record_of one (record { 0 = 0 }) 0 Ready false (replicate count (record { 0 = 0 }))) callers })

abbrev pub imports : List Case
imports =
    condition ImportFull (fetch (record { 0 = 99 }) 1) (open_both 7 (replicate 7 1) []) false
    ∷ condition ImportFull (fetch (record { 0 = 99 }) 1) (open_both 8 (replicate 8 1) []) true
    ∷ condition ImportFull (fetch (record { 0 = 99 }) 1) (open_both 9 (replicate 9 1) []) true
    ∷ condition ImportFull (fetch (record { 0 = 99 }) 1) (open_both 9 (0 ∷ replicate 8 1) []) true
    ∷ condition ImportFull (fetch (record { 0 = 99 }) 1) (open_both 8 (0 ∷ replicate 7 1) []) false
    ∷ condition ImportFull (fetch (record { 0 = 99 }) 0) (open_both 8 (replicate 8 1) []) false
    ∷ condition ImportFull (offer (record { 0 = 99 }) 1) (open_both 8 (replicate 8 1) []) true
    ∷ condition ImportFull (offer (record { 0 = 99 }) 1) (open_both 8 (replicate 8 1) (99 ∷ 1 ∷ [])) true
    ∷ condition ImportFull (offer (record { 0 = 99 }) 1) (open_both 8 (replicate 8 1) (99 ∷ 3 ∷ [])) false
    ∷ condition ImportFull (fetch (record { 0 = 99 }) 1) (open_both 7 (replicate 8 1) []) false
    ∷ condition UnknownCaller (offer (record { 0 = 0 }) 0) (of_rows []) false
    ∷ condition UnknownCaller (offer (record { 0 = 0 }) 1) (of_rows []) false
    ∷ condition UnknownCaller (offer (record { 0 = 0 }) 2) (of_rows []) true
    ∷ condition UnknownCaller (fetch (record { 0 = 0 }) 2) (of_rows []) true
    ∷ []

Stamps : AllHold stamps
unfolding known text_of
Stamps = Same-stamps first (refl, (refl, (refl, (refl, tt))))

Windows : AllHold windows
unfolding known open_rows_from
Windows = Stamps first (refl, (refl, (refl, (refl, (refl, (refl, (refl, (refl, tt))))))))

Lengths : AllHold lengths
unfolding known
Lengths = Windows first (refl, (refl, (refl, (refl, (refl, (refl, tt))))))

Imports : AllHold imports
unfolding known
Imports =
    Lengths first
    (refl, (refl, (refl, (refl, (refl, (refl, (refl, (refl, (refl, (refl, (refl, (refl, (refl, (refl, tt))))))))))))))

-- 17 "before 11" (document 02, N7): of an offer, a fetch and a list, where both conditions hold
abbrev crowded : Call → Option Refusal
crowded c = first_of (chain c) (λ r. eqb (number_of r) 11 || eqb (number_of r) 17)

Crowded : (crowded (offer (record { 0 = 0 }) 1) ≡ Some ImportFull) × ((crowded (fetch (record { 0 = 0 }) 1) ≡ Some ImportFull) × (crowded (offer_list (0 ∷ []) 1) ≡ Some ImportFull))
unfolding first_of
Crowded = Imports first (refl, (refl, refl))

Page-refusals : AllHold page-refusals
unfolding known
Page-refusals = Crowded first (refl, (refl, (refl, (refl, (refl, (refl, (refl, (refl, (refl, (refl, (refl, (refl, (refl, (refl, (refl, tt)))))))))))))))

pub sized_one : Sized one (fresh one (text_of 49 50)).images
unfolding known text_of
sized_one = Page-refusals first record { ssd-size = refl; hdd-size = refl }

-- the lengths of such a box are known
pub counted : (c : Call) (table : List ℕ) (state : Record) (wanted : Effect)
    → same_label (label_for (kind c) (boxed table state)) one ≡ true
    → effect_known one c (boxed table state) ≡ wanted
    → effect_of c (boxed table state) ≡ wanted
counted c table state wanted e h = effect_known_lem one c (boxed table state) sized_one e ∙ h

Row-refusals : AllHold row-refusals
unfolding known text_of
Row-refusals =
    Page-refusals first counted _ _ _ _ refl refl
    also counted _ _ _ _ refl refl
    also counted _ _ _ _ refl refl
    also counted _ _ _ _ refl refl
    also counted _ _ _ _ refl refl
    also counted _ _ _ _ refl refl
    also counted _ _ _ _ refl refl
    also tt

Call-refusals : AllHold call-refusals
unfolding known text_of
Call-refusals =
    Row-refusals first counted _ _ _ _ refl refl
    also counted _ _ _ _ refl refl
    also counted _ _ _ _ refl refl
    also counted _ _ _ _ refl refl
    also counted _ _ _ _ refl refl
    also counted _ _ _ _ refl refl
    also counted _ _ _ _ refl refl
    also counted _ _ _ _ refl refl
    also counted _ _ _ _ refl refl
    also counted _ _ _ _ refl refl
    also counted _ _ _ _ refl refl
    also counted _ _ _ _ refl refl
    also counted _ _ _ _ refl refl
    also counted _ _ _ _ refl refl
    also counted _ _ _ _ refl refl
    also tt

Edge_refusals : AllHold edge_refusals
unfolding known text_of
Edge_refusals =
    Call-refusals first counted _ _ _ _ refl refl
    also counted _ _ _ _ refl refl
    also counted _ _ _ _ refl refl
    also counted _ _ _ _ refl refl
    also counted _ _ _ _ refl refl
    also counted _ _ _ _ refl refl
    also counted _ _ _ _ refl refl
    also counted _ _ _ _ refl refl
    also counted _ _ _ _ refl refl
    also counted _ _ _ _ refl refl
    also tt

List_refusals : AllHold list-refusals
unfolding known text_of
List_refusals =
    Edge_refusals first counted _ _ _ _ refl refl
    also counted _ _ _ _ refl refl
    also counted _ _ _ _ refl refl
    also counted _ _ _ _ refl refl
    also tt

Scan_refusals : AllHold scan_refusals
unfolding known text_of
Scan_refusals =
    List_refusals first counted _ _ _ _ refl refl
    also counted _ _ _ _ refl refl
    also counted _ _ _ _ refl refl
    also counted _ _ _ _ refl refl
    also counted _ _ _ _ refl refl
    also counted _ _ _ _ refl refl
    also counted _ _ _ _ refl refl
    also tt

Cost_refusals : AllHold cost-refusals
unfolding known text_of
Cost_refusals =
    Scan_refusals first counted _ _ _ _ refl refl
    also counted _ _ _ _ refl refl
    also counted _ _ _ _ refl refl
    also counted _ _ _ _ refl refl
    also counted _ _ _ _ refl refl
    also counted _ _ _ _ refl refl
    also tt

pub Refusals : AllHold refusals
unfolding known text_of effect_of judged length_test lengths_test
Refusals = Cost_refusals first (refl, (refl, (refl, (refl, (refl, (refl, (refl, (refl, (refl, (refl, tt))))))))))
