-- Document 02, N3: lists of blocks offered as one.
use Prim.Native.Nat.{ℕ, zero, suc}
use mathlib.Core.Path.{refl}
use mathlib.Core.Bool.{true, false}
use mathlib.Core.List.{List, [], ◌∷◌, ◌++◌}
use Rattle.std.specs.Prelude.{None}
use lib.ListN.{replicate}
use Rattle.layout.specs.declared.Slot.{Slot}
use Rattle.layout.specs.declared.Label.{Label}
use Rattle.layout.specs.Places.{label_of}
use Rattle.record.specs.declared.Phase.TheVariants.{Ready}
use Rattle.record.specs.Record.{record_of, with_callers}
use Rattle.protocol.specs.Reply.{dealt, copied_out}
use Rattle.protocol.specs.Box.{Box, ssd_image, hdd_image}
use Rattle.protocol.specs.Plan.{offer_list}
use Rattle.protocol.specs.declared.Refusal.TheVariants.{BadScan, StampsSpent}
use Rattle.protocol.proofs.cases.Report.{filled, meta_page, pages}
use Rattle.protocol.proofs.cases.Known.{known}
use Rattle.protocol.proofs.cases.Case.{Case, AllHold, ◌first◌, one, two, many, imageless, leaving, stores, move, condition}
use Rattle.protocol.proofs.cases.Moves.{four, by, Shared}

-- blocks b, b + 1 and so on; slots; rows that are open for writing
unfoldable pub blocks_from : ℕ → ℕ → List ℕ
blocks_from b zero = []
blocks_from b (suc n) = b ∷ blocks_from (suc b) n

unfoldable pub slots_from : ℕ → ℕ → List Slot
slots_from s zero = []
slots_from s (suc n) = record { 0 = s } ∷ slots_from (suc s) n

unfoldable pub writing_from : ℕ → ℕ → List ℕ
writing_from b zero = []
writing_from b (suc n) = b ∷ 7 ∷ writing_from (suc b) n

-- those slots as the words of a stored window, and such rows as stored entries
unfoldable pub words_from : ℕ → ℕ → List ℕ
words_from s zero = []
words_from s (suc n) = s ∷ 0 ∷ 0 ∷ 0 ∷ words_from (suc s) n

unfoldable pub entries_from : ℕ → ℕ → List ℕ
entries_from b zero = []
entries_from b (suc n) = b ∷ 0 ∷ 0 ∷ 0 ∷ 7 ∷ 0 ∷ 0 ∷ 0 ∷ entries_from (suc b) n

-- a box of these sizes, its images left out
abbrev pub boxed : Label → List ℕ → ℕ → ℕ → List Slot → Box
boxed l table hand newest window =
    imageless (record { table = table; state = record_of l (record { 0 = hand }) newest Ready false window })

abbrev pub scans : List Case
scans =
    -- three blocks go out in one store; the stamp rises by one, and the hand is on slot 3
    move (offer_list (5 ∷ 6 ∷ 7 ∷ []) 0) (four (replicate 8 0) 0 0 Ready true [])
    (leaving (dealt 3)
    (stores ssd_image 1
    (meta_page (1 ∷ 0 ∷ 0 ∷ 0 ∷ 3 ∷ 0 ∷ []) (0 ∷ 0 ∷ 0 ∷ 0 ∷ 1 ∷ 0 ∷ 0 ∷ 0 ∷ 2 ∷ 0 ∷ 0 ∷ 0 ∷ [])
    (5 ∷ 0 ∷ 0 ∷ 0 ∷ 7 ∷ 0 ∷ 0 ∷ 0 ∷ 6 ∷ 0 ∷ 0 ∷ 0 ∷ 7 ∷ 0 ∷ 0 ∷ 0 ∷ 7 ∷ 0 ∷ 0 ∷ 0 ∷ 7 ∷ 0 ∷ 0 ∷ 0 ∷ [])))
    (four (5 ∷ 7 ∷ 6 ∷ 7 ∷ 7 ∷ 7 ∷ 0 ∷ 0 ∷ []) 3 1 Ready false (slots_from 0 3)))
    -- five for four slots: 12 ends the list
    ∷ move (offer_list (blocks_from 0 5) 0) (four (replicate 8 0) 0 0 Ready false [])
    (leaving (dealt 4)
    (stores ssd_image 1
    (meta_page (1 ∷ 0 ∷ 0 ∷ 0 ∷ 4 ∷ 0 ∷ []) (0 ∷ 0 ∷ 0 ∷ 0 ∷ 1 ∷ 0 ∷ 0 ∷ 0 ∷ 2 ∷ 0 ∷ 0 ∷ 0 ∷ 3 ∷ 0 ∷ 0 ∷ 0 ∷ [])
    (0 ∷ 0 ∷ 0 ∷ 0 ∷ 7 ∷ 0 ∷ 0 ∷ 0 ∷ 1 ∷ 0 ∷ 0 ∷ 0 ∷ 7 ∷ 0 ∷ 0 ∷ 0 ∷ 2 ∷ 0 ∷ 0 ∷ 0 ∷ 7 ∷ 0 ∷ 0 ∷ 0 ∷ 3 ∷ 0 ∷ 0 ∷ 0 ∷ 7 ∷ 0 ∷ 0 ∷ 0 ∷ [])))
    (four (writing_from 0 4) 0 1 Ready false (slots_from 0 4)))
    -- P2, landed and flushed: 5 answers "overwrite" and is passed, 6 is announced
    ∷ move (offer_list (5 ∷ 6 ∷ []) 0) (four (5 ∷ 11 ∷ 0 ∷ 0 ∷ 0 ∷ 0 ∷ 0 ∷ 0 ∷ []) 1 2 Ready false [])
    (leaving (dealt 2)
    (stores ssd_image 1
    (meta_page (3 ∷ 0 ∷ 0 ∷ 0 ∷ 1 ∷ 0 ∷ []) (1 ∷ 0 ∷ 0 ∷ 0 ∷ [])
    (5 ∷ 0 ∷ 0 ∷ 0 ∷ 3 ∷ 0 ∷ 0 ∷ 0 ∷ 6 ∷ 0 ∷ 0 ∷ 0 ∷ 7 ∷ 0 ∷ 0 ∷ 0 ∷ [])))
    (four (5 ∷ 11 ∷ 6 ∷ 7 ∷ 0 ∷ 0 ∷ 0 ∷ 0 ∷ []) 2 3 Ready false (slots_from 1 1)))
    -- after P5's cut: 6 would copy out slot 0, so the list ends before it, with no store
    ∷ move (offer_list (5 ∷ 6 ∷ []) 0) (four (5 ∷ 3 ∷ 0 ∷ 0 ∷ 0 ∷ 0 ∷ 0 ∷ 0 ∷ []) 0 2 Ready true [])
    (leaving (dealt 1) None (four (5 ∷ 3 ∷ 0 ∷ 0 ∷ 0 ∷ 0 ∷ 0 ∷ 0 ∷ []) 0 2 Ready true []))
    -- a block that is open, and one that is too high, end it
    ∷ move (offer_list (5 ∷ 6 ∷ []) 0) (four (5 ∷ 3 ∷ 6 ∷ 5 ∷ 0 ∷ 0 ∷ 0 ∷ 0 ∷ []) 2 2 Ready false (slots_from 1 1))
    (leaving (dealt 1) None (four (5 ∷ 3 ∷ 6 ∷ 5 ∷ 0 ∷ 0 ∷ 0 ∷ 0 ∷ []) 2 2 Ready false (slots_from 1 1)))
    ∷ move (offer_list (5 ∷ 8 ∷ 6 ∷ []) 0) (four (5 ∷ 3 ∷ 0 ∷ 0 ∷ 0 ∷ 0 ∷ 0 ∷ 0 ∷ []) 1 2 Ready false [])
    (leaving (dealt 1) None (four (5 ∷ 3 ∷ 0 ∷ 0 ∷ 0 ∷ 0 ∷ 0 ∷ 0 ∷ []) 1 2 Ready false []))
    -- a clean block whose slot an earlier place takes is swept for; one that is listed first keeps its slot, and used flags
    ∷ move (offer_list (5 ∷ 3 ∷ []) 0) (four (3 ∷ 1 ∷ 4 ∷ 1 ∷ 6 ∷ 1 ∷ 7 ∷ 1 ∷ []) 0 2 Ready false [])
    (leaving (dealt 2)
    (stores ssd_image 1
    (meta_page (3 ∷ 0 ∷ 0 ∷ 0 ∷ 2 ∷ 0 ∷ []) (0 ∷ 0 ∷ 0 ∷ 0 ∷ 1 ∷ 0 ∷ 0 ∷ 0 ∷ [])
    (5 ∷ 0 ∷ 0 ∷ 0 ∷ 7 ∷ 0 ∷ 0 ∷ 0 ∷ 3 ∷ 0 ∷ 0 ∷ 0 ∷ 7 ∷ 0 ∷ 0 ∷ 0 ∷ 6 ∷ 0 ∷ 0 ∷ 0 ∷ 1 ∷ 0 ∷ 0 ∷ 0 ∷ 7 ∷ 0 ∷ 0 ∷ 0 ∷ 1 ∷ 0 ∷ 0 ∷ 0 ∷ [])))
    (four (5 ∷ 7 ∷ 3 ∷ 7 ∷ 6 ∷ 1 ∷ 7 ∷ 1 ∷ []) 2 3 Ready false (slots_from 0 2)))
    ∷ move (offer_list (3 ∷ 5 ∷ []) 0) (four (3 ∷ 9 ∷ 4 ∷ 9 ∷ 6 ∷ 1 ∷ 7 ∷ 1 ∷ []) 0 2 Ready false [])
    (leaving (dealt 2)
    (stores ssd_image 1
    (meta_page (3 ∷ 0 ∷ 0 ∷ 0 ∷ 2 ∷ 0 ∷ []) (0 ∷ 0 ∷ 0 ∷ 0 ∷ 2 ∷ 0 ∷ 0 ∷ 0 ∷ [])
    (3 ∷ 0 ∷ 0 ∷ 0 ∷ 7 ∷ 0 ∷ 0 ∷ 0 ∷ 4 ∷ 0 ∷ 0 ∷ 0 ∷ 1 ∷ 0 ∷ 0 ∷ 0 ∷ 5 ∷ 0 ∷ 0 ∷ 0 ∷ 7 ∷ 0 ∷ 0 ∷ 0 ∷ 7 ∷ 0 ∷ 0 ∷ 0 ∷ 1 ∷ 0 ∷ 0 ∷ 0 ∷ [])))
    (four (3 ∷ 15 ∷ 4 ∷ 1 ∷ 5 ∷ 7 ∷ 7 ∷ 1 ∷ []) 3 3 Ready false (record { 0 = 0 } ∷ record { 0 = 2 } ∷ [])))
    ∷ []

-- the place that ends the list leaves no trace: the used flag of slot 0, which its sweep would clear, stays
abbrev pub traces : List Case
traces =
    move (offer_list (1 ∷ 2 ∷ []) 0) (boxed two (0 ∷ 11 ∷ 0 ∷ 0 ∷ []) 1 2 [])
    (leaving (dealt 1)
    (stores ssd_image 1
    (meta_page (3 ∷ 0 ∷ 0 ∷ 0 ∷ 1 ∷ 0 ∷ []) (1 ∷ 0 ∷ 0 ∷ 0 ∷ []) (0 ∷ 0 ∷ 0 ∷ 0 ∷ 3 ∷ 0 ∷ 0 ∷ 0 ∷ 1 ∷ 0 ∷ 0 ∷ 0 ∷ 7 ∷ 0 ∷ 0 ∷ 0 ∷ [])))
    (boxed two (0 ∷ 11 ∷ 1 ∷ 7 ∷ []) 0 3 (slots_from 1 1)))
    -- a first place that copies out does that, as a single offer
    ∷ move (offer_list (1 ∷ 2 ∷ []) 0)
    (record {
      images = record { ssd = pages (filled 1 ∷ filled 2 ∷ filled 3 ∷ []); hdd = pages (filled 4 ∷ filled 5 ∷ []) };
      table = 0 ∷ 11 ∷ [];
      state = (boxed one [] 0 2 []).state;
    })
    (leaving copied_out (stores hdd_image 0 (filled 3)) (boxed one (0 ∷ 1 ∷ []) 0 2 []))
    ∷ []

-- slots 239 and 240 are on two metadata pages: the list ends before the second; an "overwrite" there is passed
abbrev pub paged : List Case
paged =
    move (offer_list (5 ∷ 6 ∷ []) 0) (boxed many (replicate 482 0) 239 2 [])
    (leaving (dealt 1)
    (stores ssd_image 1
    (meta_page (3 ∷ 0 ∷ 0 ∷ 0 ∷ 1 ∷ 0 ∷ []) (239 ∷ 0 ∷ 0 ∷ 0 ∷ []) (replicate 1912 0 ++ (5 ∷ 0 ∷ 0 ∷ 0 ∷ 7 ∷ 0 ∷ 0 ∷ 0 ∷ []))))
    (boxed many (replicate 478 0 ++ (5 ∷ 7 ∷ 0 ∷ 0 ∷ [])) 240 3 (slots_from 239 1)))
    ∷ move (offer_list (5 ∷ 3 ∷ []) 0) (boxed many (replicate 480 0 ++ (3 ∷ 3 ∷ [])) 239 2 [])
    (leaving (dealt 2)
    (stores ssd_image 1
    (meta_page (3 ∷ 0 ∷ 0 ∷ 0 ∷ 1 ∷ 0 ∷ []) (239 ∷ 0 ∷ 0 ∷ 0 ∷ []) (replicate 1912 0 ++ (5 ∷ 0 ∷ 0 ∷ 0 ∷ 7 ∷ 0 ∷ 0 ∷ 0 ∷ []))))
    (boxed many (replicate 478 0 ++ (5 ∷ 7 ∷ 3 ∷ 3 ∷ [])) 240 3 (slots_from 239 1)))
    ∷ []

-- 17 ends the import's list after 8, beside what people have open; the slots are its own. 11 ends a list with 63 open
abbrev pub crowded : List Case
crowded =
    move (offer_list (blocks_from 20 10) 1) (boxed (label_of 12 32) (writing_from 0 1 ++ replicate 22 0) 1 2 (slots_from 0 1))
    (leaving (dealt 8)
    (stores ssd_image 1 (meta_page (3 ∷ 0 ∷ 0 ∷ 0 ∷ 9 ∷ 0 ∷ []) (words_from 0 9) (entries_from 0 1 ++ entries_from 20 8)))
    (by (0 ∷ replicate 8 1) (boxed (label_of 12 32) (writing_from 0 1 ++ (writing_from 20 8 ++ replicate 6 0)) 9 3 (slots_from 0 9))))
    ∷ move (offer_list (80 ∷ 81 ∷ []) 0) (boxed (label_of 65 90) (writing_from 0 62 ++ replicate 6 0) 62 2 (slots_from 0 62))
    (leaving (dealt 1)
    (stores ssd_image 1 (meta_page (3 ∷ 0 ∷ 0 ∷ 0 ∷ 63 ∷ 0 ∷ []) (words_from 0 63) (entries_from 0 62 ++ entries_from 80 1)))
    (boxed (label_of 65 90) (writing_from 0 62 ++ (80 ∷ 7 ∷ 0 ∷ 0 ∷ 0 ∷ 0 ∷ [])) 63 3 (slots_from 0 63)))
    ∷ []

-- 15: "an empty list, a list of more than 63, or one that names a block twice", wherever; 13 "is judged once, for that store": never with
-- overwrites alone, nor where the first place copies out
abbrev pub bad_scans : List Case
bad_scans =
    condition BadScan (offer_list [] 0) (boxed one [] 0 2 []) true
    ∷ condition BadScan (offer_list (9 ∷ []) 0) (boxed one [] 0 2 []) false
    ∷ condition BadScan (offer_list (9 ∷ 9 ∷ []) 0) (boxed one [] 0 2 []) true
    ∷ condition BadScan (offer_list (9 ∷ 8 ∷ 7 ∷ 9 ∷ []) 0) (boxed one [] 0 2 []) true
    ∷ condition BadScan (offer_list (7 ∷ 8 ∷ 9 ∷ 8 ∷ []) 0) (boxed one [] 0 2 []) true
    ∷ condition BadScan (offer_list (blocks_from 0 63) 0) (boxed one [] 0 2 []) false
    ∷ condition BadScan (offer_list (blocks_from 0 64) 0) (boxed one [] 0 2 []) true
    ∷ condition StampsSpent (offer_list (5 ∷ []) 0) (four (5 ∷ 3 ∷ 0 ∷ 0 ∷ 0 ∷ 0 ∷ 0 ∷ 0 ∷ []) 1 4294967232 Ready false []) false
    ∷ condition StampsSpent (offer_list (5 ∷ 6 ∷ []) 0) (four (5 ∷ 3 ∷ 0 ∷ 0 ∷ 0 ∷ 0 ∷ 0 ∷ 0 ∷ []) 1 4294967232 Ready false []) true
    ∷ condition StampsSpent (offer_list (5 ∷ 6 ∷ []) 0) (four (5 ∷ 3 ∷ 0 ∷ 0 ∷ 0 ∷ 0 ∷ 0 ∷ 0 ∷ []) 1 4294967231 Ready false []) false
    ∷ condition StampsSpent (offer_list (1 ∷ []) 0) (boxed one (0 ∷ 3 ∷ []) 0 4294967232 []) false
    ∷ []

Scans : AllHold scans
unfolding known blocks_from slots_from writing_from
Scans = Shared first (refl, (refl, (refl, (refl, (refl, (refl, (refl, (refl, tt))))))))

Traces : AllHold traces
unfolding known slots_from
Traces = Scans first (refl, (refl, tt))

Paged : AllHold paged
unfolding known slots_from
Paged = Traces first (refl, (refl, tt))

Crowded : AllHold crowded
unfolding known blocks_from slots_from writing_from words_from entries_from
Crowded = Paged first (refl, (refl, tt))

pub Scanned : AllHold bad_scans
unfolding known blocks_from
Scanned = Crowded first (refl, (refl, (refl, (refl, (refl, (refl, (refl, (refl, (refl, (refl, (refl, tt)))))))))))
