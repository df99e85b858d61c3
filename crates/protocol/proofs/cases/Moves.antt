-- Moves: what a call does where nothing refuses it. They need no whole image, so they are computed first: most wrong definitions stop
-- here. The laws stand in a crate of their own, laws, so that a wrong definition stops at a case.
use Prim.Native.Nat.{ℕ, ◌+◌}
use mathlib.Core.Path.{◌≡◌, refl}
use mathlib.Core.Bool.{Bool, true, false}
use mathlib.Core.List.{List, [], ◌∷◌}
use Rattle.std.specs.Prelude.{Some, None}
use lib.ListN.{replicate}
use Rattle.record.specs.declared.Phase.TheVariants.{Formatting, Ready}
use Rattle.protocol.specs.Reply.{answer, announced, copied_out, looked, done, nothing_to_do}
use Rattle.protocol.specs.declared.Condition.TheVariants.{NotCached, Clean, Dirty}
use Rattle.record.specs.Record.{record_of, with_callers}
use Rattle.protocol.specs.declared.Stored.TheVariants.{Ssd, Hdd}
use Rattle.protocol.specs.Box.{Box, ssd_image, hdd_image}
use Rattle.protocol.specs.Plan.{step, flush, offer, land, fetch, land_fetch, look_up, write_back, look_up_list}
use Rattle.protocol.proofs.cases.Report.{disk_of, filled, meta_page, label_page, pages}
use Rattle.protocol.proofs.cases.Known.{known}
use Rattle.layout.specs.declared.Slot.{Slot}
use Rattle.layout.specs.declared.Label.{Label}
use Rattle.layout.specs.Places.{meta_place}
use Rattle.pages.specs.Pages.{page_at}
use Rattle.protocol.specs.Metadata.{read_meta}
use Rattle.record.specs.declared.Phase.{Phase}
use Rattle.protocol.proofs.cases.Case.{Case, names, closed, AllHold, ◌first◌, usual, two, text_of, imageless, leaving, stores, move, words}

-- A box of two slots. The used flag (8) outlives an offer of a clean block,
-- the landing and the writing back; neither that offer nor the writing back moves the hand, which is on slot 1.
abbrev pub held : List ℕ → ℕ → Bool → List Slot → Box
held table newest unconfirmed window = record {
  images = record { ssd = pages (filled 1 ∷ filled 2 ∷ filled 3 ∷ filled 4 ∷ []); hdd = disk_of two };
  table = table;
  state = record_of two (record { 0 = 1 }) newest Ready unconfirmed window;
}

abbrev pub moves : List Case
moves =
    move (look_up (record { 0 = 1 })) (held (1 ∷ 1 ∷ 0 ∷ 0 ∷ []) 1 true [])
    (leaving (looked (Clean (record { 0 = 0 }))) None (held (1 ∷ 9 ∷ 0 ∷ 0 ∷ []) 1 true []))
    ∷ move (look_up (record { 0 = 0 })) (held (1 ∷ 1 ∷ 0 ∷ 0 ∷ []) 1 true []) (leaving (looked NotCached) None (held (1 ∷ 1 ∷ 0 ∷ 0 ∷ []) 1 true []))
    ∷ move (offer (record { 0 = 1 }) 0) (held (1 ∷ 9 ∷ 0 ∷ 0 ∷ []) 1 true [])
    (leaving (announced (record { 0 = 0 }))
    (stores ssd_image 1 (meta_page (2 ∷ 0 ∷ 0 ∷ 0 ∷ 1 ∷ 0 ∷ []) (0 ∷ 0 ∷ 0 ∷ 0 ∷ []) (1 ∷ 0 ∷ 0 ∷ 0 ∷ 7 ∷ 0 ∷ 0 ∷ 0 ∷ [])))
    (held (1 ∷ 15 ∷ 0 ∷ 0 ∷ []) 2 false (record { 0 = 0 } ∷ [])))
    ∷ move (land (record { 0 = 1 }) (filled 9)) (held (1 ∷ 15 ∷ 0 ∷ 0 ∷ []) 2 false (record { 0 = 0 } ∷ []))
    (leaving done (stores ssd_image 2 (filled 9)) (held (1 ∷ 11 ∷ 0 ∷ 0 ∷ []) 2 true []))
    ∷ move (land (record { 0 = 1 }) (filled 9)) (held (1 ∷ 11 ∷ 0 ∷ 0 ∷ []) 2 false [])
    (leaving done (stores ssd_image 2 (filled 9)) (held (1 ∷ 11 ∷ 0 ∷ 0 ∷ []) 2 false []))
    ∷ move (write_back (record { 0 = 1 })) (held (1 ∷ 11 ∷ 0 ∷ 0 ∷ []) 2 true [])
    (leaving done (stores hdd_image 1 (filled 3)) (held (1 ∷ 9 ∷ 0 ∷ 0 ∷ []) 2 true []))
    ∷ move (write_back (record { 0 = 1 })) (held (1 ∷ 9 ∷ 0 ∷ 0 ∷ []) 2 true [])
    (leaving nothing_to_do None (held (1 ∷ 9 ∷ 0 ∷ 0 ∷ []) 2 true []))
    ∷ move (write_back (record { 0 = 0 })) (held (1 ∷ 11 ∷ 0 ∷ 0 ∷ []) 2 true [])
    (leaving nothing_to_do None (held (1 ∷ 11 ∷ 0 ∷ 0 ∷ []) 2 true []))
    ∷ move flush (held (1 ∷ 11 ∷ 0 ∷ 0 ∷ []) 2 false []) (leaving nothing_to_do None (held (1 ∷ 11 ∷ 0 ∷ 0 ∷ []) 2 false []))
    -- a sweep of two used slots clears both flags, and takes the one under the hand; being dirty, it is copied out
    ∷ move (fetch (record { 0 = 2 }) 0) (held (1 ∷ 9 ∷ 0 ∷ 11 ∷ []) 2 false [])
    (leaving copied_out (stores hdd_image 0 (filled 4)) (held (1 ∷ 1 ∷ 0 ∷ 1 ∷ []) 2 false []))
    -- an open slot is passed with its used flag
    ∷ move (fetch (record { 0 = 2 }) 0) (held (1 ∷ 9 ∷ 0 ∷ 15 ∷ []) 2 false (record { 0 = 1 } ∷ []))
    (leaving (announced (record { 0 = 0 }))
    (stores ssd_image 1
    (meta_page (3 ∷ 0 ∷ 0 ∷ 0 ∷ 2 ∷ 0 ∷ []) (1 ∷ 0 ∷ 0 ∷ 0 ∷ 0 ∷ 0 ∷ 0 ∷ 0 ∷ [])
    (2 ∷ 0 ∷ 0 ∷ 0 ∷ 5 ∷ 0 ∷ 0 ∷ 0 ∷ 0 ∷ 0 ∷ 0 ∷ 0 ∷ 7 ∷ 0 ∷ 0 ∷ 0 ∷ [])))
    (held (2 ∷ 5 ∷ 0 ∷ 15 ∷ []) 3 false (record { 0 = 1 } ∷ record { 0 = 0 } ∷ [])))
    ∷ []

-- Moves of a box of four slots, its images left out.
abbrev pub four : List ℕ → ℕ → ℕ → Phase → Bool → List Slot → Box
four table hand newest phase unconfirmed window =
    imageless (record { table = table; state = record_of usual (record { 0 = hand }) newest phase unconfirmed window })

abbrev pub wide : List Case
wide =
    -- three slots are open, and the first or the second lands: the others stay, in their order
    move (land (record { 0 = 5 }) (filled 9))
    (four (5 ∷ 7 ∷ 6 ∷ 7 ∷ 7 ∷ 7 ∷ 0 ∷ 0 ∷ []) 3 3 Ready false (record { 0 = 0 } ∷ record { 0 = 1 } ∷ record { 0 = 2 } ∷ []))
    (leaving done (stores ssd_image 2 (filled 9))
    (four (5 ∷ 11 ∷ 6 ∷ 7 ∷ 7 ∷ 7 ∷ 0 ∷ 0 ∷ []) 3 3 Ready true (record { 0 = 1 } ∷ record { 0 = 2 } ∷ [])))
    ∷ move (land (record { 0 = 6 }) (filled 9))
    (four (5 ∷ 7 ∷ 6 ∷ 7 ∷ 7 ∷ 7 ∷ 0 ∷ 0 ∷ []) 3 3 Ready false (record { 0 = 0 } ∷ record { 0 = 1 } ∷ record { 0 = 2 } ∷ []))
    (leaving done (stores ssd_image 3 (filled 9))
    (four (5 ∷ 7 ∷ 6 ∷ 11 ∷ 7 ∷ 7 ∷ 0 ∷ 0 ∷ []) 3 3 Ready true (record { 0 = 0 } ∷ record { 0 = 2 } ∷ [])))
    -- from the hand on slot 1, which is used, the sweep goes on to slot 2
    ∷ move (fetch (record { 0 = 7 }) 0) (four (3 ∷ 1 ∷ 4 ∷ 9 ∷ 6 ∷ 1 ∷ 0 ∷ 0 ∷ []) 1 2 Ready false [])
    (leaving (announced (record { 0 = 2 }))
    (stores ssd_image 1
    (meta_page (3 ∷ 0 ∷ 0 ∷ 0 ∷ 1 ∷ 0 ∷ []) (2 ∷ 0 ∷ 0 ∷ 0 ∷ [])
    (3 ∷ 0 ∷ 0 ∷ 0 ∷ 1 ∷ 0 ∷ 0 ∷ 0 ∷ 4 ∷ 0 ∷ 0 ∷ 0 ∷ 1 ∷ 0 ∷ 0 ∷ 0 ∷ 7 ∷ 0 ∷ 0 ∷ 0 ∷ 5 ∷ 0 ∷ 0 ∷ 0 ∷ [])))
    (four (3 ∷ 1 ∷ 4 ∷ 1 ∷ 7 ∷ 5 ∷ 0 ∷ 0 ∷ []) 3 3 Ready false (record { 0 = 2 } ∷ [])))
    -- a flush beside an open slot stores the window with it
    ∷ move flush (four (5 ∷ 7 ∷ 6 ∷ 3 ∷ 0 ∷ 0 ∷ 0 ∷ 0 ∷ []) 2 2 Ready true (record { 0 = 0 } ∷ []))
    (leaving done
    (stores ssd_image 1
    (meta_page (3 ∷ 0 ∷ 0 ∷ 0 ∷ 1 ∷ 0 ∷ []) (0 ∷ 0 ∷ 0 ∷ 0 ∷ [])
    (5 ∷ 0 ∷ 0 ∷ 0 ∷ 7 ∷ 0 ∷ 0 ∷ 0 ∷ 6 ∷ 0 ∷ 0 ∷ 0 ∷ 3 ∷ 0 ∷ 0 ∷ 0 ∷ [])))
    (four (5 ∷ 7 ∷ 6 ∷ 3 ∷ 0 ∷ 0 ∷ 0 ∷ 0 ∷ []) 2 3 Ready false (record { 0 = 0 } ∷ [])))
    -- a format's last step sets hand 0, newest stamp 0 and settled, whatever they were
    ∷ move step (four (replicate 8 0) 1 5 (Formatting 2) true [])
    (leaving done (stores ssd_image 0 (label_page (text_of 52 56))) (four (replicate 8 0) 0 0 Ready false []))
    ∷ []

-- Moves of a box of two slots: a second look-up leaves the used flag set, that of a dirty block sets it too; a fetch that lands sets
-- unsettled and leaves the used flag; a write that lands in place sets that flag and leaves unsettled (document 02, N2); a fetch lands
-- its own block's page, with another slot opened after it (N11).
abbrev pub narrow : List Case
narrow =
    move (look_up (record { 0 = 1 })) (held (1 ∷ 9 ∷ 0 ∷ 0 ∷ []) 1 true [])
    (leaving (looked (Clean (record { 0 = 0 }))) None (held (1 ∷ 9 ∷ 0 ∷ 0 ∷ []) 1 true []))
    ∷ move (look_up (record { 0 = 1 })) (held (1 ∷ 3 ∷ 0 ∷ 0 ∷ []) 1 true [])
    (leaving (looked (Dirty (record { 0 = 0 }))) None (held (1 ∷ 11 ∷ 0 ∷ 0 ∷ []) 1 true []))
    ∷ move (land_fetch (record { 0 = 1 })) (held (1 ∷ 5 ∷ 0 ∷ 0 ∷ []) 2 false (record { 0 = 0 } ∷ []))
    (leaving done (stores ssd_image 2 (filled 65)) (held (1 ∷ 1 ∷ 0 ∷ 0 ∷ []) 2 true []))
    ∷ move (land_fetch (record { 0 = 1 })) (held (1 ∷ 13 ∷ 0 ∷ 0 ∷ []) 2 false (record { 0 = 0 } ∷ []))
    (leaving done (stores ssd_image 2 (filled 65)) (held (1 ∷ 9 ∷ 0 ∷ 0 ∷ []) 2 true []))
    ∷ move (land (record { 0 = 1 }) (filled 9)) (held (1 ∷ 3 ∷ 0 ∷ 0 ∷ []) 2 false [])
    (leaving done (stores ssd_image 2 (filled 9)) (held (1 ∷ 11 ∷ 0 ∷ 0 ∷ []) 2 false []))
    ∷ move (land_fetch (record { 0 = 1 })) (held (1 ∷ 5 ∷ 2 ∷ 7 ∷ []) 2 false (record { 0 = 0 } ∷ record { 0 = 1 } ∷ []))
    (leaving done (stores ssd_image 2 (filled 65)) (held (1 ∷ 1 ∷ 2 ∷ 7 ∷ []) 2 true (record { 0 = 1 } ∷ [])))
    ∷ []

-- document 02, N5, on one box, by code and slot: block 0 is "not cached", 1 is clean in slot 0, 2 dirty in slot 1, 3 open for writing
-- in slot 2, 4 open for fetch in slot 3. A look-up sets the used flag for clean and dirty only. A block in two rows has the
-- condition of its lowest slot, open or not; what a look-up says of an open slot is no place to read from.
abbrev pub rowed : ℕ → ℕ → ℕ → ℕ → Box
rowed f₀ f₁ f₂ f₃ = four (1 ∷ f₀ ∷ 2 ∷ f₁ ∷ 3 ∷ f₂ ∷ 4 ∷ f₃ ∷ []) 0 4 Ready false (record { 0 = 2 } ∷ record { 0 = 3 } ∷ [])

abbrev pub doubled : ℕ → ℕ → List Slot → Box
doubled f₀ f₁ window = four (0 ∷ 0 ∷ 6 ∷ f₀ ∷ 6 ∷ f₁ ∷ 0 ∷ 0 ∷ []) 0 4 Ready false window

abbrev pub conditions : List Case
conditions =
    move (look_up (record { 0 = 0 })) (rowed 1 3 7 5) (leaving (answer 107 []) None (rowed 1 3 7 5))
    ∷ move (look_up (record { 0 = 1 })) (rowed 1 3 7 5) (leaving (answer 108 (record { 0 = 0 } ∷ [])) None (rowed 9 3 7 5))
    ∷ move (look_up (record { 0 = 2 })) (rowed 1 3 7 5) (leaving (answer 109 (record { 0 = 1 } ∷ [])) None (rowed 1 11 7 5))
    ∷ move (look_up (record { 0 = 3 })) (rowed 1 3 7 5) (leaving (answer 110 (record { 0 = 2 } ∷ [])) None (rowed 1 3 7 5))
    ∷ move (look_up (record { 0 = 4 })) (rowed 1 3 7 5) (leaving (answer 111 (record { 0 = 3 } ∷ [])) None (rowed 1 3 7 5))
    ∷ move (look_up (record { 0 = 6 })) (doubled 7 3 (record { 0 = 1 } ∷ []))
    (leaving (answer 110 (record { 0 = 1 } ∷ [])) None (doubled 7 3 (record { 0 = 1 } ∷ [])))
    ∷ move (look_up (record { 0 = 6 })) (doubled 1 7 (record { 0 = 2 } ∷ []))
    (leaving (answer 108 (record { 0 = 1 } ∷ [])) None (doubled 9 7 (record { 0 = 2 } ∷ [])))
    ∷ closed (look_up (record { 0 = 0 })) (rowed 1 3 7 5) None
    ∷ closed (look_up (record { 0 = 1 })) (rowed 1 3 7 5) (Some (record { 0 = 0 }))
    ∷ closed (look_up (record { 0 = 2 })) (rowed 1 3 7 5) (Some (record { 0 = 1 }))
    ∷ closed (look_up (record { 0 = 3 })) (rowed 1 3 7 5) None
    ∷ closed (look_up (record { 0 = 4 })) (rowed 1 3 7 5) None
    ∷ []

-- document 02, N6, on the same boxes: a word for each place of the list, a block listed twice in two; the used flags of clean and
-- dirty alone. Of a block in two rows the lowest slot counts, even if it is open
abbrev pub listed : List Case
listed =
    words (4 ∷ 2 ∷ 1 ∷ 2 ∷ 0 ∷ 3 ∷ []) (rowed 1 3 7 5) (0 ∷ 2 ∷ 1 ∷ 2 ∷ 0 ∷ 0 ∷ [])
    ∷ move (look_up_list (4 ∷ 2 ∷ 1 ∷ 2 ∷ 0 ∷ 3 ∷ []) 6) (rowed 1 3 7 5) (leaving done None (rowed 9 11 7 5))
    ∷ words (6 ∷ []) (doubled 7 3 (record { 0 = 1 } ∷ [])) (0 ∷ [])
    ∷ move (look_up_list (6 ∷ []) 1) (doubled 7 3 (record { 0 = 1 } ∷ [])) (leaving done None (doubled 7 3 (record { 0 = 1 } ∷ [])))
    ∷ words (6 ∷ []) (doubled 1 3 []) (2 ∷ [])
    ∷ move (look_up_list (6 ∷ []) 1) (doubled 1 3 []) (leaving done None (doubled 9 3 []))
    ∷ []

-- the page that a call names is the one that it stores
abbrev pub named : List Case
named =
    names (land (record { 0 = 1 }) (filled 9)) (held (1 ∷ 7 ∷ 0 ∷ 0 ∷ []) 2 false (record { 0 = 0 } ∷ [])) (Some (Ssd 2))
    ∷ names (write_back (record { 0 = 1 })) (held (1 ∷ 3 ∷ 0 ∷ 0 ∷ []) 2 true []) (Some (Hdd 1))
    ∷ names (look_up (record { 0 = 1 })) (held (1 ∷ 3 ∷ 0 ∷ 0 ∷ []) 2 true []) None
    ∷ []

-- document 02, N7: a slot joins the window with its caller, swept for or not, and leaves it with its caller; a copy-out and a store
-- leave the callers of the others
abbrev pub by : List ℕ → Box → Box
by callers x = record { images = x.images; table = x.table; state = with_callers x.state callers }

abbrev pub shared : List Case
shared =
    move (offer (record { 0 = 6 }) 1) (by (0 ∷ []) (four (5 ∷ 7 ∷ 6 ∷ 1 ∷ 0 ∷ 0 ∷ 0 ∷ 0 ∷ []) 2 2 Ready false (record { 0 = 0 } ∷ [])))
    (leaving (announced (record { 0 = 1 }))
    (stores ssd_image 1
    (meta_page (3 ∷ 0 ∷ 0 ∷ 0 ∷ 2 ∷ 0 ∷ []) (0 ∷ 0 ∷ 0 ∷ 0 ∷ 1 ∷ 0 ∷ 0 ∷ 0 ∷ [])
    (5 ∷ 0 ∷ 0 ∷ 0 ∷ 7 ∷ 0 ∷ 0 ∷ 0 ∷ 6 ∷ 0 ∷ 0 ∷ 0 ∷ 7 ∷ 0 ∷ 0 ∷ 0 ∷ [])))
    (by (0 ∷ 1 ∷ []) (four (5 ∷ 7 ∷ 6 ∷ 7 ∷ 0 ∷ 0 ∷ 0 ∷ 0 ∷ []) 2 3 Ready false (record { 0 = 0 } ∷ record { 0 = 1 } ∷ []))))
    ∷ move (land (record { 0 = 5 }) (filled 9))
    (by (0 ∷ 1 ∷ []) (four (5 ∷ 7 ∷ 6 ∷ 7 ∷ 0 ∷ 0 ∷ 0 ∷ 0 ∷ []) 2 3 Ready false (record { 0 = 0 } ∷ record { 0 = 1 } ∷ [])))
    (leaving done (stores ssd_image 2 (filled 9))
    (by (1 ∷ []) (four (5 ∷ 11 ∷ 6 ∷ 7 ∷ 0 ∷ 0 ∷ 0 ∷ 0 ∷ []) 2 3 Ready true (record { 0 = 1 } ∷ []))))
    ∷ move (fetch (record { 0 = 7 }) 1) (by (0 ∷ []) (four (5 ∷ 7 ∷ 6 ∷ 1 ∷ 0 ∷ 0 ∷ 0 ∷ 0 ∷ []) 1 2 Ready false (record { 0 = 0 } ∷ [])))
    (leaving (announced (record { 0 = 1 }))
    (stores ssd_image 1
    (meta_page (3 ∷ 0 ∷ 0 ∷ 0 ∷ 2 ∷ 0 ∷ []) (0 ∷ 0 ∷ 0 ∷ 0 ∷ 1 ∷ 0 ∷ 0 ∷ 0 ∷ [])
    (5 ∷ 0 ∷ 0 ∷ 0 ∷ 7 ∷ 0 ∷ 0 ∷ 0 ∷ 7 ∷ 0 ∷ 0 ∷ 0 ∷ 5 ∷ 0 ∷ 0 ∷ 0 ∷ [])))
    (by (0 ∷ 1 ∷ []) (four (5 ∷ 7 ∷ 7 ∷ 5 ∷ 0 ∷ 0 ∷ 0 ∷ 0 ∷ []) 2 3 Ready false (record { 0 = 0 } ∷ record { 0 = 1 } ∷ []))))
    ∷ move (offer (record { 0 = 7 }) 1) (by (0 ∷ []) (four (5 ∷ 7 ∷ 6 ∷ 1 ∷ 0 ∷ 0 ∷ 0 ∷ 0 ∷ []) 1 2 Ready false (record { 0 = 0 } ∷ [])))
    (leaving (announced (record { 0 = 1 }))
    (stores ssd_image 1
    (meta_page (3 ∷ 0 ∷ 0 ∷ 0 ∷ 2 ∷ 0 ∷ []) (0 ∷ 0 ∷ 0 ∷ 0 ∷ 1 ∷ 0 ∷ 0 ∷ 0 ∷ [])
    (5 ∷ 0 ∷ 0 ∷ 0 ∷ 7 ∷ 0 ∷ 0 ∷ 0 ∷ 7 ∷ 0 ∷ 0 ∷ 0 ∷ 7 ∷ 0 ∷ 0 ∷ 0 ∷ [])))
    (by (0 ∷ 1 ∷ []) (four (5 ∷ 7 ∷ 7 ∷ 7 ∷ 0 ∷ 0 ∷ 0 ∷ 0 ∷ []) 2 3 Ready false (record { 0 = 0 } ∷ record { 0 = 1 } ∷ []))))
    ∷ move (fetch (record { 0 = 2 }) 0) (by (1 ∷ []) (held (1 ∷ 7 ∷ 0 ∷ 3 ∷ []) 2 false (record { 0 = 0 } ∷ [])))
    (leaving copied_out (stores hdd_image 0 (filled 4)) (by (1 ∷ []) (held (1 ∷ 7 ∷ 0 ∷ 1 ∷ []) 2 false (record { 0 = 0 } ∷ []))))
    ∷ move flush (by (1 ∷ []) (four (5 ∷ 7 ∷ 6 ∷ 3 ∷ 0 ∷ 0 ∷ 0 ∷ 0 ∷ []) 2 2 Ready true (record { 0 = 0 } ∷ [])))
    (leaving done
    (stores ssd_image 1
    (meta_page (3 ∷ 0 ∷ 0 ∷ 0 ∷ 1 ∷ 0 ∷ []) (0 ∷ 0 ∷ 0 ∷ 0 ∷ [])
    (5 ∷ 0 ∷ 0 ∷ 0 ∷ 7 ∷ 0 ∷ 0 ∷ 0 ∷ 6 ∷ 0 ∷ 0 ∷ 0 ∷ 3 ∷ 0 ∷ 0 ∷ 0 ∷ [])))
    (by (1 ∷ []) (four (5 ∷ 7 ∷ 6 ∷ 3 ∷ 0 ∷ 0 ∷ 0 ∷ 0 ∷ []) 2 3 Ready false (record { 0 = 0 } ∷ []))))
    ∷ []

-- "one label page, M metadata pages": metadata page p is read from page p + 1 of the SSD image
read_at : (l : Label) (ssd : List ℕ) (p : ℕ) → read_meta l ssd p ≡ page_at ssd (1 + p)
unfolding read_meta meta_place
read_at l ssd p = refl

Moves : AllHold moves
unfolding known
Moves = read_at first (refl, (refl, (refl, (refl, (refl, (refl, (refl, (refl, (refl, (refl, (refl, tt)))))))))))

Wide : AllHold wide
unfolding known text_of
Wide = Moves first (refl, (refl, (refl, (refl, (refl, tt)))))

Narrow : AllHold narrow
unfolding known
Narrow = Wide first (refl, (refl, (refl, (refl, (refl, (refl, tt))))))

Conditions : AllHold conditions
unfolding known
Conditions = Narrow first (refl, (refl, (refl, (refl, (refl, (refl, (refl, (refl, (refl, (refl, (refl, (refl, tt))))))))))))

Listed : AllHold listed
unfolding known
Listed = Conditions first (refl, (refl, (refl, (refl, (refl, (refl, tt))))))

Named : AllHold named
unfolding known
Named = Listed first (refl, (refl, (refl, tt)))

pub Shared : AllHold shared
unfolding known
Shared = Named first (refl, (refl, (refl, (refl, (refl, (refl, tt))))))
