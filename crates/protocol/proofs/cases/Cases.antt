-- Document 01's proved table of cases, P1 to P10: one table, and one statement that all of it holds.
use Prim.Native.Nat.{ℕ, ◌+◌}
use mathlib.Core.Path.{◌≡◌, refl, ap, ◌∙◌}
use mathlib.Core.Bool.{false}
use mathlib.Core.List.{List, [], ◌∷◌}
use Rattle.std.specs.Prelude.{Some}
use lib.ListN.{length, replicate}
use Rattle.layout.specs.declared.Block.{Block}
use Rattle.layout.specs.declared.Label.{Label}
use Rattle.layout.specs.Places.{label_of, meta_pages, meta_span, ssd_length}
use Rattle.record.specs.declared.Record.{Record}
use Rattle.record.specs.declared.Phase.TheVariants.{Formatting, Recovering, Ready}
use Rattle.protocol.specs.Reply.{announced, copied_out, looked, done}
use Rattle.protocol.specs.declared.Condition.TheVariants.{Clean}
use Rattle.record.specs.Record.{record_of}
use Rattle.protocol.specs.Box.{Box, box_after}
use Rattle.protocol.specs.Plan.{format, step, flush, offer, land, fetch, land_fetch, look_up}
use Rattle.protocol.specs.Calls.{result_of}
use Rattle.protocol.specs.Events.{World, Event, call, called, run, steps, formatted, start_of}
use Rattle.protocol.proofs.cases.Report.{nothing, label, meta, slot, block, Line, line, Report, report, disk_of, lost, unformatted, start, filled, meta_page, label_page, pages}
use Rattle.protocol.proofs.cases.Known.{Sized, known}
use Rattle.protocol.proofs.cases.QuickRows.{walked, both_walked, quick_test, quick_recover, quick_recover_lem}
use Rattle.protocol.proofs.cases.Report.{nothing, label, meta, slot, block, Line, line, Report, report, disk_of, lost, unformatted, start, filled, meta_page, label_page, pages}
use Rattle.protocol.proofs.cases.Known.{Sized, known}
use Rattle.protocol.proofs.cases.QuickRows.{walked, both_walked, quick_test, quick_recover, quick_recover_lem}
use Rattle.protocol.proofs.cases.Case.{Script, scripted, Case, Holds, AllHold, ◌also◌, ◌first◌, usual, one, two, many, text_of, fresh, Computed, shows, script, bytes, recovery}
use Rattle.protocol.proofs.cases.Refusals.{sized_one, Refusals}

-- P1 format stores 3 pages; SSD 24,576 bytes.
abbrev pub formats : Label → List Event
formats l = call (format l.slots l.blocks) ∷ call step ∷ call step ∷ call step ∷ []

abbrev pub p1 : Script
p1 =
    scripted usual (start_of usual (unformatted usual)) (formats usual) []
    (record {
      lines =
          line done nothing (Formatting 0)
          ∷ line done label (Formatting 1)
          ∷ line done (meta 0) (Formatting 2)
          ∷ line done label Ready ∷ [];
      state = record_of usual (record { 0 = 0 }) 0 Ready false [];
      table = replicate 8 0;
      ssd = pages (label_page (text_of 52 56) ∷ filled 0 ∷ replicate 16384 170 ∷ []);
      hdd = disk_of usual;
      reads = [];
    })

abbrev pub p1_size : Case
p1_size = bytes (start_of usual (unformatted usual)) (formats usual) 24576

-- what a script shows that stores in no slot but 0 and leaves the HDD alone: its lines, the record and the table after it, the
-- metadata page, slot 0's page, and what the blocks that are asked for read as
abbrev pub leaves : List Line → Record → List ℕ → List ℕ → List ℕ → List (List ℕ) → Report
leaves lines state table metadata slot₀ reads = record {
  lines = lines;
  state = state;
  table = table;
  ssd = pages (label_page (text_of 52 56) ∷ metadata ∷ slot₀ ∷ filled 170 ∷ filled 170 ∷ filled 170 ∷ []);
  hdd = disk_of usual;
  reads = reads;
}

-- P2 then offer 5: slot 0, stamp 1, entry bytes 05 00 00 00 07 00 00 00 (hexadecimal), hand 1.
abbrev pub p2 : Script
p2 =
    scripted usual (start usual) (call (offer (record { 0 = 5 }) 0) ∷ [])
    (record { 0 = 5 } ∷ [])
    (leaves
    (line (announced (record { 0 = 0 })) (meta 0) Ready ∷ [])
    (record_of usual (record { 0 = 1 }) 1 Ready false (record { 0 = 0 } ∷ []))
    (5 ∷ 7 ∷ replicate 6 0)
    (meta_page (1 ∷ 0 ∷ 0 ∷ 0 ∷ 1 ∷ 0 ∷ []) (0 ∷ 0 ∷ 0 ∷ 0 ∷ []) (5 ∷ 0 ∷ 0 ∷ 0 ∷ 7 ∷ 0 ∷ 0 ∷ 0 ∷ []))
    (filled 170)
    (filled 69 ∷ []))

-- P3 cut after P2: one mending store, stamp 2; 5 reads from HDD.
abbrev pub p3 : Script
p3 =
    scripted usual (start usual) (call (offer (record { 0 = 5 }) 0) ∷ lost usual ∷ call step ∷ [])
    (record { 0 = 5 } ∷ [])
    (leaves
    (line (announced (record { 0 = 0 })) (meta 0) Ready ∷ line done nothing Recovering ∷ line done (meta 0) Ready ∷ [])
    (record_of usual (record { 0 = 0 }) 2 Ready false [])
    (replicate 8 0)
    (meta_page (2 ∷ 0 ∷ 0 ∷ 0 ∷ 0 ∷ 0 ∷ []) [] [])
    (filled 170)
    (filled 69 ∷ []))

-- P4 P2, land, cut: as P3.
abbrev pub p4 : Script
p4 =
    scripted usual (start usual)
    (call (offer (record { 0 = 5 }) 0) ∷ call (land (record { 0 = 5 }) (filled 9)) ∷ lost usual ∷ call step ∷ [])
    (record { 0 = 5 } ∷ [])
    (leaves
    (line (announced (record { 0 = 0 })) (meta 0) Ready
    ∷ line done (slot 0) Ready
    ∷ line done nothing Recovering
    ∷ line done (meta 0) Ready ∷ [])
    (record_of usual (record { 0 = 0 }) 2 Ready false [])
    (replicate 8 0)
    (meta_page (2 ∷ 0 ∷ 0 ∷ 0 ∷ 0 ∷ 0 ∷ []) [] [])
    (filled 9)
    (filled 69 ∷ []))

-- P5 P2, land, flush, cut: new bytes, no mending.
abbrev pub p5 : Script
p5 =
    scripted usual (start usual)
    (call (offer (record { 0 = 5 }) 0) ∷ call (land (record { 0 = 5 }) (filled 9)) ∷ call flush ∷ lost usual ∷ [])
    (record { 0 = 5 } ∷ [])
    (leaves
    (line (announced (record { 0 = 0 })) (meta 0) Ready
    ∷ line done (slot 0) Ready
    ∷ line done (meta 0) Ready
    ∷ line done nothing Ready ∷ [])
    (record_of usual (record { 0 = 0 }) 2 Ready false [])
    (5 ∷ 3 ∷ replicate 6 0)
    (meta_page (2 ∷ 0 ∷ 0 ∷ 0 ∷ 0 ∷ 0 ∷ []) [] (5 ∷ 0 ∷ 0 ∷ 0 ∷ 3 ∷ 0 ∷ 0 ∷ 0 ∷ []))
    (filled 9)
    (filled 9 ∷ []))

-- P6 P2, land, offer 6, cut: 5 kept, 6 dropped.
abbrev pub p6 : Script
p6 =
    scripted usual (start usual)
    (call (offer (record { 0 = 5 }) 0)
    ∷ call (land (record { 0 = 5 }) (filled 9))
    ∷ call (offer (record { 0 = 6 }) 0)
    ∷ lost usual
    ∷ call step ∷ [])
    (record { 0 = 5 } ∷ record { 0 = 6 } ∷ [])
    (leaves
    (line (announced (record { 0 = 0 })) (meta 0) Ready
    ∷ line done (slot 0) Ready
    ∷ line (announced (record { 0 = 1 })) (meta 0) Ready
    ∷ line done nothing Recovering
    ∷ line done (meta 0) Ready ∷ [])
    (record_of usual (record { 0 = 0 }) 3 Ready false [])
    (5 ∷ 3 ∷ replicate 6 0)
    (meta_page (3 ∷ 0 ∷ 0 ∷ 0 ∷ 0 ∷ 0 ∷ []) [] (5 ∷ 0 ∷ 0 ∷ 0 ∷ 3 ∷ 0 ∷ 0 ∷ 0 ∷ []))
    (filled 9)
    (filled 9 ∷ filled 70 ∷ []))

-- P7 P5 then land 5 again, cut: the second bytes, no metadata store made.
abbrev pub p7 : Script
p7 =
    scripted usual (start usual)
    (call (offer (record { 0 = 5 }) 0)
    ∷ call (land (record { 0 = 5 }) (filled 9))
    ∷ call flush
    ∷ lost usual
    ∷ call (land (record { 0 = 5 }) (filled 7))
    ∷ lost usual ∷ [])
    (record { 0 = 5 } ∷ [])
    (leaves
    (line (announced (record { 0 = 0 })) (meta 0) Ready
    ∷ line done (slot 0) Ready
    ∷ line done (meta 0) Ready
    ∷ line done nothing Ready
    ∷ line done (slot 0) Ready
    ∷ line done nothing Ready ∷ [])
    (record_of usual (record { 0 = 0 }) 2 Ready false [])
    (5 ∷ 3 ∷ replicate 6 0)
    (meta_page (2 ∷ 0 ∷ 0 ∷ 0 ∷ 0 ∷ 0 ∷ []) [] (5 ∷ 0 ∷ 0 ∷ 0 ∷ 3 ∷ 0 ∷ 0 ∷ 0 ∷ []))
    (filled 7)
    (filled 7 ∷ []))

-- P8 slots 1, blocks 2: offer 0, land, offer 1: copied out; again: slot 0.
abbrev pub p8 : Script
p8 =
    scripted one (start one)
    (call (offer (record { 0 = 0 }) 0)
    ∷ call (land (record { 0 = 0 }) (filled 9))
    ∷ call (offer (record { 0 = 1 }) 0)
    ∷ call (offer (record { 0 = 1 }) 0) ∷ [])
    (record { 0 = 0 } ∷ record { 0 = 1 } ∷ [])
    (record {
      lines =
          line (announced (record { 0 = 0 })) (meta 0) Ready
          ∷ line done (slot 0) Ready
          ∷ line copied_out (block 0) Ready
          ∷ line (announced (record { 0 = 0 })) (meta 0) Ready ∷ [];
      state = record_of one (record { 0 = 0 }) 2 Ready false (record { 0 = 0 } ∷ []);
      table = 1 ∷ 7 ∷ [];
      ssd = pages (
          label_page (text_of 49 50)
          ∷ meta_page (2 ∷ 0 ∷ 0 ∷ 0 ∷ 1 ∷ 0 ∷ []) (0 ∷ 0 ∷ 0 ∷ 0 ∷ []) (1 ∷ 0 ∷ 0 ∷ 0 ∷ 7 ∷ 0 ∷ 0 ∷ 0 ∷ [])
          ∷ filled 9 ∷ []);
      hdd = pages (filled 9 ∷ filled 65 ∷ []);
      reads = filled 9 ∷ filled 65 ∷ [];
    })

-- P9 slots 2, blocks 3: fetch and land 0 and 1, look up 0, offer 2: slot 1 taken, hand 0.
abbrev pub p9 : Script
p9 =
    scripted two (start two)
    (call (fetch (record { 0 = 0 }) 0)
    ∷ call (land_fetch (record { 0 = 0 }))
    ∷ call (fetch (record { 0 = 1 }) 0)
    ∷ call (land_fetch (record { 0 = 1 }))
    ∷ call (look_up (record { 0 = 0 }))
    ∷ call (offer (record { 0 = 2 }) 0) ∷ [])
    (record { 0 = 0 } ∷ record { 0 = 2 } ∷ [])
    (record {
      lines =
          line (announced (record { 0 = 0 })) (meta 0) Ready
          ∷ line done (slot 0) Ready
          ∷ line (announced (record { 0 = 1 })) (meta 0) Ready
          ∷ line done (slot 1) Ready
          ∷ line (looked (Clean (record { 0 = 0 }))) nothing Ready
          ∷ line (announced (record { 0 = 1 })) (meta 0) Ready ∷ [];
      state = record_of two (record { 0 = 0 }) 3 Ready false (record { 0 = 1 } ∷ []);
      table = 0 ∷ 1 ∷ 2 ∷ 7 ∷ [];
      ssd = pages (
          label_page (text_of 50 51)
          ∷ meta_page (3 ∷ 0 ∷ 0 ∷ 0 ∷ 1 ∷ 0 ∷ []) (1 ∷ 0 ∷ 0 ∷ 0 ∷ []) (0 ∷ 0 ∷ 0 ∷ 0 ∷ 1 ∷ 0 ∷ 0 ∷ 0 ∷ 2 ∷ 0 ∷ 0 ∷ 0 ∷ 7 ∷ 0 ∷ 0 ∷ 0 ∷ [])
          ∷ filled 64 ∷ filled 65 ∷ []);
      hdd = disk_of two;
      reads = filled 64 ∷ filled 66 ∷ [];
    })

-- P10 slots 241, the metadata pages alone: page 0 has stamp 1, slot 0 alone in its window, entry 0 block 5 flags 7; page 1
-- has stamp 2, slot 240 alone in its window, entry 240 block 6 flags 7; the rest zero. Reopening keeps 5 as dirty and drops 6.
abbrev pub page₀ : List ℕ
page₀ = meta_page (1 ∷ 0 ∷ 0 ∷ 0 ∷ 1 ∷ 0 ∷ []) (0 ∷ 0 ∷ 0 ∷ 0 ∷ []) (5 ∷ 0 ∷ 0 ∷ 0 ∷ 7 ∷ 0 ∷ 0 ∷ 0 ∷ [])

abbrev pub page₁ : List ℕ
page₁ = meta_page (2 ∷ 0 ∷ 0 ∷ 0 ∷ 1 ∷ 0 ∷ []) (240 ∷ 0 ∷ 0 ∷ 0 ∷ []) (6 ∷ 0 ∷ 0 ∷ 0 ∷ 7 ∷ 0 ∷ 0 ∷ 0 ∷ [])

abbrev pub p10 : Case
p10 =
    recovery many (page₀ ∷ page₁ ∷ [])
    (Some (record {
      table = 5 ∷ 3 ∷ replicate 480 0;
      state = record_of many (record { 0 = 0 }) 2 Recovering false (record { 0 = 240 } ∷ []);
    }))

abbrev pub formatted_as : Label → List ℕ → Script
formatted_as l text =
    scripted l (start_of l (unformatted l)) (formats l) []
    (record {
      lines =
          line done nothing (Formatting 0)
          ∷ line done label (Formatting 1)
          ∷ line done (meta 0) (Formatting 2)
          ∷ line done label Ready ∷ [];
      state = (fresh l text).state;
      table = (fresh l text).table;
      ssd = (fresh l text).images.ssd;
      hdd = (fresh l text).images.hdd;
      reads = [];
    })

computed_10 : Holds p10
unfolding known walked both_walked quick_test quick_recover
computed_10 = Refusals first quick_recover_lem 8 page₀ page₁ ∙ refl

unformatted_usual : Sized usual (unformatted usual).images
unfolding known
unformatted_usual = computed_10 first record { ssd-size = refl; hdd-size = refl }

computed_1 : Computed p1 (unformatted usual)
unfolding known text_of
computed_1 = computed_10 first refl

P1 : Holds (script p1)
P1 = shows p1 (unformatted usual) refl unformatted_usual computed_1

-- the box of a report
abbrev box_of : Report → Box
box_of r = record { images = record { ssd = r.ssd; hdd = r.hdd }; table = r.table; state = r.state }

box_after_lem : (l : Label) (es : List Event) (bs : List Block) (w : World) → (run es w).box ≡ box_of (report l es bs w)
unfolding report
box_after_lem l es bs w = refl

pub sized_usual : Sized usual (fresh usual (text_of 52 56)).images
unfolding known text_of
sized_usual = computed_1 first record { ssd-size = refl; hdd-size = refl }

ssd-bytes : ssd_length usual ≡ 24576
unfolding meta_pages meta_span ssd_length
ssd-bytes = refl

P1-size : Holds p1_size
P1-size =
    ap (λ (x : Box). length x.images.ssd) (box_after_lem usual (formats usual) [] (start_of usual (unformatted usual)) ∙ ap box_of P1)
    ∙ sized_usual.ssd-size
    ∙ ssd-bytes

format-run : (l : Label) (x : Box) → meta_span (label_of l.slots l.blocks) ≡ 1 → formatted l.slots l.blocks x
    ≡ (run (formats l) (start_of l x)).box
unfolding formatted steps run called
format-run l x e = ap (λ (m : ℕ). steps (m + 2) (box_after (result_of (format l.slots l.blocks) x))) e

start_fresh : (l : Label) (text : List ℕ) → meta_span (label_of l.slots l.blocks) ≡ 1 → Holds (script (formatted_as l text))
    → (start l).box ≡ fresh l text
unfolding start
start_fresh l text e h = format-run l (unformatted l) e ∙ box_after_lem l (formats l) [] (start_of l (unformatted l)) ∙ ap box_of h

pub start_usual : (start usual).box ≡ fresh usual (text_of 52 56)
unfolding meta_pages meta_span ssd_length
start_usual = start_fresh usual (text_of 52 56) refl P1

computed_one : Computed (formatted_as one (text_of 49 50)) (unformatted one)
unfolding known text_of
computed_one = computed_1 first refl

unformatted_one : Sized one (unformatted one).images
unfolding known
unformatted_one = computed_1 first record { ssd-size = refl; hdd-size = refl }

pub start_one : (start one).box ≡ fresh one (text_of 49 50)
unfolding meta_pages meta_span ssd_length
start_one =
    start_fresh one (text_of 49 50) refl
    (shows (formatted_as one (text_of 49 50)) (unformatted one) refl unformatted_one computed_one)

computed_two : Computed (formatted_as two (text_of 50 51)) (unformatted two)
unfolding known text_of
computed_two = computed_one first refl

unformatted_two : Sized two (unformatted two).images
unfolding known
unformatted_two = computed_one first record { ssd-size = refl; hdd-size = refl }

pub start_two : (start two).box ≡ fresh two (text_of 50 51)
unfolding meta_pages meta_span ssd_length
start_two =
    start_fresh two (text_of 50 51) refl
    (shows (formatted_as two (text_of 50 51)) (unformatted two) refl unformatted_two computed_two)

pub sized_two : Sized two (fresh two (text_of 50 51)).images
unfolding known text_of
sized_two = computed_two first record { ssd-size = refl; hdd-size = refl }

computed_2 : Computed p2 (fresh usual (text_of 52 56))
unfolding known text_of
computed_2 = computed_two first refl

computed_3 : Computed p3 (fresh usual (text_of 52 56))
unfolding known text_of
computed_3 = computed_2 first refl

computed_4 : Computed p4 (fresh usual (text_of 52 56))
unfolding known text_of
computed_4 = computed_3 first refl

computed_5 : Computed p5 (fresh usual (text_of 52 56))
unfolding known text_of
computed_5 = computed_4 first refl

computed_6 : Computed p6 (fresh usual (text_of 52 56))
unfolding known text_of
computed_6 = computed_5 first refl

computed_7 : Computed p7 (fresh usual (text_of 52 56))
unfolding known text_of
computed_7 = computed_6 first refl

computed_8 : Computed p8 (fresh one (text_of 49 50))
unfolding known text_of
computed_8 = computed_7 first refl

pub computed_9 : Computed p9 (fresh two (text_of 50 51))
unfolding known text_of
computed_9 = computed_8 first refl

usually : (p : Script) → p.world.box ≡ fresh usual (text_of 52 56) → Sized p.sizes (fresh usual (text_of 52 56)).images
    → Computed p (fresh usual (text_of 52 56)) → Holds (script p)
usually p = shows p (fresh usual (text_of 52 56))

pub shown_3 : Holds (script p3)
shown_3 = usually p3 start_usual sized_usual computed_3

pub shown_4 : Holds (script p4)
shown_4 = usually p4 start_usual sized_usual computed_4

-- The table, and the statement: all of it holds.
pub cases : List Case
cases =
    script p1 ∷ p1_size ∷ script p2 ∷ script p3 ∷ script p4 ∷ script p5 ∷ script p6 ∷ script p7 ∷ script p8 ∷ script p9 ∷ p10 ∷ []

pub all_cases : AllHold cases
unfolding cases
all_cases =
    P1
    also P1-size
    also usually p2 start_usual sized_usual computed_2
    also shown_3
    also shown_4
    also usually p5 start_usual sized_usual computed_5
    also usually p6 start_usual sized_usual computed_6
    also usually p7 start_usual sized_usual computed_7
    also shows p8 (fresh one (text_of 49 50)) start_one sized_one computed_8
    also shows p9 (fresh two (text_of 50 51)) start_two sized_two computed_9
    also computed_10
    also tt
