-- Further scripts: what P1 to P10 leave out of the calls, and cuts inside a call.
use mathlib.Core.Path.{refl}
use mathlib.Core.Bool.{false}
use mathlib.Core.List.{List, [], ◌∷◌}
use Rattle.record.specs.declared.Phase.TheVariants.{Recovering, Ready}
use Rattle.protocol.specs.Reply.{announced, dealt, done, refusal, overwrite, looked}
use Rattle.protocol.specs.declared.Condition.TheVariants.{NotCached, Clean, Dirty, Writing, Fetching}
use Rattle.record.specs.Record.{record_of}
use Rattle.protocol.specs.Box.{Box}
use Rattle.protocol.specs.Plan.{step, flush, offer, land, fetch, look_up, view, land_fetch, look_up_list, offer_list}
use Rattle.protocol.specs.Events.{call, start_of, cut, old, new}
use Rattle.protocol.proofs.cases.Report.{nothing, meta, slot, line, disk_of, lost, start, filled, meta_page, label_page, pages, rubbish}
use Rattle.protocol.proofs.cases.Known.{Sized, known}
use Rattle.protocol.proofs.cases.Cases.{start_one, start_two, sized_usual, sized_two, computed_9}
use Rattle.protocol.proofs.cases.Report.{nothing, meta, slot, line, disk_of, lost, start, filled, meta_page, label_page, pages, rubbish}
use Rattle.protocol.proofs.cases.Known.{Sized, known}
use Rattle.protocol.proofs.cases.Case.{Script, scripted, Case, AllHold, ◌also◌, ◌first◌, usual, one, two, text_of, fresh, Computed, shows, script}
use Rattle.protocol.proofs.cases.Moves.{held}
use Rattle.protocol.proofs.cases.Refusals.{sized_one}
use Rattle.protocol.proofs.cases.Cases.{start_one, start_two, sized_usual, sized_two, computed_9}

-- two open slots: a look-up names each as what it is (document 02, N5), and neither is viewed
abbrev pub both_open : Script
both_open =
    scripted two (start two)
    (call (offer (record { 0 = 2 }) 0) ∷ call (fetch (record { 0 = 1 }) 0) ∷ call (look_up (record { 0 = 2 })) ∷ call
    (look_up (record { 0 = 1 })) ∷ [])
    (record { 0 = 1 } ∷ record { 0 = 2 } ∷ [])
    (record {
      lines =
          line (announced (record { 0 = 0 })) (meta 0) Ready
          ∷ line (announced (record { 0 = 1 })) (meta 0) Ready
          ∷ line (looked (Writing (record { 0 = 0 }))) nothing Ready
          ∷ line (looked (Fetching (record { 0 = 1 }))) nothing Ready ∷ [];
      state = record_of two (record { 0 = 0 }) 2 Ready false (record { 0 = 0 } ∷ record { 0 = 1 } ∷ []);
      table = 2 ∷ 7 ∷ 1 ∷ 5 ∷ [];
      ssd = pages (
          label_page (text_of 50 51)
          ∷ meta_page (2 ∷ 0 ∷ 0 ∷ 0 ∷ 2 ∷ 0 ∷ []) (0 ∷ 0 ∷ 0 ∷ 0 ∷ 1 ∷ 0 ∷ 0 ∷ 0 ∷ [])
          (2 ∷ 0 ∷ 0 ∷ 0 ∷ 7 ∷ 0 ∷ 0 ∷ 0 ∷ 1 ∷ 0 ∷ 0 ∷ 0 ∷ 5 ∷ 0 ∷ 0 ∷ 0 ∷ [])
          ∷ filled 170 ∷ filled 170 ∷ []);
      hdd = disk_of two;
      reads = filled 65 ∷ filled 66 ∷ [];
    })

-- document 02, N5: all five answers on one box, of whole calls; the blocks that are open, or not cached, read from the HDD
abbrev pub panelled : Box
panelled = record {
  images = (fresh usual (text_of 52 56)).images;
  table = 1 ∷ 1 ∷ 2 ∷ 3 ∷ 3 ∷ 7 ∷ 4 ∷ 5 ∷ [];
  state = record_of usual (record { 0 = 0 }) 4 Ready false (record { 0 = 2 } ∷ record { 0 = 3 } ∷ []);
}

abbrev pub panel : Script
panel =
    scripted usual (start_of usual panelled)
    (call (look_up (record { 0 = 0 })) ∷ call (look_up (record { 0 = 1 })) ∷ call (look_up (record { 0 = 2 })) ∷ call
    (look_up (record { 0 = 3 })) ∷ call (look_up (record { 0 = 4 })) ∷ [])
    (record { 0 = 0 } ∷ record { 0 = 1 } ∷ record { 0 = 2 } ∷ record { 0 = 3 } ∷ record { 0 = 4 } ∷ [])
    (record {
      lines =
          line (looked NotCached) nothing Ready
          ∷ line (looked (Clean (record { 0 = 0 }))) nothing Ready
          ∷ line (looked (Dirty (record { 0 = 1 }))) nothing Ready
          ∷ line (looked (Writing (record { 0 = 2 }))) nothing Ready
          ∷ line (looked (Fetching (record { 0 = 3 }))) nothing Ready ∷ [];
      state = panelled.state;
      table = 1 ∷ 9 ∷ 2 ∷ 11 ∷ 3 ∷ 7 ∷ 4 ∷ 5 ∷ [];
      ssd = panelled.images.ssd;
      hdd = panelled.images.hdd;
      reads = filled 64 ∷ filled 170 ∷ filled 170 ∷ filled 67 ∷ filled 68 ∷ [];
    })

-- a dirty block is overwritten in its place and not announced: a cut keeps its flushed bytes
abbrev pub overwritten : Script
overwritten =
    scripted one (start one)
    (call (offer (record { 0 = 1 }) 0) ∷ call (land (record { 0 = 1 }) (filled 9)) ∷ call flush ∷ call
    (offer (record { 0 = 1 }) 0) ∷ lost one ∷ [])
    (record { 0 = 1 } ∷ [])
    (record {
      lines =
          line (announced (record { 0 = 0 })) (meta 0) Ready
          ∷ line done (slot 0) Ready
          ∷ line done (meta 0) Ready
          ∷ line overwrite nothing Ready
          ∷ line done nothing Ready ∷ [];
      state = record_of one (record { 0 = 0 }) 2 Ready false [];
      table = 1 ∷ 3 ∷ [];
      ssd = pages (
          label_page (text_of 49 50) ∷ meta_page (2 ∷ 0 ∷ 0 ∷ 0 ∷ 0 ∷ 0 ∷ []) [] (1 ∷ 0 ∷ 0 ∷ 0 ∷ 3 ∷ 0 ∷ 0 ∷ 0 ∷ []) ∷ filled 9 ∷ []);
      hdd = disk_of one;
      reads = filled 9 ∷ [];
    })

-- before mending nothing but a step is served
abbrev pub unserved : Script
unserved =
    scripted one (start one)
    (call (offer (record { 0 = 1 }) 0) ∷ lost one ∷ call (offer (record { 0 = 0 }) 0) ∷ call (view (record { 0 = 1 })) ∷ call flush ∷ [])
    (record { 0 = 1 } ∷ [])
    (record {
      lines =
          line (announced (record { 0 = 0 })) (meta 0) Ready
          ∷ line done nothing Recovering
          ∷ line (refusal 6) nothing Recovering
          ∷ line (refusal 6) nothing Recovering
          ∷ line (refusal 6) nothing Recovering ∷ [];
      state = record_of one (record { 0 = 0 }) 1 Recovering false (record { 0 = 0 } ∷ []);
      table = 0 ∷ 0 ∷ [];
      ssd = pages (
          label_page (text_of 49 50)
          ∷ meta_page (1 ∷ 0 ∷ 0 ∷ 0 ∷ 1 ∷ 0 ∷ []) (0 ∷ 0 ∷ 0 ∷ 0 ∷ []) (1 ∷ 0 ∷ 0 ∷ 0 ∷ 7 ∷ 0 ∷ 0 ∷ 0 ∷ [])
          ∷ filled 170 ∷ []);
      hdd = disk_of one;
      reads = [] ∷ [];
    })

-- a clean block is viewed in its slot, not on the HDD: here the two differ
abbrev pub clean-viewed : Script
clean-viewed =
    scripted two (start_of two (held (1 ∷ 1 ∷ 0 ∷ 0 ∷ []) 1 false [])) [] (record { 0 = 1 } ∷ [])
    (record {
      lines = [];
      state = record_of two (record { 0 = 1 }) 1 Ready false [];
      table = 1 ∷ 1 ∷ 0 ∷ 0 ∷ [];
      ssd = pages (filled 1 ∷ filled 2 ∷ filled 3 ∷ filled 4 ∷ []);
      hdd = disk_of two;
      reads = filled 3 ∷ [];
    })

-- cuts inside a call: a landing's page arrives and its slot is dropped all the same; a flush's page does not arrive, then it does
abbrev pub cuts : Script
cuts =
    scripted one (start one)
    (call (offer (record { 0 = 1 }) 0) ∷ cut (land (record { 0 = 1 }) (filled 9)) new (rubbish one) ∷ call step ∷ call
    (offer (record { 0 = 1 }) 0) ∷ call (land (record { 0 = 1 }) (filled 9)) ∷ cut flush old (rubbish one) ∷ call step ∷ call
    (offer (record { 0 = 1 }) 0) ∷ call (land (record { 0 = 1 }) (filled 8)) ∷ cut flush new (rubbish one) ∷ [])
    (record { 0 = 1 } ∷ [])
    (record {
      lines =
          line (announced (record { 0 = 0 })) (meta 0) Ready
          ∷ line done nothing Recovering
          ∷ line done (meta 0) Ready
          ∷ line (announced (record { 0 = 0 })) (meta 0) Ready
          ∷ line done (slot 0) Ready
          ∷ line done nothing Recovering
          ∷ line done (meta 0) Ready
          ∷ line (announced (record { 0 = 0 })) (meta 0) Ready
          ∷ line done (slot 0) Ready
          ∷ line done nothing Ready ∷ [];
      state = record_of one (record { 0 = 0 }) 6 Ready false [];
      table = 1 ∷ 3 ∷ [];
      ssd = pages (
          label_page (text_of 49 50) ∷ meta_page (6 ∷ 0 ∷ 0 ∷ 0 ∷ 0 ∷ 0 ∷ []) [] (1 ∷ 0 ∷ 0 ∷ 0 ∷ 3 ∷ 0 ∷ 0 ∷ 0 ∷ []) ∷ filled 8 ∷ []);
      hdd = disk_of one;
      reads = filled 8 ∷ [];
    })

-- document 02, N2: "With slots 2 and blocks 3, write and land 0, fetch and land 1, offer 2: slot 1 is taken"
abbrev pub edited : Script
edited =
    scripted two (start two)
    (call (offer (record { 0 = 0 }) 0) ∷ call (land (record { 0 = 0 }) (filled 9)) ∷ call (fetch (record { 0 = 1 }) 0) ∷ call
    (land_fetch (record { 0 = 1 })) ∷ call (offer (record { 0 = 2 }) 0) ∷ [])
    (record { 0 = 0 } ∷ [])
    (record {
      lines =
          line (announced (record { 0 = 0 })) (meta 0) Ready
          ∷ line done (slot 0) Ready
          ∷ line (announced (record { 0 = 1 })) (meta 0) Ready
          ∷ line done (slot 1) Ready
          ∷ line (announced (record { 0 = 1 })) (meta 0) Ready ∷ [];
      state = record_of two (record { 0 = 0 }) 3 Ready false (record { 0 = 1 } ∷ []);
      table = 0 ∷ 3 ∷ 2 ∷ 7 ∷ [];
      ssd = pages (
          label_page (text_of 50 51)
          ∷ meta_page (3 ∷ 0 ∷ 0 ∷ 0 ∷ 1 ∷ 0 ∷ []) (1 ∷ 0 ∷ 0 ∷ 0 ∷ []) (0 ∷ 0 ∷ 0 ∷ 0 ∷ 3 ∷ 0 ∷ 0 ∷ 0 ∷ 2 ∷ 0 ∷ 0 ∷ 0 ∷ 7 ∷ 0 ∷ 0 ∷ 0 ∷ [])
          ∷ filled 9 ∷ filled 65 ∷ []);
      hdd = disk_of two;
      reads = filled 9 ∷ [];
    })

-- document 02, N6: P9 with a list for the look-up, of block 0 twice, of one that is not cached and of one that is open: only slot 0
-- is passed by the sweep
abbrev pub mapped : Script
mapped =
    scripted two (start two)
    (call (fetch (record { 0 = 0 }) 0) ∷ call (land_fetch (record { 0 = 0 })) ∷ call (fetch (record { 0 = 1 }) 0) ∷ call
    (look_up_list (0 ∷ 2 ∷ 1 ∷ 0 ∷ []) 4) ∷ call (land_fetch (record { 0 = 1 })) ∷ call (look_up_list [] 0) ∷ call
    (offer (record { 0 = 2 }) 0) ∷ [])
    (record { 0 = 0 } ∷ [])
    (record {
      lines =
          line (announced (record { 0 = 0 })) (meta 0) Ready
          ∷ line done (slot 0) Ready
          ∷ line (announced (record { 0 = 1 })) (meta 0) Ready
          ∷ line done nothing Ready
          ∷ line done (slot 1) Ready
          ∷ line (refusal 16) nothing Ready
          ∷ line (announced (record { 0 = 1 })) (meta 0) Ready ∷ [];
      state = record_of two (record { 0 = 0 }) 3 Ready false (record { 0 = 1 } ∷ []);
      table = 0 ∷ 1 ∷ 2 ∷ 7 ∷ [];
      ssd = pages (
          label_page (text_of 50 51)
          ∷ meta_page (3 ∷ 0 ∷ 0 ∷ 0 ∷ 1 ∷ 0 ∷ []) (1 ∷ 0 ∷ 0 ∷ 0 ∷ []) (0 ∷ 0 ∷ 0 ∷ 0 ∷ 1 ∷ 0 ∷ 0 ∷ 0 ∷ 2 ∷ 0 ∷ 0 ∷ 0 ∷ 7 ∷ 0 ∷ 0 ∷ 0 ∷ [])
          ∷ filled 64 ∷ filled 65 ∷ []);
      hdd = disk_of two;
      reads = filled 64 ∷ [];
    })

-- document 02, N3: a list is cut off, its store done and then not done; then it is announced, landed and flushed, and a cut keeps it
abbrev pub scanned : Script
scanned =
    scripted two (start two)
    (cut (offer_list (0 ∷ 1 ∷ []) 0) new (rubbish two) ∷ call step ∷ cut (offer_list (0 ∷ 1 ∷ []) 0) old (rubbish two) ∷ call
    (offer_list (0 ∷ 1 ∷ 2 ∷ []) 1) ∷ call (land (record { 0 = 1 }) (filled 8)) ∷ call (land (record { 0 = 0 }) (filled 9)) ∷ call
    flush ∷ call (offer_list (0 ∷ 1 ∷ []) 0) ∷ lost two ∷ [])
    (record { 0 = 0 } ∷ record { 0 = 1 } ∷ record { 0 = 2 } ∷ [])
    (record {
      lines =
          line done nothing Recovering
          ∷ line done (meta 0) Ready
          ∷ line done nothing Ready
          ∷ line (dealt 2) (meta 0) Ready
          ∷ line done (slot 1) Ready
          ∷ line done (slot 0) Ready
          ∷ line done (meta 0) Ready
          ∷ line (dealt 2) nothing Ready
          ∷ line done nothing Ready ∷ [];
      state = record_of two (record { 0 = 0 }) 4 Ready false [];
      table = 0 ∷ 3 ∷ 1 ∷ 3 ∷ [];
      ssd = pages (
          label_page (text_of 50 51)
          ∷ meta_page (4 ∷ 0 ∷ 0 ∷ 0 ∷ 0 ∷ 0 ∷ []) [] (0 ∷ 0 ∷ 0 ∷ 0 ∷ 3 ∷ 0 ∷ 0 ∷ 0 ∷ 1 ∷ 0 ∷ 0 ∷ 0 ∷ 3 ∷ 0 ∷ 0 ∷ 0 ∷ [])
          ∷ filled 9 ∷ filled 8 ∷ []);
      hdd = disk_of two;
      reads = filled 9 ∷ filled 8 ∷ filled 66 ∷ [];
    })

sized_held : Sized two (held (1 ∷ 1 ∷ 0 ∷ 0 ∷ []) 1 false []).images
unfolding known
sized_held = computed_9 first record { ssd-size = refl; hdd-size = refl }

computed_clean-viewed : Computed clean-viewed (held (1 ∷ 1 ∷ 0 ∷ 0 ∷ []) 1 false [])
unfolding known
computed_clean-viewed = computed_9 first refl

computed_both_open : Computed both_open (fresh two (text_of 50 51))
unfolding known text_of
computed_both_open = computed_clean-viewed first refl

computed_panel : Computed panel panelled
unfolding known text_of
computed_panel = computed_both_open first refl

computed_overwritten : Computed overwritten (fresh one (text_of 49 50))
unfolding known text_of
computed_overwritten = computed_panel first refl

computed_unserved : Computed unserved (fresh one (text_of 49 50))
unfolding known text_of
computed_unserved = computed_overwritten first refl

computed_edited : Computed edited (fresh two (text_of 50 51))
unfolding known text_of
computed_edited = computed_unserved first refl

computed_mapped : Computed mapped (fresh two (text_of 50 51))
unfolding known text_of
computed_mapped = computed_edited first refl

computed_scanned : Computed scanned (fresh two (text_of 50 51))
unfolding known text_of
computed_scanned = computed_mapped first refl

computed_cuts : Computed cuts (fresh one (text_of 49 50))
unfolding known text_of
computed_cuts = computed_scanned first refl

-- All further cases hold.
pub scripts : List Case
scripts = script both_open ∷ script panel ∷ script overwritten ∷ script unserved ∷ script edited ∷ script mapped ∷ script scanned ∷ script clean-viewed ∷ script cuts ∷ []

pub all_scripts : AllHold scripts
unfolding scripts
all_scripts =
    shows both_open (fresh two (text_of 50 51)) start_two sized_two computed_both_open
    also shows panel panelled refl sized_usual computed_panel
    also shows overwritten (fresh one (text_of 49 50)) start_one sized_one computed_overwritten
    also shows unserved (fresh one (text_of 49 50)) start_one sized_one computed_unserved
    also shows edited (fresh two (text_of 50 51)) start_two sized_two computed_edited
    also shows mapped (fresh two (text_of 50 51)) start_two sized_two computed_mapped
    also shows scanned (fresh two (text_of 50 51)) start_two sized_two computed_scanned
    also shows clean-viewed (held (1 ∷ 1 ∷ 0 ∷ 0 ∷ []) 1 false []) refl sized_held computed_clean-viewed
    also shows cuts (fresh one (text_of 49 50)) start_one sized_one computed_cuts
    also tt
