-- Cases of two metadata pages, of 241 slots: a flush, a reopening, mending, and cuts in between.
use Prim.Native.Nat.{ℕ, suc}
use mathlib.Core.Path.{refl, ◌∙◌}
use mathlib.Core.Bool.{true, false}
use mathlib.Core.List.{List, [], ◌∷◌}
use Rattle.std.specs.Prelude.{Some, None}
use lib.ListN.{replicate}
use Rattle.record.specs.declared.Phase.TheVariants.{Recovering, Ready}
use Rattle.protocol.specs.Reply.{done}
use Rattle.record.specs.Record.{record_of}
use Rattle.protocol.specs.Box.{Effect, ssd_image}
use Rattle.protocol.specs.Plan.{step, flush}
use Rattle.protocol.specs.Recovery.{Recovered}
use Rattle.protocol.proofs.cases.Report.{meta_page}
use Rattle.protocol.proofs.cases.Known.{known}
use Rattle.protocol.proofs.cases.QuickRows.{walked, both_walked, quick_test, quick_recover, quick_recover_lem}
use Rattle.layout.specs.declared.Slot.{Slot}
use Rattle.record.specs.declared.Phase.{Phase}
use Rattle.protocol.proofs.cases.Report.{meta_page}
use Rattle.protocol.proofs.cases.Known.{known}
use Rattle.protocol.proofs.cases.QuickRows.{walked, both_walked, quick_test, quick_recover, quick_recover_lem}
use Rattle.protocol.proofs.cases.Case.{Case, Holds, ◌first◌, many, imageless, recovery, move}
use Rattle.protocol.proofs.cases.Costs.{Costed}

-- table and record, as reopened: after so many stores, with these slots pending
unfoldable pub kept_rows : List ℕ
kept_rows = 0 ∷ 0 ∷ 3 ∷ 3 ∷ replicate 478 0

abbrev pub pending : ℕ → Phase → List Slot → Recovered
pending newest phase window = record { table = kept_rows; state = record_of many (record { 0 = 0 }) newest phase false window }

abbrev pub storing : ℕ → List ℕ → Recovered → Effect
storing p page r = record {
  said = done;
  state = r.state;
  table = r.table;
  store = Some (record { image = ssd_image; place = suc p; bytes = page });
}

-- "store metadata page 0": of two metadata pages
abbrev pub flushed : Case
flushed =
    move flush (imageless (record { table = kept_rows; state = record_of many (record { 0 = 0 }) 2 Ready true [] }))
    (storing 0 (meta_page (3 ∷ 0 ∷ 0 ∷ 0 ∷ 0 ∷ 0 ∷ []) [] (0 ∷ 0 ∷ 0 ∷ 0 ∷ 0 ∷ 0 ∷ 0 ∷ 0 ∷ 3 ∷ 0 ∷ 0 ∷ 0 ∷ 3 ∷ 0 ∷ 0 ∷ 0 ∷ []))
    (pending 3 Ready []))

-- Mending over two metadata pages, of 241 slots. Page 0 has stamp 1, slot 0 in its window, entry 0 block 5 flags 7 and entry 1
-- block 3 flags 3; page 1 has stamp 2, slots 0 and 240 in its window, entry 240 block 6 flags 7. So slots 0 and 240 are pending.
abbrev pub older : List ℕ
older =
    meta_page (1 ∷ 0 ∷ 0 ∷ 0 ∷ 1 ∷ 0 ∷ []) (0 ∷ 0 ∷ 0 ∷ 0 ∷ []) (5 ∷ 0 ∷ 0 ∷ 0 ∷ 7 ∷ 0 ∷ 0 ∷ 0 ∷ 3 ∷ 0 ∷ 0 ∷ 0 ∷ 3 ∷ 0 ∷ 0 ∷ 0 ∷ [])

abbrev pub newer : List ℕ
newer = meta_page (2 ∷ 0 ∷ 0 ∷ 0 ∷ 2 ∷ 0 ∷ []) (0 ∷ 0 ∷ 0 ∷ 0 ∷ 240 ∷ 0 ∷ 0 ∷ 0 ∷ []) (6 ∷ 0 ∷ 0 ∷ 0 ∷ 7 ∷ 0 ∷ 0 ∷ 0 ∷ [])

-- what the first step stores, page 0 with slot 240 in its window, and the second, page 1 with an empty window
abbrev pub mended₀ : List ℕ
mended₀ = meta_page (3 ∷ 0 ∷ 0 ∷ 0 ∷ 1 ∷ 0 ∷ []) (240 ∷ 0 ∷ 0 ∷ 0 ∷ []) (0 ∷ 0 ∷ 0 ∷ 0 ∷ 0 ∷ 0 ∷ 0 ∷ 0 ∷ 3 ∷ 0 ∷ 0 ∷ 0 ∷ 3 ∷ 0 ∷ 0 ∷ 0 ∷ [])

abbrev pub mended₁ : List ℕ
mended₁ = meta_page (4 ∷ 0 ∷ 0 ∷ 0 ∷ 0 ∷ 0 ∷ []) [] []

-- the reopening
abbrev pub opened : Case
opened = recovery many (older ∷ newer ∷ []) (Some (pending 2 Recovering (record { 0 = 0 } ∷ record { 0 = 240 } ∷ [])))

-- its first step
abbrev pub first_step : Case
first_step =
    move step (imageless (pending 2 Recovering (record { 0 = 0 } ∷ record { 0 = 240 } ∷ [])))
    (storing 0 mended₀ (pending 3 Recovering (record { 0 = 240 } ∷ [])))

-- a cut after that store: 6 is dropped again
abbrev pub cut_between : Case
cut_between = recovery many (mended₀ ∷ newer ∷ []) (Some (pending 3 Recovering (record { 0 = 240 } ∷ [])))

-- the second step, then ready
abbrev pub second_step : Case
second_step = move step (imageless (pending 3 Recovering (record { 0 = 240 } ∷ []))) (storing 1 mended₁ (pending 4 Ready []))

-- a cut after that store: nothing is pending
abbrev pub cut-after : Case
cut-after = recovery many (mended₀ ∷ mended₁ ∷ []) (Some (pending 4 Ready []))

-- two pages with one stamp, which is not 0
abbrev pub same-stamps : Case
same-stamps = recovery many (meta_page (1 ∷ []) [] [] ∷ meta_page (1 ∷ []) [] [] ∷ []) None

Flushed : Holds flushed
unfolding known kept_rows
Flushed = Costed first refl

First_step : Holds first_step
unfolding known kept_rows
First_step = Flushed first refl

Second_step : Holds second_step
unfolding known kept_rows
Second_step = First_step first refl

Opened : Holds opened
unfolding known walked both_walked quick_test quick_recover kept_rows
Opened = Second_step first quick_recover_lem 8 older newer ∙ refl

Cut_between : Holds cut_between
unfolding known walked both_walked quick_test quick_recover kept_rows
Cut_between = Opened first quick_recover_lem 8 mended₀ newer ∙ refl

Cut_after : Holds cut-after
unfolding known walked both_walked quick_test quick_recover kept_rows
Cut_after = Cut_between first quick_recover_lem 8 mended₀ mended₁ ∙ refl

pub Same-stamps : Holds same-stamps
unfolding known walked both_walked quick_test quick_recover
Same-stamps = Cut_after first quick_recover_lem 8 (meta_page (1 ∷ []) [] []) (meta_page (1 ∷ []) [] []) ∙ refl
