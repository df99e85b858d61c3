-- A view for C: by the number that judging finds; and the page at the place that it names is the part that a view hands back.
use Prim.Native.Nat.{ℕ, ◌+◌}
use mathlib.Core.Path.{◌≡◌, refl, sym, ap, ◌∙◌}
use mathlib.Core.Logic.{◌≢◌}
use mathlib.Core.Bool.{true, false, cond}
use mathlib.Core.List.{List, []}
use Rattle.std.specs.Prelude.{Option, Some, None, Ok, Err}
use native.Mathlib.Omega.{arith}
use lib.ListN.{length, take, drop}
use lib.Dec.{eqb}
use Rattle.pages.specs.Pages.{page_at}
use Rattle.pages.specs.Parts.{Part, page_part}
use Rattle.layout.specs.declared.Block.{Block}
use Rattle.layout.specs.declared.Label.{Label}
use Rattle.record.specs.declared.Record.{Record}
use Rattle.protocol.specs.declared.Condition.{Condition}
use Rattle.protocol.specs.declared.Condition.TheVariants.{NotCached, Clean, Dirty, Writing, Fetching}
use Rattle.record.specs.Record.{label_in}
use Rattle.protocol.specs.Condition.{condition_of}
use Rattle.protocol.specs.Plan.{view}
use Rattle.protocol.specs.declared.Refusal.{Refusal}
use Rattle.protocol.specs.Judge.{number_of, first_of, judged}
use Rattle.protocol.specs.Calls.{box_of, View, view_part, viewed, view_of}
use Rattle.judging.specs.declared.Judged.{Judged}
use Rattle.judging.specs.Judging.{serves_then, judged_by}
use Rattle.judging.proofs.JudgingLaws.{looked, is_refused}
use Rattle.judging.proofs.ServeLaws.{view_judges, first_judged, judged_on}
use Rattle.c_answers.specs.declared.Place.{Place}
use Rattle.c_record.specs.Words.{unpacked, is_record}
use Rattle.c_answers.specs.Seen.{place_for}
use Rattle.ferjulm.specs.View.{ViewLeft, placed, view_place_of, c_view}
use Rattle.ferjulm.proofs.CodesApart.{number_refuses}

module _ (ssd hdd table : List ℕ) (state : Record) (b : Block) (before : Place) where
  abbrev there : Place
  there = place_for (label_in state) b (condition_of table b)

  -- judging refused
  pub view_stops : (r : Refusal) → Err r ≡ judged_by (serves_then (length ssd) (length hdd) 4096 table state b 0 None) table b
      → record { code = number_of r; place = before } ≡ view_place_of ssd hdd table state b before
  unfolding view_place_of
  view_stops r e = ap (λ (o : Option Refusal). placed o there before)
      (sym (first_judged (view b) (box_of ssd hdd table state) _ [] (view_judges ssd hdd table state b) r (is_refused _ _ r e)))

  -- it did not
  pub view_passes : (j : Judged) (p : Place) → Ok j ≡ judged_by (serves_then (length ssd) (length hdd) 4096 table state b 0 None) table b
      → p ≡ place_for (label_in state) b j.condition → record { code = 0; place = p } ≡ view_place_of ssd hdd table state b before
  unfolding view_place_of first_of
  view_passes j p e g =
      let k = looked _ table b e in
      let o = judged_on (view b) (box_of ssd hdd table state) _ [] (view_judges ssd hdd table state b) k.none in
      ap (λ (t : Place). record { code = 0; place = t })
      (g ∙ ap (place_for (label_in state) b) k.condition_is)
      ∙ ap (λ (q : Option Refusal). placed q there before) (sym o)

-- by words that are no record, and by words that are one
module _ (ssd hdd table words : List ℕ) (b : Block) (before : Place) where
  pub no_view : is_record words ≡ false → record { code = 3; place = before } ≡ c_view ssd hdd table words b before
  unfolding c_view
  no_view h = rw h

  pub on_view : (r : Record) (v : ViewLeft) → is_record words ≡ true → r ≡ unpacked words → v ≡ view_place_of ssd hdd table r b before
      → v ≡ c_view ssd hdd table words b before
  unfolding c_view
  on_view r v h e p = rw h (p ∙ ap (λ (q : Record). view_place_of ssd hdd table q b before) e)

-- the 4,096 bytes of an image from a byte on, as a part of it
abbrev pub part_from : Part → ℕ → Part
part_from image offset =
    record { bytes = take 4096 (drop offset image.bytes); place = (image.place.0, image.place.1 + offset) }

-- the page at a place: in image 1 of the SSD, else of the HDD
abbrev pub part_at : Part → Part → Place → Part
part_at ssd hdd p = cond (eqb p.image 1) (part_from ssd p.offset) (part_from hdd p.offset)

part_for : (ssd hdd : Part) (l : Label) (b : Block) (k : Condition) → part_at ssd hdd (place_for l b k) ≡ view_part ssd hdd l b k
unfolding page_part page_at
part_for ssd hdd l b NotCached = refl
part_for ssd hdd l b (Clean s) = refl
part_for ssd hdd l b (Dirty s) = refl
part_for ssd hdd l b (Writing s) = refl
part_for ssd hdd l b (Fetching s) = refl

-- A view for C and a view of the box: the same number, and where there is none, the page at the place is the part, in bytes
-- and place.
pub record SameView (v : View) (w : ViewLeft) (ssd hdd : Part) : Type 0 where
  pub number : v.number ≡ w.code
  pub handed : w.code ≡ 0 → v.handed ≡ part_at ssd hdd w.place

pub same_view : (ssd hdd : Part) (table : List ℕ) (state : Record) (b : Block) (before : Place)
    → SameView (view_of ssd hdd table state b) (view_place_of ssd.bytes hdd.bytes table state b before) ssd hdd
unfolding view_of view_place_of
same_view ssd hdd table state b before = by_reason (judged (view b) (box_of ssd.bytes hdd.bytes table state))
  where
    by_reason : (o : Option Refusal)
        → SameView (viewed o ssd hdd (label_in state) b (condition_of table b)) (placed o (place_for (label_in state) b (condition_of table b)) before)
        ssd hdd
    by_reason (Some r) = record { number = refl; handed = λ h. let n = number_refuses r in absurd (omega arith) }
    by_reason None = record { number = refl; handed = λ h. sym (part_for ssd hdd (label_in state) b (condition_of table b)) }
