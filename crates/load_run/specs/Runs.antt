-- The run of a load: its draws one after another, from P1's box (document 02, N10).
use Rattle.std.specs.Prelude.{ℕ, zero, suc, Bool, true, false, List, [], ◌∷◌, replicate, eqb}
use Rattle.pages.specs.Pages.{page_at}
use Rattle.layout.specs.Places.{label_of}
use Rattle.record.specs.declared.Record.{Record}
use Rattle.record.specs.declared.Phase.TheVariants.{Formatting}
use Rattle.record.specs.Record.{record_of}
use Rattle.protocol.specs.Box.{Box}
use Rattle.protocol.specs.Calls.{box_of}
use Rattle.protocol.specs.Events.{read_of, formatted}
use Rattle.draws.specs.Draws.{drawn}
use Rattle.load_text.specs.LoadText.{counted}
use Rattle.load_turns.specs.Turns.{Turned, turned}

-- zero images and table of 4 slots and 8 blocks, and the record with which their format begins
abbrev pub blank_record : Record
blank_record = record_of (label_of 4 8) (record { 0 = 0 }) 0 (Formatting 0) false []

unfoldable pub blank : Box
blank = box_of (replicate 24576 0) (replicate 32768 0) (replicate 8 0) blank_record

-- the box, the plain disk's pages in order, and how many draws were refused
pub record Load : Type 0 where
  pub box : Box
  pub plain : List ℕ
  pub refusals : ℕ

-- "the box is P1's, its HDD zero"
abbrev pub begun : Load
begun = record { box = formatted 4 8 blank; plain = replicate 32768 0; refusals = 0 }

abbrev pub drawn_on : Turned → ℕ → Load
drawn_on t n = record { box = t.box; plain = t.plain; refusals = counted t.refused n }

-- so many draws from a state
unfoldable pub run_from : ℕ → ℕ → Load → Load
run_from zero s l = l
run_from (suc n) s l = run_from n (drawn s) (drawn_on (turned (drawn s) l.box l.plain) l.refusals)

-- what a run in code leaves
abbrev pub ran_left : Record → ℕ → List ℕ → List ℕ → List ℕ → List ℕ → Load
ran_left state refusals ssd hdd table plain = record { box = box_of ssd hdd table state; plain = plain; refusals = refusals }

-- the same bytes
unfoldable pub same : List ℕ → List ℕ → Bool
same [] [] = true
same [] (b ∷ t) = false
same (a ∷ s) [] = false
same (a ∷ s) (b ∷ t) = elim (eqb a b) [ true ↦ same s t | false ↦ false ]

-- "equal being how many blocks read as on a plain disk": of the first n
unfoldable pub equal_to : ℕ → Box → List ℕ → ℕ
equal_to zero x plain = 0
equal_to (suc n) x plain = counted (same (read_of x (record { 0 = n })) (page_at plain n)) (equal_to n x plain)
