-- What a turn is decided on, and the number that refuses another slot.
use Prim.Native.Nat.{ℕ, zero, suc, ◌<◌}
use mathlib.Core.Path.{◌≡◌, refl, ◌∙◌}
use mathlib.Core.Logic.{◌≢◌}
use mathlib.Core.Bool.{Bool, true, false, ◌&&◌}
use mathlib.Core.List.{List}
use native.Mathlib.Omega.{arith}
use lib.ListN.{length}
use Rattle.std.specs.Prelude.{Option, Some, None}
use Rattle.protocol.specs.declared.Refusal.{Refusal}
use Rattle.protocol.specs.declared.Refusal.TheVariants.{WindowFull, ImportFull}
use lib.Dec.{eqb, leb}
use borrow.Author.Tests.{ltb-true}
use Rattle.layout.specs.declared.Block.{Block}
use Rattle.layout.specs.declared.Label.{Label}
use Rattle.layout.specs.Places.{Limits, table_length}
use Rattle.layout.proofs.Booleans.{clash}
use Rattle.layout.proofs.PlaceLaws.{within}
use Rattle.record.specs.declared.Record.{Record}
use Rattle.record.specs.Callers.{open_by}
use Rattle.record.specs.Record.{label_in, callers_in}
use Rattle.record.specs.Rule.{record_test}
use Rattle.record.proofs.RecordLaws.{parts}
use Rattle.protocol.specs.declared.Condition.{Condition}
use Rattle.protocol.specs.declared.Condition.TheVariants.{NotCached, Clean, Dirty, Writing, Fetching}
use Rattle.protocol.specs.Rows.{open_rows}
use Rattle.protocol.specs.Plan.{import_open}
use Rattle.protocol.specs.Judge.{row_test}
use Rattle.laws.proofs.refine.Flags.{legal-row}
use Rattle.laws.proofs.refine.Tables.{Rows, each_get}
use Rattle.table.specs.Scan.{legal_rows}
use Rattle.judging.specs.declared.Judged.{Judged}
use Rattle.turns.specs.Turns.{Sweepable, Seen, Within, held_by, crowd_by, crowd_of}
use Rattle.laws.proofs.Judged.{refuses}
use Rattle.judging.proofs.SlotLaws.{Where}
use Rattle.judging.proofs.ServedLaws.{Served}

-- of a record that keeps its rule
pub record_limits : (r : Record) → record_test r ≡ true → Limits (label_in r)
record_limits r e = (within (label_in r)).0 (parts r e).in_limits

pub hand-low : (r : Record) → record_test r ≡ true → r.hand.0 < r.label.slots
hand-low r e = ltb-true _ _ (parts r e).hand

-- of a table whose rows are legal
pub rows_of : (l : Label) (t : List ℕ) → length t ≡ table_length l → legal_rows l t ≡ true → Rows l t
rows_of l t size h = λ s k. legal-row l _ _ (each_get (λ s block flags. row_test l block flags) 0 t h s (omega (arith, size)))

-- the slot that a condition names
pub where_within : (r : Record) (t : List ℕ) (b : Block) (k : Condition) → Where r t b k → Within r.label.slots k
where_within r t b NotCached w = tt
where_within r t b (Clean s) w = w.low
where_within r t b (Dirty s) w = w.low
where_within r t b (Writing s) w = w.low
where_within r t b (Fetching s) w = w.low

-- what judging found is what a turn is decided on
pub seen : (ssd hdd : List ℕ) (page : ℕ) (t : List ℕ) (r : Record) (b : Block) (caller : ℕ) (j : Judged) → Served ssd hdd page t r b caller j
    → Seen t r j.writing
seen ssd hdd page t r b caller j S = let B = S.box.box in
    record { size = B.sound.table-size; record_kept = B.record_kept; rows = B.rows; counted = S.writing_is }

-- 17, 11, or neither
module _ (t : List ℕ) (r : Record) (caller : ℕ) where
  held_full : leb 8 (held_by caller r) ≡ import_open caller r
  held_full = go (eqb caller 1)
    where
      go : (b : Bool) → leb 8 (elim b [ true ↦ open_by 1 (callers_in r) | false ↦ 0 ]) ≡ (b && leb 8 (open_by 1 (callers_in r)))
      go true = refl
      go false = refl

  pub crowd_import : import_open caller r ≡ true → Some ImportFull ≡ crowd_of t r caller
  crowd_import a = rw (held_full, a, crowd_by)

  pub crowd_full : import_open caller r ≡ false → leb 63 (open_rows t) ≡ true → Some WindowFull ≡ crowd_of t r caller
  crowd_full a f = rw (held_full, a, f, crowd_by)

  pub crowd_none : import_open caller r ≡ false → leb 63 (open_rows t) ≡ false → None ≡ crowd_of t r caller
  crowd_none a f = rw (held_full, a, f, crowd_by)

  -- of what is counted
  pub crowd_seen : {w m : ℕ} {n : Option Refusal} → Seen t r w → n ≡ crowd_by w m → m ≡ held_by caller r → n ≡ crowd_of t r caller
  crowd_seen S e h = e ∙ (λ i. crowd_by (S.counted i) (h i))

-- what a turn is decided on, of a record
pub seen_sweeps : {t : List ℕ} {r : Record} {w : ℕ} → Seen t r w → Sweepable (label_in r) t r.hand
seen_sweeps {r = r} S = record { size = S.size; rows = S.rows; low = hand-low r S.record_kept }
