-- The slot that a block's condition names.
use Prim.Native.Nat.{ℕ, ◌+◌, ◌*◌, ◌%◌, ◌<◌}
use mathlib.Core.Path.{◌≡◌, subst}
use mathlib.Core.Bool.{Bool, true, false}
use mathlib.Core.List.{List}
use native.Mathlib.Omega.{arith}
use lib.ListN.{length, get_or}
use lib.Dec.{ltb}
use borrow.Author.Tests.{ltb-true}
use Rattle.layout.proofs.Booleans.{and_parts}
use Rattle.layout.specs.declared.Slot.{Slot}
use Rattle.layout.specs.declared.Block.{Block}
use Rattle.layout.specs.Places.{table_length}
use Rattle.layout.specs.PageRule.{pair_test}
use Rattle.record.specs.declared.Record.{Record}
use Rattle.protocol.specs.declared.Condition.{Condition}
use Rattle.protocol.specs.declared.Condition.TheVariants.{NotCached, Clean, Dirty, Writing, Fetching}
use Rattle.protocol.specs.Rows.{row_flags, dirty, writing}
use Rattle.record.specs.Record.{label_in}
use Rattle.protocol.specs.Condition.{condition_of}
use Rattle.protocol.specs.Judge.{row_test}
use Rattle.laws.proofs.refine.Conditions.{Held, Stands, absent, is_clean, is_dirty, is_writing_is, is_fetching, stands}
use Rattle.laws.proofs.refine.Tables.{each_get}
use Rattle.table.specs.Scan.{legal_rows}

-- slot s holds the block, and its row is open (or not) and dirty (or not)
pub record At (r : Record) (t : List ℕ) (b : Block) (s : Slot) (opened unclean : Bool) : Type 0 where
  pub low : s.0 < r.label.slots
  pub within : 2 * s.0 + 1 < length t
  pub block_is : get_or t (2 * s.0) 0 ≡ b.0
  pub writing_is : writing (row_flags t s) ≡ opened
  pub dirty_is : dirty (row_flags t s) ≡ unclean

abbrev pub Where : Record → List ℕ → Block → Condition → Type 0
Where r t b NotCached = Unit {0}
Where r t b (Clean s) = At r t b s false false
Where r t b (Dirty s) = At r t b s false true
Where r t b (Writing s) = At r t b s true true
Where r t b (Fetching s) = At r t b s true false

module _ (r : Record) (t : List ℕ) (b : Block) (size : length t ≡ table_length (label_in r)) where
  at : (s : ℕ) (w d : Bool) → Held (label_in r) t b.0 s → writing (get_or t (2 * s + 1) 0) ≡ w → dirty (get_or t (2 * s + 1) 0) ≡ d
      → At r t b (record { 0 = s }) w d
  at s w d H e f = record { low = H.low; within = omega (arith, H.low, size); block_is = H.block; writing_is = e; dirty_is = f }

  place : {k : Condition} → Stands (label_in r) t b.0 k → Where r t b k
  place (absent h) = tt
  place (is_clean s H w d) = at s false false H w d
  place (is_dirty s H w d) = at s false true H w d
  place (is_writing_is s H w d) = at s true true H w d
  place (is_fetching s H w d) = at s true false H w d

  pub where_is : (k : Condition) → condition_of t b ≡ k → Where r t b k
  where_is k e = subst (λ (z : Condition). Where r t b z) e (place (stands (label_in r) t size b))

-- a legal row's flags are below 16
pub flags_low : (r : Record) (t : List ℕ) → length t ≡ table_length (label_in r) → legal_rows (label_in r) t ≡ true → (s : Slot)
    → s.0 < r.label.slots → row_flags t s < 16
unfolding row_test
flags_low r t size h s k =
    let q : 2 * s.0 + 1 < length t = omega (arith, size) in
    let e = each_get (λ s block flags. row_test (label_in r) block flags) 0 t h s.0 q in
    ltb-true _ _ (and_parts (ltb (row_flags t s) 16) _ (and_parts (pair_test (label_in r) (get_or t (2 * s.0) 0) (row_flags t s % 8)) _ e).1).0
