-- The turn of a place: refused by 7, or by its block's condition.
use Prim.Native.Nat.{ℕ, ◌≤◌, ◌<◌}
use mathlib.Core.Path.{◌≡◌}
use mathlib.Core.List.{List}
use borrow.Author.Tests.{le-leb, lt-leb}
use Rattle.layout.specs.declared.Slot.{Slot}
use Rattle.layout.specs.declared.Block.{Block}
use Rattle.layout.specs.declared.Label.{Label}
use Rattle.protocol.specs.declared.Condition.{Condition}
use Rattle.protocol.specs.Condition.{condition_of}
use Rattle.laws.proofs.refine.Conditions.{Stands, absent, is_clean, is_dirty, is_writing_is, is_fetching}
use Rattle.std.specs.Prelude.{Option, Err}
use Rattle.protocol.specs.declared.Refusal.{Refusal}
use Rattle.protocol.specs.declared.Refusal.TheVariants.{BlockTooHigh}
use Rattle.turns.specs.Turns.{Within, offer_turn_at}
use Rattle.list_turns.specs.PlaceTurns.{place_turn_at}

-- the slot that a block's condition names
pub stands_within : {l : Label} {t : List ℕ} {b : ℕ} {k : Condition} → Stands l t b k → Within l.slots k
stands_within (absent h) = tt
stands_within (is_clean s H w d) = H.low
stands_within (is_dirty s H w d) = H.low
stands_within (is_writing_is s H w d) = H.low
stands_within (is_fetching s H w d) = H.low

-- the turn of a place: refused by 7, or by its condition
module _ (l : Label) (t : List ℕ) (hand : Slot) (n : Option Refusal) (b : Block) where
  pub turn_high : l.blocks ≤ b.0 → Err BlockTooHigh ≡ place_turn_at l t hand n b
  turn_high h = rw (le-leb l.blocks b.0 h, place_turn_at)

  pub turn_low : b.0 < l.blocks → offer_turn_at l t hand n (condition_of t b) ≡ place_turn_at l t hand n b
  turn_low h = rw (lt-leb l.blocks b.0 h, place_turn_at)
