-- What words that hold a record are, and words that hold none.
use Prim.Native.Nat.{ℕ}
use mathlib.Core.Path.{◌≡◌, sym}
use mathlib.Core.Bool.{true, false}
use mathlib.Core.List.{List}
use Rattle.std.specs.Prelude.{Some, None}
use Rattle.std.proofs.lemmas.Option.{none-some, same_Some}
use lib.ListN.{length}
use lib.Dec.{eqb}
use borrow.Author.Tests.{eqb-true}
use Rattle.layout.proofs.Booleans.{Told, told, told_true, told_false, and_parts}
use Rattle.record.specs.declared.Record.{Record}
use Rattle.c_record.specs.Words.{is_record, unpacked, record_in}

-- words that are a record are 134
pub record_length : (words : List ℕ) → is_record words ≡ true → length words ≡ 134
unfolding is_record
record_length words h = eqb-true _ _ (and_parts (eqb (length words) 134) _ h).0

module _ (words : List ℕ) where
  pub held : (r : Record) → Some r ≡ record_in words → (is_record words ≡ true) × (r ≡ unpacked words)
  held r e = go (told (is_record words))
    where
      go : Told (is_record words) → (is_record words ≡ true) × (r ≡ unpacked words)
      go (told_true h) = (h, same_Some r (unpacked words) (rw h at e))
      go (told_false h) = absurd (none-some r (sym (rw h at e)))

  pub held_none : None ≡ record_in words → is_record words ≡ false
  held_none e = go (told (is_record words))
    where
      go : Told (is_record words) → is_record words ≡ false
      go (told_true h) = absurd (none-some (unpacked words) (rw h at e))
      go (told_false h) = h
