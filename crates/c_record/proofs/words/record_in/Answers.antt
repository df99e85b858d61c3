use mathlib.Core.Path.{refl, sym, ◌∙◌}
use lib.ListN.{length}
use lib.Dec.{eqb}
use borrow.Author.Tests.{eqb-true}
use Rattle.layout.proofs.Booleans.{and_parts}
use Rattle.c_record.specs.Words.{is_record}
use Rattle.c_record.proofs.words.record_in.Goals as goal

pub unpack-requires : goal.unpack-requires
unfolding is_record
unpack-requires c = eqb-true _ _ (and_parts (eqb (length c.args.words.now) 134) _ (sym c.is_record.ensures ∙ c.if-is_record.true)).0

pub returns-then-is_record : goal.returns-then-is_record
returns-then-is_record c = rw (sym c.is_record.ensures ∙ c.if-is_record.true, c.unpack.ensures) refl

pub returns-else-is_record : goal.returns-else-is_record
returns-else-is_record c = rw (sym c.is_record.ensures ∙ c.if-is_record.false) refl
