use borrow.Author.Tests.{eq-eqb, ne_eqb}
use Rattle.fields.proofs.WrittenLaws.{written_none}
use Rattle.list_image.proofs.lines.put_line.Goals as goal

pub returns-then-entry-ne1 : goal.returns-then-entry-ne1
returns-then-entry-ne1 c = rw (ne_eqb _ _ c.if-entry-ne1.true) (written_none _ _ _)

pub returns : goal.returns
returns c = rw (eq-eqb _ _ c.if-entry-ne1.false) (rw c.is_dropped-fate.ensures at c.put_entry.ensures)
