use Rattle.layout.proofs.Decimal.{decimal-size}
use Rattle.fields.specs.Fields.{field}
use Rattle.fields.proofs.WrittenLaws.{written-text, written-number, written_more}
use native.Mathlib.Omega.{arith}
use Rattle.fields.proofs.put_field.Goals as goal

pub put_number-requires : goal.put_number-requires
put_number-requires c = omega (arith, decimal-size c.args.n)

pub returns : goal.returns
unfolding field
returns c =
    let a = c.args in
    written_more (written-text _ _ a.at a.key.now c.put_text.ensures)
    (written-number _ _ _ _ a.n a.last c.put_number.ensures.0 c.put_number.ensures.1) (omega arith)
