use mathlib.Core.Path.{refl}
use Rattle.slot_map.proofs.TextLaws.{number_is}
use Rattle.slot_map.proofs.text.put_number.Goals as goal

pub returns : goal.returns
returns c =
    number_is c.args.part.now c.args.n _ _ _ _ _ c.requires.part_len c.requires.n_bound
    c.column.ensures c.column-2.ensures c.column-3.ensures c.column-4.ensures refl
