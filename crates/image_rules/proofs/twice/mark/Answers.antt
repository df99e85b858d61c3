use Prim.Native.Nat.{◌%◌}
use Rattle.image_rules.proofs.BitLaws.{one_shifted}
use Rattle.image_rules.specs.Twice.{marked}
use native.Mathlib.Omega.{arith}
use Rattle.image_rules.proofs.twice.mark.Goals as goal

pub returns : goal.returns
unfolding marked
returns c = rw (one_shifted (c.args.b % 32) (omega arith))
