use Rattle.layout.proofs.MetaLaws.{count-bytes}
use native.Mathlib.Omega.{arith}
use Rattle.metadata.proofs.page.count_of.Goals as goal

pub returns : goal.returns
returns c =
    omega (arith, count-bytes c.args.page.now c.requires)
