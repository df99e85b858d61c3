use Rattle.std.proofs.Common.{◌≡◌, take}
use lib.Dec.{eqb}
use Rattle.std.specs.List.{list_all}
use Rattle.layout.proofs.zeros.all_zero.Given as goal

abbrev pub invariant-loop-b : goal.invariant-loop-b
invariant-loop-b l = l.zero ≡ list_all (λ b. eqb b 0) (take l.b-index l.part)
