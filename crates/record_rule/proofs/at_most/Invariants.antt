use Rattle.std.proofs.Common.{◌≡◌, take}
use lib.Dec.{leb}
use Rattle.record.specs.Window.{each_place}
use Rattle.record_rule.proofs.at_most.Given as goal

abbrev pub invariant-loop-c : goal.invariant-loop-c
invariant-loop-c l = l.ok ≡ each_place (λ c. leb c l.most) (take l.c-index l.callers)
