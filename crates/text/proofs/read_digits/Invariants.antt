use Rattle.std.proofs.Common.{◌≡◌, ◌-◌, ◌^◌, ◌≤◌, ◌<◌}
use lib.ListN.{drop}
use Rattle.layout.specs.LabelPage.{number_from}
use Rattle.text.proofs.read_digits.Given as goal

abbrev pub invariant-loop-i : goal.invariant-loop-i
invariant-loop-i l = (l.left ≤ 9) × (l.n < 10 ^ (10 - l.left)) × (number_from l.left l.n (drop l.i l.bytes) ≡ number_from l.most l.first l.bytes)
