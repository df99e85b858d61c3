use mathlib.Core.Path.{◌≡◌}
use lib.ListN.{drop}
use Rattle.protocol.specs.Judge.{names_once}
use Rattle.scan_rule.proofs.names_once.Given as goal

abbrev pub invariant-loop-j : goal.invariant-loop-j
invariant-loop-j l = names_once (drop l.j l.blocks) ≡ names_once l.blocks
