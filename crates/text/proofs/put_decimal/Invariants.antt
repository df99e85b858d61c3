use Rattle.std.specs.Prelude.{◌≡◌, ◌<◌, ◌++◌, length, drop}
use Rattle.layout.specs.LabelPage.{decimal}
use Rattle.text.proofs.put_decimal.Given as goal

abbrev pub invariant-loop-i : goal.invariant-loop-i
invariant-loop-i l = (l.rest < 10000000000) × (0 < l.i → (length (decimal l.rest) ≡ l.i) × (decimal l.rest ++ drop l.i l.part ≡ decimal l.n))
    × (l.i ≡ 0 → l.part ≡ decimal l.n)
