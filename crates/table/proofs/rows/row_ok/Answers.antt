use Prim.Native.Nat.{ℕ}
use mathlib.Core.Path.{sym, ap, ◌∙◌}
use Rattle.protocol.specs.Judge.{row_test}
use Rattle.table.proofs.RowLaws.{row-free, row_used}
use Rattle.table.proofs.rows.row_ok.Goals as goal

pub returns-then-flags-eq0 : goal.returns-then-flags-eq0
returns-then-flags-eq0 c =
    let a = c.args in
    sym (ap (λ (f : ℕ). row_test a.l a.block f) c.if-flags-eq0.true ∙ row-free a.l a.block)

pub returns-else-flags-eq0 : goal.returns-else-flags-eq0
returns-else-flags-eq0 c = let a = c.args in row_used a.l a.block a.flags c.if-flags-eq0.false
