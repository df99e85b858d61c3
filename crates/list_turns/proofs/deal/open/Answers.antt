use mathlib.Core.Path.{ap, ◌∙◌}
use mathlib.Core.List.{List}
use Prim.Native.Nat.{ℕ}
use Rattle.protocol.specs.Rows.{set_row}
use Rattle.list_turns.proofs.deal.open.Goals as goal

pub returns : goal.returns
returns c =
    let a = c.args in
    c.set_row.ensures ∙ ap (λ (t : List ℕ). set_row t a.s a.b a.flags) c.clear_used.ensures
