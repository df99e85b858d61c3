use Prim.Native.Nat.{ℕ, max, ◌+◌}
use mathlib.Core.Path.{ap, ◌∙◌}
use lib.ListN.{drop}
use Rattle.protocol.specs.Kinds.{highest}
use Rattle.locating.proofs.ListLaws.{high_more, high_end}
use native.Mathlib.Omega.{arith}
use Rattle.locating.proofs.list.highest.Goals as goal

pub loop-b-preserved : goal.loop-b-preserved
loop-b-preserved c =
    let l = c.loop-b in
    let a = c.args in
    ap (λ (m : ℕ). max m (highest (drop (l.b-index + 1) a.blocks.now))) c.max-most.ensures
    ∙ high_more a.blocks.now l.most l.b-index (omega arith) ∙ l.invariant

pub returns : goal.returns
returns c =
    let l = c.loop-b in
    high_end c.args.blocks.now l.most l.b-index (omega arith) ∙ l.invariant
