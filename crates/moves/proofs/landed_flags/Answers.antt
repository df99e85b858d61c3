use mathlib.Core.Path.{ap, ◌∙◌}
use native.Mathlib.Omega.{arith}
use Rattle.protocol.specs.Rows.{with_used}
use Rattle.moves.proofs.landed_flags.Goals as goal

pub with_used-requires : goal.with_used-requires
with_used-requires c = omega (arith, c.without_writing-closed.ensures.1, c.requires)

pub returns-then-write : goal.returns-then-write
returns-then-write c =
    let closed = c.without_writing-closed.ensures.0 in
    c.with_used.ensures ∙ ap with_used closed ∙ rw c.if-write.true

pub returns : goal.returns
returns c = rw (c.without_writing-closed.ensures.0, c.if-write.false)
