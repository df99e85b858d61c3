use Prim.Native.Nat.{◌+◌, ◌≤◌, ◌<◌}
use native.Mathlib.Omega.{arith}
use borrow.Author.Tests.{le-leb, lt-leb}
use Rattle.layout.specs.Places.{meta_span}
use Rattle.layout.proofs.PlaceLaws.{span_few}
use Rattle.protocol.specs.Perform.{format_state}
use Rattle.maintenance.proofs.format.format_state.Goals as goal

pub overflow_add-meta_span : goal.overflow_add-meta_span
overflow_add-meta_span c = omega (arith, c.meta_span.ensures, span_few c.args.state.label)

pub returns-then-meta_span-done : goal.returns-then-meta_span-done
returns-then-meta_span-done c =
    let a = c.args in
    let h : meta_span a.state.label + 1 ≤ a.done = rw (← c.meta_span.ensures) c.if-meta_span-done.true in
    rw (c.with_phase.ensures, c.with_hand.ensures, c.with_stamp-next.ensures, format_state, le-leb _ _ h)

pub overflow_add-done : goal.overflow_add-done
overflow_add-done c = omega (arith, c.meta_span.ensures, span_few c.args.state.label)

pub returns : goal.returns
returns c =
    let a = c.args in
    let h : a.done < meta_span a.state.label + 1 = rw (← c.meta_span.ensures) c.if-meta_span-done.false in
    rw (c.with_phase-2.ensures, format_state, lt-leb _ _ h)
