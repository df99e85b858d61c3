use Prim.Native.Nat.{◌+◌, ◌-◌}
use mathlib.Core.Path.{◌≡◌, sym, ap, ◌∙◌}
use Rattle.std.specs.Prelude.{None}
use native.Mathlib.Omega.{arith}
use Rattle.layout.specs.declared.Slot.{Slot}
use Rattle.protocol.specs.Sweep.{next_slot}
use Rattle.sweeping.specs.Sweeps.{lap_from, slot_past}
use Rattle.sweeping.proofs.SweepLaws.{past_none, past_next, lap_begun, lap_on, lap_took, lap_done}
use Rattle.sweeping.proofs.sweep.sweep.Goals as goal

pub loop-k-init : goal.loop-k-init
loop-k-init c =
    let a = c.args in
    let n = a.l.slots in
    ap (λ (s : Slot). lap_from (n - 0) 0 a.l a.table.now s None) (past_none a.l a.hand c.requires.1)
    ∙ lap_begun n a.l a.table.now a.hand

pub slot_past-s-requires : goal.slot_past-s-requires
slot_past-s-requires c = (c.requires.1, c.loop-k-test.true)

pub bounds-table-s : goal.bounds-table-s
bounds-table-s c =
    let p = c.requires in
    omega (arith, p.0, c.slot_past-s.ensures.1)

pub returns-then-is_unused : goal.returns-then-is_unused
returns-then-is_unused c =
    let l = c.loop-k in
    let a = c.args in
    let p = c.slot_past-s.ensures.0 in
    let e = sym c.is_unused.ensures ∙ c.if-is_unused.true in
    let t = lap_took a.l.slots l.k a.l a.table.now c.slot_past-s.result l.first c.loop-k-test.true e in
    sym t ∙ ap (λ (s : Slot). lap_from (a.l.slots - l.k) l.k a.l a.table.now s l.first) p ∙ l.invariant

pub loop-k-preserved : goal.loop-k-preserved
loop-k-preserved c =
    let l = c.loop-k in
    let a = c.args in
    let p = c.slot_past-s.ensures.0 in
    let t = c.loop-k-test.true in
    let e = sym c.is_unused.ensures ∙ c.if-is_unused.false in
    let n : slot_past (l.k + 1) a.l a.hand ≡ next_slot a.l c.slot_past-s.result =
    sym (past_next a.l a.hand l.k c.requires.1 t) ∙ ap (next_slot a.l) (sym p) in
    let o = lap_on a.l.slots l.k a.l a.table.now c.slot_past-s.result l.first t e in
    rw (n, c.first_closed-first.ensures, c.is_closed.ensures)
    (sym o ∙ ap (λ (s : Slot). lap_from (a.l.slots - l.k) l.k a.l a.table.now s l.first) p ∙ l.invariant)

pub returns : goal.returns
returns c =
    let l = c.loop-k in
    let a = c.args in
    c.lap_end.ensures
    ∙ sym (lap_done a.l.slots l.k a.l a.table.now (slot_past l.k a.l a.hand) l.first c.loop-k-test.false)
    ∙ l.invariant
