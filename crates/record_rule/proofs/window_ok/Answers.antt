use borrow.Author.Rules.{rules}
use Prim.Native.Nat.{◌-◌}
use mathlib.Core.Path.{◌≡◌, ◌∙◌}
use native.Mathlib.Omega.{arith}
use lib.ListN.{length, take, drop, length-drop}
use lib.Seq.{take_all}
use borrow.Author.Tests.{eq-eqb}
use Rattle.layout.proofs.Booleans.{clash}
use Rattle.layout.proofs.Loops.{length-mapped}
use Rattle.record_rule.proofs.window_ok.Goals as goal
use Rattle.record_rule.proofs.window_ok.Goals.{then-in_range, else-in_range}

pub returns-then-distinct_slots : goal.returns-then-distinct_slots
returns-then-distinct_slots c =
    let w = c.args.w in
    let all : length w.slots ≡ 63 = search (rules, length-mapped) in
    let rest : take (length w.slots - w.count) (drop w.count w.slots) ≡ drop w.count w.slots =
    take_all (length w.slots - w.count) (drop w.count w.slots) (omega (arith, length-drop w.count w.slots)) in
    elim c.if-in_range.branch [
      | then-in_range b ↦ rw (
        eq-eqb _ _ all,
        ← c.slots-slots.ensures,
        ← c.in_range.ensures,
        b.if-in_range.true,
        ← b.distinct_slots.ensures,
        ← b.value-is,
        c.if-distinct_slots.true,
        ← rest,
      ) c.zero.ensures
      | else-in_range b ↦ clash c.if-distinct_slots.true (b.value-is ∙ b.if-in_range.false)
    ]

pub returns-else-distinct_slots : goal.returns-else-distinct_slots
returns-else-distinct_slots c =
    let all : length c.args.w.slots ≡ 63 = search (rules, length-mapped) in
    elim c.if-in_range.branch [
      | then-in_range b ↦ rw (
        eq-eqb _ _ all,
        ← c.slots-slots.ensures,
        ← c.in_range.ensures,
        b.if-in_range.true,
        ← b.distinct_slots.ensures,
        ← b.value-is,
        c.if-distinct_slots.false,
      )
      | else-in_range b ↦ rw (eq-eqb _ _ all, ← c.slots-slots.ensures, ← c.in_range.ensures, b.if-in_range.false) (b.value-is ∙ b.if-in_range.false)
    ]
