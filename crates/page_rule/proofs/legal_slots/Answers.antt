use Prim.Native.Nat.{◌+◌}
use mathlib.Core.Path.{◌≡◌, refl, sym, ◌∙◌}
use mathlib.Core.Bool.{true, false, and-false}
use lib.ListN.{drop}
use lib.Dec.{ltb}
use borrow.Author.Tests.{lt-ltb, le-ltb}
use Rattle.layout.specs.MetaPage.{window_of, slot_at}
use Rattle.layout.specs.PageRule.{listed}
use Rattle.layout.proofs.JudgeLaws.{slots-left, slots_end}
use native.Mathlib.Omega.{arith}
use Rattle.page_rule.proofs.legal_slots.Goals as goal
use Rattle.page_rule.proofs.legal_slots.Goals.{then-l-s-via-then-l-s, then-l-s-via-else-l-s+then-listed_from}

pub loop-k-init : goal.loop-k-init
loop-k-init c = refl

pub returns-then-l-s : goal.returns-then-l-s
returns-then-l-s c =
    let l = c.loop-k in
    let a = c.args in
    let page = a.page.now in
    elim c.then-l-s.branch [
      | then-l-s-via-then-l-s w ↦
          let x : ltb (slot_at page l.k).0 a.l.slots ≡ false = le-ltb _ _ (rw c.slot_at-s.ensures at w.if-l-s.true) in
          sym (rw x at (slots-left a.l page l.k (omega arith))) ∙ l.invariant
      | then-l-s-via-else-l-s+then-listed_from w ↦
          let y : listed (slot_at page l.k) (drop (l.k + 1) (window_of page)) ≡ true =
          rw c.slot_at-s.ensures at (sym w.listed_from.ensures ∙ w.if-listed_from.true)
          in
          sym (rw (y, and-false (ltb (slot_at page l.k).0 a.l.slots)) at (slots-left a.l page l.k (omega arith))) ∙ l.invariant
    ]

pub loop-k-preserved : goal.loop-k-preserved
loop-k-preserved c =
    let l = c.loop-k in
    let a = c.args in
    let page = a.page.now in
    let x : ltb (slot_at page l.k).0 a.l.slots ≡ true = lt-ltb _ _ (rw c.slot_at-s.ensures at c.if-l-s.false) in
    let y : listed (slot_at page l.k) (drop (l.k + 1) (window_of page)) ≡ false =
    rw c.slot_at-s.ensures at (sym c.listed_from.ensures ∙ c.if-listed_from.false)
    in
    sym (rw (x, y) at (slots-left a.l page l.k (omega arith))) ∙ l.invariant

pub returns : goal.returns
returns c =
    let l = c.loop-k in
    sym (slots_end c.args.l c.args.page.now l.k (omega arith)) ∙ l.invariant
