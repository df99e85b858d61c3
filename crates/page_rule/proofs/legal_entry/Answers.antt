use mathlib.Core.Path.{sym, ◌∙◌}
use borrow.Author.Tests.{lt-ltb, le-ltb}
use Rattle.layout.specs.MetaPage.{entry_part, decode_entry}
use Rattle.layout.specs.PageRule.{entry_test}
use Rattle.layout.proofs.Booleans.{clash}
use Rattle.layout.proofs.JudgeLaws.{entry_tail}
use Rattle.page_rule.proofs.legal_entry.Goals as goal
use Rattle.page_rule.proofs.legal_entry.Goals.{then-legal_pair, else-legal_pair}

pub returns-then-p-i : goal.returns-then-p-i
unfolding entry_test
returns-then-p-i c =
    let a = c.args in
    let part = entry_part a.page.now a.i in
    let e = decode_entry part in
    elim c.if-legal_pair.branch [
      | then-legal_pair w ↦
          let p = rw c.entry_at-entry.ensures at (sym c.legal_pair.ensures ∙ w.if-legal_pair.true) in
          let z = sym (w.all_zero.ensures ∙ entry_tail a.page.now a.i c.requires.page_len c.requires.i_bound) ∙ sym w.value-is ∙ c.if-all_zero.true in
          rw (p, z, lt-ltb _ _ c.if-p-i.true)
      | else-legal_pair w ↦ clash c.if-all_zero.true (w.value-is ∙ w.if-legal_pair.false)
    ]

pub returns-else-p-i : goal.returns-else-p-i
unfolding entry_test
returns-else-p-i c =
    let a = c.args in
    elim c.if-legal_pair.branch [
      | then-legal_pair w ↦
          let p = rw c.entry_at-entry.ensures at (sym c.legal_pair.ensures ∙ w.if-legal_pair.true) in
          let z = sym (w.all_zero.ensures ∙ entry_tail a.page.now a.i c.requires.page_len c.requires.i_bound) ∙ sym w.value-is ∙ c.if-all_zero.true in
          rw (p, z, le-ltb _ _ c.if-p-i.false, c.entry_at-entry.ensures)
      | else-legal_pair w ↦ clash c.if-all_zero.true (w.value-is ∙ w.if-legal_pair.false)
    ]

pub returns-else-all_zero : goal.returns-else-all_zero
unfolding entry_test
returns-else-all_zero c =
    let a = c.args in
    elim c.if-legal_pair.branch [
      | then-legal_pair w ↦
          let p = rw c.entry_at-entry.ensures at (sym c.legal_pair.ensures ∙ w.if-legal_pair.true) in
          let z = sym (w.all_zero.ensures ∙ entry_tail a.page.now a.i c.requires.page_len c.requires.i_bound) ∙ sym w.value-is ∙ c.if-all_zero.false in
          rw (c.if-all_zero.false, p, z)
      | else-legal_pair w ↦
          let p = rw c.entry_at-entry.ensures at (sym c.legal_pair.ensures ∙ w.if-legal_pair.false) in
          rw (c.if-all_zero.false, p)
    ]
