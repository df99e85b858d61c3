use mathlib.Core.Path.{sym, ◌∙◌}
use Rattle.stored.proofs.ReadLaws.{limits}
use Rattle.stored.proofs.ReopenLaws.{unlabelled, wrong_length_is, sizes, bad_pages, taken}
use Rattle.recovery.proofs.reopen.reopen.Goals as goal

pub returns-in_default : goal.returns-in_default
returns-in_default c =
    let a = c.args in
    λ r. unlabelled a.ssd.now a.hdd.now a.table.now r
    (sym c.label_of.ensures ∙ c.in_default.is)

pub returns-then-not-lengths_ok : goal.returns-then-not-lengths_ok
returns-then-not-lengths_ok c =
    let a = c.args in
    λ r. wrong_length_is a.ssd.now a.hdd.now a.table.now r _
    (sym c.label_of.ensures ∙ c.in-Some.is)
    (sym c.lengths_ok.ensures ∙ c.if-not-lengths_ok.true)

pub pages_ok-requires : goal.pages_ok-requires
pages_ok-requires c =
    let a = c.args in
    let e = (sym c.label_of.ensures ∙ c.in-Some.is) in record {
      ssd_len = (sizes _ _ _ _
          (sym c.lengths_ok.ensures ∙ c.if-not-lengths_ok.false)).0;
      limits = limits a.ssd.now _ e;
    }

pub returns-then-not-pages_ok : goal.returns-then-not-pages_ok
returns-then-not-pages_ok c =
    let a = c.args in
    λ r. bad_pages a.ssd.now a.hdd.now a.table.now r _
    (sym c.label_of.ensures
    ∙ c.in-Some.is)
    (sym c.lengths_ok.ensures ∙ c.if-not-lengths_ok.false)
    (sym c.pages_ok.ensures ∙ c.if-not-pages_ok.true)

pub recover-requires : goal.recover-requires
recover-requires c =
    let a = c.args in
    let e = (sym c.label_of.ensures
    ∙ c.in-Some.is) in
    let z = sizes _ _ _ _
    (sym c.lengths_ok.ensures ∙ c.if-not-lengths_ok.false) in record {
      ssd_len = z.0;
      table_len = z.1;
      limits = limits a.ssd.now _ e;
      ssd_value = sym c.pages_ok.ensures
          ∙ c.if-not-pages_ok.false;
    }

pub returns : goal.returns
returns c =
    let a = c.args in
    λ r. rw c.answered.ensures
    (taken a.ssd.now a.hdd.now a.table.now r _
    (sym c.label_of.ensures
    ∙ c.in-Some.is)
    (sym c.lengths_ok.ensures ∙ c.if-not-lengths_ok.false) _
    (sym c.pages_ok.ensures ∙ c.if-not-pages_ok.false) c.recover.ensures)
