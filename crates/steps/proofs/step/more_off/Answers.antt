use mathlib.Core.Path.{sym, ◌∙◌}
use borrow.Author.Tests.{eq-eqb, ne_eqb}
use Rattle.steps.proofs.step.more_off.Goals as goal

pub returns-then-meta_of-p : goal.returns-then-meta_of-p
returns-then-meta_of-p c = rw (eq-eqb _ _ (sym c.meta_of.ensures ∙ c.if-meta_of-p.true)) c.requires.zero_past

pub returns : goal.returns
returns c = rw (ne_eqb _ _ (λ q. c.if-meta_of-p.false (c.meta_of.ensures ∙ q))) c.join.ensures
