use mathlib.Core.Path.{sym, ◌∙◌}
use native.Mathlib.Omega.{arith}
use borrow.Author.Tests.{eq-eqb, ne_eqb}
use mathlib.Core.Bool.{and-false}
use Rattle.image_rules.proofs.TwiceLaws.{out_of_span, in_span_lem}
use Rattle.image_rules.proofs.twice.visit.Goals as goal

pub returns-then-block-start : goal.returns-then-block-start
returns-then-block-start c = rw (out_of_span c.args.start c.args.block c.requires.1 c.if-block-start.true, and-false)

pub returns-then-flags-ne1 : goal.returns-then-flags-ne1
returns-then-flags-ne1 c = rw (ne_eqb _ _ c.if-flags-ne1.true)

pub overflow_sub-b : goal.overflow_sub-b
overflow_sub-b c = omega (arith, c.if-block-start.false, c.requires.1)

pub is_marked-requires : goal.is_marked-requires
is_marked-requires c =
    (c.requires.0, omega (arith, c.if-block-start.false, c.requires.1))

pub returns-then-is_marked : goal.returns-then-is_marked
returns-then-is_marked c =
    rw (
      eq-eqb _ _ c.if-flags-ne1.false,
      in_span_lem c.args.start c.args.block c.requires.1 c.if-block-start.false,
      sym c.is_marked.ensures ∙ c.if-is_marked.true,
    )

pub mark-requires : goal.mark-requires
mark-requires c =
    (c.requires.0, omega (arith, c.if-block-start.false, c.requires.1))

pub returns : goal.returns
returns c =
    rw (
      eq-eqb _ _ c.if-flags-ne1.false,
      in_span_lem c.args.start c.args.block c.requires.1 c.if-block-start.false,
      sym c.is_marked.ensures ∙ c.if-is_marked.false,
      c.mark.ensures,
    )
