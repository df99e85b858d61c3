use Rattle.layout.proofs.PlaceLaws.{span_few}
use native.Mathlib.Omega.{arith}
use Rattle.record_rule.proofs.steps_ok.Goals as goal

pub overflow_add-result : goal.overflow_add-result
overflow_add-result c = omega (arith, c.meta_span.ensures, span_few c.args.l)

pub returns-in-Formatting : goal.returns-in-Formatting
returns-in-Formatting c = rw (c.meta_span.ensures, c.in-Formatting.is)
