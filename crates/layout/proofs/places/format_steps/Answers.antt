use native.Mathlib.Omega.{arith}
use Rattle.layout.proofs.PlaceLaws.{span_few}
use Rattle.layout.proofs.places.format_steps.Goals as goal

pub overflow_add-result : goal.overflow_add-result
overflow_add-result c = omega (arith, c.meta_span.ensures, span_few c.args.l)
