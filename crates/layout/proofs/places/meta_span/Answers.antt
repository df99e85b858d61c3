use borrow.Author.Rules.{rules}
use Rattle.layout.specs.Places.{meta_span}
use Rattle.layout.proofs.places.meta_span.Goals as goal

pub returns : goal.returns
unfolding meta_span
returns c = search rules
