use borrow.Author.Rules.{rules}
use Rattle.layout.specs.Places.{meta_place}
use Rattle.layout.proofs.places.meta_place.Goals as goal

pub returns : goal.returns
unfolding meta_place
returns c = search rules
