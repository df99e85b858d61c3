use borrow.Author.Rules.{rules}
use Rattle.layout.specs.Places.{data_place}
use Rattle.layout.proofs.places.data_place.Goals as goal

pub returns : goal.returns
unfolding data_place
returns c = search rules
