use borrow.Author.Rules.{rules}
use Rattle.layout.specs.Places.{ssd_length}
use Rattle.layout.proofs.places.ssd_length.Goals as goal

pub returns : goal.returns
unfolding ssd_length
returns c = search rules
