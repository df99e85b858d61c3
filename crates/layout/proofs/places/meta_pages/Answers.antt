use borrow.Author.Rules.{rules}
use Rattle.layout.specs.Places.{meta_pages}
use Rattle.layout.proofs.places.meta_pages.Goals as goal

pub returns : goal.returns
unfolding meta_pages
returns c = search rules
