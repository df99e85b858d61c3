use borrow.Author.Rules.{rules}
use Rattle.layout.specs.Stamps.{largest_stamp}
use Rattle.layout.proofs.stamps.largest_stamp.Goals as goal

pub returns : goal.returns
unfolding largest_stamp
returns c = search rules
