use Rattle.layout.specs.MetaPage.{stamp_of}
use Rattle.metadata.proofs.page.stamp_of.Goals as goal

pub returns : goal.returns
unfolding stamp_of
returns c = c.word_at.ensures
