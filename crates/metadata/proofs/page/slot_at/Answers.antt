use Rattle.layout.specs.MetaPage.{slot_at}
use Rattle.metadata.proofs.page.slot_at.Goals as goal

pub returns : goal.returns
unfolding slot_at
returns c = λ i. record { 0 = c.word_at.ensures i }
