use Rattle.layout.specs.MetaPage.{decode_entry}
use Rattle.metadata.proofs.page.read_entry.Goals as goal

pub returns : goal.returns
unfolding decode_entry
returns c = λ i. record { block = record { 0 = c.word_at.ensures i }; flags = c.from.ensures i }
