use native.Mathlib.Nat.{add-sub_cancel_left}
use Rattle.layout.specs.MetaPage.{entry_part}
use Rattle.metadata.proofs.page.entry_at.Goals as goal

pub returns : goal.returns
unfolding entry_part
returns c = simp (c.read_entry.ensures, add-sub_cancel_left)
