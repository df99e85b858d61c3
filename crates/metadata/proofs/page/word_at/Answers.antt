use native.Mathlib.Nat.{add-sub_cancel_left}
use Rattle.metadata.proofs.page.word_at.Goals as goal

pub returns : goal.returns
returns c = simp (c.read_word.ensures, add-sub_cancel_left)
