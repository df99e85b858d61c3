use native.Mathlib.Nat.{add-sub_cancel_left}
use Rattle.metadata.proofs.page.put_word.Goals as goal

pub returns : goal.returns
returns c = simp (c.write_word.ensures, add-sub_cancel_left)
