use native.Mathlib.Nat.{add-sub_cancel_left}
use Rattle.text.proofs.put_text.Goals as goal

pub returns : goal.returns
returns c =
    let a = c.args in
    simp (c.copy_from_slice.ensures.after, add-sub_cancel_left)
