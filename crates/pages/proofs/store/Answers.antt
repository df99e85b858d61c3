use native.Mathlib.Nat.{mul_comm, add-sub_cancel_left}
use Rattle.pages.specs.Pages.{put_page}
use Rattle.pages.proofs.store.Goals as goal

pub returns : goal.returns
unfolding put_page
returns c =
    let a = c.args in
    simp (c.copy.ensures, add-sub_cancel_left, mul_comm a.index 4096)
