use native.Mathlib.Nat.{mul_comm, add-sub_cancel_left}
use Rattle.pages.specs.Pages.{page_at, put_page}
use Rattle.pages.proofs.copy_page.Goals as goal

pub returns : goal.returns
unfolding put_page page_at
returns c =
    let a = c.args in
    simp (c.store.ensures, add-sub_cancel_left, mul_comm a.from_index 4096)
