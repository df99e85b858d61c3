use native.Mathlib.Nat.{mul_comm, add_comm, add-sub_cancel_left}
use Prim.Native.Nat.{◌*◌}
use Rattle.pages.specs.Pages.{page_at}
use Rattle.pages.specs.Parts.{page_part}
use Rattle.pages.proofs.page_at.Goals as goal

pub returns : goal.returns
unfolding page_at page_part
returns c = simp (add-sub_cancel_left, mul_comm c.args.index 4096, add_comm (4096 * c.args.index) c.args.image.ref_ptr.1)
