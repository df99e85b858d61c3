use Prim.Native.Nat.{ℕ, ◌+◌, ◌-◌}
use mathlib.Core.Path.{◌≡◌, refl, ◌∙◌}
use lib.ListN.{length, set}
use native.Mathlib.Nat.{add-sub_cancel_left}
use borrow.Rule.Slice.PartMut.{put_mid}
use Rattle.layout.specs.LabelPage.{decimal}
use Rattle.text.proofs.TextLaws.{line_put}
use native.Mathlib.Omega.{arith}
use Rattle.text.proofs.put_number.Goals as goal

pub returns : goal.returns
returns c =
    let a = c.args in
    let n : ℕ = length (decimal a.n) in
    let e : c.decimal_len.result ≡ n = c.decimal_len.ensures in
    let k : a.at + c.decimal_len.result - a.at ≡ n = add-sub_cancel_left _ _ ∙ e in (
      omega arith,
      (λ i. set (put_mid a.at (k i) a.page.now (c.put_decimal.ensures i)) (a.at + e i) a.last)
          ∙ line_put a.page.now (decimal a.n) a.at n a.last refl c.requires,
    )
