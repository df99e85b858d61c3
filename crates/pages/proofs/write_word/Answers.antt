use Prim.Native.Nat.{◌/◌}
use mathlib.Core.Path.{◌≡◌}
use native.Mathlib.Omega.{arith}
use Rattle.pages.specs.Words.{le_bytes}
use Rattle.pages.proofs.write_word.Goals as goal

pub returns : goal.returns
unfolding le_bytes
returns c =
    let x = c.args.x in
    let two : x / 65536 ≡ x / 256 / 256 = omega arith in
    let three : x / 16777216 ≡ x / 256 / 256 / 256 = omega arith in
    rw (c.copy_from_slice.ensures.after, c.to_le_bytes.ensures, two, three)
