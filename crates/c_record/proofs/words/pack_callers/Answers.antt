use Prim.Native.Nat.{◌-◌, ◌≤◌}
use mathlib.Core.List.{append-nil}
use native.Mathlib.Omega.{arith}
use lib.ListN.{length, drop, length-drop, drop_of_length-le}
use Rattle.c_record.proofs.words.pack_callers.Goals as goal

pub returns : goal.returns
returns c =
    let w = c.args.words.now in
    let short : length (drop 71 w) ≤ length w - 71 = omega (arith, length-drop 71 w) in
    rw (c.copy_from_slice.ensures.after, drop_of_length-le (drop 71 w) {i = length w - 71} short, append-nil c.args.callers)
