use Prim.Native.Nat.{◌-◌}
use mathlib.Core.Path.{◌∙◌}
use native.Mathlib.Omega.{arith}
use lib.ListN.{length, drop, length-drop}
use lib.Seq.{take_all}
use Rattle.c_record.proofs.words.callers_in.Goals as goal

pub returns : goal.returns
returns c =
    c.copy_from_slice.ensures.after ∙ take_all (length c.args.words.now - 71) (drop 71 c.args.words.now) (omega (arith, length-drop 71 c.args.words.now))
