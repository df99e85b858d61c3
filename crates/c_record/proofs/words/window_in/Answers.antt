use mathlib.Core.Path.{refl}
use Rattle.c_record.proofs.WordLaws.{filled_more, filled-all, window-length, window_at}
use native.Mathlib.Omega.{arith}
use Rattle.c_record.proofs.words.window_in.Goals as goal

pub loop-i-init : goal.loop-i-init
loop-i-init c = record { most = omega arith; size = refl; same = refl }

pub loop-i-preserved : goal.loop-i-preserved
loop-i-preserved c =
    let l = c.loop-i in
    filled_more _ (window-length c.args.words.now c.requires) _ l.window l.i _
    (window_at c.args.words.now c.requires l.i (omega arith)) l.invariant (omega arith)

pub returns : goal.returns
returns c =
    let l = c.loop-i in
    filled-all _ (window-length c.args.words.now c.requires) (record { 0 = 0 }) l.window l.i l.invariant (omega arith)
