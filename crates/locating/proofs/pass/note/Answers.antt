use Rattle.locating.proofs.WordLaws.{renew_begin, renew_more}
use native.Mathlib.Omega.{arith}
use Rattle.locating.proofs.pass.note.Goals as goal

pub loop-j-init : goal.loop-j-init
loop-j-init c = renew_begin _ _

pub loop-j-preserved : goal.loop-j-preserved
loop-j-preserved c =
    let l = c.loop-j in
    renew_more _ _ _ l.j _ l.invariant (omega arith) c.noted.ensures

pub returns : goal.returns
returns c = let l = c.loop-j in λ j h. l.invariant.new j (omega arith)
