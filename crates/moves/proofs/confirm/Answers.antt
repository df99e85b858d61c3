use mathlib.Core.Path.{◌∙◌}
use native.Mathlib.Omega.{arith}
use Rattle.layout.proofs.StampLaws.{stamp_fits}
use Rattle.record.specs.Record.{label_in}
use Rattle.moves.proofs.confirm.Goals as goal

pub overflow_add-stamp : goal.overflow_add-stamp
overflow_add-stamp c = omega (arith, stamp_fits (label_in c.args.state))

pub returns : goal.returns
returns c =
    let e = c.store_meta-stored.ensures in
    (c.stored.ensures ∙ rw (c.with_stamp-next.ensures, e.0), e.1)
