use mathlib.Core.Path.{◌∙◌}
use Rattle.maintenance.proofs.format.format_step.Goals as goal

pub returns : goal.returns
returns c =
    let e = c.format_store-stored.ensures in
    (c.stored.ensures ∙ rw (c.format_state-next.ensures, e.0), e.1)
