use Rattle.steps.proofs.MendLaws.{mended_is}
use Rattle.steps.proofs.step.mended.Goals as goal

pub returns : goal.returns
returns c =
    mended_is _ _ _ _ _ _ _ c.window_of.ensures c.off_page-left.ensures c.with_window-next.ensures c.phase_of.ensures
    c.with_phase.ensures
