use mathlib.Core.Path.{sym, ◌∙◌}
use Rattle.stored.proofs.ReadLaws.{label_test_is}
use Rattle.ferjulm.proofs.calls.unheld.Goals as goal

pub returns-in-Some : goal.returns-in-Some
returns-in-Some c =
    rw (label_test_is c.args.ssd.now, sym c.label_of.ensures ∙ c.in-Some.is)

pub returns-in-None : goal.returns-in-None
returns-in-None c =
    rw (label_test_is c.args.ssd.now, sym c.label_of.ensures ∙ c.in-None.is)
