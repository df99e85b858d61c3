use Rattle.fields.proofs.WrittenLaws.{written_as}
use Rattle.workload.proofs.LoadLaws.{refused-text, load_text_is}
use native.Mathlib.Omega.{arith}
use Rattle.workload.proofs.put_workload.Goals as goal

pub returns-in_default : goal.returns-in_default
returns-in_default c =
    written_as c.put_refusal.ensures
    (refused-text _ _ c.read_input.ensures c.in_default.is)
    (omega arith)

pub returns : goal.returns
returns c =
    written_as c.put_load.ensures
    (load_text_is _ _ c.read_input.ensures _ _ _ c.in-Some.is c.run_load-counts.ensures) (omega arith)
