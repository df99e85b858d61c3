use Rattle.pages.specs.Pages.{padded}
use Rattle.fields.proofs.WrittenLaws.{written-page}
use Rattle.workload.proofs.load.Goals as goal

pub returns : goal.returns
unfolding padded
returns c = written-page _ _ _ c.put_workload-len.ensures
