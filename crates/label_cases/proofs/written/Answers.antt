use mathlib.Core.Path.{ap}
use Rattle.layout.specs.Places.{within_limits}
use Rattle.label_cases.proofs.written.Goals as goal

pub encode_label-page-requires : goal.encode_label-page-requires
unfolding within_limits
encode_label-page-requires g c = ap within_limits c.label.ensures
