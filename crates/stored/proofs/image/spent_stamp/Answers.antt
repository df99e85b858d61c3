use Rattle.protocol.specs.Recovery.{metas_of}
use Rattle.stored.proofs.StoredLaws.{found}
use Rattle.stored.proofs.image.spent_stamp.Goals as goal

pub returns : goal.returns
returns c =
    (found (metas_of c.args.l c.args.ssd.now) c.newest-found.result c.newest-found.ensures).stamp_is
