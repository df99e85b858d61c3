use Rattle.stored.proofs.StoredLaws.{page-read}
use Rattle.stored.proofs.image.stamp_at.Goals as goal

pub stamp_of-requires : goal.stamp_of-requires
stamp_of-requires c = (page-read c.args.l _ _ _ c.requires.ssd_len c.requires.p_bound c.meta_page.ensures).1

pub returns : goal.returns
returns c =
    rw (c.stamp_of.ensures, (page-read c.args.l _ _ _ c.requires.ssd_len c.requires.p_bound c.meta_page.ensures).0)
