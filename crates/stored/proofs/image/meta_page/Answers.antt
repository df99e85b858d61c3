use Rattle.layout.proofs.PlaceLaws.{page-place, meta_within}
use Rattle.stored.proofs.image.meta_page.Goals as goal

pub page_at-requires : goal.page_at-requires
page_at-requires c =
    rw (c.meta_place.ensures, c.requires.ssd_len) (meta_within c.args.l c.args.p (page-place c.args.l c.args.p c.requires.p_bound))

pub returns : goal.returns
returns c = rw (← c.meta_place.ensures) c.page_at.ensures
