use Rattle.pages.specs.Pages.{padded}
use Rattle.fields.proofs.WrittenLaws.{written-page}
use Rattle.list_image.proofs.image.list.Goals as goal

pub returns : goal.returns
unfolding padded
returns c = written-page _ _ _ c.put_listing-len.ensures
