use borrow.Author.Rules.{rules}
use mathlib.Core.Path.{refl}
use Rattle.pages.specs.Pages.{padded}
use Rattle.label_page.proofs.encode_label.Goals as goal

pub fill_label-requires : goal.fill_label-requires
unfolding padded
fill_label-requires c = record { page_value = refl; l_value = search rules }
