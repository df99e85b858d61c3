use borrow.Author.Rules.{rules}
use mathlib.Core.Path.{refl}
use Rattle.pages.specs.Pages.{padded}
use Rattle.metadata.proofs.page.encode_meta.Goals as goal

pub fill_meta-requires : goal.fill_meta-requires
unfolding padded
fill_meta-requires c = record {
  page_value = refl;
  count_le_window_most = search rules;
  rows_len_bound = search rules;
  rows_len = search rules;
}
