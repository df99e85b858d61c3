-- Text written over a part of a buffer.
use Rattle.std.specs.Prelude.{ℕ, ◌+◌, ◌≤◌, ◌≡◌, List, length}
use borrow.Rule.Slice.PartMut.{put_mid}
use Rattle.pages.specs.Pages.{padded}
use Rattle.fields.specs.declared.Text.{Text}

-- a text of at most `most` bytes stands over those from `at` up to `end`, and every other byte is as it was
pub record Written (before after : List ℕ) (at end most : ℕ) (text : List ℕ) : Type 0 where
  pub bytes : after ≡ put_mid at (length text) before text
  pub end_is : end ≡ at + length text
  pub short : length text ≤ most

-- a text in a zero page
abbrev pub text_of : List ℕ → Text
text_of text = record { bytes = padded 4096 text; len = length text }
