use Prim.Native.Nat.{ℕ, ◌/◌, ◌%◌}
use mathlib.Core.Path.{◌≡◌, ap, ◌∙◌}
use mathlib.Core.List.{List, ◌∷◌, ◌++◌, [], append-nil}
use lib.ListN.{drop_of_length-le}
use borrow.Rule.Slice.PartMut.{put_mid}
use Rattle.pages.specs.Words.{le_bytes}
use Rattle.pages.proofs.WordLaws.{length-le_bytes}
use Rattle.pages.proofs.PadLaws.{chunk_more}
use Rattle.layout.specs.MetaPage.{entry_bytes}
use native.Mathlib.Omega.{arith}
use Rattle.metadata.proofs.page.write_entry.Goals as goal

-- the flags as a word: one byte, and three of zero
flags_word : (f : ℕ) → le_bytes 4 (f % 8) ≡ f % 8 ∷ 0 ∷ 0 ∷ 0 ∷ []
unfolding le_bytes
flags_word f =
    let a : f % 8 % 256 ≡ f % 8 = omega arith in
    let b : f % 8 / 256 ≡ 0 = omega arith in
    rw (a, b)

pub returns : goal.returns
unfolding entry_bytes
returns c =
    let part : List ℕ = c.args.part.now in
    let a : List ℕ = le_bytes 4 c.args.block in
    let f : List ℕ = le_bytes 4 (c.args.flags % 8) in
    c.put_word-2.ensures
    ∙ ap (λ (l : List ℕ). put_mid 4 4 l f) c.put_word.ensures
    ∙ chunk_more part a f 0 4 4 (length-le_bytes 4 _) (omega (arith, c.requires))
    ∙ ap (λ (l : List ℕ). (a ++ f) ++ l) (drop_of_length-le part {i = 8} (omega (arith, c.requires)))
    ∙ append-nil (a ++ f)
    ∙ ap (λ (l : List ℕ). a ++ l) (flags_word c.args.flags)
