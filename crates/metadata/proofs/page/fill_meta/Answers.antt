use borrow.Author.Rules.{rules}
use Prim.Native.Nat.{ℕ, ◌*◌}
use mathlib.Core.Path.{◌≡◌, ◌∙◌}
use mathlib.Core.List.{List}
use lib.ListN.{length, take, length-take}
use borrow.Rule.Slice.PartMut.{put_mid}
use Rattle.pages.specs.Words.{le_bytes}
use Rattle.layout.specs.declared.Slot.{Slot}
use Rattle.layout.specs.MetaPage.{slots_bytes, rows_bytes}
use Rattle.metadata.proofs.WriteLaws.{meta_built}
use native.Mathlib.Omega.{arith}
use Rattle.layout.proofs.Loops.{length-mapped}
use Rattle.metadata.proofs.page.fill_meta.Goals as goal

pub returns : goal.returns
returns c =
    let t : ℕ = c.args.stamp in
    let n : ℕ = c.args.w.count in
    let rows : List ℕ = c.args.rows.now in
    let w : List Slot = take n c.args.w.slots in
    let all : length c.args.w.slots ≡ 63 = search (rules, length-mapped) in
    let lw : length w ≡ n = simp (length-take, all) (omega (arith, c.requires.count_le_window_most)) in
    let e1 = c.put_word.ensures ∙ (λ i. put_mid 0 4 (c.requires.page_value i) (le_bytes 4 t)) in
    let e2 = c.put_word-2.ensures ∙ (λ i. put_mid 4 4 (e1 i) (le_bytes 4 n)) in
    let e3 = rw (c.slots.ensures, lw) at c.write_window.ensures ∙ (λ i. put_mid 16 (4 * n) (e2 i) (slots_bytes w)) in
    c.write_rows.ensures
    ∙ (λ i. put_mid 512 (4 * length rows) (e3 i) (rows_bytes rows))
    ∙ meta_built t n w rows lw c.requires.count_le_window_most c.requires.rows_len_bound c.requires.rows_len
