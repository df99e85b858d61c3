use Prim.Native.Nat.{◌+◌, ◌*◌}
use mathlib.Core.Path.{◌≡◌, sym, ◌∙◌}
use native.Mathlib.Nat.{add-sub_cancel_left}
use lib.ListN.{length, take-append-drop}
use lib.Seq.{take-length}
use borrow.Rule.Slice.PartMut.{put_mid}
use Rattle.layout.specs.MetaPage.{rows_bytes}
use Rattle.metadata.proofs.WriteLaws.{row_turn}
use native.Mathlib.Omega.{arith}
use Rattle.metadata.proofs.page.write_rows.Goals as goal

pub loop-i-init : goal.loop-i-init
unfolding rows_bytes
loop-i-init c = sym (take-append-drop 512 c.args.page.now)

pub loop-i-preserved : goal.loop-i-preserved
loop-i-preserved c =
    let l = c.loop-i in
    let rows = c.args.rows.now in
    (λ i. put_mid (512 + 8 * l.i) (add-sub_cancel_left (512 + 8 * l.i) 8 i) l.page (c.write_entry.ensures i))
    ∙ row_turn c.args.page.now l.page rows l.i c.told-page c.requires.rows_len_bound (omega (arith, c.requires.rows_len)) l.invariant

pub returns : goal.returns
returns c =
    let l = c.loop-i in
    let rows = c.args.rows.now in
    let e : 2 * l.i ≡ length rows = omega (arith, c.requires.rows_len) in
    let f : 8 * l.i ≡ 4 * length rows = omega arith in
    rw (f, e, take-length rows) at l.invariant
