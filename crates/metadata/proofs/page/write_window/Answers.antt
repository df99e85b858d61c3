use mathlib.Core.Path.{◌≡◌, sym, ◌∙◌}
use lib.ListN.{length, take-append-drop}
use lib.Seq.{take-length}
use Rattle.layout.specs.MetaPage.{slots_bytes}
use Rattle.metadata.proofs.WriteLaws.{slot_turn}
use native.Mathlib.Omega.{arith}
use Rattle.metadata.proofs.page.write_window.Goals as goal

pub loop-i-init : goal.loop-i-init
unfolding slots_bytes
loop-i-init c = sym (take-append-drop 16 c.args.page.now)

pub loop-i-preserved : goal.loop-i-preserved
loop-i-preserved c =
    let l = c.loop-i in
    c.put_word.ensures
    ∙ slot_turn c.args.page.now l.page c.args.slots.now l.i _ c.told-page c.requires.slots_len (omega arith) l.invariant

pub returns : goal.returns
returns c =
    let l = c.loop-i in
    let e : l.i ≡ length c.args.slots.now = omega arith in
    rw (e, take-length c.args.slots.now) at l.invariant
