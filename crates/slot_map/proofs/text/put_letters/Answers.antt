use Prim.Native.Nat.{◌+◌}
use mathlib.Core.Path.{◌∙◌}
use lib.ListN.{length-set}
use native.Mathlib.Omega.{arith}
use Rattle.protocol.specs.SlotMap.{letter_at}
use Rattle.slot_map.proofs.TextLaws.{letter_here, letter_past, filled_more, letters_are}
use Rattle.slot_map.proofs.text.put_letters.Goals as goal

pub loop-i-init : goal.loop-i-init
loop-i-init c = (c.requires.part_len, λ j h. absurd (omega arith))

pub loop-i-preserved : goal.loop-i-preserved
loop-i-preserved c =
    let a = c.args in
    let L = c.loop-i in (
      length-set L.part L.i c.letter.result ∙ L.invariant.0,
      filled_more L.part L.i _ (λ j. letter_at a.l a.table.now (a.first + j)) (omega (arith, L.invariant.0))
          (letter_here a.l a.table.now (a.first + L.i) _ (omega arith) c.letter.ensures) L.invariant.1,
    )

pub loop-i-2-init : goal.loop-i-2-init
loop-i-2-init c = (c.loop-i.invariant.0, λ j h. c.loop-i.invariant.1 j (omega arith))

pub loop-i-2-preserved : goal.loop-i-2-preserved
loop-i-2-preserved c =
    let a = c.args in
    let L = c.loop-i-2 in (
      length-set L.part L.i _ ∙ L.invariant.0,
      filled_more L.part L.i _ (λ j. letter_at a.l a.table.now (a.first + j)) (omega (arith, L.invariant.0))
          (letter_past a.l a.table.now (a.first + L.i) (omega arith)) L.invariant.1,
    )

pub returns : goal.returns
returns c =
    let a = c.args in
    let L = c.loop-i-2 in
    letters_are a.l a.table.now L.part a.first L.invariant.0 (λ j h. L.invariant.1 j (omega arith))
