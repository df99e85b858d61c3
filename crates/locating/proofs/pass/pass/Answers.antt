use Prim.Native.Nat.{ℕ, ◌+◌, ◌*◌}
use mathlib.Core.Path.{ap, ◌∙◌}
use lib.ListN.{get_or, drop}
use Rattle.layout.specs.declared.Block.{Block}
use Rattle.protocol.specs.Condition.{slot_from}
use Rattle.locating.specs.Places.{place_word, or_found}
use Rattle.locating.proofs.WordLaws.{as_map}
use Rattle.locating.proofs.PassLaws.{row_more, rows_end_is}
use native.Mathlib.Omega.{arith}
use Rattle.locating.proofs.pass.pass.Goals as goal

pub loop-i-preserved : goal.loop-i-preserved
loop-i-preserved c =
    let l = c.loop-i in
    let a = c.args in (
      omega (arith, c.meet.auto, l.invariant.0),
      λ j h.
          let b : Block = record { 0 = get_or a.blocks.now j 0 } in
          ap (λ (w : ℕ). or_found w (place_word (slot_from (l.i + 1) (drop (2 * (l.i + 1)) a.table.now) b))) (c.meet.ensures j h)
          ∙ row_more a.table.now b l.i (get_or l.words j 0) (omega (arith, c.requires.table_len))
          ∙ l.invariant.1 j h,
    )

pub returns : goal.returns
returns c =
    let l = c.loop-i in
    let a = c.args in
    as_map _ a.blocks.now l.words l.invariant.0 (λ j h.
    rows_end_is a.table.now (record { 0 = get_or a.blocks.now j 0 }) l.i (get_or l.words j 0)
    (omega (arith, c.requires.table_len)) ∙ l.invariant.1 j h)
