use native.Mathlib.Omega.{arith}
use Prim.Native.Nat.{ℕ, ◌+◌, ◌*◌, ◌<◌}
use mathlib.Core.Path.{◌≡◌, sym, ap, ◌∙◌}
use mathlib.Core.List.{List}
use lib.ListN.{length, set, length-set}
use borrow.Rule.Slice.PartMut.{put_mid}
use Rattle.layout.proofs.JudgeLaws.{length-firsts}
use Rattle.protocol.specs.SlotMap.{letter_at}
use Rattle.laws.proofs.SlotMaps.{length-number}
use Rattle.slot_map.proofs.TextLaws.{number-length, letters_length, line_is}
use Rattle.slot_map.proofs.text.put_line.Goals as goal
use Rattle.slot_map.proofs.text.put_line.Goals.{After-put_letters, After-put_number}

-- the line's number is written, then its letters
numbered : (c : After-put_number) → let a = c.args in
    length (set (put_mid 0 5 a.line.now c.put_number.new.part) 5 32) ≡ 67
numbered c =
    let s = c in
    let low : 60 * s.args.k < 100000 = omega (arith, s.requires.slots_bound, s.requires.k_bound) in
    number-length s.args.line.now c.put_number.new.part s.requires.line_len (ap length c.put_number.ensures ∙ length-number (60 * s.args.k) low)

lettered : (c : After-put_letters) → let n = c in let a = n.args in
    length (put_mid 6 60 (set (put_mid 0 5 a.line.now n.put_number.new.part) 5 32) c.put_letters.new.part) ≡ 67
lettered c =
    let n = c in
    let a = n.args in
    letters_length (set (put_mid 0 5 a.line.now n.put_number.new.part) 5 32) c.put_letters.new.part (numbered (goal.at.After-put_letters n).After-put_number)
    (ap length c.put_letters.ensures ∙ length-firsts 60 (λ i. letter_at a.l a.table.now (60 * a.k + i)))

pub slice_bounds-put_letters-end : goal.slice_bounds-put_letters-end
slice_bounds-put_letters-end c = omega (arith, numbered (goal.at.slice_bounds-put_letters-end c).After-put_number)

pub bounds-line-66 : goal.bounds-line-66
bounds-line-66 c = omega (arith, lettered (goal.at.bounds-line-66 c).After-put_letters)

pub shape_of-line : goal.shape_of-line
shape_of-line c =
    let line : List ℕ = put_mid 6 60 (set (put_mid 0 5 c.args.line.now c.put_number.new.part) 5 32) c.put_letters.new.part in
    length-set line 66 10 ∙ lettered (goal.at.shape_of-line c).After-put_letters ∙ sym c.requires.line_len

pub returns : goal.returns
returns c =
    let a = c.args in
    let low : 60 * a.k < 100000 = omega (arith, c.requires.slots_bound, c.requires.k_bound) in
    rw (c.put_number.ensures, c.put_letters.ensures) (line_is a.l a.table.now a.line.now a.k c.requires.line_len low)
