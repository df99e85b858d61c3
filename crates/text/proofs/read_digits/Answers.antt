use Prim.Native.Nat.{◌+◌, ◌-◌}
use mathlib.Core.Path.{sym, ◌∙◌}
use lib.ListN.{length, drop, length-drop}
use lib.Seq.{take_all}
use Rattle.text.proofs.DigitLaws.{next_none, next_line, next_low, next_high, next_full, next_digit, not-read, too_large, fits_line, nine, digit_more, unkept, kept}
use native.Mathlib.Omega.{arith}
use Rattle.text.proofs.read_digits.Goals as goal
use Rattle.text.proofs.read_digits.Goals.{in_default-via-then-b-lt48, in_default-via-in-48-to-57+else-left-gt0, in_default-via-else-b-lt48+else-b-lt58}

pub loop-i-init : goal.loop-i-init
loop-i-init c =
    rw c.from-n.ensures (c.requires.most_bound, c.requires.first_bound, cc)

pub returns-in_err-ok-in-10 : goal.returns-in_err-ok-in-10
returns-in_err-ok-in-10 c =
    let l = c.loop-i in
    rw c.from_residual.ensures
    (too_large _ l.n _ (sym l.invariant.2 ∙ next_line c.args.bytes.now l.i l.left l.n (omega arith) c.in-10.is) (unkept _ l.n c.try_from.ensures (sym c.ok.ensures.value ∙ c.in_err-ok-in-10.was)))

pub returns-in-10 : goal.returns-in-10
returns-in-10 c =
    let l = c.loop-i in
    let bytes = c.args.bytes.now in
    let k = kept _ l.n c.in_ok-ok-in-10.field-0 c.try_from.ensures (sym c.ok.ensures.value ∙ c.in_ok-ok-in-10.was) in
    rw (k.1, take_all (length bytes - (l.i + 1)) (drop (l.i + 1) bytes) (simp length-drop (omega arith)))
    (fits_line _ l.n _ (sym l.invariant.2 ∙ next_line bytes l.i l.left l.n (omega arith) c.in-10.is) k.0)

pub overflow_mul-n : goal.overflow_mul-n
overflow_mul-n c =
    let l = c.loop-i in
    let z = nine l.n l.left 48 (omega arith) l.invariant.0 l.invariant.1 (omega arith) in
    omega arith

pub overflow_add-n : goal.overflow_add-n
overflow_add-n c =
    let l = c.loop-i in
    let z = nine l.n l.left 48 (omega arith) l.invariant.0 l.invariant.1 (omega arith) in
    omega arith

pub returns-in_default : goal.returns-in_default
returns-in_default c =
    let l = c.loop-i in
    let bytes = c.args.bytes.now in
    elim c.in_default.branch [
      | in_default-via-then-b-lt48 w ↦ not-read _ (sym l.invariant.2 ∙ next_low bytes l.i l.left l.n (omega arith) (omega arith) (omega arith))
      | in_default-via-in-48-to-57+else-left-gt0 w ↦
          not-read _ (sym l.invariant.2 ∙ next_full bytes l.i l.left l.n (omega arith) (omega arith) (omega arith))
      | in_default-via-else-b-lt48+else-b-lt58 w ↦ not-read _ (sym l.invariant.2 ∙ next_high bytes l.i l.left l.n (omega arith) (omega arith))
    ]

pub loop-i-preserved : goal.loop-i-preserved
loop-i-preserved c =
    let l = c.loop-i in
    let bytes = c.args.bytes.now in
    rw c.from.ensures (
      omega arith,
      digit_more l.n l.left _ (omega arith) l.invariant.0 l.invariant.1 (omega arith),
      sym (next_digit bytes l.i l.left l.n (omega arith) (l.left - 1) (omega arith) (omega arith) (omega arith)) ∙ l.invariant.2,
    )

pub returns : goal.returns
returns c =
    let l = c.loop-i in
    not-read _ (sym l.invariant.2 ∙ next_none c.args.bytes.now l.i l.left l.n (omega arith))
