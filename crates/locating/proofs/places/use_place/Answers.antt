use Prim.Native.Nat.{◌-◌}
use mathlib.Core.Path.{◌∙◌}
use Rattle.locating.proofs.PlaceLaws.{none_word, open_word, shut_word}
use native.Mathlib.Omega.{arith}
use Rattle.locating.proofs.places.use_place.Goals as goal

pub returns-then-word-eq0 : goal.returns-then-word-eq0
returns-then-word-eq0 c = let a = c.args in none_word a.table.now a.word c.if-word-eq0.true

pub returns-then-table-k-eq1 : goal.returns-then-table-k-eq1
returns-then-table-k-eq1 c =
    let a = c.args in
    open_word a.table.now a.word c.if-word-eq0.false c.if-table-k-eq1.true

pub use_slot-requires : goal.use_slot-requires
use_slot-requires c =
    record { s_in_bounds = omega (arith, c.requires.word_in_bounds, c.if-word-eq0.false); s_bound = c.requires.by_index (c.args.word - 1) }

pub returns : goal.returns
returns c =
    let a = c.args in
    let o = shut_word a.table.now a.word c.if-word-eq0.false
    c.if-table-k-eq1.false in
    (o.0, c.use_slot.ensures ∙ o.1)
