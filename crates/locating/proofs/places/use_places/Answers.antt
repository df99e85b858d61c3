use mathlib.Core.List.{List}
use mathlib.Core.Path.{ap, refl, ◌∙◌}
use Rattle.locating.specs.Places.{place_of, condition_there, slots_there}
use Prim.Native.Nat.{ℕ, ◌+◌, ◌≤◌, ◌<◌}
use lib.ListN.{length, get_or, drop}
use Rattle.protocol.specs.Condition.{word_of, closed_slot}
use Rattle.protocol.specs.Perform.{used_all}
use Rattle.locating.proofs.WordLaws.{renew_begin, renew_more, as_map}
use Rattle.locating.proofs.PlaceLaws.{still_begin, still_more, use_more, use_end}
use native.Mathlib.Omega.{arith}
use Rattle.locating.proofs.places.use_places.Goals as goal

pub loop-word-init : goal.loop-word-init
loop-word-init c =
    (renew_begin _ _, still_begin _ c.requires.by_index_2, refl)

pub use_place-requires : goal.use_place-requires
use_place-requires c =
    let l = c.loop-word in
    let o = l.invariant.0.old l.word-index (omega arith) in
    let p = c.requires.by_index l.word-index (omega arith) in
    record { word_in_bounds = omega (arith, o, p, l.invariant.1.size); by_index = l.invariant.1.low }

pub loop-word-preserved : goal.loop-word-preserved
loop-word-preserved c =
    let l = c.loop-word in
    let t = c.args.table.now in
    let w = get_or l.words l.word-index 0 in
    let e = c.use_place.ensures in
    let o = l.invariant.0.old l.word-index (omega arith) in
    let h : l.word-index < length c.args.words.now = omega arith in
    let p = c.requires.by_index l.word-index h in
    let rest : List ℕ → List ℕ = used_all (slots_there t (drop (l.word-index + 1) c.args.words.now)) in (
      renew_more _ _ _ l.word-index _ l.invariant.0 (omega (arith, l.invariant.0.size)) (e.0 ∙ ap word_of (l.invariant.1.there (place_of w))),
      rw e.1 (still_more t l.table l.invariant.1 w (omega (arith, o, p, l.invariant.1.size))),
      ap rest e.1 ∙ ap (λ (n : ℕ). rest (used_all (closed_slot (condition_there l.table n)) l.table)) o
          ∙ use_more t l.table c.args.words.now l.invariant.1 l.word-index h ∙ l.invariant.2,
    )

pub shape_of-table : goal.shape_of-table
shape_of-table c = c.loop-word.invariant.1.size

pub returns : goal.returns
returns c =
    let l = c.loop-word in
    let ws = c.args.words.now in
    let h : length ws ≤ l.word-index = omega arith in (
      as_map _ ws l.words l.invariant.0.size (λ i k. l.invariant.0.new i (omega (arith, h, k))),
      use_end c.args.table.now l.table ws l.word-index h ∙ l.invariant.2,
    )
