-- A run, draw by draw, and the format before it.
use Prim.Native.Nat.{ℕ, suc, ◌+◌, ◌-◌, ◌≤◌, ◌<◌}
use mathlib.Core.Path.{◌≡◌, sym, ap, ◌∙◌}
use mathlib.Core.Bool.{Bool, true, false}
use mathlib.Core.List.{List}
use native.Mathlib.Omega.{arith}
use native.Mathlib.Numerals.{add-one}
use Rattle.pages.specs.Pages.{page_at}
use Rattle.layout.specs.Places.{meta_pages, meta_span}
use Rattle.protocol.specs.Box.{Box, Result, box_after}
use Rattle.protocol.specs.Plan.{format, step}
use Rattle.protocol.specs.Calls.{result_of}
use Rattle.protocol.specs.Events.{read_of, steps, formatted}
use Rattle.draws.specs.Draws.{drawn}
use Rattle.load_turns.specs.Turns.{Turned, turned}
use Rattle.load_text.specs.LoadText.{counted}
use Rattle.load_run.specs.Runs.{Load, drawn_on, run_from, same, equal_to}

-- a format and its three steps
pub prepared : (x : Box) (a b c d : Result) → a ≡ result_of (format 4 8) x → b ≡ result_of step (box_after a) → c ≡ result_of step (box_after b)
    → d ≡ result_of step (box_after c) → box_after d ≡ formatted 4 8 x
unfolding formatted steps meta_span meta_pages
prepared x a b c d p q r s =
    let next : Box → Box = λ y. box_after (result_of step y) in
    ap box_after s ∙ ap (λ (v : Result). next (box_after v)) r ∙ ap (λ (v : Result). next (next (box_after v))) q
    ∙ ap (λ (v : Result). next (next (next (box_after v)))) p

-- no draw yet
pub run_none : (draws s : ℕ) (l : Load) → run_from (draws - 0) s l ≡ run_from draws s l
run_none draws s l =
    let k : draws - 0 ≡ draws = omega arith in
    ap (λ (m : ℕ). run_from m s l) k

-- a draw more
pub run_more : (draws i s next : ℕ) (l : Load) (t : Turned) (n : ℕ) → i < draws → next ≡ drawn s → t ≡ turned next l.box l.plain
    → n ≡ counted t.refused l.refusals
    → run_from (draws - (i + 1)) next (record { box = t.box; plain = t.plain; refusals = n }) ≡ run_from (draws - i) s l
unfolding run_from
run_more draws i s next l t n h e f g =
    let k : draws - i ≡ suc (draws - (i + 1)) = omega arith in
    ap (λ (m : ℕ). run_from (draws - (i + 1)) next (record { box = t.box; plain = t.plain; refusals = m })) g
    ∙ ap (λ (u : Turned). run_from (draws - (i + 1)) next (drawn_on u l.refusals)) f
    ∙ ap (λ (v : ℕ). run_from (draws - (i + 1)) v (drawn_on (turned v l.box l.plain) l.refusals)) e
    ∙ ap (λ (m : ℕ). run_from m s l) (sym k)

pub counted-most : (so : Bool) (n r : ℕ) → r ≡ counted so n → r ≤ n + 1
counted-most true n r e = omega arith
counted-most false n r e = omega arith

-- every draw
pub run-done : (draws i s : ℕ) (l : Load) → draws ≤ i → run_from (draws - i) s l ≡ l
unfolding run_from
run-done draws i s l h =
    let k : draws - i ≡ 0 = omega arith in
    ap (λ (m : ℕ). run_from m s l) k

-- a block more
pub equal_more : (b : ℕ) (x : Box) (plain : List ℕ) → counted (same (read_of x (record { 0 = b })) (page_at plain b)) (equal_to b x plain)
    ≡ equal_to (b + 1) x plain
unfolding equal_to
equal_more b x plain = rw add-one
