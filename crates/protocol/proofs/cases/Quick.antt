-- The reports of Report.antt, computed: each event once, where `lines_of` and `run` would each ask for it, and from what a
-- format leaves, written out.
use mathlib.Core.Path.{◌≡◌, refl, ap, ◌∙◌}
use mathlib.Core.Bool.{Bool, true, false}
use mathlib.Core.List.{List, [], ◌∷◌}
use Rattle.layout.specs.declared.Block.{Block}
use Rattle.layout.specs.declared.Label.{Label}
use Rattle.protocol.specs.Reply.{refused}
use Rattle.protocol.specs.Box.{Images, Box, Effect, box_after, left}
use Rattle.protocol.specs.Plan.{Call, reopen}
use Rattle.protocol.specs.Calls.{effect_of}
use Rattle.protocol.specs.Events.{World, Memory, Arrival, Event, call, reopens, cut, called, with_memory, taken_if, reopened, survived, made, crashed, apply, run}
use Rattle.protocol.proofs.cases.Report.{Line, line_of, seen, lines_of, Report, reported, report}

-- an event's line, and the box after it
pub record Moved : Type 0 where
  pub line : Line
  pub box : Box

abbrev pub left_by_lem : Effect → Box → Box
left_by_lem e x = box_after (left e x.images)

-- a refused reopening leaves the box as it was
abbrev pub reopened_if : Bool → Box → Effect → Box → Box
reopened_if true x e y = x
reopened_if false x e y = left_by_lem e y

unfoldable pub reopens_from : Label → Memory → Box → Moved
reopens_from l j x =
    let e = effect_of reopen (with_memory j x) in
    record { line = line_of l e; box = reopened_if (refused e.said) x e (with_memory j x) }

-- the box that a cut leaves, before the reopening
abbrev pub struck_if : Bool → Images → Effect → Box → Box
struck_if true im e x = record { images = im; table = e.table; state = e.state }
struck_if false im e x = record { images = im; table = x.table; state = x.state }

abbrev box_in : Images → Box → Box
box_in im x = record { images = im; table = x.table; state = x.state }

unfoldable pub crashed_from : Call → Arrival → Box → Box
crashed_from c a x =
    let e = effect_of c x in
    struck_if (made a e.store) (survived a e.store x.images) e x

unfoldable pub moved_by : Label → Event → Box → Moved
moved_by l (call c) x =
    let e = effect_of c x in
    record { line = line_of l e; box = left_by_lem e x }
moved_by l (reopens j) x = reopens_from l j x
moved_by l (cut c a j) x = reopens_from l j (crashed_from c a x)

pub record Shown : Type 0 where
  pub lines : List Line
  pub box : Box

unfoldable pub shown_by : Label → List Event → Box → Shown
shown_by l [] x = record { lines = []; box = x }
shown_by l (e ∷ es) x =
    let m = moved_by l e x in
    let r = shown_by l es m.box in
    record { lines = m.line ∷ r.lines; box = r.box }

unfoldable pub quick : Label → List Event → List Block → Box → Report
quick l es bs x =
    let r = shown_by l es x in
    reported r.lines bs r.box

-- It is the same.
taken-box : (b : Bool) (w v : World) (e : Effect) (y : Box) → v.box ≡ left_by_lem e y → (taken_if b w v).box ≡ reopened_if b w.box e y
taken-box true w v e y h = refl
taken-box false w v e y h = h

reopened_box_lem : (l : Label) (j : Memory) (w : World) → (reopened j w).box ≡ (reopens_from l j w.box).box
unfolding reopened reopens_from called
reopened_box_lem l j w =
    taken-box
    (refused (effect_of reopen (with_memory j w.box)).said)
    w
    (called reopen (record { box = with_memory j w.box; disk = w.disk }))
    (effect_of reopen (with_memory j w.box))
    (with_memory j w.box)
    refl

crashed_if : (b : Bool) (im : Images) (c : Call) (w : World)
    → box_in im (taken_if b (called c w) w).box ≡ struck_if b im (effect_of c w.box) w.box
unfolding called
crashed_if true im c w = refl
crashed_if false im c w = refl

crashed-box : (c : Call) (a : Arrival) (w : World) → (crashed c a w).box ≡ crashed_from c a w.box
unfolding crashed crashed_from
crashed-box c a w =
    crashed_if (made a (effect_of c w.box).store) (survived a (effect_of c w.box).store w.box.images) c w

box-same : (l : Label) (e : Event) (w : World) → (apply e w).box ≡ (moved_by l e w.box).box
unfolding moved_by called
box-same l (call c) w = refl
box-same l (reopens j) w = reopened_box_lem l j w
box-same l (cut c a j) w = reopened_box_lem l j (crashed c a w) ∙ ap (λ x. (reopens_from l j x).box) (crashed-box c a w)

line_same : (l : Label) (e : Event) (w : World) → seen l e w ≡ (moved_by l e w.box).line
unfolding moved_by reopens_from
line_same l (call c) w = refl
line_same l (reopens j) w = refl
line_same l (cut c a j) w = ap (λ x. (reopens_from l j x).line) (crashed-box c a w)

run-same : (l : Label) (es : List Event) (w : World) → (run es w).box ≡ (shown_by l es w.box).box
unfolding run shown_by
run-same l [] w = refl
run-same l (e ∷ es) w = run-same l es (apply e w) ∙ ap (λ x. (shown_by l es x).box) (box-same l e w)

lines_same : (l : Label) (es : List Event) (w : World) → lines_of l es w ≡ (shown_by l es w.box).lines
unfolding lines_of shown_by
lines_same l [] w = refl
lines_same l (e ∷ es) w =
    ap (λ ls. seen l e w ∷ ls) (lines_same l es (apply e w))
    ∙ ap (λ x. seen l e w ∷ (shown_by l es x).lines) (box-same l e w)
    ∙ ap (λ k. k ∷ (shown_by l es (moved_by l e w.box).box).lines) (line_same l e w)

pub quick_same : (l : Label) (es : List Event) (bs : List Block) (w : World) → report l es bs w ≡ quick l es bs w.box
unfolding report quick
quick_same l es bs w =
    ap (λ ls. reported ls bs (run es w).box) (lines_same l es w)
    ∙ ap (λ x. reported (shown_by l es w.box).lines bs x) (run-same l es w)

-- so a script from a world whose box is known shows what is computed of that box
pub shows : (l : Label) (es : List Event) (bs : List Block) (w : World) (x : Box) (r : Report)
    → w.box ≡ x → quick l es bs x ≡ r → report l es bs w ≡ r
shows l es bs w x r e h = quick_same l es bs w ∙ ap (quick l es bs) e ∙ h
