use Prim.Native.Nat.{ℕ, ◌+◌, ◌*◌, ◌-◌, ◌<◌}
use mathlib.Core.Path.{◌≡◌, sym, ap, ◌∙◌}
use mathlib.Core.Bool.{◌&&◌}
use mathlib.Core.List.{List}
use lib.ListN.{drop}
use Rattle.layout.specs.declared.Entry.{Entry}
use Rattle.layout.specs.declared.Label.{Label}
use Rattle.layout.specs.MetaPage.{entry_at, rows_from}
use Rattle.layout.specs.Places.{meta_pages}
use Rattle.layout.proofs.Loops.{go_on, stop}
use Rattle.protocol.specs.Recovery.{metas_of, entry_in}
use Rattle.image_rules.specs.Twice.{visited, page_end, all_fresh}
use Rattle.stored.proofs.StoredLaws.{page-read}
use Rattle.image_rules.proofs.TwiceLaws.{entry_on, page_first, pages_all, page_over, fresh-left, fresh_end}
use native.Mathlib.Omega.{arith}
use Rattle.image_rules.proofs.twice.pass.Goals as goal
use Rattle.image_rules.proofs.twice.pass.Goals.{In-loop-p, In-loop-s, After-visit}

-- the page at hand: its number, and its first slot
number : (c : In-loop-p) → c.loop-p.p < meta_pages c.args.l
number c = omega (arith, c.meta_pages-m.ensures, c.loop-p-test.true)

first : (c : In-loop-p) → 240 * c.loop-p.p < c.args.l.slots
first c = page_first c.args.l c.loop-p.p (number c)

pub overflow_mul-first : goal.overflow_mul-first
overflow_mul-first c = omega (arith, first (goal.at.overflow_mul-first c).In-loop-p, c.requires.limits.slots-most)

pub page_end-end-requires-clause-s_lt_slots : goal.page_end-end-requires-clause-s_lt_slots
page_end-end-requires-clause-s_lt_slots c = first (goal.at.page_end-end-requires-clause-s_lt_slots c).In-loop-p

pub entry_at-entry-requires-clause-page_len : goal.entry_at-entry-requires-clause-page_len
entry_at-entry-requires-clause-page_len c =
    (page-read c.args.l _ _ c.loop-p.p c.requires.ssd_len (number (goal.at.entry_at-entry-requires-clause-page_len c).In-loop-p) c.meta_page-page.ensures).1

-- the entry of a slot, and the visit to the one at hand
abbrev entry : List ℕ → Label → ℕ → Entry
entry ssd l k = entry_in (metas_of l ssd) (record { 0 = k })

visit_is : (c : After-visit) → (record { fresh = c.visit.result; map = c.visit.new.map })
    ≡ visited c.args.start c.loop-s.map (entry c.args.ssd.now c.args.l c.loop-s.s).block.0 (entry c.args.ssd.now c.args.l c.loop-s.s).flags
visit_is c =
    let q = c.loop-s in
    let p = c.loop-p.p in
    let z = c.page_end-end.ensures in
    let e = c.entry_at-entry.ensures
    ∙ ap (λ (x : List ℕ). entry_at x (q.s - 240 * p))
    (page-read c.args.l _ _ p c.requires.ssd_len (number (goal.at.After-visit c).In-loop-p) c.meta_page-page.ensures).0
    ∙ entry_on (metas_of c.args.l c.args.ssd.now) q.s p (q.s - 240 * p) (omega arith) (omega (arith, z)) in
    c.visit.ensures ∙ ap (λ (x : Entry). visited c.args.start q.map x.block.0 x.flags) e

row : (c : After-visit) → all_fresh c.args.start c.loop-s.map (drop (2 * c.loop-s.s) (rows_from c.args.l.slots (entry c.args.ssd.now c.args.l)))
    ≡ (c.visit.result && all_fresh c.args.start c.visit.new.map (drop (2 * (c.loop-s.s + 1)) (rows_from c.args.l.slots (entry c.args.ssd.now c.args.l))))
row c =
    let q = c.loop-s in
    rw (← visit_is c) at
    (fresh-left c.args.start q.map c.args.l.slots (entry c.args.ssd.now c.args.l) q.s (omega (arith, c.page_end-end.ensures)))

pub returns-then-not-visit : goal.returns-then-not-visit
returns-then-not-visit c =
    stop _ _ (c.loop-s.invariant.1 ∙ c.loop-p.invariant.1) (row (goal.at.returns-then-not-visit c).After-visit) c.if-not-visit.true

pub loop-s-preserved : goal.loop-s-preserved
loop-s-preserved c = (
  omega (arith, c.visit.auto, c.loop-s.invariant.0),
  go_on _ _ c.loop-s.invariant.1 (row (goal.at.loop-s-preserved c).After-visit) c.if-not-visit.false,
)

pub loop-p-preserved : goal.loop-p-preserved
loop-p-preserved c =
    let q = c.loop-s in
    let p = c.loop-p.p in
    let k = first (goal.at.loop-p-preserved c).In-loop-p in
    let e : q.s ≡ page_end (240 * p) c.args.l.slots = omega (arith, c.page_end-end.ensures) in
    let d : 240 * p + 240 ≡ 240 * (p + 1) = omega arith in (
      q.invariant.0,
      rw (← d, ← page_over c.args.start q.map c.args.l.slots (entry c.args.ssd.now c.args.l) (240 * p), ← e) (q.invariant.1 ∙ c.loop-p.invariant.1),
    )

pub returns : goal.returns
returns c =
    let l = c.loop-p in
    sym (fresh_end c.args.start l.map c.args.l.slots (entry c.args.ssd.now c.args.l) (240 * l.p) (pages_all c.args.l l.p (omega arith))) ∙ l.invariant.1
