use borrow.Author.Rules.{rules}
use Prim.Native.Nat.{ℕ, ◌+◌, ◌≤◌, ◌<◌}
use mathlib.Core.Path.{◌≡◌, refl, sym, ◌∙◌}
use mathlib.Core.Bool.{Bool, true, false}
use Rattle.layout.specs.PageRule.{passes, read_down, field_test}
use Rattle.layout.proofs.Booleans.{and_of, skip}
use Rattle.layout.proofs.RuleLaws.{count-rule}
use Rattle.layout.proofs.RowLaws.{read_next, read_less, read_more, read_all}
use native.Mathlib.Omega.{arith}
use Rattle.page_rule.proofs.read_down.Goals as goal
use Rattle.page_rule.proofs.read_down.Goals.{Else-not-all_zero, Else-not-all_zero-2, Else-not-legal_count, Else-not-legal_entries, Else-not-legal_window, Start}

-- the page read down to a row, and the test of one row
module _ (s : Start) where
  abbrev Read : ℕ → Bool
  Read k = read_down k s.args.l s.args.p s.args.page.now

  abbrev Field : ℕ → Bool
  Field row = field_test row s.args.l s.args.p s.args.page.now

  first : Read 1 ≡ true
  unfolding passes
  first = refl

  next : (k : ℕ) → Read k ≡ true → Field (k + 1) ≡ true → Read (k + 1) ≡ true
  next k e f = read_next _ _ _ k ∙ and_of e f

  -- told to stop after k rows, which pass; refused by the row after these
  stops : (k : ℕ) → Read k ≡ true → s.args.rows ≤ k → true ≡ Read s.args.rows
  stops k e h = sym (read_less _ _ _ k s.args.rows h e)

  refuses : (k : ℕ) → Read k ≡ true → Field (k + 1) ≡ false → k < s.args.rows → false ≡ Read s.args.rows
  refuses k e f h = sym (read_more _ _ _ (k + 1) s.args.rows (omega arith) (read_next _ _ _ k ∙ skip _ e ∙ f))

-- the rows that are passed at each place
abbrev start2 : Else-not-legal_count → Start
start2 c = (goal.at.Else-not-legal_count c).Start

count-passed : (c : Else-not-legal_count) → Field (start2 c) 2 ≡ true
count-passed c = sym c.legal_count.ensures ∙ c.if-not-legal_count.false

passed2 : (c : Else-not-legal_count) → Read (start2 c) 2 ≡ true
passed2 c = next (start2 c) 1 (first (start2 c)) (count-passed c)

abbrev start4 : Else-not-all_zero → Start
start4 c = start2 (goal.at.Else-not-all_zero c).Else-not-legal_count

passed4 : (c : Else-not-all_zero) → Read (start4 c) 3 ≡ true
passed4 c =
    next (start4 c) 2 (passed2 (goal.at.Else-not-all_zero c).Else-not-legal_count) (sym c.all_zero.ensures ∙ c.if-not-all_zero.false)

abbrev start6 : Else-not-legal_window → Start
start6 c = start4 (goal.at.Else-not-legal_window c).Else-not-all_zero

passed6 : (c : Else-not-legal_window) → Read (start6 c) 4 ≡ true
passed6 c =
    next (start6 c) 3 (passed4 (goal.at.Else-not-legal_window c).Else-not-all_zero) (sym c.legal_window.ensures ∙ c.if-not-legal_window.false)

abbrev start8 : Else-not-all_zero-2 → Start
start8 c = start6 (goal.at.Else-not-all_zero-2 c).Else-not-legal_window

passed8 : (c : Else-not-all_zero-2) → Read (start8 c) 5 ≡ true
passed8 c =
    let f = sym c.all_zero-2.ensures ∙ c.if-not-all_zero-2.false in
    next (start8 c) 4 (passed6 (goal.at.Else-not-all_zero-2 c).Else-not-legal_window) f

abbrev start10 : Else-not-legal_entries → Start
start10 c = start8 (goal.at.Else-not-legal_entries c).Else-not-all_zero-2

passed10 : (c : Else-not-legal_entries) → Read (start10 c) 6 ≡ true
passed10 c =
    let f = sym c.legal_entries.ensures ∙ c.if-not-legal_entries.false in
    next (start10 c) 5 (passed8 (goal.at.Else-not-legal_entries c).Else-not-all_zero-2) f

pub returns-then-rows-lt2 : goal.returns-then-rows-lt2
returns-then-rows-lt2 c = stops (goal.at.returns-then-rows-lt2 c).Start 1 (first (goal.at.returns-then-rows-lt2 c).Start) (omega arith)

pub returns-then-not-legal_count : goal.returns-then-not-legal_count
returns-then-not-legal_count c =
    refuses (goal.at.returns-then-not-legal_count c).Start 1 (first (goal.at.returns-then-not-legal_count c).Start) (sym c.legal_count.ensures ∙ c.if-not-legal_count.true) (omega arith)

pub returns-then-rows-lt3 : goal.returns-then-rows-lt3
returns-then-rows-lt3 c = stops (start2 (goal.at.returns-then-rows-lt3 c).Else-not-legal_count) 2 (passed2 (goal.at.returns-then-rows-lt3 c).Else-not-legal_count) (omega arith)

pub returns-then-not-all_zero : goal.returns-then-not-all_zero
returns-then-not-all_zero c =
    refuses (start2 (goal.at.returns-then-not-all_zero c).Else-not-legal_count) 2 (passed2 (goal.at.returns-then-not-all_zero c).Else-not-legal_count) (sym c.all_zero.ensures ∙ c.if-not-all_zero.true) (omega arith)

pub returns-then-rows-lt4 : goal.returns-then-rows-lt4
returns-then-rows-lt4 c = stops (start4 (goal.at.returns-then-rows-lt4 c).Else-not-all_zero) 3 (passed4 (goal.at.returns-then-rows-lt4 c).Else-not-all_zero) (omega arith)

pub legal_window-requires : goal.legal_window-requires
legal_window-requires c = record {
  page_len = search rules;
  page_bound = ((count-rule _).0 (count-passed (goal.at.legal_window-requires c).Else-not-legal_count)).most;
}

pub returns-then-not-legal_window : goal.returns-then-not-legal_window
returns-then-not-legal_window c =
    refuses (start4 (goal.at.returns-then-not-legal_window c).Else-not-all_zero) 3 (passed4 (goal.at.returns-then-not-legal_window c).Else-not-all_zero) (sym c.legal_window.ensures ∙ c.if-not-legal_window.true) (omega arith)

pub returns-then-rows-lt5 : goal.returns-then-rows-lt5
returns-then-rows-lt5 c = stops (start6 (goal.at.returns-then-rows-lt5 c).Else-not-legal_window) 4 (passed6 (goal.at.returns-then-rows-lt5 c).Else-not-legal_window) (omega arith)

pub returns-then-not-all_zero-2 : goal.returns-then-not-all_zero-2
returns-then-not-all_zero-2 c =
    let f = sym c.all_zero-2.ensures ∙ c.if-not-all_zero-2.true in
    refuses (start6 (goal.at.returns-then-not-all_zero-2 c).Else-not-legal_window) 4 (passed6 (goal.at.returns-then-not-all_zero-2 c).Else-not-legal_window) f (omega arith)

pub returns-then-rows-lt6 : goal.returns-then-rows-lt6
returns-then-rows-lt6 c = stops (start8 (goal.at.returns-then-rows-lt6 c).Else-not-all_zero-2) 5 (passed8 (goal.at.returns-then-rows-lt6 c).Else-not-all_zero-2) (omega arith)

pub returns-then-not-legal_entries : goal.returns-then-not-legal_entries
returns-then-not-legal_entries c =
    let f = sym c.legal_entries.ensures ∙ c.if-not-legal_entries.true in
    refuses (start8 (goal.at.returns-then-not-legal_entries c).Else-not-all_zero-2) 5 (passed8 (goal.at.returns-then-not-legal_entries c).Else-not-all_zero-2) f (omega arith)

pub returns-then-rows-lt7 : goal.returns-then-rows-lt7
returns-then-rows-lt7 c = stops (start10 (goal.at.returns-then-rows-lt7 c).Else-not-legal_entries) 6 (passed10 (goal.at.returns-then-rows-lt7 c).Else-not-legal_entries) (omega arith)

pub returns : goal.returns
returns c =
    let s = start10 (goal.at.returns c).Else-not-legal_entries in
    let a = read_all s.args.l s.args.p s.args.page.now s.args.rows (omega arith) in
    c.all_zero-3.ensures ∙ sym (a ∙ read_next _ _ _ 6 ∙ skip _ (passed10 (goal.at.returns c).Else-not-legal_entries))
