-- The table of a reopened box, filled row by row, and its record.
use Prim.Native.Nat.{ℕ, zero, suc, ◌+◌, ◌*◌, ◌≤◌, ◌<◌}
use mathlib.Core.Path.{◌≡◌, refl, sym, ap, ◌∙◌}
use mathlib.Core.Bool.{Bool, true, false, ◌&&◌, ◌||◌}
use mathlib.Core.List.{List, [], ◌∷◌, ◌++◌, append_assoc}
use native.Mathlib.Omega.{arith}
use native.Mathlib.Numerals.{add-one}
use lib.ListN.{length, get_or, set, take, drop, length-set, drop_of_length-le}
use lib.Seq.{take-suc-set, take_all}
use lib.Dec.{eqb, ltb}
use borrow.Author.Tests.{eq-eqb, ne_eqb, ltb-true, eqb-true}
use Rattle.layout.specs.declared.Slot.{Slot}
use Rattle.layout.specs.declared.Entry.{Entry}
use Rattle.layout.specs.declared.Label.{Label}
use Rattle.layout.specs.MetaPage.{rows_from}
use Rattle.layout.specs.PageRule.{listed, in_range}
use Rattle.record.specs.declared.Record.{Record}
use Rattle.protocol.specs.Rows.{valid, writing, set_row}
use Rattle.protocol.specs.Recovery.{entry_in, Newest, newest_of, all_open_in, free_entry, recovered, recover}
use Rattle.layout.proofs.Booleans.{Told, told, told_true, told_false, clash, and_parts}
use Rattle.record.proofs.WindowLaws.{take-array}
use Rattle.layout.proofs.Loops.{left}
use Rattle.layout.specs.declared.Window.{Window}
use Rattle.layout.specs.Window.{slots_in, window_from}
use Rattle.record.specs.declared.Phase.{Phase}
use Rattle.record.specs.Record.{record_with}
use Rattle.recovery.specs.Fill.{kept_entry, freed}
use Rattle.steps.specs.Pending.{phase_at}
use Rattle.steps.proofs.MendLaws.{phase_at_lem}

-- one row more
rows_more : (n : ℕ) (f : ℕ → Entry) → rows_from (suc n) f ≡ rows_from n f ++ ((f n).block.0 ∷ (f n).flags ∷ [])
unfolding rows_from
rows_more zero f = refl
rows_more (suc n) f = ap (λ (t : List ℕ). (f 0).block.0 ∷ (f 0).flags ∷ t) (rows_more n (λ k. f (suc k)))

pub row-filled : (table : List ℕ) (f : ℕ → Entry) (e : Entry) (s : ℕ) → 2 * s + 1 < length table → e ≡ f s
    → take (2 * s) table ≡ rows_from s f
    → take (2 * (s + 1)) (set (set table (2 * s) e.block.0) (2 * s + 1) e.flags) ≡ rows_from (s + 1) f
row-filled table f e s h g i =
    let z : 2 * (s + 1) ≡ suc (2 * s + 1) = omega arith in
    let k : 2 * s + 1 < length (set table (2 * s) e.block.0) = rw (length-set table (2 * s) e.block.0) h in
    let a : 2 * s < length table = omega arith in
    ap (λ (n : ℕ). take n (set (set table (2 * s) e.block.0) (2 * s + 1) e.flags)) z
    ∙ take-suc-set (set table (2 * s) e.block.0) (2 * s + 1) e.flags k
    ∙ ap (λ (n : ℕ). take n (set table (2 * s) e.block.0) ++ (e.flags ∷ [])) (add-one (2 * s))
    ∙ ap (λ (t : List ℕ). t ++ (e.flags ∷ [])) (take-suc-set table (2 * s) e.block.0 a)
    ∙ append_assoc (take (2 * s) table) (e.block.0 ∷ []) (e.flags ∷ [])
    ∙ ap (λ (t : List ℕ). t ++ (e.block.0 ∷ e.flags ∷ [])) i
    ∙ ap (λ (x : Entry). rows_from s f ++ (x.block.0 ∷ x.flags ∷ [])) g
    ∙ sym (rows_more s f) ∙ ap (λ (n : ℕ). rows_from n f) (sym (add-one s))

pub rows-filled : (table : List ℕ) (f : ℕ → Entry) (s n : ℕ) → s ≤ n → n ≤ s → length table ≡ 2 * n → take (2 * s) table ≡ rows_from s f
    → table ≡ rows_from n f
rows-filled table f s n h k size i =
    let q : s ≡ n = omega arith in
    sym (take_all (2 * s) table (omega arith)) ∙ i ∙ ap (λ (m : ℕ). rows_from m f) q

-- rows by their entries
rows_ext : (n : ℕ) (f g : ℕ → Entry) → ((k : ℕ) → f k ≡ g k) → rows_from n f ≡ rows_from n g
unfolding rows_from
rows_ext zero f g h = refl
rows_ext (suc n) f g h = rw (h 0, rows_ext n (λ k. f (suc k)) (λ k. g (suc k)) (λ k. h (suc k)))

abbrev free_if : Bool → Entry → Entry
free_if true e = free_entry
free_if false e = e

eqb-suc : (m n : ℕ) → eqb m n ≡ eqb (suc m) (suc n)
eqb-suc m n = go (told (eqb m n))
  where
    go : Told (eqb m n) → eqb m n ≡ eqb (suc m) (suc n)
    go (told_true e) = rw (e, eq-eqb (suc m) (suc n) (ap suc (eqb-true m n e)))
    go (told_false e) = rw (e, ne_eqb (suc m) (suc n) (λ z. clash (eq-eqb m n (omega arith)) e))

-- a row that is zeroed
row-freed : (n : ℕ) (f : ℕ → Entry) (s : ℕ) → s < n
    → set (set (rows_from n f) (2 * s) 0) (2 * s + 1) 0 ≡ rows_from n (λ u. free_if (eqb u s) (f u))
unfolding rows_from
row-freed zero f s h = absurd (omega arith)
row-freed (suc n) f zero h =
    ap (λ (t : List ℕ). 0 ∷ 0 ∷ t)
    (rows_ext n (λ k. f (suc k)) (λ k. free_if (eqb (suc k) 0) (f (suc k))) (λ k. rw (ne_eqb (suc k) 0 (omega arith))))
row-freed (suc n) f (suc s) h =
    let a : 2 * suc s ≡ suc (suc (2 * s)) = omega arith in
    let b : 2 * suc s + 1 ≡ suc (suc (2 * s + 1)) = omega arith in
    rw (b, a, ne_eqb 0 (suc s) (omega arith))
    (ap (λ (t : List ℕ). (f 0).block.0 ∷ (f 0).flags ∷ t)
    (row-freed n (λ k. f (suc k)) s (omega arith)
    ∙ rows_ext n (λ u. free_if (eqb u s) (f (suc u))) (λ u. free_if (eqb (suc u) (suc s)) (f (suc u))) (λ u. rw (eqb-suc u s))))

rows-freed : (l : Label) (w : List Slot) (f : ℕ → Entry) → in_range l w ≡ true
    → freed w (rows_from l.slots f) ≡ rows_from l.slots (λ u. free_if (listed (record { 0 = u }) w) (f u))
unfolding freed in_range listed
rows-freed l [] f e = refl
rows-freed l (s ∷ w) f e =
    let low : s.0 < l.slots = ltb-true _ _ (and_parts (ltb s.0 l.slots) (in_range l w) e).0 in
    ap (freed w) (row-freed l.slots f s.0 low)
    ∙ rows-freed l w (λ u. free_if (eqb u s.0) (f u)) (and_parts (ltb s.0 l.slots) (in_range l w) e).1
    ∙ rows_ext l.slots (λ u. free_if (listed (record { 0 = u }) w) (free_if (eqb u s.0) (f u)))
    (λ u. free_if (eqb u s.0 || listed (record { 0 = u }) w) (f u)) (λ u. go (eqb u s.0) (listed (record { 0 = u }) w) (f u))
  where
    go : (a b : Bool) (x : Entry) → free_if b (free_if a x) ≡ free_if (a || b) x
    go true true x = refl
    go true false x = refl
    go false b x = refl

-- the row of each of a window's slots, in turn
pub freed-left : (w : List Slot) (i : ℕ) (d : Slot) (table : List ℕ) → i < length w
    → freed (drop i w) table ≡ freed (drop (i + 1) w) (set_row table (get_or w i d) (record { 0 = 0 }) 0)
unfolding freed
freed-left w i d table h = rw (left w i d h)

pub freed_end : (w : List Slot) (i : ℕ) (table : List ℕ) → length w ≤ i → freed (drop i w) table ≡ table
unfolding freed
freed_end w i table h = rw (drop_of_length-le w {i = i} h)

-- a slot of the newest window has a valid, writing entry
open_at : (pages : List (List ℕ)) (w : List Slot) (s : Slot) → all_open_in pages w ≡ true → listed s w ≡ true
    → (valid (entry_in pages s).flags ≡ true) × (writing (entry_in pages s).flags ≡ true)
unfolding all_open_in listed
open_at pages [] s e h = clash h refl
open_at pages (t ∷ w) s e h = go (told (eqb s.0 t.0)) (open_at pages w s)
  where
    first : (valid (entry_in pages t).flags && writing (entry_in pages t).flags) ≡ true
    first = (and_parts (valid (entry_in pages t).flags && writing (entry_in pages t).flags) _ e).0

    go : Told (eqb s.0 t.0)
        → (all_open_in pages w ≡ true → listed s w ≡ true → (valid (entry_in pages s).flags ≡ true) ×
        (writing (entry_in pages s).flags ≡ true))
        → (valid (entry_in pages s).flags ≡ true) × (writing (entry_in pages s).flags ≡ true)
    go (told_true q) ih =
        let same : s ≡ t = ap (λ (n : ℕ). record { 0 = n }) (eqb-true s.0 t.0 q) in
        rw same ((and_parts (valid (entry_in pages t).flags) _ first).0, (and_parts (valid (entry_in pages t).flags) _ first).1)
    go (told_false q) ih = ih (and_parts (valid (entry_in pages t).flags && writing (entry_in pages t).flags) _ e).1 (rw q at h)

-- it is dropped, and any other is kept
kept-recovered : (pages : List (List ℕ)) (w : List Slot) (s : Slot) → all_open_in pages w ≡ true
    → free_if (listed s w) (kept_entry (entry_in pages s)) ≡ recovered w s (entry_in pages s)
kept-recovered pages w s e = go (told (listed s w)) (told (valid (entry_in pages s).flags)) (told (writing (entry_in pages s).flags))
  where
    go : Told (listed s w) → Told (valid (entry_in pages s).flags) → Told (writing (entry_in pages s).flags)
        → free_if (listed s w) (kept_entry (entry_in pages s)) ≡ recovered w s (entry_in pages s)
    go (told_true h) v o = let q = open_at pages w s e h in rw (recovered, q.0, q.1, h)
    go (told_false h) (told_false v) o = rw (recovered, h, v)
    go (told_false h) (told_true v) (told_true o) = rw (recovered, v, o, h)
    go (told_false h) (told_true v) (told_false o) = rw (recovered, v, o, h)

pub table-recovered : (l : Label) (pages : List (List ℕ)) (w : List Slot) → in_range l w ≡ true → all_open_in pages w ≡ true
    → freed w (rows_from l.slots (λ s. kept_entry (entry_in pages (record { 0 = s }))))
    ≡ rows_from l.slots (λ s. recovered w (record { 0 = s }) (entry_in pages (record { 0 = s })))
table-recovered l pages w r e =
    rows-freed l w (λ s. kept_entry (entry_in pages (record { 0 = s }))) r
    ∙ rows_ext l.slots _ _ (λ s. kept-recovered pages w (record { 0 = s }) e)

pub rows_none : (f : ℕ → Entry) → [] ≡ rows_from 0 f
unfolding rows_from
rows_none f = refl

-- table and record
pub recovered_is : (l : Label) (pages : List (List ℕ)) (n : Newest) (spent : ℕ) (left : Window) (table : List ℕ) (phase : Phase)
    (state : Record)
    → n ≡ newest_of pages → left ≡ window_from n.window → in_range l n.window ≡ true
    → all_open_in pages n.window ≡ true
    → table ≡ freed (slots_in left) (rows_from l.slots (λ s. kept_entry (entry_in pages (record { 0 = s }))))
    → phase ≡ phase_at left.count → state ≡ record_with l (record { 0 = 0 }) spent phase false left
    → record { table = table; state = state } ≡ recover l pages spent
unfolding recover
recovered_is l pages n spent left table phase state N L r o T P R =
    let t : slots_in left ≡ n.window = ap slots_in L ∙ take-array n.window in
    rw (R, P, T, t, table-recovered l pages n.window r o, L, phase_at_lem n.window, N)
