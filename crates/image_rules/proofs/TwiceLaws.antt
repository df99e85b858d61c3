-- A block in two entries: what a pass over a range finds, and that the passes together find all.
use Prim.Native.Nat.{ℕ, suc, ◌+◌, ◌-◌, ◌*◌, ◌/◌, ◌%◌, ◌≤◌, ◌<◌}
use mathlib.Core.Path.{◌≡◌, refl, sym, ap, ◌∙◌}
use mathlib.Core.Logic.{◌⊎◌, inl, inr}
use mathlib.Core.Bool.{Bool, true, false, not, ◌&&◌, ◌||◌}
use mathlib.Core.List.{List, [], ◌∷◌}
use native.Mathlib.Omega.{arith}
use native.Mathlib.Decide.{dec_lt}
use lib.ListN.{length, get_or, drop, replicate, drop_of_length-le, length-set, length-replicate}
use lib.Seq.{drop-cons}
use lib.Dec.{eqb, leb, ltb}
use borrow.Author.Tests.{eq-eqb, ne_eqb, le-leb, lt-leb, leb-true, lt-ltb, le-ltb, ltb-true, eqb-true}
use Rattle.layout.specs.declared.Label.{Label}
use Rattle.layout.specs.declared.Entry.{Entry}
use Rattle.layout.specs.Places.{meta_pages}
use Rattle.layout.specs.MetaPage.{entry_at, rows_from}
use Rattle.layout.proofs.Booleans.{Told, told, told_true, told_false, clash, and_assoc, and_parts}
use Rattle.layout.proofs.RuleLaws.{page-rule}
use Rattle.protocol.specs.Rows.{valid, each_row}
use Rattle.protocol.specs.Recovery.{entry_in, each_legal, block_in, none_twice, stored_rows}
use Rattle.laws.proofs.refine.Entries.{length-rows, rows-block, rows_flags}
use Rattle.laws.proofs.refine.Tables.{each_of}
use Rattle.image_rules.specs.Twice.{bit_of, marked, in_span, visited, page_end, all_fresh}
use Rattle.image_rules.proofs.BitLaws.{bit_marked, bit_none}
use Rattle.stored.proofs.StoredLaws.{legal_at}

-- a range is the blocks of one quotient, since it begins at a multiple of its length
pub out_of_span : (start block : ℕ) → start % 524288 ≡ 0 → (block / 524288 ≡ start / 524288 → ⊥) → in_span start block ≡ false
out_of_span start block m h = go (dec_lt block start)
  where
    go : Dec (block < start) → in_span start block ≡ false
    go (yes k) = rw (lt-leb start block k)
    go (no k) = rw (le-leb start block (omega arith), le-ltb (block - start) 524288 (omega (arith, m, h)))

pub in_span_lem : (start block : ℕ) → start % 524288 ≡ 0 → block / 524288 ≡ start / 524288 → in_span start block ≡ true
in_span_lem start block m h = rw (le-leb start block (omega arith), lt-ltb (block - start) 524288 (omega arith))

-- no block of a kind is in two rows; no valid row's block in the range is marked
unfoldable pub none_among : (ℕ → Bool) → List ℕ → Bool
none_among kind [] = true
none_among kind (block ∷ []) = true
none_among kind (block ∷ flags ∷ rows) = not ((valid flags && kind block) && block_in block rows) && none_among kind rows

unfoldable none_marked : ℕ → List ℕ → List ℕ → Bool
none_marked start map [] = true
none_marked start map (block ∷ []) = true
none_marked start map (block ∷ flags ∷ rows) =
    not ((valid flags && in_span start block) && bit_of map (block - start)) && none_marked start map rows

span_low : (start block : ℕ) → in_span start block ≡ true → (start ≤ block) × (block - start < 524288)
span_low start block e = (leb-true _ _ (and_parts (leb start block) _ e).0, ltb-true _ _ (and_parts (leb start block) _ e).1)

-- one row, after a mark: its bit was set before, or its block is the one that was marked
one-marked : (start : ℕ) (map : List ℕ) (x y g : ℕ) → length map ≡ 16384 → in_span start x ≡ true
    → ((valid g && in_span start y) && bit_of (marked map (x - start)) (y - start))
    ≡ (((valid g && in_span start y) && bit_of map (y - start)) || (valid g && eqb y x))
one-marked start map x y g size e = go (valid g) (told (in_span start y))
  where
    low : (start ≤ x) × (x - start < 524288)
    low = span_low start x e

    same : start ≤ y → eqb (y - start) (x - start) ≡ eqb y x
    same k = pick (told (eqb y x))
      where
        pick : Told (eqb y x) → eqb (y - start) (x - start) ≡ eqb y x
        pick (told_true q) = rw (q, eqb-true y x q) (eq-eqb (x - start) (x - start) refl)
        pick (told_false q) = rw q (ne_eqb (y - start) (x - start) (λ z. clash (eq-eqb y x (omega (arith, low.0))) q))

    go : (v : Bool) → Told (in_span start y)
        → ((v && in_span start y) && bit_of (marked map (x - start)) (y - start)) ≡
        (((v && in_span start y) && bit_of map (y - start)) || (v && eqb y x))
    go false s = refl
    go true (told_true s) = rw s (bit_marked map (x - start) (y - start) size low.1 ∙ rw (same (span_low start y s).0))
    go true (told_false s) = rw (s, ne_eqb y x (λ z. clash (rw z e) s))

not-or : (a n e b : Bool) → (not (a || e) && (n && not b)) ≡ ((not a && n) && not (e || b))
not-or true n e b = refl
not-or false n true b = go n
  where
    go : (n : Bool) → false ≡ (n && false)
    go true = refl
    go false = refl
not-or false n false b = refl

marks_split : (start : ℕ) (map : List ℕ) (x : ℕ) (rows : List ℕ) → length map ≡ 16384 → in_span start x ≡ true
    → none_marked start (marked map (x - start)) rows ≡ (none_marked start map rows && not (block_in x rows))
unfolding none_marked block_in
marks_split start map x [] size e = refl
marks_split start map x (y ∷ []) size e = refl
marks_split start map x (y ∷ g ∷ rows) size e =
    rw (one-marked start map x y g size e, marks_split start map x rows size e)
    (not-or ((valid g && in_span start y) && bit_of map (y - start)) (none_marked start map rows) (valid g && eqb y x) (block_in x rows))

length_marked : (map : List ℕ) (b : ℕ) → length (marked map b) ≡ length map
unfolding marked
length_marked map b = length-set map (b / 32) _

-- a pass from a map: nothing that is marked there, and nothing twice
fresh_from : (start : ℕ) (map rows : List ℕ) → length map ≡ 16384
    → all_fresh start map rows ≡ (none_marked start map rows && none_among (in_span start) rows)
unfolding all_fresh none_marked none_among
fresh_from start map [] size = refl
fresh_from start map (x ∷ []) size = refl
fresh_from start map (x ∷ f ∷ rows) size =
    go (told (valid f && in_span start x)) (told (bit_of map (x - start))) (λ m q. fresh_from start m rows q)
  where
    go : Told (valid f && in_span start x) → Told (bit_of map (x - start))
        → ((m : List ℕ) → length m ≡ 16384 → all_fresh start m rows ≡ (none_marked start m rows && none_among (in_span start) rows))
        → ((visited start map x f).fresh && all_fresh start (visited start map x f).map rows)
        ≡ ((not ((valid f && in_span start x) && bit_of map (x - start)) && none_marked start map rows)
        && (not ((valid f && in_span start x) && block_in x rows) && none_among (in_span start) rows))
    go (told_false v) m ih = rw v (ih map size)
    go (told_true v) (told_true m) ih = rw (v, m)
    go (told_true v) (told_false m) ih =
        let s = (and_parts (valid f) (in_span start x) v).1 in
        rw (v, m)
        (ih (marked map (x - start)) (length_marked map (x - start) ∙ size)
        ∙ rw (marks_split start map x rows size s)
        (and_assoc (none_marked start map rows) (not (block_in x rows)) (none_among (in_span start) rows)))

unmarked : (start : ℕ) (rows : List ℕ) → none_marked start (replicate 16384 0) rows ≡ true
unfolding none_marked
unmarked start [] = refl
unmarked start (x ∷ []) = refl
unmarked start (x ∷ f ∷ rows) = rw (unmarked start rows) (go (valid f) (told (in_span start x)))
  where
    go : (v : Bool) → Told (in_span start x) → (not ((v && in_span start x) && bit_of (replicate 16384 0) (x - start)) && true) ≡ true
    go false s = refl
    go true (told_true s) = rw (s, bit_none (x - start) (span_low start x s).1)
    go true (told_false s) = rw s

range_is : (start : ℕ) (rows : List ℕ) → all_fresh start (replicate 16384 0) rows ≡ none_among (in_span start) rows
range_is start rows = fresh_from start (replicate 16384 0) rows (length-replicate {A = ℕ} 16384 0) ∙ rw (unmarked start rows)

-- kinds of blocks
among_never : (kind : ℕ → Bool) → ((b : ℕ) → kind b ≡ false) → (rows : List ℕ) → none_among kind rows ≡ true
unfolding none_among
among_never kind n [] = refl
among_never kind n (x ∷ []) = refl
among_never kind n (x ∷ f ∷ rows) = rw (n x, among_never kind n rows) (go (valid f))
  where
    go : (v : Bool) → (not ((v && false) && block_in x rows) && true) ≡ true
    go true = refl
    go false = refl

among_either : (p q r : ℕ → Bool) → ((b : ℕ) → r b ≡ true → (p b ≡ true) ⊎ (q b ≡ true)) → (rows : List ℕ) → none_among p rows ≡ true
    → none_among q rows ≡ true → none_among r rows ≡ true
unfolding none_among
among_either p q r c [] e f = refl
among_either p q r c (x ∷ []) e f = refl
among_either p q r c (x ∷ g ∷ rows) e f =
    rw (among_either p q r c rows (and_parts (not ((valid g && p x) && block_in x rows)) _ e).1
    (and_parts (not ((valid g && q x) && block_in x rows)) _ f).1)
    (go (valid g) (block_in x rows) (told (r x)) (and_parts (not ((valid g && p x) && block_in x rows)) _ e).0
    (and_parts (not ((valid g && q x) && block_in x rows)) _ f).0)
  where
    go : (v b : Bool) → Told (r x) → not ((v && p x) && b) ≡ true → not ((v && q x) && b) ≡ true → (not ((v && r x) && b) && true) ≡ true
    go v b (told_false s) i j = rw s (none v)
      where
        none : (v : Bool) → (not ((v && false) && b) && true) ≡ true
        none true = refl
        none false = refl
    go false b (told_true s) i j = refl
    go true false (told_true s) i j = rw s
    go true true (told_true s) i j = has (c x s)
      where
        has : (p x ≡ true) ⊎ (q x ≡ true) → (not ((true && r x) && true) && true) ≡ true
        has (inl k) = clash {b = false} (rw k at i) refl
        has (inr k) = clash {b = false} (rw k at j) refl

twice_among : (kind : ℕ → Bool) (rows : List ℕ) → none_twice rows ≡ true → none_among kind rows ≡ true
unfolding none_among none_twice
twice_among kind [] e = refl
twice_among kind (x ∷ []) e = refl
twice_among kind (x ∷ f ∷ rows) e =
    rw (twice_among kind rows (and_parts (not (valid f && block_in x rows)) _ e).1)
    (go (valid f) (kind x) (block_in x rows) (and_parts (not (valid f && block_in x rows)) _ e).0)
  where
    go : (v k b : Bool) → not (v && b) ≡ true → (not ((v && k) && b) && true) ≡ true
    go false k b i = refl
    go true false b i = refl
    go true true b i = rw i

among_all : (kind : ℕ → Bool) (k : ℕ) (rows : List ℕ) → each_row (λ s block flags. not (valid flags) || kind block) k rows ≡ true
    → none_among kind rows ≡ true → none_twice rows ≡ true
unfolding none_among none_twice each_row
among_all kind k [] e n = refl
among_all kind k (x ∷ []) e n = refl
among_all kind k (x ∷ f ∷ rows) e n =
    rw (among_all kind (suc k) rows (and_parts (not (valid f) || kind x) _ e).1 (and_parts (not ((valid f && kind x) && block_in x rows)) _ n).1)
    (go (valid f) (told (kind x)) (and_parts (not (valid f) || kind x) _ e).0 (and_parts (not ((valid f && kind x) && block_in x rows)) _ n).0)
  where
    go : (v : Bool) → Told (kind x) → (not v || kind x) ≡ true → not ((v && kind x) && block_in x rows) ≡ true
        → (not (v && block_in x rows) && true) ≡ true
    go false t i j = refl
    go true (told_true t) i j = rw (rw t at j)
    go true (told_false t) i j = clash i t

-- The passes: no block below `start` is in two rows.
abbrev pub OnceBelow : ℕ → List ℕ → Type 0
OnceBelow start rows = none_among (λ b. ltb b start) rows ≡ true

pub once_none : (rows : List ℕ) → OnceBelow 0 rows
once_none rows = among_never (λ b. ltb b 0) (λ b. le-ltb b 0 (omega arith)) rows

pub once_more : (start : ℕ) (rows : List ℕ) → OnceBelow start rows → all_fresh start (replicate 16384 0) rows ≡ true
    → OnceBelow (start + 524288) rows
once_more start rows e f =
    among_either (λ b. ltb b start) (in_span start) (λ b. ltb b (start + 524288)) either rows e (sym (range_is start rows) ∙ f)
  where
    either : (b : ℕ) → ltb b (start + 524288) ≡ true → (ltb b start ≡ true) ⊎ (in_span start b ≡ true)
    either b h = go (dec_lt b start) (ltb-true _ _ h)
      where
        go : Dec (b < start) → b < start + 524288 → (ltb b start ≡ true) ⊎ (in_span start b ≡ true)
        go (yes k) q = inl (lt-ltb _ _ k)
        go (no k) q =
            let m : start ≤ b = omega arith in
            let d : b - start < 524288 = omega arith in
            inr (rw (le-leb _ _ m, lt-ltb _ _ d))

pub found_twice : (start : ℕ) (rows : List ℕ) → all_fresh start (replicate 16384 0) rows ≡ false → false ≡ none_twice rows
found_twice start rows f = go (told (none_twice rows))
  where
    go : Told (none_twice rows) → false ≡ none_twice rows
    go (told_true e) = clash (range_is start rows ∙ twice_among (in_span start) rows e) f
    go (told_false e) = sym e

-- the block of a valid entry of legal pages
entry_low : (l : Label) (pages : List (List ℕ)) → length pages ≡ meta_pages l → each_legal l 0 pages ≡ true → (s : ℕ) → s < l.slots
    → valid (entry_in pages (record { 0 = s })).flags ≡ true
    → (entry_in pages (record { 0 = s })).block.0 < l.blocks
unfolding entry_in meta_pages
entry_low l pages n e s h v =
    let t = legal_at l pages e (s / 240) (omega arith) in
    (((page-rule l (s / 240) (get_or pages (s / 240) [])).0 t).entries (s % 240) (omega arith)).pair.below
    (λ z. clash {b = false} (rw z at v) refl)

pub once-all : (l : Label) (pages : List (List ℕ)) (start : ℕ) → length pages ≡ meta_pages l → each_legal l 0 pages ≡ true
    → l.blocks ≤ start → OnceBelow start (stored_rows l pages)
    → true ≡ none_twice (stored_rows l pages)
once-all l pages start n e h o =
    sym (among_all (λ b. ltb b start) 0 (stored_rows l pages)
    (each_of (λ s block flags. not (valid flags) || ltb block start) 0 (stored_rows l pages) each) o)
  where
    entry : ℕ → Entry
    entry s = entry_in pages (record { 0 = s })

    each : (s : ℕ) → 2 * s + 1 < length (stored_rows l pages)
        → (not (valid (get_or (stored_rows l pages) (2 * s + 1) 0)) || ltb (get_or (stored_rows l pages) (2 * s) 0) start) ≡ true
    each s k =
        let q : s < l.slots = omega (arith, length-rows l.slots (λ s. entry_in pages (record { 0 = s }))) in
        rw (
          rows_flags l.slots (λ s. entry_in pages (record { 0 = s })) s q,
          rows-block l.slots
              (λ s. entry_in pages (record { 0 = s })) s q,
        )
        (go (told (valid (entry_in pages (record { 0 = s })).flags)) q)
      where
        go : Told (valid (entry_in pages (record { 0 = s })).flags) → s < l.slots
            → (not (valid (entry_in pages (record { 0 = s })).flags) || ltb (entry_in pages (record { 0 = s })).block.0 start) ≡ true
        go (told_true v) q =
            let b = entry_low l pages n e s q v in
            let k : (entry_in pages (record { 0 = s })).block.0 < start = omega (arith, b) in
            rw (v, lt-ltb _ _ k)
        go (told_false v) q = rw v

-- the entry of a slot, by its page and its place there
pub entry_on : (pages : List (List ℕ)) (s p i : ℕ) → s ≡ 240 * p + i → i < 240
    → entry_at (get_or pages p []) i ≡ entry_in pages (record { 0 = s })
unfolding entry_in
entry_on pages s p i e h =
    let a : s / 240 ≡ p = omega arith in
    let b : s % 240 ≡ i = omega arith in
    rw (a, b)

-- a metadata page has a slot
pub page_first : (l : Label) (p : ℕ) → p < meta_pages l → 240 * p < l.slots
unfolding meta_pages
page_first l p h = omega arith

-- the metadata pages have all slots
pub pages_all : (l : Label) (p : ℕ) → meta_pages l ≤ p → l.slots ≤ 240 * p
unfolding meta_pages
pages_all l p h = omega arith

-- one row of a pass
pub fresh-left : (start : ℕ) (map : List ℕ) (n : ℕ) (f : ℕ → Entry) (s : ℕ) → s < n
    → all_fresh start map (drop (2 * s) (rows_from n f))
    ≡ ((visited start map (f s).block.0 (f s).flags).fresh
    && all_fresh start (visited start map (f s).block.0 (f s).flags).map (drop (2 * (s + 1)) (rows_from n f)))
unfolding all_fresh
fresh-left start map n f s h =
    let z = length-rows n f in
    let k0 : 2 * s < length (rows_from n f) = omega arith in
    let k1 : suc (2 * s) < length (rows_from n f) = omega arith in
    let e : suc (suc (2 * s)) ≡ 2 * (s + 1) = omega arith in
    let one : 2 * s + 1 ≡ suc (2 * s) = omega arith in
    let b : get_or (rows_from n f) (2 * s) 0 ≡ (f s).block.0 = rows-block n f s h in
    let g : get_or (rows_from n f) (suc (2 * s)) 0 ≡ (f s).flags = ap (λ (m : ℕ). get_or (rows_from n f) m 0) (sym one) ∙ rows_flags n f s h in
    let r : drop (2 * s) (rows_from n f) ≡ (f s).block.0 ∷ (f s).flags ∷ drop (2 * (s + 1)) (rows_from n f) =
    drop-cons (rows_from n f) (2 * s) 0 k0 ∙ rw (drop-cons (rows_from n f) (suc (2 * s)) 0 k1, b, g, e) in
    ap (all_fresh start map) r

pub fresh_end : (start : ℕ) (map : List ℕ) (n : ℕ) (f : ℕ → Entry) (s : ℕ) → n ≤ s → all_fresh start map (drop (2 * s) (rows_from n f)) ≡ true
unfolding all_fresh
fresh_end start map n f s h =
    let z = length-rows n f in
    rw (drop_of_length-le (rows_from n f) {i = 2 * s} (omega arith))

-- a page's last slots: the next page's are left, or none
pub page_over : (start : ℕ) (map : List ℕ) (n : ℕ) (f : ℕ → Entry) (s : ℕ)
    → all_fresh start map (drop (2 * page_end s n) (rows_from n f)) ≡ all_fresh start map (drop (2 * (s + 240)) (rows_from n f))
page_over start map n f s = go (dec_lt n (s + 240))
  where
    go : Dec (n < s + 240) → all_fresh start map (drop (2 * page_end s n) (rows_from n f)) ≡ all_fresh start map (drop (2 * (s + 240)) (rows_from n f))
    go (yes k) = fresh_end start map n f (page_end s n) (omega arith) ∙ sym (fresh_end start map n f (s + 240) (omega arith))
    go (no k) = let e : page_end s n ≡ s + 240 = omega arith in rw e
