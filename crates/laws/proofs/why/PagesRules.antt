-- 5 of a reopening: each page's rule, and the rules between pages.
use Prim.Native.Nat.{ℕ, zero, suc, ◌+◌, ◌*◌, ◌≤◌, ◌<◌}
use mathlib.Core.Path.{◌≡◌, refl, sym, ◌∙◌}
use mathlib.Core.Logic.{◌≢◌}
use mathlib.Core.Bool.{Bool, true, false, not, ◌&&◌, ◌||◌}
use mathlib.Core.List.{List, [], ◌∷◌}
use native.Mathlib.Omega.{arith}
use native.Mathlib.Nat.{zero-add}
use native.Mathlib.Decide.{dec_lt}
use lib.ListN.{length, get_or}
use lib.Dec.{eqb}
use borrow.Author.Tests.{eqb-false, not-true, eq-eqb, ne_eqb, lt-ltb, le-ltb}
use Rattle.laws.proofs.refine.Tables.{at_suc}
use Rattle.layout.proofs.JudgeLaws.{length-firsts, get_firsts}
use Rattle.layout.specs.declared.Slot.{Slot}
use Rattle.layout.specs.declared.Label.{Label}
use Rattle.layout.specs.MetaPage.{stamp_of, count_of, slot_at, window_of, firsts}
use Rattle.layout.specs.PageRule.{page_test, PageRule}
use Rattle.layout.proofs.Booleans.{clash, and_of, and_parts, or_use, or_neither}
use Rattle.layout.proofs.RuleLaws.{◌⇔◌, page-rule}
use Rattle.protocol.specs.Rows.{valid, writing}
use Rattle.protocol.specs.Recovery.{entry_in, Newest, newer, newest_from, newest_of, each_legal, stamp_in, stamps_differ, block_in, none_twice, all_open_in, stored_rows, pages_test}
use Rattle.record.specs.Window.{each_place, each_slot}
use Rattle.protocol.specs.Why.{PagesRule}
use Rattle.laws.proofs.refine.Metas.{stamp-most}
use Rattle.laws.proofs.refine.Entries.{length-rows, rows-block, rows_flags, each_legal_lem, stamps_differ_lem, none_twice_lem}
use Rattle.record.proofs.Each.{at, place_get, place_of}

-- each page
pub legal_get : (l : Label) (p : ℕ) (pages : List (List ℕ)) → each_legal l p pages ≡ true → (q : ℕ) → q < length pages
    → page_test l (p + q) (get_or pages q []) ≡ true
unfolding each_legal
legal_get l p [] e q h = absurd (omega arith)
legal_get l p (page ∷ pages) e zero h = let z : p + 0 ≡ p = omega arith in
    rw z (and_parts (page_test l p page) (each_legal l (suc p) pages) e).0
legal_get l p (page ∷ pages) e (suc q) h =
    let z : p + suc q ≡ suc p + q = omega arith in
    rw z (legal_get l (suc p) pages (and_parts (page_test l p page) (each_legal l (suc p) pages) e).1 q (omega arith))

-- stamps
stamp-not : (t : ℕ) (pages : List (List ℕ)) → stamp_in t pages ≡ false → (q : ℕ) → q < length pages → t ≢ stamp_of (get_or pages q [])
unfolding stamp_in
stamp-not t [] e q h = absurd (omega arith)
stamp-not t (page ∷ pages) e zero h = eqb-false _ _ (or_neither (eqb t (stamp_of page)) (stamp_in t pages) e).0
stamp-not t (page ∷ pages) e (suc q) h = stamp-not t pages (or_neither (eqb t (stamp_of page)) (stamp_in t pages) e).1 q (omega arith)

stamps_get : (pages : List (List ℕ)) → stamps_differ pages ≡ true
    → (p q : ℕ) → p < q → q < length pages → stamp_of (get_or pages p []) ≢ 0 → stamp_of (get_or pages p []) ≢ stamp_of (get_or pages q [])
unfolding stamps_differ
stamps_get [] e p q h k n = absurd (omega arith)
stamps_get (page ∷ pages) e p zero h k n = absurd (omega arith)
stamps_get (page ∷ pages) e zero (suc q) h k n =
    let a = and_parts (eqb (stamp_of page) 0 || not (stamp_in (stamp_of page) pages)) (stamps_differ pages) e in
    stamp-not (stamp_of page) pages (not-true _ (or_use (eqb (stamp_of page) 0) _ a.0 (ne_eqb _ _ n))) q (omega arith)
stamps_get (page ∷ pages) e (suc p) (suc q) h k n =
    stamps_get pages (and_parts (eqb (stamp_of page) 0 || not (stamp_in (stamp_of page) pages)) (stamps_differ pages) e).1 p q (omega arith)
    (omega arith) n

-- blocks
block-not : (b : ℕ) (t : List ℕ) → block_in b t ≡ false → (s : ℕ) → 2 * s + 1 < length t → valid (get_or t (2 * s + 1) 0) ≡ true
    → get_or t (2 * s) 0 ≢ b
unfolding block_in
block-not b [] e s h v = absurd (omega arith)
block-not b (x ∷ []) e s h v = absurd (omega arith)
block-not b (x ∷ f ∷ t) e zero h v = λ q. clash {b = valid f && eqb x b} (and_of v (eq-eqb x b q))
    (or_neither (valid f && eqb x b) (block_in b t) e).0
block-not b (x ∷ f ∷ t) e (suc s) h v =
    rw (at_suc s).0 (block-not b t (or_neither (valid f && eqb x b) (block_in b t) e).1 s (omega arith) (rw (at_suc s).1 at v))

twice_get : (t : List ℕ) → none_twice t ≡ true
    → (s u : ℕ) → s < u → 2 * u + 1 < length t → valid (get_or t (2 * s + 1) 0) ≡ true → valid (get_or t (2 * u + 1) 0) ≡ true
    → get_or t (2 * s) 0 ≢ get_or t (2 * u) 0
unfolding none_twice
twice_get [] e s u h q v w = absurd (omega arith)
twice_get (x ∷ []) e s u h q v w = absurd (omega arith)
twice_get (x ∷ f ∷ t) e s zero h q v w = absurd (omega arith)
twice_get (x ∷ f ∷ t) e zero (suc u) h q v w =
    let a = and_parts (not (valid f && block_in x t)) (none_twice t) e in
    let n : block_in x t ≡ false = and-not (valid f) (block_in x t) v (not-true _ a.0) in
    rw (at_suc u).0 (λ z. block-not x t n u (omega arith) (rw (at_suc u).1 at w) (sym z))
  where
    and-not : (a b : Bool) → a ≡ true → (a && b) ≡ false → b ≡ false
    and-not a b p q = rw p at q
twice_get (x ∷ f ∷ t) e (suc s) (suc u) h q v w =
    rw ((at_suc s).0, (at_suc u).0)
    (twice_get t (and_parts (not (valid f && block_in x t)) (none_twice t) e).1 s u (omega arith) (omega arith) (rw (at_suc s).1 at v)
    (rw (at_suc u).1 at w))

-- no block in two entries
module _ (l : Label) (pages : List (List ℕ)) where
  block_at : (s : ℕ) → s < l.slots → get_or (stored_rows l pages) (2 * s) 0 ≡ (entry_in pages (record { 0 = s })).block.0
  block_at s h = rows-block l.slots (λ s. entry_in pages (record { 0 = s })) s h

  flags_at : (s : ℕ) → s < l.slots → get_or (stored_rows l pages) (2 * s + 1) 0 ≡ (entry_in pages (record { 0 = s })).flags
  flags_at s h = rows_flags l.slots (λ s. entry_in pages (record { 0 = s })) s h

  rows-size : length (stored_rows l pages) ≡ 2 * l.slots
  rows-size = length-rows l.slots (λ s. entry_in pages (record { 0 = s }))

  once-same : none_twice (stored_rows l pages)
      ⇔ ((s t : Slot) → s.0 < t.0 → t.0 < l.slots → valid (entry_in pages s).flags ≡ true → valid (entry_in pages t).flags ≡ true
      → (entry_in pages s).block.0 ≢ (entry_in pages t).block.0)
  once-same = (
    λ e s t h q v w.
        let p : s.0 < l.slots = omega arith in
        rw (← block_at s.0 p, ← block_at t.0 q)
        (twice_get (stored_rows l pages) e s.0 t.0 h (omega (arith, rows-size)) (rw (flags_at s.0 p) v) (rw (flags_at t.0 q) w)),
    λ r. none_twice_lem (stored_rows l pages) λ s t h q v w.
        let b : t < l.slots = omega (arith, rows-size) in
        let a : s < l.slots = omega arith in
        rw (block_at s a, block_at t b)
        (r (record { 0 = s }) (record { 0 = t }) h b (rw (flags_at s a) at v) (rw (flags_at t b) at w)),
  )

-- the newest window
open_each : (pages : List (List ℕ)) (w : List Slot)
    → all_open_in pages w ≡ each_slot (λ s. valid (entry_in pages s).flags && writing (entry_in pages s).flags) w
unfolding all_open_in each_place
open_each pages [] = refl
open_each pages (s ∷ w) = rw (open_each pages w)

abbrev newest_in : List ℕ → Newest
newest_in page = record { stamp = stamp_of page; window = window_of page }

-- where it comes from: no page has a larger stamp than the first, or a page has
data Source (n : Newest) (pages : List (List ℕ)) : Newest → Type 0 where
  none_newer : ((p : ℕ) → p < length pages → stamp_of (get_or pages p []) ≤ n.stamp) → Source n pages n
  newest_at_is : (p : ℕ) → p < length pages → n.stamp < stamp_of (get_or pages p []) → Source n pages (newest_in (get_or pages p []))

source : (n : Newest) (pages : List (List ℕ)) → Source n pages (newest_from n pages)
unfolding newest_from
source n [] = none_newer λ p h. absurd (omega arith)
source n (page ∷ pages) = go (dec_lt n.stamp (stamp_of page)) (source (newest_in page) pages) (source n pages)
  where
    later : {m : Newest} → Source (newest_in page) pages m → n.stamp < stamp_of page → Source n (page ∷ pages) m
    later (none_newer h) q = newest_at_is 0 (omega arith) q
    later (newest_at_is p h k) q = newest_at_is (suc p) (omega arith) (omega arith)

    same : {m : Newest} → Source n pages m → stamp_of page ≤ n.stamp → Source n (page ∷ pages) m
    same (none_newer h) q = none_newer (each h q)
      where
        each : ((p : ℕ) → p < length pages → stamp_of (get_or pages p []) ≤ n.stamp) → stamp_of page ≤ n.stamp → (p : ℕ)
            → p < length (page ∷ pages) → stamp_of (get_or (page ∷ pages) p []) ≤ n.stamp
        each h q zero k = q
        each h q (suc p) k = h p (omega arith)
    same (newest_at_is p h k) q = newest_at_is (suc p) (omega arith) k

    go : Dec (n.stamp < stamp_of page) → Source (newest_in page) pages (newest_from (newest_in page) pages)
        → Source n pages (newest_from n pages) → Source n (page ∷ pages) (newest_from (newer n page) pages)
    go (yes h) a b = rw (newer, lt-ltb _ _ h) (later a h)
    go (no h) a b = let k : stamp_of page ≤ n.stamp = omega arith in rw (newer, le-ltb _ _ k) (same b k)

-- what the newest stamp's window must be, for a label's pages
abbrev OpenAt : List (List ℕ) → ℕ → ℕ → Type 0
OpenAt pages p k =
    (valid (entry_in pages (slot_at (get_or pages p []) k)).flags ≡ true) ×
    (writing (entry_in pages (slot_at (get_or pages p []) k)).flags ≡ true)

-- a page's window, all open
window_same : (pages : List (List ℕ)) (p : ℕ)
    → all_open_in pages (window_of (get_or pages p [])) ⇔ ((k : ℕ) → k < count_of (get_or pages p []) → OpenAt pages p k)
unfolding window_of
window_same pages p = (
  λ e k h.
      let a = place_get t w (record { 0 = 0 }) (sym (open_each pages w) ∙ e) k (omega (arith, size)) in
      and_parts _ _ (rw (is_at k h) at a),
  λ r. open_each pages w ∙ place_of t w (record { 0 = 0 }) λ k q.
      let h : k < count_of (get_or pages p []) = omega (arith, size) in
      let b = r k h in
      rw (is_at k h) (and_of b.0 b.1),
)
  where
    w : List Slot
    w = firsts (count_of (get_or pages p [])) (slot_at (get_or pages p []))

    t : Slot → Bool
    t s = valid (entry_in pages s).flags && writing (entry_in pages s).flags

    size : length (firsts (count_of (get_or pages p [])) (slot_at (get_or pages p []))) ≡ count_of (get_or pages p [])
    size = length-firsts _ _

    is_at : (k : ℕ) → k < count_of (get_or pages p [])
        → at (firsts (count_of (get_or pages p [])) (slot_at (get_or pages p []))) k ≡ slot_at (get_or pages p []) k
    is_at k h = get_firsts _ _ k (record { 0 = 0 }) h

-- the rule of the newest window, of legal pages whose stamps differ
module _ (pages : List (List ℕ))
    (empty : (p : ℕ) → p < length pages → stamp_of (get_or pages p []) ≡ 0 → count_of (get_or pages p []) ≡ 0)
    (stamps : (p q : ℕ) → p < q → q < length pages → stamp_of (get_or pages p []) ≢ 0
    → stamp_of (get_or pages p []) ≢ stamp_of (get_or pages q [])) where
  abbrev Most : ℕ → Type 0
  Most n = (q : ℕ) → q < length pages → stamp_of (get_or pages q []) ≤ n

  -- one page has the largest stamp, if that is not 0
  only : (p u : ℕ) → p < length pages → u < length pages → Most (stamp_of (get_or pages p [])) → Most (stamp_of (get_or pages u []))
      → stamp_of (get_or pages u []) ≢ 0 → p ≡ u
  only p u hp hu mp mu n = go (dec_lt p u) (dec_lt u p)
    where
      e : stamp_of (get_or pages p []) ≡ stamp_of (get_or pages u [])
      e = omega (arith, mp u hu, mu p hp)

      go : Dec (p < u) → Dec (u < p) → p ≡ u
      go (yes h) d = absurd (stamps p u h hu (rw e n) e)
      go (no h) (yes k) = absurd (stamps u p k hp n (sym e))
      go (no h) (no k) = omega arith

  newest-same : all_open_in pages (newest_of pages).window ⇔
      ((p : ℕ) → p < length pages → Most (stamp_of (get_or pages p [])) → (k : ℕ) → k < count_of (get_or pages p []) → OpenAt pages p k)
  newest-same = (
    λ e p h m. to p h m (source first pages) (stamp-most first pages) e,
    λ r. from r (source first pages) (stamp-most first pages),
  )
    where
      first : Newest
      first = record { stamp = 0; window = [] }

      to : (p : ℕ) → p < length pages → Most (stamp_of (get_or pages p [])) → {m : Newest} → Source first pages m → Most m.stamp
          → all_open_in pages m.window ≡ true
          → (k : ℕ) → k < count_of (get_or pages p []) → OpenAt pages p k
      to p h m (none_newer z) most e k q = absurd (omega (arith, empty p h (omega (arith, z p h))))
      to p h m (newest_at_is u hu s) most e k q = let i = only p u h hu m most (omega arith) in (window_same pages p).0 (rw i e) k q

      from : ((p : ℕ) → p < length pages → Most (stamp_of (get_or pages p [])) → (k : ℕ) → k < count_of (get_or pages p []) → OpenAt pages p k)
          → {m : Newest} → Source first pages m → Most m.stamp → all_open_in pages m.window ≡ true
      from r (none_newer z) most = unfold all_open_in in refl
      from r (newest_at_is u hu s) most = (window_same pages u).1 (r u hu most)

pub pages-same : (l : Label) (pages : List (List ℕ)) → pages_test l pages ⇔ PagesRule l pages
unfolding pages_test
pages-same l pages = (
  λ h.
      let a = and_parts (each_legal l 0 pages) _ h in
      let b = and_parts (stamps_differ pages) _ a.1 in
      let c = and_parts (none_twice (stored_rows l pages)) _ b.1 in
      let each : (p : ℕ) → p < length pages → PageRule l p (get_or pages p []) =
      λ p q. (page-rule l p (get_or pages p [])).0 (rw zero-add at (legal_get l 0 pages a.0 p q)) in
      let stamps = stamps_get pages b.0 in
      record {
        each = each;
        stamps = stamps;
        once = (once-same l pages).0 c.0;
        newest = (newest-same pages (λ p q. (each p q).count.stamp_zero_is) stamps).0 c.1;
      },
  λ r.
      and_of
      (each_legal_lem l 0 pages (λ p q. rw zero-add ((page-rule l p (get_or pages p [])).1 (r.each p q))))
      (and_of
      (stamps_differ_lem pages r.stamps)
      (and_of ((once-same l pages).1 r.once) ((newest-same pages (λ p q. (r.each p q).count.stamp_zero_is) r.stamps).1 r.newest))),
)
