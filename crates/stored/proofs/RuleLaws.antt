-- The rules of a reopening, page by page and place by place; and all of them.
use Prim.Native.Nat.{ℕ, ◌+◌, ◌≤◌, ◌<◌}
use mathlib.Core.Path.{◌≡◌}
use mathlib.Core.Bool.{true, false, not, ◌&&◌, ◌||◌}
use mathlib.Core.List.{List, []}
use native.Mathlib.Numerals.{add-one}
use lib.ListN.{length, get_or, drop, drop_of_length-le}
use lib.Dec.{eqb}
use Rattle.layout.proofs.Booleans.{and_parts}
use Rattle.layout.specs.declared.Slot.{Slot}
use Rattle.layout.specs.declared.Label.{Label}
use Rattle.layout.specs.Places.{meta_pages}
use Rattle.layout.specs.MetaPage.{stamp_of}
use Rattle.layout.specs.PageRule.{page_test}
use Rattle.protocol.specs.Rows.{valid, writing}
use Rattle.protocol.specs.Recovery.{metas_of, entry_in, newest_of, each_legal, stamp_in, stamps_differ, none_twice, stored_rows, all_open_in, pages_test}
use Rattle.layout.proofs.Loops.{left}
use Rattle.stored.proofs.StoredLaws.{metas_left, metas_end}

module _ (l : Label) (ssd : List ℕ) (p : ℕ) where
  module _ (h : p < meta_pages l) where
    pub legal-left : each_legal l p (drop p (metas_of l ssd))
        ≡ (page_test l p (get_or (metas_of l ssd) p []) && each_legal l (p + 1) (drop (p + 1) (metas_of l ssd)))
    unfolding each_legal
    legal-left = rw (metas_left l ssd p h, add-one)

    pub stamp-left : (t : ℕ) → stamp_in t (drop p (metas_of l ssd))
        ≡ (eqb t (stamp_of (get_or (metas_of l ssd) p [])) || stamp_in t (drop (p + 1) (metas_of l ssd)))
    unfolding stamp_in
    stamp-left t = rw (metas_left l ssd p h)

    pub differ_left : stamps_differ (drop p (metas_of l ssd))
        ≡ ((eqb (stamp_of (get_or (metas_of l ssd) p [])) 0 || not
        (stamp_in (stamp_of (get_or (metas_of l ssd) p [])) (drop (p + 1) (metas_of l ssd))))
        && stamps_differ (drop (p + 1) (metas_of l ssd)))
    unfolding stamps_differ
    differ_left = rw (metas_left l ssd p h)

  module _ (h : meta_pages l ≤ p) where
    pub legal_end : each_legal l p (drop p (metas_of l ssd)) ≡ true
    unfolding each_legal
    legal_end = rw (metas_end l ssd p h)

    pub stamp_end : (t : ℕ) → stamp_in t (drop p (metas_of l ssd)) ≡ false
    unfolding stamp_in
    stamp_end t = rw (metas_end l ssd p h)

    pub differ_end : stamps_differ (drop p (metas_of l ssd)) ≡ true
    unfolding stamps_differ
    differ_end = rw (metas_end l ssd p h)

module _ (pages : List (List ℕ)) (w : List Slot) (i : ℕ) where
  pub open_left : (d : Slot) → i < length w → all_open_in pages (drop i w)
      ≡ ((valid (entry_in pages (get_or w i d)).flags && writing (entry_in pages (get_or w i d)).flags) && all_open_in pages (drop (i + 1) w))
  unfolding all_open_in
  open_left d h = rw (left w i d h)

  pub open_end : length w ≤ i → all_open_in pages (drop i w) ≡ true
  unfolding all_open_in
  open_end h = rw (drop_of_length-le w {i = i} h)

-- 5, rule by rule
module _ (l : Label) (pages : List (List ℕ)) where
  pub page_bad : each_legal l 0 pages ≡ false → false ≡ pages_test l pages
  unfolding pages_test
  page_bad a = rw a

  module _ (a : each_legal l 0 pages ≡ true) where
    pub stamps_bad : stamps_differ pages ≡ false → false ≡ pages_test l pages
    unfolding pages_test
    stamps_bad b = rw (a, b)

    module _ (b : stamps_differ pages ≡ true) where
      pub blocks_bad : none_twice (stored_rows l pages) ≡ false → false ≡ pages_test l pages
      unfolding pages_test
      blocks_bad c = rw (a, b, c)

      pub by_open : none_twice (stored_rows l pages) ≡ true → all_open_in pages (newest_of pages).window ≡ pages_test l pages
      unfolding pages_test
      by_open c = rw (a, b, c)

-- the rules that passed
pub record Passed (l : Label) (pages : List (List ℕ)) : Type 0 where
  pub legal : each_legal l 0 pages ≡ true
  pub opened : all_open_in pages (newest_of pages).window ≡ true

pub passed : (l : Label) (pages : List (List ℕ)) → pages_test l pages ≡ true → Passed l pages
unfolding pages_test
passed l pages e =
    let a = (and_parts (each_legal l 0 pages) _ e).1 in
    let b = (and_parts (stamps_differ pages) _ a).1 in
    record {
      legal = (and_parts (each_legal l 0 pages) _ e).0;
      opened = (and_parts (none_twice (stored_rows l pages)) _ b).1;
    }
