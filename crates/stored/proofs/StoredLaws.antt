-- The metadata pages of an image, page by page; the newest of them, and its window.
use Prim.Native.Nat.{ℕ, zero, suc, ◌+◌, ◌-◌, ◌≤◌, ◌<◌}
use mathlib.Core.Path.{◌≡◌, refl, sym, ap, ◌∙◌}
use mathlib.Core.Logic.{◌≢◌}
use mathlib.Core.Bool.{Bool, true, false}
use mathlib.Core.List.{List, [], ◌∷◌, ◌++◌}
use Rattle.std.specs.Prelude.{Option, Some, None}
use Rattle.std.specs.Option.{ForSome}
use native.Mathlib.Omega.{arith}
use native.Mathlib.Nat.{zero-add}
use native.Mathlib.Numerals.{add-one}
use lib.ListN.{length, get_or, set, take, drop, replicate, length-drop, drop_of_length-le}
use lib.Dec.{ltb}
use Rattle.layout.proofs.Booleans.{and_parts}
use Rattle.pages.specs.Pages.{page_at}
use Rattle.pages.specs.Parts.{Part, page_part}
use Rattle.pages.proofs.PageLaws.{length-page}
use Rattle.layout.specs.declared.Slot.{Slot}
use Rattle.layout.specs.declared.Label.{Label}
use Rattle.layout.specs.Places.{Limits, meta_pages, meta_place, ssd_length}
use Rattle.layout.proofs.PlaceLaws.{page-place, meta_within}
use Rattle.layout.specs.MetaPage.{stamp_of, count_of, slot_at, window_of, firsts}
use Rattle.layout.specs.PageRule.{page_test, in_range, window_test}
use Rattle.layout.proofs.Loops.{left}
use Rattle.layout.proofs.RuleLaws.{count-rule, page-rows}
use Rattle.layout.proofs.JudgeLaws.{length-window, length-firsts}
use Rattle.layout.specs.Window.{array_of, window_from}
use Rattle.protocol.specs.Metadata.{read_meta}
use Rattle.protocol.specs.Recovery.{metas_of, Newest, newer, newest_from, newest_of, each_legal}
use Rattle.laws.proofs.why.PagesRules.{legal_get}
use Rattle.record.proofs.WindowLaws.{take-array, array_more}
use Rattle.laws.proofs.refine.Metas.{length_metas, metas_at}
use Rattle.stored.specs.declared.Newest.{Newest as Numbered}
use Rattle.layout.specs.declared.Window.{Window}
use Rattle.stored.specs.Stored.{newest_at, newer_if, newer_at, numbered_from, numbered_of}

pub pages-most : (l : Label) → Limits l → meta_pages l ≤ 240
unfolding meta_pages
pages-most l h = omega (arith, h.slots-most)

-- a page that was read: its bytes, and how many they are
pub page-read : (l : Label) (ssd page : Part) (p : ℕ) → length ssd.bytes ≡ ssd_length l → p < meta_pages l
    → page ≡ page_part ssd (meta_place l p)
    → (page.bytes ≡ get_or (metas_of l ssd.bytes) p []) × (length page.bytes ≡ 4096)
unfolding page_part read_meta
page-read l ssd page p size h e =
    let g : page.bytes ≡ page_at ssd.bytes (meta_place l p) = ap (λ (x : Part). x.bytes) e in (
      g ∙ sym (metas_at l ssd.bytes p h),
      ap length g ∙ length-page ssd.bytes (meta_place l p) (rw size (meta_within l p (page-place l p h))),
    )

-- the pages that are left
pub metas_left : (l : Label) (ssd : List ℕ) (p : ℕ) → p < meta_pages l
    → drop p (metas_of l ssd) ≡ get_or (metas_of l ssd) p [] ∷ drop (p + 1) (metas_of l ssd)
metas_left l ssd p h = left (metas_of l ssd) p [] (rw (length_metas l ssd) h)

pub metas_end : (l : Label) (ssd : List ℕ) (p : ℕ) → meta_pages l ≤ p → drop p (metas_of l ssd) ≡ []
metas_end l ssd p h = drop_of_length-le (metas_of l ssd) {i = p} (rw (length_metas l ssd) h)

-- the search for the newest page: a page more, and all of them
pub numbered_more : (pages : List (List ℕ)) (n next : Numbered) (p stamp : ℕ) → p < length pages → stamp ≡ stamp_of (get_or pages p [])
    → next ≡ newer_at n stamp p → numbered_from n p (drop p pages) ≡ numbered_of pages
    → numbered_from next (p + 1) (drop (p + 1) pages) ≡ numbered_of pages
unfolding numbered_from
numbered_more pages n next p stamp h f e i = rw (e, f) (rw (left pages p [] h) at i)

pub numbered_all : (pages : List (List ℕ)) (n : Numbered) (p : ℕ) → length pages ≤ p
    → numbered_from n p (drop p pages) ≡ numbered_of pages → n ≡ numbered_of pages
unfolding numbered_from
numbered_all pages n p h i = rw (drop_of_length-le pages {i = p} h) at i

-- what is known of the newest page, found by its number
pub record Found (pages : List (List ℕ)) (n : Numbered) : Type 0 where
  pub newest_is : newest_at pages n.at ≡ newest_of pages
  pub stamp_is : n.stamp ≡ (newest_of pages).stamp
  pub on_page_is : ForSome n.at (λ p. p < length pages)

-- and by page p
record Seen (pages : List (List ℕ)) (n : Numbered) (p : ℕ) : Type 0 where
  rest : newest_from (newest_at pages n.at) (drop p pages) ≡ newest_of pages
  stamp_is : n.stamp ≡ (newest_at pages n.at).stamp
  on_page_is : ForSome n.at (λ q. q < p)

seen_none : (pages : List (List ℕ)) → Seen pages (record { stamp = 0; at = None }) 0
seen_none pages = record { rest = refl; stamp_is = refl; on_page_is = λ q e. absurd cc }

-- a page more: what was found before, or it
seen_if : (pages : List (List ℕ)) (n : Numbered) (p : ℕ) (b : Bool) → ltb n.stamp (stamp_of (get_or pages p [])) ≡ b
    → n.stamp ≡ (newest_at pages n.at).stamp → ForSome n.at (λ q. q < p)
    → newest_from (newer (newest_at pages n.at) (get_or pages p [])) (drop (p + 1) pages) ≡ newest_of pages
    → Seen pages (newer_if b n (stamp_of (get_or pages p [])) p) (p + 1)
seen_if pages n p true e s m r = record {
  rest = rw (newer, ← s, e) at r;
  stamp_is = refl;
  on_page_is = λ q f. let z : p ≡ q = cc in omega arith;
}
seen_if pages n p false e s m r = record { rest = rw (newer, ← s, e) at r; stamp_is = s; on_page_is = λ q f. omega (arith, m q f) }

seen_more : (pages : List (List ℕ)) (n next : Numbered) (p stamp : ℕ) → p < length pages → stamp ≡ stamp_of (get_or pages p [])
    → next ≡ newer_at n stamp p → Seen pages n p → Seen pages next (p + 1)
unfolding newest_from
seen_more pages n next p stamp h f e S =
    rw (e, f) (seen_if pages n p (ltb n.stamp (stamp_of (get_or pages p []))) refl S.stamp_is S.on_page_is
    (rw (left pages p [] h) at S.rest))

seen_all : (pages : List (List ℕ)) (n : Numbered) (p : ℕ) → length pages ≤ p → p ≤ length pages → Seen pages n p → Found pages n
unfolding newest_from
seen_all pages n p h k S =
    let e : newest_at pages n.at ≡ newest_of pages = rw (drop_of_length-le pages {i = p} h) at S.rest in
    record {
      newest_is = e;
      stamp_is = S.stamp_is ∙ ap (λ (m : Newest). m.stamp) e;
      on_page_is = λ q f. omega (arith, S.on_page_is q f);
    }

found_from : (pages rest : List (List ℕ)) (n : Numbered) (p : ℕ) → drop p pages ≡ rest → p ≤ length pages → Seen pages n p
    → Found pages (numbered_from n p rest)
unfolding numbered_from
found_from pages [] n p e h S = seen_all pages n p (omega (arith, length-drop p pages, ap length e)) h S
found_from pages (page ∷ rest) n p e h S =
    let k : p < length pages = omega (arith, length-drop p pages, ap length e) in
    let d = left pages p [] k in
    found_from pages rest (newer_at n (stamp_of page) p) (p + 1) (cc) (omega arith)
    (seen_more pages n _ p (stamp_of page) k (cc) refl S)

pub found : (pages : List (List ℕ)) (n : Numbered) → n ≡ numbered_of pages → Found pages n
found pages n e = rw e (found_from pages pages _ 0 refl (omega arith) (seen_none pages))

-- a window, place by place
firsts_more : {A : Type 0} (k : ℕ) (f : ℕ → A) → firsts (suc k) f ≡ firsts k f ++ (f k ∷ [])
unfolding firsts
firsts_more zero f = refl
firsts_more (suc k) f = ap (λ (w : List _). f 0 ∷ w) (firsts_more k (λ j. f (suc j)))

pub window-one : (page : List ℕ) (window : List Slot) (k : ℕ) → k < 63 → window ≡ array_of (firsts k (slot_at page))
    → set window k (slot_at page k) ≡ array_of (firsts (k + 1) (slot_at page))
window-one page window k h e =
    let n : length (firsts k (slot_at page)) ≡ k = length-firsts k (slot_at page) in
    ap (λ (w : List Slot). set w k (slot_at page k)) e
    ∙ ap (λ (m : ℕ). set (array_of (firsts k (slot_at page))) m (slot_at page k)) (sym n)
    ∙ array_more (firsts k (slot_at page)) (slot_at page k) (omega arith)
    ∙ ap array_of (sym (firsts_more k (slot_at page)) ∙ ap (λ (m : ℕ). firsts m (slot_at page)) (sym (add-one k)))

pub window_none : (page : List ℕ) → replicate 63 (record { 0 = 0 }) ≡ array_of (firsts 0 (slot_at page))
unfolding firsts array_of
window_none page = refl

pub window-all : (page : List ℕ) (window : List Slot) (count k : ℕ) → count ≡ count_of page → k ≤ count → count ≤ k
    → window ≡ array_of (firsts k (slot_at page))
    → record { slots = window; count = count } ≡ window_from (window_of page)
unfolding window_of
window-all page window count k e h g f =
    let q : k ≡ count_of page = omega arith in
    rw (f, q, e, length-firsts (count_of page) (slot_at page))

-- a page of legal pages
pub legal_at : (l : Label) (pages : List (List ℕ)) → each_legal l 0 pages ≡ true → (q : ℕ) → q < length pages
    → page_test l q (get_or pages q []) ≡ true
legal_at l pages e q h = rw zero-add at (legal_get l 0 pages e q h)

pub count_low : (l : Label) (p : ℕ) (page : List ℕ) → page_test l p page ≡ true → count_of page ≤ 63
count_low l p page e = ((count-rule page).0 ((page-rows l p page).0 e).count).most

window_range : (l : Label) (page : List ℕ) → window_test l page ≡ true → in_range l (window_of page) ≡ true
unfolding window_test
window_range l page e = (and_parts (in_range l (window_of page)) _ e).0

-- the newest window of legal pages
pub record Bounded (l : Label) (w : List Slot) : Type 0 where
  pub most : length w ≤ 63
  pub ranged : in_range l w ≡ true

pub newest_bounded : (l : Label) (pages : List (List ℕ)) (at : Option ℕ) → each_legal l 0 pages ≡ true → ForSome at (λ p. p < length pages)
    → Bounded l (newest_at pages at).window
unfolding in_range
newest_bounded l pages None e h = record { most = omega arith; ranged = refl }
newest_bounded l pages (Some p) e h =
    let t = legal_at l pages e p (h p refl) in
    record {
      most = rw (length-window (get_or pages p [])) (count_low l p (get_or pages p []) t);
      ranged = window_range l (get_or pages p []) ((page-rows l p (get_or pages p [])).0 t).window;
    }

-- the pending slots, of the array again
pub pending_bounded : (l : Label) (w : List Slot) (left : Window) → left ≡ window_from w → Bounded l w
    → (left.count ≤ 63) × (in_range l (take left.count left.slots) ≡ true)
pending_bounded l w left e k = rw e (k.most, rw (take-array w) k.ranged)
