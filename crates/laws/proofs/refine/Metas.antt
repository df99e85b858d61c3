-- The metadata pages of an SSD image: read by number, stored, and the newest of them.
use Prim.Native.Nat.{ℕ, zero, suc, ◌+◌, ◌/◌, ◌%◌, ◌≤◌, ◌<◌}
use mathlib.Core.Path.{◌≡◌, refl, ap, ◌∙◌}
use mathlib.Core.Logic.{◌≢◌}
use mathlib.Core.Bool.{cond}
use mathlib.Core.List.{List, [], ◌∷◌}
use native.Mathlib.Omega.{arith}
use native.Mathlib.Decide.{ℕ_discrete, dec_lt}
use lib.ListN.{length, get_or, set}
use lib.Seq.{get_or-set_same, get_or-set_other}
use lib.Dec.{eqb}
use borrow.Author.Tests.{lt-ltb, le-ltb, ne_eqb}
use Rattle.layout.proofs.JudgeLaws.{length-firsts, get_firsts}
use Rattle.pages.specs.Pages.{put_page, Holds}
use Rattle.pages.proofs.PageLaws.{put_same, put_other}
use Rattle.layout.specs.declared.Slot.{Slot}
use Rattle.layout.specs.declared.Label.{Label}
use Rattle.layout.specs.Places.{meta_pages, meta_span, label_place, meta_place, data_place, meta_of, entry_of, ssd_length}
use Rattle.layout.proofs.PlaceLaws.{page-place, meta_not-label, metas_apart, meta_below_data, meta_within}
use Rattle.layout.specs.MetaPage.{encode_meta, stamp_of, window_of, entry_at, firsts}
use Rattle.protocol.specs.Metadata.{read_meta, store_place, meta_bytes}
use Rattle.protocol.specs.Recovery.{metas_of, entry_in, Newest, newer, newest_from, newest_of}

pub firsts_ext : {A : Type 0} (n : ℕ) (f g : ℕ → A) → ((k : ℕ) → k < n → g k ≡ f k) → firsts n g ≡ firsts n f
unfolding firsts
firsts_ext zero f g h = refl
firsts_ext (suc n) f g h = rw (h 0 (omega arith), firsts_ext n (λ k. f (suc k)) (λ k. g (suc k)) (λ k q. h (suc k) (omega arith)))

pub firsts-set : {A : Type 0} (n : ℕ) (f g : ℕ → A) (p : ℕ) (v : A) → p < n → g p ≡ v → ((k : ℕ) → k < n → k ≢ p → g k ≡ f k)
    → firsts n g ≡ set (firsts n f) p v
unfolding firsts
firsts-set zero f g p v h e d = absurd (omega arith)
firsts-set (suc n) f g zero v h e d = rw (e, firsts_ext n (λ k. f (suc k)) (λ k. g (suc k)) (λ k q. d (suc k) (omega arith) (omega arith)))
firsts-set (suc n) f g (suc p) v h e d =
    rw (
      d 0 (omega arith) (omega arith),
      firsts-set n (λ k. f (suc k)) (λ k. g (suc k)) p v (omega arith) e
          (λ k q m. d (suc k) (omega arith) (λ z. m (omega arith))),
    )

-- the pages of an image
module _ (l : Label) (ssd : List ℕ) where
  pub length_metas : length (metas_of l ssd) ≡ meta_pages l
  unfolding metas_of
  length_metas = length-firsts (meta_pages l) _

  pub metas_at : (p : ℕ) → p < meta_pages l → get_or (metas_of l ssd) p [] ≡ read_meta l ssd p
  unfolding metas_of
  metas_at p h = get_firsts (meta_pages l) _ p [] h

-- where a metadata page is stored: above the label, below the data pages, within the image
module _ (l : Label) (ssd : List ℕ) (p : ℕ) (h : p < meta_pages l) where
  pub store_within_is : length ssd ≡ ssd_length l → Holds ssd (store_place l ssd p)
  unfolding store_place
  store_within_is size = rw size (meta_within l p (page-place l p h))

  pub store-not-label : store_place l ssd p ≢ label_place
  unfolding store_place
  store-not-label = meta_not-label l p

  pub store-below_data : (s : Slot) → store_place l ssd p < data_place l s
  unfolding store_place
  store-below_data = meta_below_data l p (page-place l p h)

-- a metadata page is stored: it reads as its stamp, window and rows, and every other page as before
module _ (l : Label) (ssd : List ℕ) (size : length ssd ≡ ssd_length l) (t : ℕ) (w : List Slot) (rows : List ℕ)
    (page-size : length (encode_meta t w rows) ≡ 4096) where
  pub length-bytes : length (meta_bytes l t w rows) ≡ 4096
  unfolding meta_bytes
  length-bytes = page-size

  pub metas_put : (p : ℕ) → p < meta_pages l
      → metas_of l (put_page ssd (store_place l ssd p) (meta_bytes l t w rows)) ≡ set (metas_of l ssd) p (encode_meta t w rows)
  unfolding metas_of read_meta store_place meta_bytes
  metas_put p h =
      firsts-set (meta_pages l) _ _ p (encode_meta t w rows) h
      (put_same ssd (encode_meta t w rows) (meta_place l p) fits page-size)
      (λ k q n. put_other ssd (encode_meta t w rows) (meta_place l p) (meta_place l k) fits page-size (metas_apart l k p n))
    where
      fits : Holds ssd (meta_place l p)
      fits = rw size (meta_within l p (page-place l p h))

module _ (l : Label) (ssd : List ℕ) (page : List ℕ) (page-size : length page ≡ 4096) where
  -- a page elsewhere is stored
  pub metas_else : (q : ℕ) → Holds ssd q → ((k : ℕ) → k < meta_span l → meta_place l k ≢ q) → metas_of l (put_page ssd q page) ≡ metas_of l ssd
  unfolding metas_of read_meta
  metas_else q h n = firsts_ext (meta_pages l) _ _ (λ k m. put_other ssd page q (meta_place l k) h page-size (n k (page-place l k m)))

-- entries
pub entry_set : (pages : List (List ℕ)) (p : ℕ) (page : List ℕ) (s : Slot) → p < length pages
    → entry_in (set pages p page) s ≡ cond (eqb (meta_of s) p) (entry_at page (entry_of s)) (entry_in pages s)
unfolding entry_in
entry_set pages p page s h = go (ℕ_discrete (s.0 / 240) p)
  where
    go : Dec (s.0 / 240 ≡ p) → entry_at (get_or (set pages p page) (s.0 / 240) []) (s.0 % 240) ≡ cond (eqb (s.0 / 240) p)
        (entry_at page (s.0 % 240)) (entry_at (get_or pages (s.0 / 240) []) (s.0 % 240))
    go (yes e) = rw (e, Rattle.laws.proofs.model.Base.eqb_same p, get_or-set_same pages p page [] h)
    go (no n) = rw (ne_eqb (s.0 / 240) p n, get_or-set_other pages p (s.0 / 240) page [] n)

-- the newest of two
newer_yes : (n : Newest) (page : List ℕ) → n.stamp < stamp_of page → newer n page ≡ record { stamp = stamp_of page; window = window_of page }
newer_yes n page h = rw (newer, lt-ltb _ _ h)

newer_no : (n : Newest) (page : List ℕ) → stamp_of page ≤ n.stamp → newer n page ≡ n
newer_no n page h = rw (newer, le-ltb _ _ h)

newer_both : (n : Newest) (page : List ℕ) → (n.stamp ≤ (newer n page).stamp) × (stamp_of page ≤ (newer n page).stamp)
newer_both n page = go (dec_lt n.stamp (stamp_of page))
  where
    go : Dec (n.stamp < stamp_of page) → (n.stamp ≤ (newer n page).stamp) × (stamp_of page ≤ (newer n page).stamp)
    go (yes h) = rw (newer_yes n page h) (omega arith, omega arith)
    go (no h) = rw (newer_no n page (omega arith)) (omega arith, omega arith)

pub stamp_from : (n : Newest) (pages : List (List ℕ)) → n.stamp ≤ (newest_from n pages).stamp
unfolding newest_from
stamp_from n [] = omega arith
stamp_from n (page ∷ pages) = omega (arith, (newer_both n page).0, stamp_from (newer n page) pages)

pub stamp-most : (n : Newest) (pages : List (List ℕ)) (p : ℕ) → p < length pages → stamp_of (get_or pages p []) ≤ (newest_from n pages).stamp
unfolding newest_from
stamp-most n [] p h = absurd (omega arith)
stamp-most n (page ∷ pages) zero h = omega (arith, (newer_both n page).1, stamp_from (newer n page) pages)
stamp-most n (page ∷ pages) (suc p) h = stamp-most (newer n page) pages p (omega arith)

-- no page is newer
newest_stays : (n : Newest) (pages : List (List ℕ)) → ((p : ℕ) → p < length pages → stamp_of (get_or pages p []) ≤ n.stamp)
    → newest_from n pages ≡ n
unfolding newest_from
newest_stays n [] h = refl
newest_stays n (page ∷ pages) h = ap (λ (m : Newest). newest_from m pages) (newer_no n page (h 0 (omega arith)))
    ∙ newest_stays n pages (λ p q. h (suc p) (omega arith))

-- a page stored with a larger stamp than all is the newest
newest-set_from : (n : Newest) (pages : List (List ℕ)) (p : ℕ) (page : List ℕ) → p < length pages → n.stamp < stamp_of page
    → ((q : ℕ) → q < length pages → stamp_of (get_or pages q []) < stamp_of page)
    → newest_from n (set pages p page) ≡ record { stamp = stamp_of page; window = window_of page }
unfolding newest_from
newest-set_from n [] p page h k m = absurd (omega arith)
newest-set_from n (old ∷ pages) zero page h k m =
    ap (λ (j : Newest). newest_from j pages) (newer_yes n page k)
    ∙ newest_stays (record { stamp = stamp_of page; window = window_of page }) pages (λ q r. le_of (m (suc q) (omega arith)))
  where
    le_of : {a b : ℕ} → a < b → a ≤ b
    le_of h = omega arith
newest-set_from n (old ∷ pages) (suc p) page h k m =
    newest-set_from (newer n old) pages p page (omega arith) (go (dec_lt n.stamp (stamp_of old))) (λ q r. m (suc q) (omega arith))
  where
    go : Dec (n.stamp < stamp_of old) → (newer n old).stamp < stamp_of page
    go (yes e) = rw (newer_yes n old e) (m 0 (omega arith))
    go (no e) = rw (newer_no n old (omega arith)) k

pub newest-set : (pages : List (List ℕ)) (p : ℕ) (page : List ℕ) → p < length pages → (newest_of pages).stamp < stamp_of page
    → newest_of (set pages p page) ≡ record { stamp = stamp_of page; window = window_of page }
newest-set pages p page h k =
    newest-set_from (record { stamp = 0; window = [] }) pages p page h (omega arith)
    (λ q r. omega (arith, stamp-most (record { stamp = 0; window = [] }) pages q r))

-- where every stamp is 0 there is no window
pub newest_none : (pages : List (List ℕ)) → ((p : ℕ) → p < length pages → stamp_of (get_or pages p []) ≡ 0)
    → newest_of pages ≡ record { stamp = 0; window = [] }
newest_none pages h = newest_stays (record { stamp = 0; window = [] }) pages (λ p q. omega (arith, h p q))
