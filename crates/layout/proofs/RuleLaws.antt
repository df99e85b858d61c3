-- Each test of specs/PageRule.antt says what the proposition beside it says.
use Prim.Native.Nat.{ℕ, zero, suc, ◌+◌, ◌-◌, ◌*◌, ◌%◌, ◌≤◌, ◌<◌}
use mathlib.Core.Path.{◌≡◌, refl, sym, ap, ◌∙◌}
use mathlib.Core.Logic.{◌≢◌, ◌⊎◌, inl, inr}
use mathlib.Core.Bool.{Bool, true, false, not, ◌&&◌, ◌||◌}
use mathlib.Core.List.{List, ◌∷◌}
use native.Mathlib.Omega.{arith}
use native.Mathlib.Nat.{add-zero}
use lib.ListN.{get_or, take, drop, length-take}
use lib.Seq.{get_or-take, get_or-drop, drop-drop}
use lib.Dec.{eqb, ltb}
use borrow.Author.Tests.{ltb-true, ltb-false, leb-true, eqb-true, eqb-false, not-true, lt-ltb, le-ltb, le-leb, eq-eqb, ne_eqb}
use Rattle.layout.specs.declared.Slot.{Slot}
use Rattle.layout.specs.declared.Label.{Label}
use Rattle.layout.specs.MetaPage.{count_of, slot_at, firsts, window_of, entry_part, decode_entry}
use Rattle.layout.specs.Places.{slot_on}
use Rattle.layout.specs.PageRule.{count_test, CountRule, zero_test, ZeroRule, listed, distinct, in_range, window_test, WindowRule, legal_flags, LegalFlags, pair_test, PairRule, entry_test, EntryRule, entries_from, entries_test, EntriesRule, RowTest, passes, page_test, PageRule}
use Rattle.layout.proofs.ZeroLaws.{zeros_get, zeros_of}
use Rattle.layout.proofs.Booleans.{and_of, and_parts, or_cases, or_of, or_use, if_of, if_use, not_of, or_neither}

-- a test and a proposition say the same
infix 4 ◌⇔◌
abbrev pub ◌⇔◌ : Bool → Type 0 → Type 0
b ⇔ P = (b ≡ true → P) × (P → b ≡ true)

pub count-rule : (page : List ℕ) → count_test page ⇔ CountRule page
unfolding count_test
count-rule page = (
  λ e.
      let p = and_parts _ _ e in
      record { most = leb-true _ _ p.0; stamp_zero_is = λ z. eqb-true _ _ (if_use _ _ p.1 (eq-eqb _ _ z)) },
  λ r. and_of (le-leb _ _ r.most) (if_of _ _ λ z. eq-eqb _ _ (r.stamp_zero_is (eqb-true _ _ z))),
)

pub zero_rule : (from to : ℕ) (page : List ℕ) → zero_test from to page ⇔ ZeroRule from to page
unfolding zero_test
zero_rule from to page = (
  λ e k p q.
      let i : from + (k - from) ≡ k = omega arith in
      ap (λ (n : ℕ). get_or page n 0) (sym i)
      ∙ sym (get_or-drop from page (k - from) 0)
      ∙ sym (get_or-take (to - from) (drop from page) (k - from) 0 (omega arith))
      ∙ zeros_get _ e (k - from),
  λ r. zeros_of _ λ k q.
      let lt : k < to - from = omega (arith, simp length-take at q) in
      get_or-take (to - from) (drop from page) k 0 lt ∙ get_or-drop from page k 0 ∙ r (from + k) (omega arith) (omega arith),
)

-- the window, place by place
range_get : (l : Label) (n : ℕ) (f : ℕ → Slot) → in_range l (firsts n f) ≡ true → (k : ℕ) → k < n → (f k).0 < l.slots
unfolding in_range firsts
range_get l zero f e k h = absurd (omega arith)
range_get l (suc n) f e zero h = ltb-true _ _ (and_parts (ltb (f 0).0 l.slots) _ e).0
range_get l (suc n) f e (suc k) h = range_get l n (λ i. f (suc i)) (and_parts (ltb (f 0).0 l.slots) _ e).1 k (omega arith)

range_of : (l : Label) (n : ℕ) (f : ℕ → Slot) → ((k : ℕ) → k < n → (f k).0 < l.slots) → in_range l (firsts n f) ≡ true
unfolding in_range firsts
range_of l zero f h = refl
range_of l (suc n) f h = and_of (lt-ltb _ _ (h 0 (omega arith))) (range_of l n (λ i. f (suc i)) (λ k q. h (suc k) (omega arith)))

unlisted_get : (s : Slot) (n : ℕ) (f : ℕ → Slot) → listed s (firsts n f) ≡ false → (k : ℕ) → k < n → s.0 ≢ (f k).0
unfolding listed firsts
unlisted_get s zero f e k h = absurd (omega arith)
unlisted_get s (suc n) f e zero h = eqb-false _ _ (or_neither (eqb s.0 (f 0).0) _ e).0
unlisted_get s (suc n) f e (suc k) h = unlisted_get s n (λ i. f (suc i)) (or_neither (eqb s.0 (f 0).0) _ e).1 k (omega arith)

unlisted_of : (s : Slot) (n : ℕ) (f : ℕ → Slot) → ((k : ℕ) → k < n → s.0 ≢ (f k).0) → listed s (firsts n f) ≡ false
unfolding listed firsts
unlisted_of s zero f h = refl
unlisted_of s (suc n) f h = rw (ne_eqb s.0 (f 0).0 (h 0 (omega arith))) (unlisted_of s n (λ i. f (suc i)) (λ k q. h (suc k) (omega arith)))

distinct_get : (n : ℕ) (f : ℕ → Slot) → distinct (firsts n f) ≡ true → (k m : ℕ) → k < m → m < n → (f k).0 ≢ (f m).0
unfolding distinct firsts
distinct_get zero f e k m h q = absurd (omega arith)
distinct_get (suc n) f e k zero h q = absurd (omega arith)
distinct_get (suc n) f e zero (suc m) h q =
    let g : ℕ → Slot = λ i. f (suc i) in
    unlisted_get (f 0) n g (not-true (listed (f 0) (firsts n g)) (and_parts (not (listed (f 0) (firsts n g))) (distinct (firsts n g)) e).0) m (omega arith)
distinct_get (suc n) f e (suc k) (suc m) h q =
    let g : ℕ → Slot = λ i. f (suc i) in
    distinct_get n g (and_parts (not (listed (f 0) (firsts n g))) (distinct (firsts n g)) e).1 k m (omega arith) (omega arith)

distinct_of : (n : ℕ) (f : ℕ → Slot) → ((k m : ℕ) → k < m → m < n → (f k).0 ≢ (f m).0) → distinct (firsts n f) ≡ true
unfolding distinct firsts
distinct_of zero f h = refl
distinct_of (suc n) f h =
    and_of
    (not_of _ (unlisted_of (f 0) n (λ i. f (suc i)) (λ k q. h 0 (suc k) (omega arith) (omega arith))))
    (distinct_of n (λ i. f (suc i)) (λ k m p q. h (suc k) (suc m) (omega arith) (omega arith)))

pub window-rule : (l : Label) (page : List ℕ) → window_test l page ⇔ WindowRule l page
unfolding window_test window_of
window-rule l page = (
  λ e.
      let p = and_parts _ _ e in
      let q = and_parts _ _ p.1 in
      record {
        in_range_is = range_get l (count_of page) (slot_at page) p.0;
        apart = distinct_get (count_of page) (slot_at page) q.0;
        zero_past_lem = (zero_rule (16 + 4 * count_of page) 268 page).0 q.1;
      },
  λ r.
      and_of
      (range_of l (count_of page) (slot_at page) r.in_range_is)
      (and_of (distinct_of (count_of page) (slot_at page) r.apart) ((zero_rule (16 + 4 * count_of page) 268 page).1 r.zero_past_lem)),
)

pub flags_rule : (f : ℕ) → legal_flags f ⇔ LegalFlags f
unfolding legal_flags
flags_rule f = (to, from)
  where
    or_else : {A B : Type 0} (a b : Bool) → (a ≡ true → A) → (b ≡ true → B) → (a || b) ≡ true → A ⊎ B
    or_else a b p q e = elim (or_cases a b e) [ inl x ↦ inl (p x) | inr y ↦ inr (q y) ]

    to : (eqb f 0 || (eqb f 1 || (eqb f 3 || (eqb f 5 || eqb f 7)))) ≡ true → LegalFlags f
    to = or_else _ _ (eqb-true f 0) (or_else _ _ (eqb-true f 1) (or_else _ _ (eqb-true f 3) (or_else _ _ (eqb-true f 5) (eqb-true f 7))))

    from : LegalFlags f → (eqb f 0 || (eqb f 1 || (eqb f 3 || (eqb f 5 || eqb f 7)))) ≡ true
    from (inl e) = rw e
    from (inr (inl e)) = rw e
    from (inr (inr (inl e))) = rw e
    from (inr (inr (inr (inl e)))) = rw e
    from (inr (inr (inr (inr e)))) = rw e

-- the legal sums: 0, and the odd ones below 8
pub flags_odd : (f : ℕ) → f ≤ 7 → f % 2 ≢ 0 → legal_flags f ≡ true
unfolding legal_flags
flags_odd f h o =
    or_of (eqb f 0) _ λ a. or_of (eqb f 1) _ λ b. or_of (eqb f 3) _ λ c. or_of (eqb f 5) _ λ d.
    eq-eqb f 7 (omega (arith, eqb-false f 1 b, eqb-false f 3 c, eqb-false f 5 d))

pub flags_none : (f : ℕ) → f ≢ 0 → f ≢ 1 → f ≢ 3 → f ≢ 5 → f ≢ 7 → legal_flags f ≡ false
unfolding legal_flags
flags_none f a b c d e = rw (ne_eqb f 0 a, ne_eqb f 1 b, ne_eqb f 3 c, ne_eqb f 5 d, ne_eqb f 7 e)

pub pair-rule : (l : Label) (block flags : ℕ) → pair_test l block flags ⇔ PairRule l block flags
unfolding pair_test
pair-rule l block flags = (
  λ e.
      let p = and_parts _ _ e in
      let q = and_parts _ _ p.1 in
      record {
        legal = (flags_rule flags).0 p.0;
        free = λ z. eqb-true _ _ (if_use _ _ q.0 (eq-eqb _ _ z));
        below = λ z. ltb-true _ _ (or_use _ _ q.1 (ne_eqb _ _ z));
      },
  λ r.
      and_of
      ((flags_rule flags).1 r.legal)
      (and_of
      (if_of _ _ λ z. eq-eqb _ _ (r.free (eqb-true _ _ z)))
      (or_of _ _ λ z. lt-ltb _ _ (r.below (eqb-false _ _ z)))),
)

pub entry_rule : (l : Label) (s : Slot) (part : List ℕ) → entry_test l s part ⇔ EntryRule l s part
unfolding entry_test
entry_rule l s part = (
  λ e.
      let p = and_parts _ _ e in
      let q = and_parts _ _ p.1 in
      record {
        pair = (pair-rule l (decode_entry part).block.0 (decode_entry part).flags).0 p.0;
        zero_after = λ k h.
            let i : 5 + (k - 5) ≡ k = omega arith in
            ap (λ (n : ℕ). get_or part n 0) (sym i) ∙ sym (get_or-drop 5 part (k - 5) 0) ∙ zeros_get (drop 5 part) q.0 (k - 5);
        beyond = λ h. eqb-true _ _ (or_use _ _ q.1 (le-ltb _ _ h));
      },
  λ r.
      and_of
      ((pair-rule l (decode_entry part).block.0 (decode_entry part).flags).1 r.pair)
      (and_of
      (zeros_of (drop 5 part) λ k q. get_or-drop 5 part k 0 ∙ r.zero_after (5 + k) (omega arith))
      (or_of _ _ λ h. eq-eqb _ _ (r.beyond (ltb-false _ _ h)))),
)

-- the entries one after the other: entry i stands 8 * i bytes on
entry_next : (l : Label) (s i : ℕ) (bytes : List ℕ) → entry_test l (record { 0 = suc s + i }) (take 8 (drop (8 * i) (drop 8 bytes))) ≡ entry_test l (record { 0 = s + suc i }) (take 8 (drop (8 * suc i) bytes))
entry_next l s i bytes =
    let e : suc s + i ≡ s + suc i = omega arith in
    let d : 8 + 8 * i ≡ 8 * suc i = omega arith in
    rw (drop-drop (8 * i) 8 bytes, e, d)

pub entries_get : (l : Label) (s n : ℕ) (bytes : List ℕ) → entries_from l (record { 0 = s }) n bytes ≡ true
    → (i : ℕ) → i < n → entry_test l (record { 0 = s + i }) (take 8 (drop (8 * i) bytes)) ≡ true
unfolding entries_from
entries_get l s zero bytes e i h = absurd (omega arith)
entries_get l s (suc n) bytes e zero h = rw add-zero (and_parts (entry_test l (record { 0 = s }) (take 8 bytes)) (entries_from l (record { 0 = suc s }) n (drop 8 bytes)) e).0
entries_get l s (suc n) bytes e (suc i) h = sym (entry_next l s i bytes) ∙ entries_get l (suc s) n (drop 8 bytes) (and_parts (entry_test l (record { 0 = s }) (take 8 bytes)) (entries_from l (record { 0 = suc s }) n (drop 8 bytes)) e).1 i (omega arith)

pub entries_of : (l : Label) (s n : ℕ) (bytes : List ℕ) → ((i : ℕ) → i < n → entry_test l (record { 0 = s + i }) (take 8 (drop (8 * i) bytes)) ≡ true)
    → entries_from l (record { 0 = s }) n bytes ≡ true
unfolding entries_from
entries_of l s zero bytes h = refl
entries_of l s (suc n) bytes h = and_of (rw add-zero at (h 0 (omega arith))) (entries_of l (suc s) n (drop 8 bytes) λ i q. entry_next l s i bytes ∙ h (suc i) (omega arith))

-- entry i of a page, found from the entries' first byte
entry_there : (l : Label) (p i : ℕ) (page : List ℕ) → entry_test l (record { 0 = 240 * p + 0 + i }) (take 8 (drop (8 * i) (drop 512 page))) ≡ entry_test l (slot_on p i) (entry_part page i)
unfolding entry_part
entry_there l p i page = rw (drop-drop (8 * i) 512 page, add-zero)

pub entries-rule : (l : Label) (p : ℕ) (page : List ℕ) → entries_test l p page ⇔ EntriesRule l p page
unfolding entries_test
entries-rule l p page = (
  λ e i h. (entry_rule l (slot_on p i) (entry_part page i)).0 (sym (entry_there l p i page) ∙ entries_get l (240 * p + 0) 240 (drop 512 page) e i h),
  λ r. entries_of l (240 * p + 0) 240 (drop 512 page) λ i h. entry_there l p i page ∙ (entry_rule l (slot_on p i) (entry_part page i)).1 (r i h),
)

-- the row tests, one after the other
pub passes_cons : (test : RowTest) (tests : List RowTest) (l : Label) (p : ℕ) (page : List ℕ)
    → passes (test ∷ tests) l p page ≡ (test l p page && passes tests l p page)
unfolding passes
passes_cons test tests l p page = go (test l p page)
  where
    go : (b : Bool) → elim b [ true ↦ passes tests l p page | false ↦ false ] ≡ (b && passes tests l p page)
    go true = refl
    go false = refl

-- the page's test is all of them at once
pub page_tests : (l : Label) (p : ℕ) (page : List ℕ)
    → page_test l p page
    ≡ (count_test page && (zero_test 6 16 page && (window_test l page && (zero_test 268 512 page && (entries_test l p page && (zero_test 2432 4096 page && true))))))
unfolding page_test
page_tests l p page = simp passes_cons (unfold passes in refl)

-- what the page's test says, row by row
pub record Rows (l : Label) (p : ℕ) (page : List ℕ) : Type 0 where
  pub count : count_test page ≡ true
  pub zero_6 : zero_test 6 16 page ≡ true
  pub window : window_test l page ≡ true
  pub zero_268 : zero_test 268 512 page ≡ true
  pub entries : entries_test l p page ≡ true
  pub zero_2432 : zero_test 2432 4096 page ≡ true

pub page-rows : (l : Label) (p : ℕ) (page : List ℕ) → page_test l p page ⇔ Rows l p page
page-rows l p page = (
  λ e.
      let a = and_parts (count_test page) _ (sym (page_tests l p page) ∙ e) in
      let b = and_parts (zero_test 6 16 page) _ a.1 in
      let c = and_parts (window_test l page) _ b.1 in
      let d = and_parts (zero_test 268 512 page) _ c.1 in
      let f = and_parts (entries_test l p page) _ d.1 in
      let g = and_parts (zero_test 2432 4096 page) _ f.1 in
      record { count = a.0; zero_6 = b.0; window = c.0; zero_268 = d.0; entries = f.0; zero_2432 = g.0 },
  λ r.
      page_tests l p page
      ∙ and_of r.count (and_of r.zero_6 (and_of r.window (and_of r.zero_268 (and_of r.entries (and_of r.zero_2432 refl))))),
)

pub page-rule : (l : Label) (p : ℕ) (page : List ℕ) → page_test l p page ⇔ PageRule l p page
page-rule l p page = (
  λ e.
      let r = (page-rows l p page).0 e in
      record {
        count = (count-rule page).0 r.count;
        zero_6 = (zero_rule 6 16 page).0 r.zero_6;
        window = (window-rule l page).0 r.window;
        zero_268 = (zero_rule 268 512 page).0 r.zero_268;
        entries = (entries-rule l p page).0 r.entries;
        zero_2432 = (zero_rule 2432 4096 page).0 r.zero_2432;
      },
  λ r.
      (page-rows l p page).1
      (record {
        count = (count-rule page).1 r.count;
        zero_6 = (zero_rule 6 16 page).1 r.zero_6;
        window = (window-rule l page).1 r.window;
        zero_268 = (zero_rule 268 512 page).1 r.zero_268;
        entries = (entries-rule l p page).1 r.entries;
        zero_2432 = (zero_rule 2432 4096 page).1 r.zero_2432;
      }),
)
