-- A legal page that is read and stored again is the same page, and an encoded page of legal rows and a legal window is legal.
use Prim.Native.Nat.{ℕ, zero, suc, ◌+◌, ◌-◌, ◌*◌, ◌/◌, ◌%◌, ◌^◌, min, ◌≤◌, ◌<◌}
use mathlib.Core.Path.{◌≡◌, refl, sym, ap, ◌∙◌}
use mathlib.Core.Logic.{inl, inr}
use mathlib.Core.Bool.{true}
use mathlib.Core.List.{List, ◌∷◌, ◌++◌, append_assoc, []}
use native.Mathlib.Omega.{arith}
use native.Mathlib.Nat.{mul-suc, add_comm, add-sub_cancel_left}
use native.Mathlib.Decide.{dec_lt, ℕ_discrete}
use lib.ListN.{length, get_or, take, drop, replicate, length-append, length-take, length-drop, length-replicate, get_or-replicate, take-append-drop, drop_of_length-le, get_or-eq_default}
use lib.Seq.{take_all, take-add, drop_at, drop-append-add, drop-drop, drop-cons, ext_get_or, get_or-take, get_or-drop}
use lib.Dec.{ltb}
use borrow.Author.Tests.{ltb-true, ltb-false, eq-eqb, eqb-true, le-leb}
use Rattle.pages.specs.Pages.{padded, IsPage}
use Rattle.pages.specs.Words.{le_bytes, le_number}
use Rattle.pages.proofs.WordLaws.{length-le_bytes, bytes-number}
use Rattle.layout.specs.declared.Slot.{Slot}
use Rattle.layout.specs.declared.Label.{Label}
use Rattle.layout.specs.declared.Entry.{Entry}
use Rattle.layout.specs.Places.{slot_on}
use Rattle.layout.specs.LabelPage.{all_zero}
use Rattle.layout.specs.MetaPage.{slots_bytes, entry_bytes, rows_bytes, encode_meta, stamp_of, count_of, slot_at, firsts, window_of, entry_part, decode_entry, entry_at, rows_from}
use Rattle.layout.specs.PageRule.{count_test, zero_test, ZeroRule, distinct, in_range, window_test, LegalFlags, pair_test, PairRule, entry_test, EntryRule, entries_test, page_test, PageRule}
use Rattle.layout.proofs.MetaLaws.{length-slots_bytes, rows_bytes-most, Fit, encode_fields, encode_stamp, encode_count, encode_window, encode_part, window-part, entries-part, decode_bytes, zeros_part}
use Rattle.layout.proofs.Booleans.{and_of, and_parts, if_of, or_of}
use Rattle.layout.proofs.ZeroLaws.{zeros_zero}
use Rattle.layout.proofs.RuleLaws.{pair-rule, page-rows, page-rule}
use Rattle.layout.proofs.JudgeLaws.{length-window, entries_pass}

-- bytes of a part are bytes
abbrev Bytes : List ℕ → Type 0
Bytes l = (k : ℕ) → get_or l k 0 < 256

take-bytes : (n : ℕ) (l : List ℕ) → Bytes l → Bytes (take n l)
take-bytes zero l h k = omega arith
take-bytes (suc n) [] h k = omega arith
take-bytes (suc n) (b ∷ l) h zero = h 0
take-bytes (suc n) (b ∷ l) h (suc k) = take-bytes n l (λ i. h (suc i)) k

part_bytes : (at n : ℕ) (l : List ℕ) → Bytes l → Bytes (take n (drop at l))
part_bytes at n l h = take-bytes n (drop at l) (λ k. rw (get_or-drop at l k 0) (h (at + k)))

-- the number in a part is written back as that part
number_back : (n at : ℕ) (l : List ℕ) → Bytes l → at + n ≤ length l → le_bytes n (le_number (take n (drop at l))) ≡ take n (drop at l)
number_back n at l h q =
    let e : length (take n (drop at l)) ≡ n = simp (length-take, length-drop) (omega arith) in
    ap (λ (m : ℕ). le_bytes m (le_number (take n (drop at l)))) (sym e) ∙ bytes-number (take n (drop at l)) (part_bytes at n l h)

-- a range of zeros is a list of zeros
zeros_are : (from n : ℕ) (l : List ℕ) → from + n ≤ length l → ZeroRule from (from + n) l → take n (drop from l) ≡ replicate n 0
zeros_are from n l q r =
    ext_get_or 0 _ _ (simp (length-take, length-drop, length-replicate) (omega arith)) λ i h.
    let lt : i < n = omega (arith, simp length-take at h) in
    get_or-take n (drop from l) i 0 lt ∙ get_or-drop from l i 0 ∙ r (from + i) (omega arith) (omega arith) ∙ sym (get_or-replicate n i 0 0 lt)

-- chunks that are the parts of some bytes, one after the other
next_part : (z k : ℕ) (bytes : List ℕ) → take z (drop (z * suc k) bytes) ≡ take z (drop (z * k) (drop z bytes))
next_part z k bytes =
    let e : z * suc k ≡ z + z * k = mul-suc z k ∙ add_comm (z * k) z in
    rw e (ap (take z) (sym (drop-drop (z * k) z bytes)))

slots_back : (n : ℕ) (bytes : List ℕ) (f : ℕ → Slot) → ((k : ℕ) → k < n → le_bytes 4 (f k).0 ≡ take 4 (drop (4 * k) bytes))
    → slots_bytes (firsts n f) ≡ take (4 * n) bytes
unfolding slots_bytes firsts
slots_back zero bytes f h = refl
slots_back (suc n) bytes f h =
    let e : 4 * suc n ≡ 4 + 4 * n = omega arith in
    rw (e, take-add 4 (4 * n) bytes, h 0 (omega arith), slots_back n (drop 4 bytes) (λ k. f (suc k)) (λ k q. h (suc k) (omega arith) ∙ next_part 4 k bytes))

rows_back : (n : ℕ) (bytes : List ℕ) (f : ℕ → Entry) → ((k : ℕ) → k < n → entry_bytes (f k).block.0 (f k).flags ≡ take 8 (drop (8 * k) bytes))
    → rows_bytes (rows_from n f) ≡ take (8 * n) bytes
unfolding rows_bytes rows_from
rows_back zero bytes f h = refl
rows_back (suc n) bytes f h =
    let e : 8 * suc n ≡ 8 + 8 * n = omega arith in
    rw (e, take-add 8 (8 * n) bytes, h 0 (omega arith), rows_back n (drop 8 bytes) (λ k. f (suc k)) (λ k q. h (suc k) (omega arith) ∙ next_part 8 k bytes))

-- legal flags are below 8
flags_small : {f : ℕ} → LegalFlags f → f % 8 ≡ f
flags_small (inl e) = rw e
flags_small (inr (inl e)) = rw e
flags_small (inr (inr (inl e))) = rw e
flags_small (inr (inr (inr (inl e)))) = rw e
flags_small (inr (inr (inr (inr e)))) = rw e

-- an entry's bytes read and written
entry_back : (l : Label) (s : Slot) (part : List ℕ) → length part ≡ 8 → Bytes part → EntryRule l s part
    → entry_bytes (decode_entry part).block.0 (decode_entry part).flags ≡ part
unfolding entry_bytes decode_entry
entry_back l s part q h r =
    let f : ℕ = get_or part 4 0 in
    let z : (k : ℕ) → k < 3 → get_or part (5 + k) 0 ≡ 0 = λ k i. r.zero_after (5 + k) (omega arith) in
    let d7 : drop 7 part ≡ 0 ∷ [] = drop-cons part 7 0 (omega arith) ∙ rw (z 2 (omega arith), drop_of_length-le part {i = 8} (omega arith)) in
    let d6 : drop 6 part ≡ 0 ∷ 0 ∷ [] = drop-cons part 6 0 (omega arith) ∙ rw (z 1 (omega arith), d7) in
    let d5 : drop 5 part ≡ 0 ∷ 0 ∷ 0 ∷ [] = drop-cons part 5 0 (omega arith) ∙ rw (z 0 (omega arith), d6) in
    let d4 : drop 4 part ≡ f ∷ 0 ∷ 0 ∷ 0 ∷ [] = drop-cons part 4 0 (omega arith) ∙ rw d5 in
    let e : f % 8 ≡ f = flags_small r.pair.legal in
    let b : le_bytes 4 (le_number (take 4 part)) ≡ take 4 part = number_back 4 0 part h (omega arith) in
    rw (b, e, ← d4) (take-append-drop 4 part)

-- a page as its fields, one after the other
page_fields : (page : List ℕ) → page ≡ take 4 page ++ (take 2 (drop 4 page) ++ (take 10 (drop 6 page) ++ (take 496 (drop 16 page) ++ drop 512 page)))
page_fields page =
    let split : (n at : ℕ) → drop at page ≡ take n (drop at page) ++ drop (at + n) page = λ n at.
    sym (take-append-drop n (drop at page)) ∙ rw (drop-drop n at page)
    in
    split 4 0
    ∙ ap (λ (r : List ℕ). take 4 page ++ r) (split 2 4)
    ∙ ap (λ (r : List ℕ). take 4 page ++ (take 2 (drop 4 page) ++ r)) (split 10 6)
    ∙ ap (λ (r : List ℕ). take 4 page ++ (take 2 (drop 4 page) ++ (take 10 (drop 6 page) ++ r))) (split 496 16)

fields_same : {a b c d e a' b' c' d' e' : List ℕ} → a ≡ a' → b ≡ b' → c ≡ c' → d ≡ d' → e ≡ e' → a ++ (b ++ (c ++ (d ++ e))) ≡ a' ++ (b' ++ (c' ++ (d' ++ e')))
fields_same p q r s t = cc

-- a front, and zeros after it
filled : (n m : ℕ) (rest front : List ℕ) → m ≤ n → n ≤ length rest → front ≡ take m rest → take (n - m) (drop m rest) ≡ replicate (n - m) 0
    → padded n front ≡ take n rest
unfolding padded
filled n m rest front h q e z =
    let l : length front ≡ m = ap length e ∙ simp length-take (omega arith) in
    let k : n ≡ m + (n - m) = omega arith in
    rw (l, ← z, e) (sym (take-add m (n - m) rest) ∙ ap (λ (i : ℕ). take i rest) (sym k))

module _ (l : Label) (p : ℕ) (page : List ℕ) (ok : IsPage page) (r : PageRule l p page) where
  length_part : (i : ℕ) → i < 240 → length (entry_part page i) ≡ 8
  unfolding entry_part
  length_part i h = simp (length-take, length-drop, ok.size) (omega arith)

  entry_same : (i : ℕ) → i < 240 → entry_bytes (entry_at page i).block.0 (entry_at page i).flags ≡ entry_part page i
  unfolding entry_part
  entry_same i h = entry_back l (slot_on p i) (entry_part page i) (length_part i h) (part_bytes (512 + 8 * i) 8 page ok.bytes) (r.entries i h)

  -- an entry beyond the last slot is all zero
  entry_zero_is : (i : ℕ) → i < 240 → l.slots ≤ 240 * p + i → entry_part page i ≡ replicate 8 0
  unfolding entry_bytes le_bytes
  entry_zero_is i h q =
      let f : (entry_at page i).flags ≡ 0 = (r.entries i h).beyond q in
      let b : (entry_at page i).block.0 ≡ 0 = (r.entries i h).pair.free f in
      sym (entry_same i h) ∙ rw (b, f)

  slot_same : (k : ℕ) → k < 63 → le_bytes 4 (slot_at page k).0 ≡ take 4 (drop (4 * k) (drop 16 page))
  unfolding slot_at
  slot_same k h = rw (drop-drop (4 * k) 16 page) (number_back 4 (16 + 4 * k) page ok.bytes (omega (arith, ok.size)))

  window_zeros : ZeroRule (16 + 4 * count_of page) 512 page
  window_zeros k h q = go (dec_lt k 268)
    where
      go : Dec (k < 268) → get_or page k 0 ≡ 0
      go (yes m) = r.window.zero_past_lem k h m
      go (no m) = r.zero_268 k (omega arith) q

  window_same : padded 496 (slots_bytes (window_of page)) ≡ take 496 (drop 16 page)
  unfolding window_of
  window_same =
      let n : ℕ = count_of page in
      let most : n ≤ 63 = r.count.most in
      let e : 16 + 4 * n + (496 - 4 * n) ≡ 512 = omega arith in
      filled 496 (4 * n) (drop 16 page) (slots_bytes (firsts n (slot_at page))) (omega arith) (simp (length-drop, ok.size) (omega arith))
      (slots_back n (drop 16 page) (slot_at page) (λ k q. slot_same k (omega arith)))
      (rw
      (drop-drop (4 * n) 16 page)
      (zeros_are (16 + 4 * n) (496 - 4 * n) page (omega (arith, ok.size)) (rw (sym e) at window_zeros)))

  -- the rows of the first n entries, where the others are beyond the last slot
  module _ (n : ℕ) (most : n ≤ 240) (others : (i : ℕ) → n ≤ i → i < 240 → l.slots ≤ 240 * p + i) where
    entries_zero : ZeroRule (512 + 8 * n) 4096 page
    unfolding entry_part
    entries_zero k h q = go (dec_lt k 2432)
      where
        go : Dec (k < 2432) → get_or page k 0 ≡ 0
        go (no m) = r.zero_2432 k (omega arith) q
        go (yes m) =
            let i : ℕ = (k - 512) / 8 in
            let j : ℕ = (k - 512) % 8 in
            let e : 512 + 8 * i + j ≡ k = omega arith in
            let z : get_or (entry_part page i) j 0 ≡ 0 = ap (λ (x : List ℕ). get_or x j 0) (entry_zero_is i (omega arith) (others i (omega arith) (omega arith))) ∙ get_or-replicate 8 j 0 0 (omega arith) in
            ap (λ (x : ℕ). get_or page x 0) (sym e)
            ∙ sym (get_or-drop (512 + 8 * i) page j 0)
            ∙ sym (get_or-take 8 (drop (512 + 8 * i) page) j 0 (omega arith))
            ∙ z

    rows_same : padded 3584 (rows_bytes (rows_from n (entry_at page))) ≡ drop 512 page
    unfolding entry_part
    rows_same =
        let e : 512 + 8 * n + (3584 - 8 * n) ≡ 4096 = omega arith in
        filled 3584 (8 * n) (drop 512 page) (rows_bytes (rows_from n (entry_at page))) (omega arith) (simp (length-drop, ok.size) (omega arith))
        (rows_back n (drop 512 page) (entry_at page) (λ k q. entry_same k (omega arith) ∙ rw (drop-drop (8 * k) 512 page)))
        (rw
        (drop-drop (8 * n) 512 page)
        (zeros_are (512 + 8 * n) (3584 - 8 * n) page (omega (arith, ok.size)) (rw (sym e) at entries_zero)))
        ∙ take_all 3584 (drop 512 page) (simp (length-drop, ok.size) (omega arith))

    pub page_back : encode_meta (stamp_of page) (window_of page) (rows_from n (entry_at page)) ≡ page
    unfolding stamp_of count_of
    page_back =
        let c : length (window_of page) ≡ le_number (take 2 (drop 4 page)) = length-window page in
        let t : le_bytes 4 (le_number (take 4 page)) ≡ take 4 page = number_back 4 0 page ok.bytes (omega (arith, ok.size)) in
        let d : le_bytes 2 (le_number (take 2 (drop 4 page))) ≡ take 2 (drop 4 page) = number_back 2 4 page ok.bytes (omega (arith, ok.size)) in
        let z : take 10 (drop 6 page) ≡ replicate 10 0 = zeros_are 6 10 page (omega (arith, ok.size)) r.zero_6 in
        encode_fields (le_number (take 4 page)) (window_of page) (rows_from n (entry_at page)) (omega (arith, length-window page, r.count.most))
        ∙ fields_same t (ap (le_bytes 2) c ∙ d) (sym z) window_same rows_same
        ∙ sym (page_fields page)

-- "a legal page read and stored with its stamp and window has the same bytes": with the rows of all its entries
pub legal_back : (l : Label) (p : ℕ) (page : List ℕ) → IsPage page → page_test l p page ≡ true
    → encode_meta (stamp_of page) (window_of page) (rows_from 240 (entry_at page)) ≡ page
legal_back l p page ok e = page_back l p page ok ((page-rule l p page).0 e) 240 (omega arith) (λ i h q. absurd (omega arith))

-- the same with the rows of just the slots that the page has
pub legal_back_slots : (l : Label) (p : ℕ) (page : List ℕ) → IsPage page → page_test l p page ≡ true
    → encode_meta (stamp_of page) (window_of page) (rows_from (min 240 (l.slots - 240 * p)) (entry_at page)) ≡ page
legal_back_slots l p page ok e =
    page_back l p page ok ((page-rule l p page).0 e) (min 240 (l.slots - 240 * p)) (omega arith) (λ i h q. omega arith)

-- what stands past a list that is padded is zero
past_zeros : (n at k : ℕ) (front : List ℕ) → length front ≤ at → at + k ≤ n → take k (drop at (padded n front)) ≡ replicate k 0
unfolding padded
past_zeros n at k front h q =
    let e : length front + (at - length front) ≡ at = omega arith in
    let d : drop at (front ++ replicate (n - length front) 0) ≡ drop (at - length front) (replicate (n - length front) 0) =
    ap (λ (i : ℕ). drop i (front ++ replicate (n - length front) 0)) (sym e) ∙ drop-append-add front (replicate (n - length front) 0) (at - length front)
    in
    ap (take k) d ∙ zeros_part (at - length front) k (n - length front) (omega arith)

-- a window in range has slot numbers of 32 bits
pub range_fit : (l : Label) (w : List Slot) → l.slots ≤ 57600 → in_range l w ≡ true → Fit w
unfolding in_range
range_fit l [] q e k h = absurd (omega arith)
range_fit l (s ∷ w) q e zero h = omega (arith, ltb-true s.0 l.slots (and_parts (ltb s.0 l.slots) (in_range l w) e).0)
range_fit l (s ∷ w) q e (suc k) h = range_fit l w q (and_parts (ltb s.0 l.slots) (in_range l w) e).1 k (omega arith)

tail_zero : (b f : ℕ) → all_zero (drop 5 (entry_bytes b f)) ≡ true
unfolding entry_bytes le_bytes all_zero
tail_zero b f = refl

-- an entry that was written of a legal row
entry_legal : (l : Label) (s : Slot) (b f : ℕ) → l.blocks ≤ 16777216 → pair_test l b (f % 8) ≡ true → (l.slots ≤ s.0 → f % 8 ≡ 0)
    → entry_test l s (entry_bytes b f) ≡ true
unfolding entry_test
entry_legal l s b f q e past =
    let small : b < 2 ^ 32 = block_small ((pair-rule l b (f % 8)).0 e) in
    rw (decode_bytes b f small) (and_of e (and_of (tail_zero b f) (or_of _ _ λ h. eq-eqb _ _ (past (ltb-false s.0 l.slots h)))))
  where
    block_small : PairRule l b (f % 8) → b < 2 ^ 32
    block_small r = go (ℕ_discrete (f % 8) 0)
      where
        go : Dec (f % 8 ≡ 0) → b < 2 ^ 32
        go (yes z) = omega (arith, r.free z)
        go (no z) = omega (arith, r.below z)

-- what a metadata store is handed: the rows of the page's slots, each legal without its used flag, and a legal window
pub record Storable (l : Label) (p t : ℕ) (w : List Slot) (rows : List ℕ) : Type 0 where
  pub slots-most : l.slots ≤ 57600
  pub blocks-most : l.blocks ≤ 16777216
  pub stamp_fits : t < 2 ^ 32
  pub stamp_zero_is : t ≡ 0 → w ≡ []
  pub window_most_is : length w ≤ 63
  pub in_range_is : in_range l w ≡ true
  pub apart : distinct w ≡ true
  pub row_count : length rows ≡ 2 * min 240 (l.slots - 240 * p)
  pub pairs : (i : ℕ) → 2 * i < length rows → pair_test l (get_or rows (2 * i) 0) (get_or rows (2 * i + 1) 0 % 8) ≡ true

module _ (l : Label) (p t : ℕ) (w : List Slot) (rows : List ℕ) (h : Storable l p t w rows) where
  lw : length w ≤ 63
  lw = h.window_most_is

  lr : length rows ≤ 480
  lr = omega (arith, h.row_count)

  even : length rows % 2 ≡ 0
  even = omega (arith, h.row_count)

  page : List ℕ
  page = encode_meta t w rows

  count-legal : count_test page ≡ true
  unfolding count_test page
  count-legal =
      rw (encode_count t w rows lw lr, encode_stamp t w rows lw lr h.stamp_fits)
      (and_of (le-leb (length w) 63 lw) (if_of _ _ λ e. eq-eqb _ _ (ap length (h.stamp_zero_is (eqb-true t 0 e)))))

  -- the zero ranges, in the window's part of the page and after the entries
  window_zero : (at k : ℕ) → 4 * length w ≤ at → at + k ≤ 496 → zero_test (16 + at) (16 + at + k) page ≡ true
  unfolding zero_test page
  window_zero at k q m =
      rw
      (add-sub_cancel_left (16 + at) k, window-part t w rows lw lr at k m, past_zeros 496 at k (slots_bytes w) (omega (arith, length-slots_bytes w)) m)
      (zeros_zero k)

  head_zero : zero_test 6 16 page ≡ true
  unfolding zero_test page
  head_zero =
      let a : List ℕ = le_bytes 4 t in
      let b : List ℕ = le_bytes 2 (length w) in
      let f : length (a ++ b) ≡ 6 = length-append a b ∙ rw (length-le_bytes 4 t, length-le_bytes 2 (length w)) in
      let r : List ℕ = padded 496 (slots_bytes w) ++ padded 3584 (rows_bytes rows) in
      let e : take 10 (drop 6 (encode_meta t w rows)) ≡ replicate 10 0 =
      ap (λ (x : List ℕ). take 10 (drop 6 x)) (encode_fields t w rows lw ∙ sym (append_assoc a b (replicate 10 0 ++ r)))
      ∙ ap (take 10) (drop_at (a ++ b) (replicate 10 0 ++ r) 6 f)
      in
      ap all_zero e ∙ zeros_zero 10

  end_zero : zero_test 2432 4096 page ≡ true
  unfolding zero_test page
  end_zero =
      rw
      (entries-part t w rows lw lr 1920 1664, past_zeros 3584 1920 1664 (rows_bytes rows) (omega (arith, rows_bytes-most rows)) (omega arith))
      (zeros_zero 1664)

  window-legal : window_test l page ≡ true
  unfolding window_test page
  window-legal =
      let m : 16 + 4 * length w + (252 - 4 * length w) ≡ 268 = omega arith in
      rw
      (encode_window t w rows lw lr (range_fit l w h.slots-most h.in_range_is), encode_count t w rows lw lr)
      (and_of h.in_range_is (and_of h.apart (rw m at (window_zero (4 * length w) (252 - 4 * length w) (omega arith) (omega arith)))))

  entries-legal : entries_test l p page ≡ true
  unfolding page
  entries-legal = sym (entries_pass l p page λ i q. rw (encode_part t w rows lw lr even i q) (go i q (dec_lt (2 * i) (length rows))))
    where
      go : (i : ℕ) → i < 240 → Dec (2 * i < length rows) → entry_test l (slot_on p i) (entry_bytes (get_or rows (2 * i) 0) (get_or rows (2 * i + 1) 0)) ≡ true
      go i q (yes m) = entry_legal l (slot_on p i) _ _ h.blocks-most (h.pairs i m) (λ z. absurd (omega (arith, h.row_count)))
      go i q (no m) =
          let b : get_or rows (2 * i) 0 ≡ 0 = get_or-eq_default rows 0 (omega arith) in
          let f : get_or rows (2 * i + 1) 0 ≡ 0 = get_or-eq_default rows 0 (omega arith) in
          rw (b, f) (entry_legal l (slot_on p i) 0 0 h.blocks-most ((pair-rule l 0 0).1 (record { legal = inl refl; free = λ z. refl; below = λ z. absurd (z refl) })) (λ z. refl))

  pub encoded_legal : page_test l p (encode_meta t w rows) ≡ true
  unfolding page
  encoded_legal =
      (page-rows l p page).1
      (record {
        count = count-legal;
        zero_6 = head_zero;
        window = window-legal;
        zero_268 = window_zero 252 244 (omega arith) (omega arith);
        entries = entries-legal;
        zero_2432 = end_zero;
      })
