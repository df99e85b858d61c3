-- Demand 2's round trip: a page that is read and stored with the same stamp and window has the same bytes.
use Prim.Native.Nat.{ℕ, zero, suc, ◌+◌, ◌-◌, ◌*◌, ◌/◌, ◌%◌, min, ◌≤◌, ◌<◌}
use mathlib.Core.Path.{◌≡◌, sym, ap, ◌∙◌}
use mathlib.Core.List.{List, [], ◌∷◌, ◌++◌}
use native.Mathlib.Omega.{arith}
use native.Mathlib.Decide.{ℕ_discrete}
use lib.ListN.{length, get_or, drop, replicate, length-take, length-drop}
use lib.Seq.{ext_get_or, get_or-take, get_or-drop}
use Rattle.pages.specs.Pages.{page_at, padded, IsPage}
use Rattle.pages.specs.Words.{le_bytes}
use Rattle.pages.proofs.WordLaws.{bytes_small}
use Rattle.layout.specs.declared.Slot.{Slot}
use Rattle.layout.specs.declared.Label.{Label}
use Rattle.layout.specs.declared.Entry.{Entry}
use Rattle.layout.specs.Places.{meta_pages}
use Rattle.layout.specs.MetaPage.{slots_bytes, entry_bytes, rows_bytes, encode_meta, rows_on, entry_at, rows_from}
use Rattle.layout.proofs.MetaLaws.{length_encode}
use Rattle.layout.proofs.RuleLaws.{page-rule}
use Rattle.layout.proofs.RoundTrip.{legal_back, legal_back_slots}
use Rattle.protocol.specs.Metadata.{read_meta}
use Rattle.protocol.specs.Recovery.{metas_of, entry_in, stored_rows}
use Rattle.protocol.specs.Beside.{ReadsBack, TableBack}
use Rattle.laws.proofs.refine.Entries.{length-rows, rows-block, rows_flags}
use Rattle.laws.proofs.refine.Metas.{metas_at}

-- a stored page is 4,096 bytes
abbrev Bytes : List ℕ → Type 0
Bytes l = (k : ℕ) → get_or l k 0 < 256

none_bytes : Bytes []
none_bytes k = omega arith

one-bytes : (b : ℕ) (l : List ℕ) → b < 256 → Bytes l → Bytes (b ∷ l)
one-bytes b l h r zero = h
one-bytes b l h r (suc k) = r k

both_bytes : (a b : List ℕ) → Bytes a → Bytes b → Bytes (a ++ b)
both_bytes [] b h r = r
both_bytes (x ∷ a) b h r = one-bytes x (a ++ b) (h 0) (both_bytes a b (λ k. h (suc k)) r)

zero_bytes : (n : ℕ) → Bytes (replicate n 0)
zero_bytes zero = none_bytes
zero_bytes (suc n) = one-bytes 0 (replicate n 0) (omega arith) (zero_bytes n)

padded-bytes : (n : ℕ) (l : List ℕ) → Bytes l → Bytes (padded n l)
unfolding padded
padded-bytes n l h = both_bytes l _ h (zero_bytes (n - length l))

slots_bytes_lem : (w : List Slot) → Bytes (slots_bytes w)
unfolding slots_bytes
slots_bytes_lem [] = none_bytes
slots_bytes_lem (s ∷ w) = both_bytes (le_bytes 4 s.0) _ (bytes_small 4 s.0) (slots_bytes_lem w)

entry_bytes_lem : (b f : ℕ) → Bytes (entry_bytes b f)
unfolding entry_bytes
entry_bytes_lem b f =
    both_bytes (le_bytes 4 b) (f % 8 ∷ replicate 3 0) (bytes_small 4 b) (one-bytes (f % 8) (replicate 3 0) (omega arith) (zero_bytes 3))

rows_bytes_lem : (rows : List ℕ) → Bytes (rows_bytes rows)
unfolding rows_bytes
rows_bytes_lem [] = none_bytes
rows_bytes_lem (b ∷ []) = none_bytes
rows_bytes_lem (b ∷ f ∷ rows) = both_bytes (entry_bytes b f) _ (entry_bytes_lem b f) (rows_bytes_lem rows)

pub encoded_page : (t : ℕ) (w : List Slot) (rows : List ℕ) → length w ≤ 63 → length rows ≤ 480 → IsPage (encode_meta t w rows)
unfolding encode_meta
encoded_page t w rows lw lr = record { size = length_encode t w rows lw lr; bytes = padded-bytes 4096 (front ++ rows_bytes rows) all }
  where
    head : List ℕ
    head = le_bytes 4 t ++ le_bytes 2 (length w)

    front : List ℕ
    front = padded 512 (padded 16 head ++ slots_bytes w)

    all : Bytes (front ++ rows_bytes rows)
    all =
        both_bytes front (rows_bytes rows)
        (padded-bytes 512 (padded 16 head ++ slots_bytes w)
        (both_bytes (padded 16 head) (slots_bytes w)
        (padded-bytes 16 head (both_bytes (le_bytes 4 t) (le_bytes 2 (length w)) (bytes_small 4 t) (bytes_small 2 (length w))))
        (slots_bytes_lem w)))
        (rows_bytes_lem rows)

pub reads_back : ReadsBack
reads_back l p page ok r = record {
  all-entries = legal_back l p page ok ((page-rule l p page).1 r);
  own-slots = legal_back_slots l p page ok ((page-rule l p page).1 r);
}

-- the rows of page p among the rows of all stored entries are those of its own entries
module _ (l : Label) (ssd : List ℕ) (p : ℕ) (h : p < meta_pages l) where
  entry_here : (i : ℕ) → i < 240 → entry_in (metas_of l ssd) (record { 0 = 240 * p + i }) ≡ entry_at (read_meta l ssd p) i
  unfolding entry_in
  entry_here i q =
      let a : (240 * p + i) / 240 ≡ p = omega arith in
      let b : (240 * p + i) % 240 ≡ i = omega arith in
      rw (a, b, metas_at l ssd p h)

  rows_here : rows_on p (stored_rows l (metas_of l ssd)) ≡ rows_from (min 240 (l.slots - 240 * p)) (entry_at (read_meta l ssd p))
  rows_here = ext_get_or 0 _ _ sizes λ j q. word j (omega (arith, q, size)) (ℕ_discrete (j % 2) 0)
    where
      size : length (rows_on p (stored_rows l (metas_of l ssd))) ≡ 2 * min 240 (l.slots - 240 * p)
      size = simp (length-take, length-drop, length-rows) (omega arith)

      sizes : length (rows_on p (stored_rows l (metas_of l ssd)))
          ≡ length (rows_from (min 240 (l.slots - 240 * p)) (entry_at (read_meta l ssd p)))
      sizes = size ∙ sym (length-rows _ _)

      taken : (j : ℕ) → j < 480 → get_or (rows_on p (stored_rows l (metas_of l ssd))) j 0 ≡ get_or (stored_rows l (metas_of l ssd)) (480 * p + j) 0
      taken j q = get_or-take 480 (drop (480 * p) (stored_rows l (metas_of l ssd))) j 0 q
          ∙ get_or-drop (480 * p) (stored_rows l (metas_of l ssd)) j 0

      word : (j : ℕ) → j < 2 * min 240 (l.slots - 240 * p) → Dec (j % 2 ≡ 0)
          → get_or (rows_on p (stored_rows l (metas_of l ssd))) j 0
          ≡ get_or (rows_from (min 240 (l.slots - 240 * p)) (entry_at (read_meta l ssd p))) j 0
      word j q (yes z) =
          let i : ℕ = j / 2 in
          let e : 480 * p + j ≡ 2 * (240 * p + i) = omega arith in
          let g : j ≡ 2 * i = omega arith in
          taken j (omega arith) ∙ ap (λ (n : ℕ). get_or (stored_rows l (metas_of l ssd)) n 0) e
          ∙ rows-block l.slots (λ s. entry_in (metas_of l ssd) (record { 0 = s })) (240 * p + i) (omega arith)
          ∙ ap (λ (x : Entry). x.block.0) (entry_here i (omega arith))
          ∙ sym (rows-block _ (entry_at (read_meta l ssd p)) i (omega arith))
          ∙ ap (λ (n : ℕ). get_or (rows_from (min 240 (l.slots - 240 * p)) (entry_at (read_meta l ssd p))) n 0) (sym g)
      word j q (no z) =
          let i : ℕ = j / 2 in
          let e : 480 * p + j ≡ 2 * (240 * p + i) + 1 = omega arith in
          let g : j ≡ 2 * i + 1 = omega arith in
          taken j (omega arith) ∙ ap (λ (n : ℕ). get_or (stored_rows l (metas_of l ssd)) n 0) e
          ∙ rows_flags l.slots (λ s. entry_in (metas_of l ssd) (record { 0 = s })) (240 * p + i) (omega arith)
          ∙ ap (λ (x : Entry). x.flags) (entry_here i (omega arith))
          ∙ sym (rows_flags _ (entry_at (read_meta l ssd p)) i (omega arith))
          ∙ ap (λ (n : ℕ). get_or (rows_from (min 240 (l.slots - 240 * p)) (entry_at (read_meta l ssd p))) n 0) (sym g)

pub table_back : TableBack
table_back l ssd p h ok r = rw (rows_here l ssd p h) (reads_back l p (read_meta l ssd p) ok r).own-slots
