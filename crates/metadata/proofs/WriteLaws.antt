-- The stores that make a metadata page, one after the other.
use Prim.Native.Nat.{ℕ, ◌+◌, ◌*◌, ◌/◌, ◌%◌, ◌≤◌, ◌<◌}
use mathlib.Core.Path.{◌≡◌, refl, sym, ap, ◌∙◌}
use mathlib.Core.List.{List, ◌∷◌, ◌++◌, append_assoc, append-nil, []}
use native.Mathlib.Omega.{arith}
use native.Mathlib.Numerals.{add-one}
use lib.Dec.{lit≤}
use lib.ListN.{length, take, drop, get_or, replicate, length-append, length-take}
use lib.Seq.{take-suc, take-add}
use borrow.Rule.Slice.PartMut.{put_mid}
use Rattle.pages.specs.Pages.{padded}
use Rattle.pages.specs.Words.{le_bytes}
use Rattle.pages.proofs.WordLaws.{length-le_bytes}
use Rattle.pages.proofs.PadLaws.{chunk_more, length-padded, padded_put, padded_full, padded_zeros}
use Rattle.layout.specs.declared.Slot.{Slot}
use Rattle.layout.specs.MetaPage.{slots_bytes, entry_bytes, rows_bytes, encode_meta}
use Rattle.layout.proofs.Loops.{left}
use Rattle.layout.proofs.MetaLaws.{length-slots_bytes, length-rows_bytes}

-- a window's bytes, one slot more
slots-append : (v w : List Slot) → slots_bytes (v ++ w) ≡ slots_bytes v ++ slots_bytes w
unfolding slots_bytes
slots-append [] w = refl
slots-append (s ∷ v) w = rw (slots-append v w) (sym (append_assoc (le_bytes 4 s.0) (slots_bytes v) (slots_bytes w)))

slots_more : (w : List Slot) (i : ℕ) (d : Slot) → i < length w → slots_bytes (take (i + 1) w) ≡ slots_bytes (take i w) ++ le_bytes 4 (get_or w i d).0
unfolding slots_bytes
slots_more w i d h =
    rw (add-one i, take-suc w i d h) (slots-append (take i w) (get_or w i d ∷ []) ∙ ap (λ (t : List ℕ). slots_bytes (take i w) ++ t) (append-nil _))

-- rows' bytes, one row more
rows_append : (v w : List ℕ) → length v % 2 ≡ 0 → rows_bytes (v ++ w) ≡ rows_bytes v ++ rows_bytes w
unfolding rows_bytes
rows_append [] w h = refl
rows_append (b ∷ []) w h = absurd (omega arith)
rows_append (b ∷ f ∷ v) w h = rw (rows_append v w (omega arith)) (sym (append_assoc (entry_bytes b f) (rows_bytes v) (rows_bytes w)))

rows_more : (rows : List ℕ) (i : ℕ) → i % 2 ≡ 0 → i + 1 < length rows
    → rows_bytes (take (i + 2) rows) ≡ rows_bytes (take i rows) ++ entry_bytes (get_or rows i 0) (get_or rows (i + 1) 0)
unfolding rows_bytes
rows_more rows i e h =
    let l : length (take i rows) ≡ i = simp length-take (omega arith) in
    let n : length (take i rows) % 2 ≡ 0 = rw l e in
    let two : take 2 (drop i rows) ≡ get_or rows i 0 ∷ get_or rows (i + 1) 0 ∷ [] =
    rw (left rows i 0 (omega arith), left rows (i + 1) 0 h)
    in
    rw (take-add i 2 rows, two) (rows_append (take i rows) (get_or rows i 0 ∷ get_or rows (i + 1) 0 ∷ []) n ∙ ap (λ (t : List ℕ). rows_bytes (take i rows) ++ t) (append-nil _))

-- a turn of the loop that writes a window's slots, and of the loop that writes rows
pub slot_turn : (page now : List ℕ) (w : List Slot) (i : ℕ) (d : Slot) → length page ≡ 4096 → length w ≤ 63 → i < length w
    → now ≡ put_mid 16 (4 * i) page (slots_bytes (take i w))
    → put_mid (16 + 4 * i) 4 now (le_bytes 4 (get_or w i d).0) ≡ put_mid 16 (4 * (i + 1)) page (slots_bytes (take (i + 1) w))
slot_turn page now w i d lp lw h inv =
    let k : length (slots_bytes (take i w)) ≡ 4 * i = length-slots_bytes (take i w) ∙ simp length-take (omega arith) in
    let n : 4 * (i + 1) ≡ 4 * i + 4 = omega arith in
    rw (inv, n, slots_more w i d h) (chunk_more page (slots_bytes (take i w)) (le_bytes 4 (get_or w i d).0) 16 (4 * i) 4 k (omega arith))

pub row_turn : (page now rows : List ℕ) (i : ℕ) → length page ≡ 4096 → length rows ≤ 480 → 2 * i + 1 < length rows
    → now ≡ put_mid 512 (8 * i) page (rows_bytes (take (2 * i) rows))
    → put_mid (512 + 8 * i) 8 now (entry_bytes (get_or rows (2 * i) 0) (get_or rows (2 * i + 1) 0)) ≡ put_mid 512 (8 * (i + 1)) page (rows_bytes (take (2 * (i + 1)) rows))
row_turn page now rows i lp lr h inv =
    let e : 2 * i % 2 ≡ 0 = omega arith in
    let l : length (take (2 * i) rows) ≡ 2 * i = simp length-take (omega arith) in
    let k : length (rows_bytes (take (2 * i) rows)) ≡ 8 * i = omega (arith, length-rows_bytes (take (2 * i) rows) (rw l e), l) in
    let n : 8 * (i + 1) ≡ 8 * i + 8 = omega arith in
    let m : 2 * (i + 1) ≡ 2 * i + 2 = omega arith in
    rw (inv, n, m, rows_more rows (2 * i) e h)
    (chunk_more page (rows_bytes (take (2 * i) rows)) (entry_bytes (get_or rows (2 * i) 0) (get_or rows (2 * i + 1) 0)) 512 (8 * i) 8 k (omega arith))

-- the window's length as a word: its two bytes, and two of zero
count_word : (n : ℕ) → n ≤ 63 → le_bytes 4 n ≡ le_bytes 2 n ++ replicate 2 0
unfolding le_bytes
count_word n h = let e : n / 256 ≡ 0 = omega arith in rw e

-- the stores that make a metadata page
pub meta_built : (t n : ℕ) (w : List Slot) (rows : List ℕ) → length w ≡ n → n ≤ 63 → length rows ≤ 480 → length rows % 2 ≡ 0
    → put_mid 512 (4 * length rows) (put_mid 16 (4 * n) (put_mid 4 4 (put_mid 0 4 (padded 4096 []) (le_bytes 4 t)) (le_bytes 4 n)) (slots_bytes w)) (rows_bytes rows)
    ≡ encode_meta t w rows
unfolding encode_meta
meta_built t n w rows lw most lr ev =
    let a : List ℕ = le_bytes 4 t in
    let b : List ℕ = le_bytes 2 n in
    let s : List ℕ = slots_bytes w in
    let r : List ℕ = rows_bytes rows in
    let x : List ℕ = padded 16 (a ++ b) ++ s in
    let la : length a ≡ 4 = length-le_bytes 4 t in
    let lab : length (a ++ b) ≡ 6 = length-append a b ∙ rw (la, length-le_bytes 2 n) in
    let lx : length x ≡ 16 + 4 * n = length-append (padded 16 (a ++ b)) s ∙ rw (length-padded 16 (a ++ b) (omega arith), length-slots_bytes w, lw) in
    let e1 : put_mid 0 4 (padded 4096 []) a ≡ padded 4096 a =
    padded_put 4096 0 4 [] a (lit≤ tt) la (lit≤ tt) ∙ ap (λ (m : List ℕ). padded 4096 (m ++ a)) (padded_full 0 [] refl)
    in
    let e2 : put_mid 4 4 (padded 4096 a) (le_bytes 4 n) ≡ padded 4096 (a ++ le_bytes 4 n) =
    padded_put 4096 4 4 a (le_bytes 4 n) (omega arith) (length-le_bytes 4 n) (lit≤ tt) ∙ ap (λ (m : List ℕ). padded 4096 (m ++ le_bytes 4 n)) (padded_full 4 a la)
    in
    let e3 : padded 4096 (a ++ le_bytes 4 n) ≡ padded 4096 (a ++ b) =
    rw (count_word n most, ← append_assoc a b (replicate 2 0)) (padded_zeros 4096 2 (a ++ b) (omega arith))
    in
    let e4 : put_mid 16 (4 * n) (padded 4096 (a ++ b)) s ≡ padded 4096 x =
    padded_put 4096 16 (4 * n) (a ++ b) s (omega arith) (length-slots_bytes w ∙ rw lw) (omega arith)
    in
    let e5 : put_mid 512 (4 * length rows) (padded 4096 x) r ≡ padded 4096 (padded 512 x ++ r) =
    padded_put 4096 512 (4 * length rows) x r (omega arith) (length-rows_bytes rows ev) (omega arith)
    in
    ap (λ (l : List ℕ). put_mid 512 (4 * length rows) (put_mid 16 (4 * n) (put_mid 4 4 l (le_bytes 4 n)) s) r) e1
    ∙ ap (λ (l : List ℕ). put_mid 512 (4 * length rows) (put_mid 16 (4 * n) l s) r) (e2 ∙ e3)
    ∙ ap (λ (l : List ℕ). put_mid 512 (4 * length rows) l r) e4
    ∙ e5
    ∙ ap (λ (m : ℕ). padded 4096 (padded 512 (padded 16 (a ++ le_bytes 2 m) ++ s) ++ r)) (sym lw)
