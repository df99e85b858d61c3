-- A metadata page that was encoded gives its stamp, window and entries again.
use Prim.Native.Nat.{ℕ, zero, suc, ◌+◌, ◌-◌, ◌*◌, ◌%◌, ◌^◌, ◌≤◌, ◌<◌}
use mathlib.Core.Path.{◌≡◌, refl, sym, ap, ◌∙◌}
use mathlib.Core.List.{List, ◌∷◌, ◌++◌, append_assoc, []}
use native.Mathlib.Omega.{arith}
use native.Mathlib.Nat.{not-suc-le-zero}
use lib.ListN.{length, take, drop, get_or, replicate, length-append, length-take, length-drop, length-replicate, get_or-replicate}
use lib.Seq.{take_at, get_or_at, drop_at, drop-append-add, take-append-le, drop-append-le, ext_get_or, get_or-take, get_or-drop}
use Rattle.pages.specs.Pages.{padded}
use Rattle.pages.specs.Words.{le_bytes, le_number}
use Rattle.pages.proofs.WordLaws.{length-le_bytes, number-bytes}
use Rattle.pages.proofs.PadLaws.{length-padded}
use Rattle.layout.specs.declared.Slot.{Slot}
use Rattle.layout.specs.MetaPage.{slots_bytes, entry_bytes, rows_bytes, encode_meta, stamp_of, count_of, slot_at, firsts, window_of, entry_part, decode_entry, entry_at}
use Rattle.layout.proofs.Loops.{left}

-- lengths
pub length-slots_bytes : (w : List Slot) → length (slots_bytes w) ≡ 4 * length w
unfolding slots_bytes
length-slots_bytes [] = refl
length-slots_bytes (s ∷ w) = length-append (le_bytes 4 s.0) (slots_bytes w) ∙ rw (length-le_bytes 4 s.0, length-slots_bytes w) (omega arith)

pub length-entry_bytes : (b f : ℕ) → length (entry_bytes b f) ≡ 8
unfolding entry_bytes
length-entry_bytes b f = length-append (le_bytes 4 b) (f % 8 ∷ 0 ∷ 0 ∷ 0 ∷ []) ∙ rw (length-le_bytes 4 b)

pub length-rows_bytes : (rows : List ℕ) → length rows % 2 ≡ 0 → length (rows_bytes rows) ≡ 4 * length rows
unfolding rows_bytes
length-rows_bytes [] h = refl
length-rows_bytes (b ∷ []) h = omega arith
length-rows_bytes (b ∷ f ∷ rows) h =
    length-append (entry_bytes b f) (rows_bytes rows) ∙ rw (length-entry_bytes b f, length-rows_bytes rows (omega arith)) (omega arith)

-- rows of an odd number of words leave the last out
pub rows_bytes-most : (rows : List ℕ) → length (rows_bytes rows) ≤ 4 * length rows
unfolding rows_bytes
rows_bytes-most [] = omega arith
rows_bytes-most (b ∷ []) = omega arith
rows_bytes-most (b ∷ f ∷ rows) =
    let e : length (entry_bytes b f ++ rows_bytes rows) ≡ length (entry_bytes b f) + length (rows_bytes rows) = length-append (entry_bytes b f) (rows_bytes rows) in
    omega (arith, length-entry_bytes b f, rows_bytes-most rows)

-- the window's length, byte by byte
pub count-bytes : (page : List ℕ) → length page ≡ 4096 → count_of page ≡ get_or page 4 0 + 256 * get_or page 5 0
unfolding count_of le_number
count-bytes page h = rw (left page 4 0 (omega arith), left page 5 0 (omega arith)) (omega arith)

-- a front of a padded list stands unpadded before the rest
padded-append : (n : ℕ) (p r : List ℕ) → padded n (p ++ r) ≡ p ++ padded (n - length p) r
unfolding padded
padded-append n p r =
    let e : n - length (p ++ r) ≡ n - length p - length r = rw length-append (omega arith) in
    rw e (append_assoc p r (replicate (n - length p - length r) 0))

-- what padding is, for a length that is known
padded_by : (n m : ℕ) (l : List ℕ) → length l ≡ m → padded n l ≡ l ++ replicate (n - m) 0
unfolding padded
padded_by n m l e = rw e

-- a part of zeros
pub zeros_part : (at k m : ℕ) → at + k ≤ m → ◌≡◌ {A = List ℕ} (take k (drop at (replicate m 0))) (replicate k 0)
zeros_part at k m h =
    ext_get_or 0 _ _ (simp (length-take, length-drop, length-replicate) (omega arith)) (λ i q.
    let r : i < k = omega (arith, simp (length-take, length-drop, length-replicate) at q) in
    get_or-take k (drop at (replicate m 0)) i 0 r
    ∙ get_or-drop at (replicate m 0) i 0
    ∙ get_or-replicate m (at + i) 0 0 (omega arith)
    ∙ sym (get_or-replicate k i 0 0 r))

-- a part behind a front, and a part of the front
part-past : (n at k : ℕ) (p r : List ℕ) → length p ≡ n → take k (drop (n + at) (p ++ r)) ≡ take k (drop at r)
part-past n at k p r e = rw (← e) (ap (take k) (drop-append-add p r at))

pub part_front : (at k : ℕ) (p r : List ℕ) → at + k ≤ length p → take k (drop at (p ++ r)) ≡ take k (drop at p)
part_front at k p r h =
    ap (take k) (drop-append-le at p r (omega arith)) ∙ take-append-le k (drop at p) r (simp length-drop (omega arith))

-- the page's fields, one after the other
pub encode_fields : (t : ℕ) (w : List Slot) (rows : List ℕ) → length w ≤ 63
    → encode_meta t w rows
    ≡ le_bytes 4 t ++ (le_bytes 2 (length w) ++ (replicate 10 0 ++ (padded 496 (slots_bytes w) ++ padded 3584 (rows_bytes rows))))
unfolding encode_meta
encode_fields t w rows h =
    let a : List ℕ = le_bytes 4 t in
    let b : List ℕ = le_bytes 2 (length w) in
    let x : List ℕ = padded 496 (slots_bytes w) in
    let r : List ℕ = padded 3584 (rows_bytes rows) in
    let lab : length (a ++ b) ≡ 6 = length-append a b ∙ rw (length-le_bytes 4 t, length-le_bytes 2 (length w)) in
    let lh : length (padded 16 (a ++ b)) ≡ 16 = length-padded 16 (a ++ b) (omega arith) in
    let lx : length (padded 16 (a ++ b) ++ slots_bytes w) ≤ 512 =
    rw (length-append, lh, length-slots_bytes w) (omega arith)
    in
    let e1 : padded 16 (a ++ b) ≡ (a ++ b) ++ replicate 10 0 = padded_by 16 6 (a ++ b) lab in
    let e2 : padded 512 (padded 16 (a ++ b) ++ slots_bytes w) ≡ padded 16 (a ++ b) ++ x =
    padded-append 512 (padded 16 (a ++ b)) (slots_bytes w) ∙ rw lh
    in
    padded-append 4096 (padded 512 (padded 16 (a ++ b) ++ slots_bytes w)) (rows_bytes rows)
    ∙ rw (length-padded 512 (padded 16 (a ++ b) ++ slots_bytes w) lx, e2, e1) (simp append_assoc)

module _ (t : ℕ) (w : List Slot) (rows : List ℕ) (lw : length w ≤ 63) (lr : length rows ≤ 480) where
  ls : length (slots_bytes w) ≤ 496
  ls = rw (length-slots_bytes w) (omega arith)

  le : length (rows_bytes rows) ≤ 3584
  le = omega (arith, rows_bytes-most rows)

  pub length_encode : length (encode_meta t w rows) ≡ 4096
  length_encode =
      rw (encode_fields t w rows lw)
      (simp
      (length-append, length-le_bytes, length-replicate, length-padded 496 (slots_bytes w) ls, length-padded 3584 (rows_bytes rows) le))

  -- bytes 0..3
  pub encode_stamp : t < 2 ^ 32 → stamp_of (encode_meta t w rows) ≡ t
  unfolding stamp_of
  encode_stamp h =
      rw (encode_fields t w rows lw, take_at (le_bytes 4 t) _ 4 (length-le_bytes 4 t)) (number-bytes 4 t h)

  -- bytes 4..5
  pub encode_count : count_of (encode_meta t w rows) ≡ length w
  unfolding count_of
  encode_count =
      rw
      (encode_fields t w rows lw, drop_at (le_bytes 4 t) _ 4 (length-le_bytes 4 t), take_at (le_bytes 2 (length w)) _ 2 (length-le_bytes 2 (length w)))
      (number-bytes 2 (length w) (omega arith))

  -- the bytes before the window's, and before the entries
  before : List ℕ
  before = le_bytes 4 t ++ (le_bytes 2 (length w) ++ replicate 10 0)

  length_before : length before ≡ 16
  unfolding before
  length_before = simp (length-append, length-le_bytes, length-replicate)

  at_window : encode_meta t w rows ≡ before ++ (padded 496 (slots_bytes w) ++ padded 3584 (rows_bytes rows))
  unfolding before
  at_window = encode_fields t w rows lw ∙ simp append_assoc

  -- a part of the window's bytes, and of the entries
  pub window-part : (at k : ℕ) → at + k ≤ 496 → take k (drop (16 + at) (encode_meta t w rows)) ≡ take k (drop at (padded 496 (slots_bytes w)))
  window-part at k h =
      let x : List ℕ = padded 496 (slots_bytes w) in
      let r : List ℕ = padded 3584 (rows_bytes rows) in
      rw at_window
      (part-past 16 at k before (x ++ r) length_before ∙ part_front at k x r (omega (arith, length-padded 496 (slots_bytes w) ls)))

  pub entries-part : (at k : ℕ) → take k (drop (512 + at) (encode_meta t w rows)) ≡ take k (drop at (padded 3584 (rows_bytes rows)))
  entries-part at k =
      let x : List ℕ = padded 496 (slots_bytes w) in
      let r : List ℕ = padded 3584 (rows_bytes rows) in
      let l : length (before ++ x) ≡ 512 = length-append before x ∙ rw (length_before, length-padded 496 (slots_bytes w) ls) in
      rw (at_window, ← append_assoc before x r) (part-past 512 at k (before ++ x) r l)

-- place k of a window's bytes
slot-bytes : (w : List Slot) (k : ℕ) (z : List ℕ) (d : Slot) → k < length w → take 4 (drop (4 * k) (slots_bytes w ++ z)) ≡ le_bytes 4 (get_or w k d).0
unfolding slots_bytes le_bytes
slot-bytes [] k z d h = absurd (not-suc-le-zero h)
slot-bytes (s ∷ w) zero z d h = refl
slot-bytes (s ∷ w) (suc k) z d h =
    let n : ℕ = 4 * k in
    let e : 4 * suc k ≡ suc (suc (suc (suc n))) = omega arith in
    rw e (slot-bytes w k z d (omega arith))

-- the first places of a list are the list
pub firsts-all : {A : Type 0} (l : List A) (f : ℕ → A) (d : A) → ((k : ℕ) → k < length l → f k ≡ get_or l k d) → firsts (length l) f ≡ l
unfolding firsts
firsts-all [] f d h = refl
firsts-all (a ∷ l) f d h =
    rw (h 0 (omega arith), firsts-all l (λ k. f (suc k)) d (λ k q. h (suc k) (omega arith)))

-- place i of the rows' bytes, with the zeros after them
entry_bytes_lem : (rows : List ℕ) (i m : ℕ) → length rows % 2 ≡ 0 → 8 * i + 8 ≤ 4 * length rows + m
    → take 8 (drop (8 * i) (rows_bytes rows ++ replicate m 0)) ≡ entry_bytes (get_or rows (2 * i) 0) (get_or rows (2 * i + 1) 0)
unfolding rows_bytes entry_bytes le_bytes
entry_bytes_lem [] i m e h = zeros_part (8 * i) 8 m (omega arith)
entry_bytes_lem (b ∷ []) i m e h = absurd (omega arith)
entry_bytes_lem (b ∷ f ∷ rows) zero m e h = refl
entry_bytes_lem (b ∷ f ∷ rows) (suc i) m e h =
    let n : ℕ = 8 * i in
    let e8 : 8 * suc i ≡ suc (suc (suc (suc (suc (suc (suc (suc n))))))) = omega arith in
    let e0 : 2 * suc i ≡ suc (suc (2 * i)) = omega arith in
    let e1 : 2 * suc i + 1 ≡ suc (suc (2 * i + 1)) = omega arith in
    rw (e8, e1, e0) (entry_bytes_lem rows i m (omega arith) (omega arith))

-- every slot number is one of 32 bits
abbrev pub Fit : List Slot → Type 0
Fit w = (k : ℕ) → k < length w → (get_or w k (record { 0 = 0 })).0 < 2 ^ 32

-- an entry's own bytes read back
pub decode_bytes : (b f : ℕ) → b < 2 ^ 32 → decode_entry (entry_bytes b f) ≡ record { block = record { 0 = b }; flags = f % 8 }
unfolding decode_entry entry_bytes
decode_bytes b f h =
    let r : List ℕ = f % 8 ∷ 0 ∷ 0 ∷ 0 ∷ [] in
    let t : take 4 (le_bytes 4 b ++ r) ≡ le_bytes 4 b = take_at (le_bytes 4 b) r 4 (length-le_bytes 4 b) in
    let g : get_or (le_bytes 4 b ++ r) 4 0 ≡ f % 8 = get_or_at (le_bytes 4 b) (f % 8) (0 ∷ 0 ∷ 0 ∷ []) 0 4 (length-le_bytes 4 b) in
    rw (t, g, number-bytes 4 b h)

module _ (t : ℕ) (w : List Slot) (rows : List ℕ) (lw : length w ≤ 63) (lr : length rows ≤ 480) where
  -- bytes 16..267
  pub encode_slot : (k : ℕ) → k < length w → (get_or w k (record { 0 = 0 })).0 < 2 ^ 32 → slot_at (encode_meta t w rows) k ≡ get_or w k (record { 0 = 0 })
  unfolding slot_at padded
  encode_slot k h q =
      let e : le_number (take 4 (drop (16 + 4 * k) (encode_meta t w rows))) ≡ (get_or w k (record { 0 = 0 })).0 =
      rw
      (window-part t w rows lw lr (4 * k) 4 (omega arith), slot-bytes w k (replicate (496 - length (slots_bytes w)) 0) (record { 0 = 0 }) h)
      (number-bytes 4 (get_or w k (record { 0 = 0 })).0 q)
      in
      rw e

  pub encode_window : Fit w → window_of (encode_meta t w rows) ≡ w
  unfolding window_of
  encode_window q = rw (encode_count t w rows lw lr) (firsts-all w (slot_at (encode_meta t w rows)) (record { 0 = 0 }) (λ k h. encode_slot k h (q k h)))

  -- bytes 512..2431; an entry past the rows is zero
  module _ (ev : length rows % 2 ≡ 0) (i : ℕ) (h : i < 240) where
    pub encode_part : entry_part (encode_meta t w rows) i ≡ entry_bytes (get_or rows (2 * i) 0) (get_or rows (2 * i + 1) 0)
    unfolding entry_part padded
    encode_part =
        entries-part t w rows lw lr (8 * i) 8
        ∙ entry_bytes_lem rows i (3584 - length (rows_bytes rows)) ev (omega (arith, length-rows_bytes rows ev))

    pub encode_entry : get_or rows (2 * i) 0 < 2 ^ 32
        → entry_at (encode_meta t w rows) i ≡ record { block = record { 0 = get_or rows (2 * i) 0 }; flags = get_or rows (2 * i + 1) 0 % 8 }
    encode_entry q = rw encode_part (decode_bytes (get_or rows (2 * i) 0) (get_or rows (2 * i + 1) 0) q)
