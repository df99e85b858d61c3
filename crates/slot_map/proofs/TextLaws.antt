-- The map's text as it is written: letters one after the other, a number's columns, the parts of a line, line after line.
use Prim.Native.Nat.{ℕ, suc, ◌+◌, ◌*◌, ◌/◌, ◌%◌, ◌≤◌, ◌<◌}
use mathlib.Core.Path.{◌≡◌, refl, sym, ap, ◌∙◌}
use mathlib.Core.List.{List, [], ◌∷◌, ◌++◌, append_assoc}
use native.Mathlib.Omega.{arith}
use native.Mathlib.Numerals.{add-one}
use native.Mathlib.Decide.{ℕ_discrete}
use lib.ListN.{length, get_or, set, drop, drop_of_length-le, length-append, length-set}
use lib.Seq.{ext_get_or, get_or-set_same, get_or-set_other, sets-eq, take_at, drop_at, set_at, drop-cons, drop-drop}
use borrow.Author.Tests.{lt-ltb, le-ltb}
use borrow.Rule.Slice.PartMut.{put_mid}
use Rattle.pages.proofs.PadLaws.{chunk_length}
use Rattle.layout.specs.declared.Label.{Label}
use Rattle.layout.specs.LabelPage.{decimal}
use Rattle.layout.specs.MetaPage.{firsts}
use Rattle.layout.proofs.JudgeLaws.{length-firsts, get_firsts}
use Rattle.protocol.specs.SlotMap.{letter_of, letter_at, aligned, map_line, lines_of}
use Rattle.laws.proofs.SlotMaps.{column_of, columns, number_columns, length-number, length_lines}

-- the letter of a slot; past the last one, a space
pub letter_here : (l : Label) (table : List ℕ) (s v : ℕ) → s < l.slots → v ≡ letter_of (get_or table (2 * s + 1) 0) → v ≡ letter_at l table s
unfolding letter_at
letter_here l table s v h e = rw (lt-ltb s l.slots h) e

pub letter_past : (l : Label) (table : List ℕ) (s : ℕ) → l.slots ≤ s → 32 ≡ letter_at l table s
unfolding letter_at
letter_past l table s h = rw (le-ltb s l.slots h)

-- a list filled from the front by a sequence, one more
pub filled_more : (part : List ℕ) (i v : ℕ) (f : ℕ → ℕ) → i < length part → v ≡ f i → ((j : ℕ) → j < i → get_or part j 0 ≡ f j)
    → (j : ℕ) → j < i + 1 → get_or (set part i v) j 0 ≡ f j
filled_more part i v f h e before j q = go (ℕ_discrete j i)
  where
    go : Dec (j ≡ i) → get_or (set part i v) j 0 ≡ f j
    go (yes s) = rw s (get_or-set_same part i v 0 h ∙ e)
    go (no s) = get_or-set_other part i j v 0 s ∙ before j (omega arith)

-- 60 bytes that are the letters of the slots from `first` on
pub letters_are : (l : Label) (table part : List ℕ) (first : ℕ) → length part ≡ 60
    → ((j : ℕ) → j < 60 → get_or part j 0 ≡ letter_at l table (first + j)) → part ≡ firsts 60 (λ i. letter_at l table (first + i))
letters_are l table part first size each =
    let m = length-firsts 60 (λ i. letter_at l table (first + i)) in
    ext_get_or 0 part (firsts 60 (λ i. letter_at l table (first + i))) (size ∙ sym m)
    (λ j q. let k : j < 60 = omega arith in each j k ∙ sym (get_firsts 60 (λ i. letter_at l table (first + i)) j 0 k))

-- five stores over five bytes
pub number_is : (part : List ℕ) (n a b c d e : ℕ) → length part ≡ 5 → n < 100000 → a ≡ column_of (n / 10 / 10 / 10 / 10)
    → b ≡ column_of (n / 10 / 10 / 10) → c ≡ column_of (n / 10 / 10) → d ≡ column_of (n / 10) → e ≡ 48 + n % 10
    → set (set (set (set (set part 0 a) 1 b) 2 c) 3 d) 4 e ≡ aligned 5 (decimal n)
unfolding columns
number_is part n a b c d e size h ea eb ec ed ee =
    sets-eq (a ∷ b ∷ c ∷ d ∷ e ∷ []) part 0 (omega arith)
    ∙ ap (λ (r : List ℕ). a ∷ b ∷ c ∷ d ∷ e ∷ r) (drop_of_length-le part {i = 5} (omega arith))
    ∙ (rw (ea, eb, ec, ed, ee) refl)
    ∙ sym (number_columns n h)

-- a line keeps its length as its number and its letters are written
pub number-length : (line number : List ℕ) → length line ≡ 67 → length number ≡ 5 → length (set (put_mid 0 5 line number) 5 32) ≡ 67
number-length line number size five = length-set (put_mid 0 5 line number) 5 32 ∙ chunk_length line number 0 5 five (omega arith) ∙ size

pub letters_length : (line letters : List ℕ) → length line ≡ 67 → length letters ≡ 60 → length (put_mid 6 60 line letters) ≡ 67
letters_length line letters size sixty = chunk_length line letters 6 60 sixty (omega arith) ∙ size

-- the parts of a line of 67 bytes, one after the other: a number of 5, a space, letters of 60, the byte that ends it
parts_are : (line number letters : List ℕ) → length line ≡ 67 → length number ≡ 5 → length letters ≡ 60
    → set (put_mid 6 60 (set (put_mid 0 5 line number) 5 32) letters) 66 10 ≡ number ++ (32 ∷ (letters ++ (10 ∷ [])))
parts_are line number letters size five sixty =
    let head : List ℕ = number ++ (32 ∷ []) in
    let six : length head ≡ 6 = length-append number (32 ∷ []) ∙ omega arith in
    let rest : drop 5 line ≡ get_or line 5 0 ∷ drop 6 line = drop-cons line 5 0 (omega arith) in
    let last : drop 60 (drop 6 line) ≡ get_or line 66 0 ∷ drop 67 line = drop-drop 60 6 line ∙ drop-cons line 66 0 (omega arith) in
    let none : drop 67 line ≡ [] = drop_of_length-le line {i = 67} (omega arith) in
    let e1 : set (number ++ drop 5 line) 5 32 ≡ head ++ drop 6 line =
    ap (λ (r : List ℕ). set (number ++ r) 5 32) rest ∙ set_at number (get_or line 5 0) (drop 6 line) 32 5 five ∙ sym (append_assoc number (32 ∷ []) (drop 6 line))
    in
    let e2 : put_mid 6 60 (head ++ drop 6 line) letters ≡ head ++ (letters ++ drop 60 (drop 6 line)) =
    rw (take_at head (drop 6 line) 6 six, drop_at head (drop 6 line) 6 six)
    in
    let e3 : head ++ (letters ++ drop 60 (drop 6 line)) ≡ (head ++ letters) ++ (get_or line 66 0 ∷ []) =
    rw (last, none) (sym (append_assoc head letters (get_or line 66 0 ∷ [])))
    in
    let e4 : set ((head ++ letters) ++ (get_or line 66 0 ∷ [])) 66 10 ≡ (head ++ letters) ++ (10 ∷ []) =
    set_at (head ++ letters) (get_or line 66 0) [] 10 66 (length-append head letters ∙ omega arith)
    in
    ap (λ (r : List ℕ). set (put_mid 6 60 r letters) 66 10) e1
    ∙ ap (λ (r : List ℕ). set r 66 10) (e2 ∙ e3)
    ∙ e4
    ∙ append_assoc head letters (10 ∷ [])
    ∙ append_assoc number (32 ∷ []) (letters ++ (10 ∷ []))

pub line_is : (l : Label) (table line : List ℕ) (k : ℕ) → length line ≡ 67 → 60 * k < 100000
    → set (put_mid 6 60 (set (put_mid 0 5 line (aligned 5 (decimal (60 * k)))) 5 32) (firsts 60 (λ i. letter_at l table (60 * k + i)))) 66 10
    ≡ map_line l table k
unfolding map_line
line_is l table line k size low =
    parts_are line (aligned 5 (decimal (60 * k))) (firsts 60 (λ i. letter_at l table (60 * k + i))) size (length-number (60 * k) low)
    (length-firsts 60 (λ i. letter_at l table (60 * k + i)))

-- line k is written after the lines before it
pub lines_more : (l : Label) (table sheet : List ℕ) (k : ℕ) → k < 960
    → put_mid (67 * k) 67 (lines_of l table k ++ drop (67 * k) sheet) (map_line l table k)
    ≡ lines_of l table (k + 1) ++ drop (67 * (k + 1)) sheet
unfolding lines_of
lines_more l table sheet k low =
    let n = length_lines l table k (omega arith) in
    let e : 67 * k + 67 ≡ 67 * (k + 1) = omega arith in
    rw (
      take_at (lines_of l table k) (drop (67 * k) sheet) (67 * k) n,
      drop_at (lines_of l table k) (drop (67 * k) sheet) (67 * k) n,
      drop-drop 67 (67 * k) sheet,
      e,
      add-one k,
    )
    (sym (append_assoc (lines_of l table k) (map_line l table k) (drop (67 * suc k) sheet)))
