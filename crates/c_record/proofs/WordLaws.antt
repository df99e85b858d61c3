-- The record's words: the loops that pack and unpack the window and its callers.
use Prim.Native.Nat.{ℕ, ◌+◌, ◌≤◌, ◌<◌}
use mathlib.Core.Path.{◌≡◌, sym, ap, ◌∙◌}
use mathlib.Core.List.{List, [], ◌∷◌, ◌++◌, append_assoc}
use native.Mathlib.Omega.{arith}
use native.Mathlib.Numerals.{add-one}
use lib.ListN.{length, get_or, set, take, drop, length-map, get_or-map, length-set, length-append, length-take, length-drop}
use lib.Seq.{take_all, take-suc, take-suc-set, take_at, get_or-take, get_or-drop, sets-eq, paste, paste-zero, paste-suc}
use Rattle.layout.specs.declared.Slot.{Slot}
use Rattle.c_record.specs.Words.{numbers_of, slots_of}
use Rattle.c_record.proofs.Examples as computed-first

-- slots and numbers, place by place
pub numbers-length : (w : List Slot) → length (numbers_of w) ≡ length w
unfolding numbers_of
numbers-length w = length-map w (λ s. s.0)

pub numbers_at : (w : List Slot) (i : ℕ) (d : Slot) → get_or (numbers_of w) i d.0 ≡ (get_or w i d).0
unfolding numbers_of
numbers_at w i d = get_or-map (λ s. s.0) w i d

pub slots_length : (l : List ℕ) → length (slots_of l) ≡ length l
unfolding slots_of
slots_length l = length-map l (λ n. record { 0 = n })

pub slots_at : (l : List ℕ) (i d : ℕ) → get_or (slots_of l) i (record { 0 = d }) ≡ record { 0 = get_or l i d }
unfolding slots_of
slots_at l i d = get_or-map (λ n. record { 0 = n }) l i d

-- unpacking an array: its first i places are those of a list of 63
pub record Filled {A : Type 0} (from array : List A) (i : ℕ) : Type 0 where
  pub most : i ≤ 63
  pub size : length array ≡ 63
  pub same : take i array ≡ take i from

module _ {A : Type 0} (from : List A) (all : length from ≡ 63) (d : A) where
  pub filled_more : (array : List A) (i : ℕ) (x : A) → x ≡ get_or from i d → Filled from array i → i < 63 → Filled from (set array i x) (i + 1)
  filled_more array i x e f h = record {
    most = omega arith;
    size = length-set array i x ∙ f.size;
    same =
        rw (add-one, take-suc-set array i x (omega (arith, f.size)), f.same)
        (ap (λ (s : A). take i from ++ (s ∷ [])) e ∙ sym (take-suc from i d (omega arith)));
  }

  pub filled-all : (array : List A) (i : ℕ) → Filled from array i → 63 ≤ i → array ≡ from
  filled-all array i f h = sym (take_all i array (omega (arith, f.size))) ∙ f.same ∙ take_all i from (omega arith)

-- the window's slots, from word 8 on, and their callers, from word 71 on
module _ (words : List ℕ) (all : length words ≡ 134) where
  pub window-length : length (slots_of (take 63 (drop 8 words))) ≡ 63
  window-length = slots_length (take 63 (drop 8 words)) ∙ length-take 63 (drop 8 words) ∙ omega (arith, length-drop 8 words)

  pub window_at : (i : ℕ) → i < 63 → record { 0 = get_or words (8 + i) 0 } ≡ get_or (slots_of (take 63 (drop 8 words))) i (record { 0 = 0 })
  window_at i h =
      sym (slots_at (take 63 (drop 8 words)) i 0 ∙ ap (λ (x : ℕ). record { 0 = x }) (get_or-take 63 (drop 8 words) i 0 h ∙ get_or-drop 8 words i 0))

  pub callers-length : length (drop 71 words) ≡ 63
  callers-length = length-drop 71 words ∙ omega arith

-- packing numbers: the first i of them stand from word `at` on
pub record Packed (words : List ℕ) (at : ℕ) (numbers after : List ℕ) (i : ℕ) : Type 0 where
  pub most : i ≤ 63
  pub size : length after ≡ 134
  pub same : after ≡ paste words at numbers i

module _ (words : List ℕ) (at : ℕ) (numbers : List ℕ) (all : length words ≡ 134) where
  pub packed_none : Packed words at numbers words 0
  packed_none = record { most = omega arith; size = all; same = paste-zero words at numbers }

  module _ (whole : length numbers ≡ 63) (fits : at + 63 ≤ 134) where
    pub packed_more : (after : List ℕ) (i x : ℕ) → x ≡ get_or numbers i 0 → Packed words at numbers after i → i < 63
        → Packed words at numbers (set after (at + i) x) (i + 1)
    packed_more after i x e p h = record {
      most = omega arith;
      size = length-set after (at + i) x ∙ p.size;
      same = rw (p.same, add-one, e) (paste-suc words at numbers i 0 (omega arith) (omega arith));
    }

    pub packed_all : (after : List ℕ) (i : ℕ) → Packed words at numbers after i → 63 ≤ i
        → after ≡ (take at words ++ numbers) ++ drop (at + 63) words
    packed_all after i p h =
        let t : take i numbers ≡ numbers = take_all i numbers (omega arith) in
        let e : i ≡ 63 = omega (arith, p.most) in
        p.same ∙ rw t (ap (λ (k : ℕ). (take at words ++ numbers) ++ drop (at + k) words) e)

-- a window that leaves room for the callers has 63 slots
pub window-whole : (words window : List ℕ) (size : ℕ) → length words ≡ 134
    → size ≡ length ((take 8 words ++ window) ++ drop 71 words) → size ≡ 134 → length window ≡ 63
window-whole words window size all e m =
    omega (
      arith,
      length-append (take 8 words ++ window) (drop 71 words),
      length-append (take 8 words) window,
      length-take 8 words,
      length-drop 71 words,
    )

-- eight stores over the first eight words, and the numbers after them
pub head_packed : (words rest : List ℕ) (a b d e f g h i : ℕ) → length words ≡ 134
    → take 8 (set (set (set (set (set (set (set (set words 0 a) 1 b) 2 d) 3 e) 4 f) 5 g) 6 h) 7 i) ++ rest
    ≡ a ∷ b ∷ d ∷ e ∷ f ∷ g ∷ h ∷ i ∷ rest
head_packed words rest a b d e f g h i all =
    ap (λ (l : List ℕ). take 8 l ++ rest) (sets-eq (a ∷ b ∷ d ∷ e ∷ f ∷ g ∷ h ∷ i ∷ []) words 0 (omega arith))

-- with the window after them, and then the callers
module _ (words window callers after final : List ℕ) (a b d e f g h i : ℕ) (all : length words ≡ 134) where
  abbrev head : List ℕ
  head = set (set (set (set (set (set (set (set words 0 a) 1 b) 2 d) 3 e) 4 f) 5 g) 6 h) 7 i

  pub all_packed : after ≡ (take 8 head ++ window) ++ drop 71 head → length after ≡ length head → final ≡ take 71 after ++ callers
      → final ≡ a ∷ b ∷ d ∷ e ∷ f ∷ g ∷ h ∷ i ∷ (window ++ callers)
  all_packed p size q =
      let z : length head ≡ 134 = simp length-set all in
      let n : length window ≡ 63 = window-whole head window (length after) z (ap length p) (size ∙ z) in
      let k : length (take 8 head ++ window) ≡ 71 = length-append (take 8 head) window ∙ omega (arith, length-take 8 head) in
      q ∙ ap (λ (l : List ℕ). take 71 l ++ callers) p
      ∙ ap (λ (l : List ℕ). l ++ callers) (take_at (take 8 head ++ window) (drop 71 head) 71 k)
      ∙ append_assoc (take 8 head) window callers
      ∙ head_packed words (window ++ callers) a b d e f g h i all
