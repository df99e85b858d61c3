-- Windows, place by place; and as arrays.
use Prim.Native.Nat.{ℕ, zero, suc, ◌+◌, ◌-◌, ◌*◌, ◌≤◌, ◌<◌}
use mathlib.Core.Path.{◌≡◌, refl, sym, ap, ◌∙◌}
use mathlib.Core.Bool.{Bool, true, false, ◌||◌}
use mathlib.Core.List.{List, [], ◌∷◌, ◌++◌, append_assoc}
use native.Mathlib.Omega.{arith}
use lib.ListN.{length, get_or, set, take, drop, replicate, length-take, length-append, length-replicate}
use lib.Seq.{get_or-take, take_at, drop_at, set_at}
use lib.Dec.{eqb, ltb}
use borrow.Author.Tests.{ltb-true, eqb-true, eqb-false, eq-eqb, ne_eqb}
use Rattle.layout.proofs.Booleans.{and_parts, Told, told, told_true, told_false}
use Rattle.std.specs.List.{list_any}
use Rattle.layout.specs.declared.Slot.{Slot}
use Rattle.layout.specs.declared.Label.{Label}
use Rattle.layout.specs.declared.Window.{Window}
use Rattle.layout.specs.Places.{table_length}
use Rattle.layout.specs.PageRule.{listed, in_range}
use Rattle.layout.specs.Window.{slots_in, array_of, window_from, ZeroPast}
use Rattle.record.specs.Window.{zero_slots, without}
use Rattle.record.proofs.Examples as computed-first

pub eqb_swap : (m n : ℕ) → eqb m n ≡ eqb n m
eqb_swap m n = go (told (eqb n m))
  where
    go : Told (eqb n m) → eqb m n ≡ eqb n m
    go (told_true e) = rw (e, eqb-true n m e) (eq-eqb m m refl)
    go (told_false e) = rw e (ne_eqb m n (λ q. eqb-false n m e (sym q)))

-- of a test that one place passes: the search stops there, and goes on where not
pub hit : {whole now : Bool} (t rest : Bool) → now ≡ whole → now ≡ (t || rest) → t ≡ true → true ≡ whole
hit t rest inv e h = sym (rw h at e) ∙ inv

pub miss : {whole now : Bool} (t rest : Bool) → now ≡ whole → now ≡ (t || rest) → t ≡ false → rest ≡ whole
miss t rest inv e h = sym (rw h at e) ∙ inv

-- one of these is the slot
pub listed-any : (s : Slot) (w : List Slot) → list_any (λ (t : Slot). eqb t.0 s.0) w ≡ listed s w
unfolding listed
listed-any s [] = refl
listed-any s (t ∷ w) = rw (eqb_swap t.0 s.0, listed-any s w)

-- a slot of a window in range
pub range_at : (l : Label) (w : List Slot) (i : ℕ) (d : Slot) → in_range l w ≡ true → i < length w → (get_or w i d).0 < l.slots
unfolding in_range
range_at l [] i d e h = absurd (omega arith)
range_at l (s ∷ w) zero d e h = ltb-true _ _ (and_parts (ltb s.0 l.slots) (in_range l w) e).0
range_at l (s ∷ w) (suc i) d e h = range_at l w i d (and_parts (ltb s.0 l.slots) (in_range l w) e).1 (omega arith)

pub slot-low : (l : Label) (w : List Slot) (n i : ℕ) (d : Slot) → in_range l (take n w) ≡ true → i < n → n ≤ length w
    → (get_or w i d).0 < l.slots
slot-low l w n i d e h m = let k : i < length (take n w) = simp length-take (omega arith) in
    rw (get_or-take n w i d h) at (range_at l (take n w) i d e k)

-- both words of its row are in the table
pub row_in : (l : Label) (t : List ℕ) (w : List Slot) (n i : ℕ) (d : Slot) → length t ≡ table_length l → in_range l (take n w) ≡ true
    → i < n → n ≤ length w
    → 2 * (get_or w i d).0 + 1 < length t
row_in l t w n i d z e h m = let k = slot-low l w n i d e h m in omega arith

-- slots as an array: they read back, it has 63 places, and it is zero past them
pub take-array : (w : List Slot) → take (length w) (array_of w) ≡ w
unfolding array_of
take-array w = take_at w _ (length w) refl

pub length-array : (w : List Slot) → length w ≤ 63 → length (array_of w) ≡ 63
unfolding array_of
length-array w h = length-append w _ ∙ rw length-replicate (omega arith)

zero_slots_lem : (n : ℕ) → zero_slots (replicate n (record { 0 = 0 })) ≡ true
unfolding zero_slots
zero_slots_lem zero = refl
zero_slots_lem (suc n) = zero_slots_lem n

pub zero_past_lem : (w : List Slot) → zero_slots (drop (length w) (array_of w)) ≡ true
unfolding array_of
zero_past_lem w = rw (drop_at w (replicate (63 - length w) (record { 0 = 0 })) (length w) refl) (zero_slots_lem (63 - length w))

-- a list in an array of 63 places, the rest of it nil: one more in it
unfoldable pub padded : {A : Type 0} → A → List A → List A
padded nil w = w ++ replicate (63 - length w) nil

pub padded_more : {A : Type 0} (nil : A) (w : List A) (s : A) → length w < 63 → set (padded nil w) (length w) s ≡ padded nil (w ++ (s ∷ []))
unfolding padded
padded_more nil w s h =
    let e : 63 - length w ≡ suc (62 - length w) = omega arith in
    let n : 63 - length (w ++ (s ∷ [])) ≡ 62 - length w = rw length-append (omega arith) in
    rw (e, n, append_assoc) (set_at w nil (replicate (62 - length w) nil) s (length w) refl)

-- slots are so in a window's array
pub padded-slots : (w : List Slot) → padded (record { 0 = 0 }) w ≡ array_of w
unfolding padded array_of
padded-slots w = refl

pub array_more : (w : List Slot) (s : Slot) → length w < 63 → set (array_of w) (length w) s ≡ array_of (w ++ (s ∷ []))
array_more w s h = rw (← padded-slots w, ← padded-slots (w ++ (s ∷ []))) (padded_more (record { 0 = 0 }) w s h)

-- a slot more in a window
pub window_more : (w : Window) (s : Slot) → ZeroPast w → w.count < 63
    → record { slots = set w.slots w.count s; count = w.count + 1 } ≡ window_from (slots_in w ++ (s ∷ []))
window_more w s z h =
    let n : w.count ≡ length (slots_in w) = ap (λ (v : Window). v.count) z in
    let a : w.slots ≡ array_of (slots_in w) = ap (λ (v : Window). v.slots) z in
    let e : set w.slots w.count s ≡ array_of (slots_in w ++ (s ∷ [])) =
    ap (λ (l : List Slot). set l w.count s) a ∙ ap (λ (k : ℕ). set (array_of (slots_in w)) k s) n
    ∙ array_more (slots_in w) s (omega arith)
    in
    let m : w.count + 1 ≡ length (slots_in w ++ (s ∷ [])) = rw length-append (omega arith) in
    (λ i. record { slots = e i; count = m i })

pub length_without : (s : Slot) (w : List Slot) → length (without s w) ≤ length w
unfolding without
length_without s [] = omega arith
length_without s (t ∷ w) = go (eqb t.0 s.0) (length_without s w)
  where
    go : (b : Bool) → length (without s w) ≤ length w → length {A = Slot} (elim b [ true ↦ w | false ↦ t ∷ without s w ]) ≤ suc (length w)
    go true h = omega arith
    go false h = omega arith
