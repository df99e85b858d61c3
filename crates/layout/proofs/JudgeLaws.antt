-- What is left to judge of a page, place by place.
use Prim.Native.Nat.{ℕ, zero, suc, ◌+◌, ◌-◌, ◌*◌, ◌≤◌, ◌<◌}
use mathlib.Core.Path.{◌≡◌, refl, sym, ap, ◌∙◌}
use mathlib.Core.Bool.{true, false, not, ◌&&◌, ◌||◌}
use mathlib.Core.List.{List, ◌∷◌, []}
use native.Mathlib.Omega.{arith}
use lib.ListN.{length, get_or, take, drop, drop_of_length-le, length-drop}
use lib.Seq.{length-take-le, take-add, drop_at, drop-drop}
use lib.Dec.{eqb, ltb}
use Rattle.layout.specs.declared.Slot.{Slot}
use Rattle.layout.specs.declared.Label.{Label}
use Rattle.layout.specs.LabelPage.{all_zero}
use Rattle.layout.specs.MetaPage.{count_of, slot_at, firsts, window_of, entry_part}
use Rattle.layout.specs.Places.{slot_on}
use Rattle.layout.specs.PageRule.{listed, distinct, in_range, zero_test, entry_test, entries_test}
use Rattle.layout.proofs.Booleans.{Told, told, told_true, told_false, clash, and_swap}
use Rattle.layout.proofs.Loops.{left}
use Rattle.layout.proofs.RuleLaws.{entry_rule, entries-rule}

-- the window, place by place
pub length-firsts : {A : Type 0} (n : ℕ) (f : ℕ → A) → length (firsts n f) ≡ n
unfolding firsts
length-firsts zero f = refl
length-firsts (suc n) f = ap suc (length-firsts n (λ k. f (suc k)))

pub length-window : (page : List ℕ) → length (window_of page) ≡ count_of page
unfolding window_of
length-window page = length-firsts (count_of page) (slot_at page)

pub get_firsts : {A : Type 0} (n : ℕ) (f : ℕ → A) (k : ℕ) (d : A) → k < n → get_or (firsts n f) k d ≡ f k
unfolding firsts
get_firsts zero f k d h = absurd (omega arith)
get_firsts (suc n) f zero d h = refl
get_firsts (suc n) f (suc k) d h = get_firsts n (λ i. f (suc i)) k d (omega arith)

pub window-left : (page : List ℕ) (k : ℕ) → k < count_of page → drop k (window_of page) ≡ slot_at page k ∷ drop (k + 1) (window_of page)
unfolding window_of
window-left page k h =
    left (window_of page) k (slot_at page k) (omega (arith, length-window page)) ∙ rw (get_firsts (count_of page) (slot_at page) k (slot_at page k) h)

pub window_end : (page : List ℕ) (k : ℕ) → count_of page ≤ k → drop k (window_of page) ≡ []
window_end page k h = drop_of_length-le (window_of page) {i = k} (omega (arith, length-window page))

pub range_left : (l : Label) (page : List ℕ) (k : ℕ) → k < count_of page
    → in_range l (drop k (window_of page)) ≡ (ltb (slot_at page k).0 l.slots && in_range l (drop (k + 1) (window_of page)))
unfolding in_range
range_left l page k h = rw (window-left page k h)

pub listed-left : (s : Slot) (page : List ℕ) (k : ℕ) → k < count_of page
    → listed s (drop k (window_of page)) ≡ (eqb s.0 (slot_at page k).0 || listed s (drop (k + 1) (window_of page)))
unfolding listed
listed-left s page k h = rw (window-left page k h)

pub distinct-left : (page : List ℕ) (k : ℕ) → k < count_of page
    → distinct (drop k (window_of page)) ≡ (not (listed (slot_at page k) (drop (k + 1) (window_of page))) && distinct (drop (k + 1) (window_of page)))
unfolding distinct
distinct-left page k h = rw (window-left page k h)

-- both at once
pub slots-left : (l : Label) (page : List ℕ) (k : ℕ) → k < count_of page
    → (in_range l (drop k (window_of page)) && distinct (drop k (window_of page)))
    ≡ ((ltb (slot_at page k).0 l.slots && not (listed (slot_at page k) (drop (k + 1) (window_of page)))) && (in_range l (drop (k + 1) (window_of page)) && distinct (drop (k + 1) (window_of page))))
slots-left l page k h =
    rw (range_left l page k h, distinct-left page k h)
    (and_swap (ltb (slot_at page k).0 l.slots) (not (listed (slot_at page k) (drop (k + 1) (window_of page)))) _ _)

pub slots_end : (l : Label) (page : List ℕ) (k : ℕ) → count_of page ≤ k → (in_range l (drop k (window_of page)) && distinct (drop k (window_of page))) ≡ true
unfolding in_range distinct
slots_end l page k h = rw (window_end page k h)

-- an entry's last three bytes, seen in the page
pub entry_tail : (page : List ℕ) (i : ℕ) → length page ≡ 4096 → i < 240 → zero_test (512 + 8 * i + 5) (512 + 8 * i + 8) page ≡ all_zero (drop 5 (entry_part page i))
unfolding zero_test entry_part
entry_tail page i e h =
    let x : List ℕ = drop (512 + 8 * i) page in
    let n : 512 + 8 * i + 8 - (512 + 8 * i + 5) ≡ 3 = omega arith in
    let l : length (take 5 x) ≡ 5 = length-take-le 5 x (simp length-drop (omega arith)) in
    ap (λ (k : ℕ). all_zero (take k (drop (512 + 8 * i + 5) page))) n
    ∙ ap (λ (t : List ℕ). all_zero (take 3 t)) (sym (drop-drop 5 (512 + 8 * i) page))
    ∙ ap all_zero (sym (ap (drop 5) (take-add 5 3 x) ∙ drop_at (take 5 x) (take 3 (drop 5 x)) 5 l))

-- the entries: all pass, or one of them fails
pub entries_pass : (l : Label) (p : ℕ) (page : List ℕ) → ((i : ℕ) → i < 240 → entry_test l (slot_on p i) (entry_part page i) ≡ true) → true ≡ entries_test l p page
entries_pass l p page h = sym ((entries-rule l p page).1 (λ i q. (entry_rule l (slot_on p i) (entry_part page i)).0 (h i q)))

pub entries_fail : (l : Label) (p : ℕ) (page : List ℕ) (i : ℕ) → i < 240 → entry_test l (slot_on p i) (entry_part page i) ≡ false → false ≡ entries_test l p page
entries_fail l p page i h e = go (told (entries_test l p page))
  where
    go : Told (entries_test l p page) → false ≡ entries_test l p page
    go (told_true t) = clash ((entry_rule l (slot_on p i) (entry_part page i)).1 ((entries-rule l p page).0 t i h)) e
    go (told_false f) = sym f
