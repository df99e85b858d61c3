-- A window without one of its slots, and what stands beside its slots, place by place.
use Prim.Native.Nat.{ℕ, zero, suc, ◌+◌, ◌≤◌, ◌<◌}
use mathlib.Core.Path.{◌≡◌, refl, sym, ap, ◌∙◌}
use mathlib.Core.Bool.{Bool, true, false, ◌||◌, or-false}
use mathlib.Core.List.{List, [], ◌∷◌}
use native.Mathlib.Omega.{arith}
use native.Mathlib.Numerals.{add-one}
use lib.ListN.{length, get_or, set, take, replicate, length-take}
use lib.Seq.{take-suc, take_all, get_or-take}
use lib.Dec.{eqb}
use borrow.Author.Tests.{eqb-true}
use Rattle.layout.specs.declared.Slot.{Slot}
use Rattle.layout.specs.PageRule.{listed}
use Rattle.record.specs.Window.{without, beside}
use Rattle.layout.proofs.Booleans.{Told, told, told_true, told_false, clash}
use mir.Val.{bool_byte}
use Rattle.record.proofs.WindowLaws.{eqb_swap, padded, padded_more}

-- one slot less
pub length_less : (s : Slot) (w : List Slot) → listed s w ≡ true → suc (length (without s w)) ≡ length w
unfolding listed without
length_less s [] h = clash h refl
length_less s (t ∷ w) h = go (told (eqb t.0 s.0)) (length_less s w)
  where
    go : Told (eqb t.0 s.0) → (listed s w ≡ true → suc (length (without s w)) ≡ length w)
        → suc (length {A = Slot} (elim (eqb t.0 s.0) [ true ↦ w | false ↦ t ∷ without s w ])) ≡ suc (length w)
    go (told_true e) ih = rw e
    go (told_false e) ih = rw e (ap suc (ih (rw (eqb_swap s.0 t.0, e) at h)))

-- two slots leave in either order
pub without_comm : (s t : Slot) (w : List Slot) → without s (without t w) ≡ without t (without s w)
unfolding without
without_comm s t [] = refl
without_comm s t (u ∷ w) = go (told (eqb u.0 s.0)) (told (eqb u.0 t.0)) (without_comm s t w)
  where
    go : Told (eqb u.0 s.0) → Told (eqb u.0 t.0) → without s (without t w) ≡ without t (without s w)
        → without s (elim (eqb u.0 t.0) [ true ↦ w | false ↦ u ∷ without t w ])
        ≡ without t (elim (eqb u.0 s.0) [ true ↦ w | false ↦ u ∷ without s w ])
    go (told_true a) (told_true b) ih =
        let e : s.0 ≡ t.0 = sym (eqb-true _ _ a) ∙ eqb-true _ _ b in
        rw (a, b) (ap (λ (n : ℕ). without (record { 0 = n }) w) e)
    go (told_true a) (told_false b) ih = rw (a, b) (rw (without, a))
    go (told_false a) (told_true b) ih = rw (a, b) (rw (without, b))
    go (told_false a) (told_false b) ih = rw (a, b) (rw (without, a, b) (ap (λ (l : List Slot). u ∷ l) ih))

-- beside the window itself stand its slots
pub without-beside : (s : Slot) (w : List Slot) → without s w ≡ beside s w w
unfolding without beside
without-beside s [] = refl
without-beside s (t ∷ w) = go (eqb t.0 s.0) (without-beside s w)
  where
    go : (b : Bool) → without s w ≡ beside s w w
        → ◌≡◌ {A = List Slot} (elim b [ true ↦ w | false ↦ t ∷ without s w ]) (elim b [ true ↦ w | false ↦ t ∷ beside s w w ])
    go true e = refl
    go false e = ap (λ (l : List Slot). t ∷ l) e

pub length-beside : {A : Type 0} (s : Slot) (w : List Slot) (xs : List A) → length xs ≡ length w
    → length (beside s w xs) ≡ length (without s w)
unfolding without beside
length-beside s [] xs e = e
length-beside s (t ∷ w) [] e = absurd (omega arith)
length-beside {A} s (t ∷ w) (x ∷ xs) e = go (eqb t.0 s.0) (length-beside s w xs (omega arith))
  where
    go : (b : Bool) → length (beside s w xs) ≡ length (without s w)
        → length {A = A} (elim b [ true ↦ xs | false ↦ x ∷ beside s w xs ]) ≡ length {A = Slot} (elim b [ true ↦ w | false ↦ t ∷ without s w ])
    go true q = omega arith
    go false q = ap suc q

pub beside_few : {A : Type 0} (s : Slot) (w : List Slot) (xs : List A) → length (beside s w xs) ≤ length xs
unfolding beside
beside_few s [] xs = omega arith
beside_few s (t ∷ w) [] = omega arith
beside_few {A} s (t ∷ w) (x ∷ xs) = go (eqb t.0 s.0) (beside_few s w xs)
  where
    go : (b : Bool) → length (beside s w xs) ≤ length xs → length {A = A} (elim b [ true ↦ xs | false ↦ x ∷ beside s w xs ]) ≤ suc (length xs)
    go true h = omega arith
    go false h = omega arith

beside_none : {A : Type 0} (s : Slot) (w : List Slot) → beside {A = A} s w [] ≡ []
unfolding beside
beside_none s [] = refl
beside_none s (t ∷ w) = refl

-- two slots leave in either order
pub beside_comm : {A : Type 0} (s t : Slot) (w : List Slot) (xs : List A)
    → beside s (without t w) (beside t w xs) ≡ beside t (without s w) (beside s w xs)
unfolding without beside
beside_comm s t [] xs = refl
beside_comm {A} s t (u ∷ w) [] = beside_none {A = A} s (without t (u ∷ w)) ∙ sym (beside_none {A = A} t (without s (u ∷ w)))
beside_comm {A} s t (u ∷ w) (x ∷ xs) = go (told (eqb u.0 s.0)) (told (eqb u.0 t.0)) (beside_comm s t w xs)
  where
    go : Told (eqb u.0 s.0) → Told (eqb u.0 t.0) → beside s (without t w) (beside t w xs) ≡ beside t (without s w) (beside s w xs)
        → beside {A = A} s (elim (eqb u.0 t.0) [ true ↦ w | false ↦ u ∷ without t w ])
        (elim (eqb u.0 t.0) [ true ↦ xs | false ↦ x ∷ beside t w xs ])
        ≡ beside {A = A} t (elim (eqb u.0 s.0) [ true ↦ w | false ↦ u ∷ without s w ])
        (elim (eqb u.0 s.0) [ true ↦ xs | false ↦ x ∷ beside s w xs ])
    go (told_true a) (told_true b) ih =
        let e : s.0 ≡ t.0 = sym (eqb-true _ _ a) ∙ eqb-true _ _ b in
        rw (a, b) (ap (λ (n : ℕ). beside (record { 0 = n }) w xs) e)
    go (told_true a) (told_false b) ih = rw (a, b) (rw (beside, a))
    go (told_false a) (told_true b) ih = rw (a, b) (rw (beside, b))
    go (told_false a) (told_false b) ih = rw (a, b) (rw (beside, a, b) (ap (λ (l : List A). x ∷ l) ih))

-- what stands at a place: what stood there, or from the slot's place on what stood one place on
pub beside_at : {A : Type 0} (s : Slot) (w : List Slot) (xs : List A) (i : ℕ) (d : A) → length xs ≡ length w
    → get_or (beside s w xs) i d ≡ get_or xs (i + bool_byte (listed s (take (suc i) w))) d
unfolding listed beside
beside_at s [] xs i d n = ap (λ (k : ℕ). get_or xs k d) (omega arith)
beside_at s (t ∷ w) [] i d n = refl
beside_at {A} s (t ∷ w) (x ∷ xs) i d n = go (told (eqb t.0 s.0)) i (λ j. beside_at s w xs j d (omega arith))
  where
    go : Told (eqb t.0 s.0) → (k : ℕ) → ((j : ℕ) → get_or (beside s w xs) j d ≡ get_or xs (j + bool_byte (listed s (take (suc j) w))) d)
        → get_or {A = A} (elim (eqb t.0 s.0) [ true ↦ xs | false ↦ x ∷ beside s w xs ]) k d ≡ get_or (x ∷ xs)
        (k + bool_byte (eqb s.0 t.0 || listed s (take k w))) d
    go (told_true e) k ih = rw (e, eqb_swap s.0 t.0, e, add-one k)
    go (told_false e) zero ih = rw (e, eqb_swap s.0 t.0, e)
    go (told_false e) (suc k) ih =
        let z : suc k + bool_byte (listed s (take (suc k) w)) ≡ suc (k + bool_byte (listed s (take (suc k) w))) = omega arith in
        rw (e, eqb_swap s.0 t.0, e, z) (ih k)

-- whether the slot stands among one more
pub listed_more : (s : Slot) (w : List Slot) (i : ℕ) (d : Slot) → i < length w
    → listed s (take (suc i) w) ≡ (listed s (take i w) || eqb s.0 (get_or w i d).0)
unfolding listed
listed_more s [] i d h = absurd (omega arith)
listed_more s (t ∷ w) zero d h = or-false (eqb s.0 t.0)
listed_more s (t ∷ w) (suc i) d h = go (eqb s.0 t.0) (listed_more s w i d (omega arith))
  where
    go : (b : Bool) → listed s (take (suc i) w) ≡ (listed s (take i w) || eqb s.0 (get_or w i d).0)
        → (b || listed s (take (suc i) w)) ≡ ((b || listed s (take i w)) || eqb s.0 (get_or w i d).0)
    go true e = refl
    go false e = e

-- how far the loop of `leave` is at place i, and whether it has met the slot
pub record Leaving (s : Slot) (w : List Slot) (gone : Bool) (i : ℕ) : Type 0 where
  pub few : i + 1 ≤ length w
  pub most : length w ≤ 63
  pub passed : gone ≡ listed s (take i w)

-- what it has moved of a list that stands beside the window
pub record Moved {A : Type 0} (nil : A) (s : Slot) (w : List Slot) (xs left : List A) (i : ℕ) : Type 0 where
  pub size : length xs ≡ length w
  pub filled : left ≡ padded nil (take i (beside s w xs))

pub one_most : (b : Bool) → bool_byte b ≤ 1
one_most true = omega arith
one_most false = omega arith

pub some_slot : (s : Slot) (w : List Slot) (n : ℕ) → listed s (take n w) ≡ true → 1 ≤ n
some_slot s w n h = let k = length_less s (take n w) h in let m = length-take n w in omega arith

-- the window is the first n places of its array
module _ (s : Slot) (window : List Slot) (n : ℕ) (gone : Bool) (i : ℕ) (g : Bool) (d : Slot) (L : Leaving s (take n window) gone i)
    (e : g ≡ (gone || eqb (get_or window i d).0 s.0)) where
  module _ (h : i + 1 < n) (m : n ≤ length window) where
    met_by : g ≡ listed s (take (suc i) (take n window))
    met_by =
        let z = length-take n window in
        let q : get_or (take n window) i d ≡ get_or window i d = get_or-take n window i d (omega arith) in
        e ∙ ap (λ (b : Bool). b || eqb (get_or window i d).0 s.0) L.passed
        ∙ ap (λ (b : Bool). listed s (take i (take n window)) || b) (eqb_swap (get_or window i d).0 s.0)
        ∙ ap (λ (u : Slot). listed s (take i (take n window)) || eqb s.0 u.0) (sym q) ∙ sym (listed_more s (take n window) i d (omega arith))

    pub one_place : Leaving s (take n window) g (i + 1)
    one_place = let z = length-take n window in record { few = omega arith; most = L.most; passed = rw add-one met_by }

    -- one place more is moved, of a list in an array
    pub moved_on : {A : Type 0} (nil : A) (array left : List A) → listed s (take n window) ≡ true → n ≤ length array
        → Moved nil s (take n window) (take n array) left i
        → Moved nil s (take n window) (take n array) (set left i (get_or array (i + bool_byte g) nil)) (i + 1)
    moved_on {A} nil array left here k M =
        let z = length-take n window in
        let one = one_most g in
        let q : get_or (take n array) (i + bool_byte g) nil ≡ get_or array (i + bool_byte g) nil =
        get_or-take n array (i + bool_byte g) nil (omega arith) in
        let v : List A = beside s (take n window) (take n array) in
        let c = length_less s (take n window) here in
        let y : length v ≡ length (without s (take n window)) = length-beside s (take n window) (take n array) M.size in
        let u : length (take i v) ≡ i = length-take i v ∙ omega arith in
        let x : get_or v i nil ≡ get_or array (i + bool_byte g) nil =
        beside_at s (take n window) (take n array) i nil M.size
        ∙ ap (λ (b : Bool). get_or (take n array) (i + bool_byte b) nil) (sym met_by) ∙ q
        in
        record {
          size = M.size;
          filled =
              rw (M.filled, ← x)
              (ap (λ (j : ℕ). set (padded nil (take i v)) j (get_or v i nil)) (sym u)
              ∙ padded_more nil (take i v) (get_or v i nil) (omega (arith, L.most))
              ∙ ap (padded nil) (sym (take-suc v i nil (omega arith)) ∙ ap (λ (j : ℕ). take j v) (sym (add-one i))));
        }

pub leaving_begin : (s : Slot) (w : List Slot) → listed s w ≡ true → length w ≤ 63 → Leaving s w false 0
unfolding listed
leaving_begin s w h m = let n = length_less s w h in record { few = omega arith; most = m; passed = refl }

pub moved_begin : {A : Type 0} (nil : A) (s : Slot) (w : List Slot) (xs : List A) → length xs ≡ length w
    → Moved nil s w xs (replicate 63 nil) 0
unfolding padded
moved_begin nil s w xs n = record { size = n; filled = refl }

pub all_moved : {A : Type 0} (nil : A) (s : Slot) (w : List Slot) (xs left : List A) (i : ℕ) → Moved nil s w xs left i
    → length w ≤ i + 1 → listed s w ≡ true → left ≡ padded nil (beside s w xs)
all_moved nil s w xs left i M h here =
    let n = length_less s w here in
    let y = length-beside s w xs M.size in
    M.filled ∙ ap (padded nil) (take_all i (beside s w xs) (omega arith))
