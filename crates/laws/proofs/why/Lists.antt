-- 15, 16 and 7 of a list: its length, a block named twice, and a place whose block is too high.
use Prim.Native.Nat.{ℕ, zero, suc, ◌≤◌, ◌<◌}
use mathlib.Core.Path.{◌≡◌, refl, ap}
use mathlib.Core.Logic.{inl, inr}
use mathlib.Core.Bool.{true, false, not, or-true, and-false}
use mathlib.Core.List.{List, [], ◌∷◌}
use native.Mathlib.Omega.{arith}
use native.Mathlib.Decide.{ℕ_discrete, dec_lt}
use lib.ListN.{length, get_or}
use lib.Dec.{eqb, leb}
use borrow.Author.Tests.{leb-true, le-leb, ltb-true, lt-ltb, eqb-true, eq-eqb, not-false, not-true}
use Rattle.layout.proofs.Booleans.{Told, told, told_true, told_false, clash}
use Rattle.layout.proofs.RuleLaws.{◌⇔◌}
use Rattle.protocol.specs.Kinds.{highest}
use Rattle.protocol.specs.Judge.{names, names_once, scan_test, list_test}
use Rattle.protocol.specs.Why.{BadList, NamedTwice, BadScan}
use Rattle.laws.proofs.why.Basics.{none_same, and_same, via}

good_same : (n room : ℕ) → list_test n room ⇔ ((0 < n) × ((n ≤ 64) × (n ≡ room)))
good_same n room =
    and_same (ltb-true 0 n, lt-ltb 0 n) (and_same {Q = n ≡ room} (leb-true n 64, le-leb n 64) (eqb-true n room, eq-eqb n room))

pub bad_list-same : (blocks : List ℕ) (room : ℕ) → not (list_test (length blocks) room) ⇔ BadList blocks room
bad_list-same blocks room = via (none_same (good_same (length blocks) room)) (to blocks) from
  where
    to : (bs : List ℕ) → (((0 < length bs) × ((length bs ≤ 64) × (length bs ≡ room))) → ⊥) → BadList bs room
    to [] h = inl refl
    to (b ∷ bs) h = go (dec_lt 64 (length (b ∷ bs))) (ℕ_discrete (length (b ∷ bs)) room)
      where
        go : Dec (64 < length (b ∷ bs)) → Dec (length (b ∷ bs) ≡ room) → BadList (b ∷ bs) room
        go (yes p) d = inr (inl p)
        go (no p) (yes e) = absurd (h (omega arith, (omega arith, e)))
        go (no p) (no n) = inr (inr n)

    from : BadList blocks room → ((0 < length blocks) × ((length blocks ≤ 64) × (length blocks ≡ room))) → ⊥
    from (inl e) g = let z : length blocks ≡ 0 = ap length e in omega (arith, g.0)
    from (inr (inl p)) g = omega (arith, g.1.0)
    from (inr (inr n)) g = n g.1.1

-- a block is named by a list, and a list names one twice
pub names_at : (b : ℕ) (bs : List ℕ) → names b bs ≡ true → (j : ℕ) × (j < length bs) × (b ≡ get_or bs j 0)
unfolding names
names_at b [] e = clash {b = false} e refl
names_at b (c ∷ bs) e = go (told (eqb b c)) (names_at b bs)
  where
    go : Told (eqb b c) → (names b bs ≡ true → (j : ℕ) × (j < length bs) × (b ≡ get_or bs j 0))
        → (j : ℕ) × (j < length (c ∷ bs)) × (b ≡ get_or (c ∷ bs) j 0)
    go (told_true q) ih = (0, omega arith, eqb-true b c q)
    go (told_false q) ih = let r = ih (rw q at e) in (suc r.0, omega (arith, r.1), r.2)

pub at_names : (b : ℕ) (bs : List ℕ) (j : ℕ) → j < length bs → b ≡ get_or bs j 0 → names b bs ≡ true
unfolding names
at_names b [] j h e = absurd (omega arith)
at_names b (c ∷ bs) zero h e = rw (eq-eqb b c e)
at_names b (c ∷ bs) (suc j) h e = rw (at_names b bs j (omega arith) e, or-true (eqb b c))

twice_at : (bs : List ℕ) → not (names_once bs) ≡ true → NamedTwice bs
unfolding names_once
twice_at [] e = clash {b = false} e refl
twice_at (b ∷ bs) e = go (told (names b bs)) (twice_at bs)
  where
    go : Told (names b bs) → (not (names_once bs) ≡ true → NamedTwice bs) → NamedTwice (b ∷ bs)
    go (told_true q) ih = let r = names_at b bs q in (0, suc r.0, omega arith, omega (arith, r.1), r.2)
    go (told_false q) ih = let r = ih (rw q at e) in (suc r.0, suc r.1, omega (arith, r.2), omega (arith, r.3), r.4)

at_twice : (bs : List ℕ) (i j : ℕ) → i < j → j < length bs → get_or bs i 0 ≡ get_or bs j 0 → not (names_once bs) ≡ true
unfolding names_once
at_twice [] i j h k e = absurd (omega arith)
at_twice (b ∷ bs) i zero h k e = absurd (omega arith)
at_twice (b ∷ bs) zero (suc j) h k e = rw (at_names b bs j (omega arith) e)
at_twice (b ∷ bs) (suc i) (suc j) h k e =
    let q : names_once bs ≡ false = not-true _ (at_twice bs i j (omega arith) (omega arith) e) in
    rw (q, and-false (not (names b bs)))

twice_same : (bs : List ℕ) → not (names_once bs) ⇔ NamedTwice bs
twice_same bs = (twice_at bs, λ p. at_twice bs p.0 p.1 p.2 p.3 p.4)

scan_same : (bs : List ℕ) → scan_test bs ⇔ ((0 < length bs) × ((length bs ≤ 63) × (names_once bs ≡ true)))
scan_same bs =
    and_same (ltb-true 0 (length bs), lt-ltb 0 (length bs))
    (and_same {Q = names_once bs ≡ true} (leb-true (length bs) 63, le-leb (length bs) 63) (λ h. h, λ h. h))

pub bad_scan-same : (blocks : List ℕ) → not (scan_test blocks) ⇔ BadScan blocks
bad_scan-same blocks = via (none_same (scan_same blocks)) (to blocks) from
  where
    to : (bs : List ℕ) → (((0 < length bs) × ((length bs ≤ 63) × (names_once bs ≡ true))) → ⊥) → BadScan bs
    to [] h = inl refl
    to (b ∷ bs) h = go (dec_lt 63 (length (b ∷ bs))) (told (names_once (b ∷ bs)))
      where
        go : Dec (63 < length (b ∷ bs)) → Told (names_once (b ∷ bs)) → BadScan (b ∷ bs)
        go (yes p) d = inr (inl p)
        go (no p) (told_true e) = absurd (h (omega arith, (omega arith, e)))
        go (no p) (told_false e) = inr (inr ((twice_same (b ∷ bs)).0 (ap not e)))

    from : BadScan blocks → ((0 < length blocks) × ((length blocks ≤ 63) × (names_once blocks ≡ true))) → ⊥
    from (inl e) g = let z : length blocks ≡ 0 = ap length e in omega (arith, g.0)
    from (inr (inl p)) g = omega (arith, g.1.0)
    from (inr (inr n)) g = clash ((twice_same blocks).1 n) (ap not g.1.1)

-- where it is not 16 the list has a place
pub listed_some : (blocks : List ℕ) (room : ℕ) → not (list_test (length blocks) room) ≡ false → 0 < length blocks
listed_some blocks room h = ((good_same (length blocks) room).0 (not-false _ h)).0

-- the highest block is too high exactly if one is
some_high : (b : ℕ) (bs : List ℕ) (k : ℕ) → k ≤ highest (b ∷ bs) → (i : ℕ) × (i < length (b ∷ bs)) × (k ≤ get_or (b ∷ bs) i 0)
unfolding highest
some_high b [] k h = (0, omega arith, omega arith)
some_high b (c ∷ bs) k h = go (dec_lt b k) (some_high c bs k)
  where
    go : Dec (b < k) → (k ≤ highest (c ∷ bs) → (i : ℕ) × (i < length (c ∷ bs)) × (k ≤ get_or (c ∷ bs) i 0))
        → (i : ℕ) × (i < length (b ∷ c ∷ bs)) × (k ≤ get_or (b ∷ c ∷ bs) i 0)
    go (no p) ih = (0, omega arith, omega arith)
    go (yes p) ih = let q = ih (omega arith) in (suc q.0, omega (arith, q.1), q.2)

high_some : (bs : List ℕ) (k i : ℕ) → i < length bs → k ≤ get_or bs i 0 → k ≤ highest bs
unfolding highest
high_some [] k i h e = absurd (omega arith)
high_some (b ∷ bs) k zero h e = omega arith
high_some (b ∷ bs) k (suc i) h e = omega (arith, high_some bs k i (omega arith) e)

pub any_high_same : (blocks : List ℕ) (k : ℕ) → 0 < length blocks
    → leb k (highest blocks) ⇔ ((i : ℕ) × (i < length blocks) × (k ≤ get_or blocks i 0))
any_high_same [] k h = absurd (omega arith)
any_high_same (b ∷ bs) k h = (λ e. some_high b bs k (leb-true _ _ e), λ p. le-leb _ _ (high_some (b ∷ bs) k p.0 p.1 p.2))
