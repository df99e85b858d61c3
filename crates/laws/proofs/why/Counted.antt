-- 11 and 17: what is counted is so many places, each another: of the open rows, and of the import's places of the window.
use Prim.Native.Nat.{ℕ, zero, suc, ◌+◌, ◌-◌, ◌*◌, ◌≤◌, ◌<◌}
use mathlib.Core.Path.{◌≡◌, refl, sym, ap, ◌∙◌}
use mathlib.Core.Logic.{◌≢◌}
use mathlib.Core.Bool.{Bool, true, false}
use mathlib.Core.List.{List, [], ◌∷◌, map}
use native.Mathlib.Omega.{arith}
use native.Mathlib.Decide.{ℕ_discrete}
use lib.ListN.{length, get_or, take}
use lib.Dec.{eqb, leb}
use borrow.Author.Tests.{leb-true, le-leb, eqb-true, eq-eqb}
use Rattle.layout.proofs.Booleans.{clash}
use Rattle.layout.proofs.RuleLaws.{◌⇔◌}
use Rattle.record.specs.declared.Record.{Record}
use Rattle.record.specs.Callers.{open_by}
use Rattle.record.specs.Record.{callers_in}
use Rattle.protocol.specs.Rows.{writing, open_rows}
use Rattle.protocol.specs.Why.{Open, ImportOpen}

-- how many of these are true
unfoldable trues : List Bool → ℕ
trues [] = 0
trues (b ∷ bs) = elim b [ true ↦ suc (trues bs) | false ↦ trues bs ]

-- so many places at which they are, in rising order
record Trues (n : ℕ) (bs : List Bool) : Type 0 where
  place : ℕ → ℕ
  others : (i j : ℕ) → i < j → j < n → place i < place j
  each : (i : ℕ) → i < n → get_or bs (place i) false ≡ true

-- a first place 0, and others after it
abbrev first : (ℕ → ℕ) → ℕ → ℕ
first g zero = 0
first g (suc i) = suc (g i)

no_place : (bs : List Bool) (n : ℕ) → n ≤ 0 → Trues n bs
no_place bs n h = record { place = λ i. i; others = λ i j p q. absurd (omega arith); each = λ i p. absurd (omega arith) }

counted : (bs : List Bool) (n : ℕ) → n ≤ trues bs → Trues n bs
unfolding trues
counted [] n h = no_place [] n h
counted (true ∷ bs) zero h = no_place (true ∷ bs) 0 (omega arith)
counted (true ∷ bs) (suc n) h =
    let o = counted bs n (omega arith) in
    record { place = first o.place; others = rising o; each = at o }
  where
    rising : (o : Trues n bs) (i j : ℕ) → i < j → j < suc n → first o.place i < first o.place j
    rising o zero zero p q = absurd (omega arith)
    rising o zero (suc j) p q = omega arith
    rising o (suc i) zero p q = absurd (omega arith)
    rising o (suc i) (suc j) p q = let k = o.others i j (omega arith) (omega arith) in omega arith

    at : (o : Trues n bs) (i : ℕ) → i < suc n → get_or (true ∷ bs) (first o.place i) false ≡ true
    at o zero p = refl
    at o (suc i) p = o.each i (omega arith)
counted (false ∷ bs) n h =
    let o = counted bs n h in
    record { place = λ i. suc (o.place i); others = λ i j p q. let k = o.others i j p q in omega arith; each = o.each }

counts : (bs : List Bool) (n : ℕ) → Trues n bs → n ≤ trues bs
unfolding trues
counts [] zero o = omega arith
counts [] (suc n) o = clash (o.each 0 (omega arith)) refl
counts (b ∷ bs) zero o = omega arith
counts (b ∷ bs) (suc n) o = go b o (ℕ_discrete (o.place 0) 0) (λ m. counts bs m)
  where
    -- the places from the a-th on, all past the first
    rest : (b : Bool) (o : Trues (suc n) (b ∷ bs)) (a m : ℕ) → a + m ≤ suc n → ((i : ℕ) → i < m → o.place (a + i) ≡ suc (o.place (a + i) - 1))
        → Trues m bs
    rest b o a m q past = record {
      place = λ i. o.place (a + i) - 1;
      others = λ i j p r.
          let k = o.others (a + i) (a + j) (omega arith) (omega arith) in
          omega (arith, past i (omega arith));
      each = λ i p. ap (λ (k : ℕ). get_or (b ∷ bs) k false) (sym (past i p)) ∙ o.each (a + i) (omega arith);
    }

    positive : (b : Bool) (o : Trues (suc n) (b ∷ bs)) → o.place 0 ≢ 0 → (i : ℕ) → i < suc n → o.place (0 + i) ≡ suc (o.place (0 + i) - 1)
    positive b o z zero p = omega arith
    positive b o z (suc i) p = omega (arith, o.others 0 (0 + suc i) (omega arith) (omega arith))

    go : (b : Bool) (o : Trues (suc n) (b ∷ bs)) → Dec (o.place 0 ≡ 0) → ((m : ℕ) → Trues m bs → m ≤ trues bs) → suc n ≤ trues (b ∷ bs)
    go true o (yes z) ih =
        let k = ih n (rest true o 1 n (omega arith) (λ i p. omega (arith, o.others 0 (1 + i) (omega arith) (omega arith)))) in omega arith
    go true o (no z) ih = let k = ih (suc n) (rest true o 0 (suc n) (omega arith) (positive true o z)) in omega arith
    go false o (yes z) ih = clash (ap (λ (k : ℕ). get_or (false ∷ bs) k false) (sym z) ∙ o.each 0 (omega arith)) refl
    go false o (no z) ih = ih (suc n) (rest false o 0 (suc n) (omega arith) (positive false o z))

-- which rows are writing
unfoldable opens : List ℕ → List Bool
opens [] = []
opens (b ∷ []) = []
opens (b ∷ f ∷ t) = writing f ∷ opens t

open_trues : (t : List ℕ) → open_rows t ≡ trues (opens t)
unfolding open_rows trues opens
open_trues [] = refl
open_trues (b ∷ []) = refl
open_trues (b ∷ f ∷ t) = go (writing f) (open_trues t)
  where
    go : (o : Bool) → open_rows t ≡ trues (opens t)
        → ◌≡◌ {A = ℕ} (elim o [ true ↦ suc (open_rows t) | false ↦ open_rows t ]) (elim o [ true ↦ suc (trues (opens t)) | false ↦ trues (opens t) ])
    go true e = ap suc e
    go false e = e

abbrev IsOpen : List ℕ → ℕ → Type 0
IsOpen t s = (2 * s + 1 < length t) × (writing (get_or t (2 * s + 1) 0) ≡ true)

-- the row of a slot past the first is a row of the rest
row-past : (b f : ℕ) (t : List ℕ) (k : ℕ) → get_or (b ∷ f ∷ t) (2 * suc k + 1) 0 ≡ get_or t (2 * k + 1) 0
row-past b f t k =
    let q : 2 * suc k + 1 ≡ suc (suc (2 * k + 1)) = omega arith in
    ap (λ (n : ℕ). get_or (b ∷ f ∷ t) n 0) q

open_at : (t : List ℕ) (s : ℕ) → get_or (opens t) s false ⇔ IsOpen t s
unfolding opens
open_at [] s = (λ h. clash h refl, λ h. absurd (omega (arith, h.0)))
open_at (b ∷ []) s = (λ h. clash h refl, λ h. absurd (omega (arith, h.0)))
open_at (b ∷ f ∷ t) zero = (λ h. (omega arith, h), λ h. h.1)
open_at (b ∷ f ∷ t) (suc k) =
    let i = open_at t k in (
      λ h. let o = i.0 h in (omega (arith, o.0), ap writing (row-past b f t k) ∙ o.1),
      λ h. i.1 (omega (arith, h.0), sym (ap writing (row-past b f t k)) ∙ h.1),
    )

pub count_same : (n : ℕ) (t : List ℕ) → leb n (open_rows t) ⇔ Open n t
count_same n t = (
  λ h.
      let o = counted (opens t) n (omega (arith, leb-true n (open_rows t) h, open_trues t)) in
      record { slot = λ i. record { 0 = o.place i }; others = o.others; rows = λ i p. (open_at t (o.place i)).0 (o.each i p) },
  λ o.
      le-leb n (open_rows t)
      (omega (
        arith,
        open_trues t,
        counts (opens t) n
            (record { place = λ i. (o.slot i).0; others = o.others; each = λ i p. (open_at t (o.slot i).0).1 (o.rows i p) }),
      )),
)

-- which places are the import's
by_trues : (cs : List ℕ) → open_by 1 cs ≡ trues (map (λ c. eqb c 1) cs)
unfolding open_by trues
by_trues [] = refl
by_trues (c ∷ cs) = go (eqb c 1) (by_trues cs)
  where
    go : (o : Bool) → open_by 1 cs ≡ trues (map (λ c. eqb c 1) cs)
        → ◌≡◌ {A = ℕ} (elim o [ true ↦ suc (open_by 1 cs) | false ↦ open_by 1 cs ])
        (elim o [ true ↦ suc (trues (map (λ c. eqb c 1) cs)) | false ↦ trues (map (λ c. eqb c 1) cs) ])
    go true e = ap suc e
    go false e = e

by_at : (cs : List ℕ) (n k : ℕ) → get_or (map (λ c. eqb c 1) (take n cs)) k false ⇔ ((k < n) × (get_or cs k 0 ≡ 1))
by_at [] n k = (λ h. clash h (none_taken n), λ h. absurd (omega (arith, h.1)))
  where
    none_taken : (n : ℕ) → get_or (map (λ c. eqb c 1) (take n [])) k false ≡ false
    none_taken zero = refl
    none_taken (suc n) = refl
by_at (c ∷ cs) zero k = (λ h. clash h refl, λ h. absurd (omega (arith, h.0)))
by_at (c ∷ cs) (suc n) zero = (λ h. (omega arith, eqb-true c 1 h), λ h. eq-eqb c 1 h.1)
by_at (c ∷ cs) (suc n) (suc k) =
    let i = by_at cs n k in (λ h. let o = i.0 h in (omega (arith, o.0), o.1), λ h. i.1 (omega (arith, h.0), h.1))

pub import_same : (n : ℕ) (r : Record) → leb n (open_by 1 (callers_in r)) ⇔ ImportOpen n r
unfolding callers_in
import_same n r = (
  λ h.
      let o = counted (map (λ c. eqb c 1) (callers_in r)) n (omega (arith, leb-true n (open_by 1 (callers_in r)) h, by_trues (callers_in r))) in
      record { place = o.place; others = o.others; each = λ i p. (by_at r.callers r.count (o.place i)).0 (o.each i p) },
  λ o.
      le-leb n (open_by 1 (callers_in r))
      (omega (
        arith,
        by_trues (callers_in r),
        counts (map (λ c. eqb c 1) (callers_in r)) n
            (record { place = o.place; others = o.others; each = λ i p. (by_at r.callers r.count (o.place i)).1 (o.each i p) }),
      )),
)
