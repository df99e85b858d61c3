-- The callers of a window's places: a test at each, as an array, counted, and without one of them.
use Prim.Native.Nat.{ℕ, zero, suc, ◌+◌, ◌-◌, ◌≤◌, ◌<◌}
use mathlib.Core.Path.{◌≡◌, refl, sym, ap, ◌∙◌}
use mathlib.Core.Bool.{Bool, true, false, cond}
use Rattle.std.specs.List.{count_by}
use Rattle.std.proofs.lemmas.List.Recursion.{is_count_by}
use mathlib.Core.List.{List, [], ◌∷◌, ◌++◌}
use native.Mathlib.Omega.{arith}
use lib.ListN.{length, take, drop, replicate, length-append, length-take, length-drop, length-replicate, take-append-drop}
use lib.Seq.{take_at, drop_at}
use lib.Dec.{eqb, leb}
use borrow.Author.Tests.{eqb-true, eq-eqb, le-leb}
use Rattle.layout.specs.declared.Slot.{Slot}
use Rattle.layout.proofs.Booleans.{and_of, and_parts}
use Rattle.record.specs.Window.{each_place, without, beside}
use Rattle.record.specs.declared.Phase.{Phase}
use Rattle.record.specs.declared.Phase.TheVariants.{Formatting, Recovering, Ready}
use Rattle.record.specs.Callers.{open_by, caller_array, named_places, callers_test}
use Rattle.record.proofs.WindowLaws.{padded, length_without}
use Rattle.record.proofs.LeaveLaws.{length-beside}
use Rattle.record.proofs.Examples as computed-first

-- callers that are 0 are as many zeros
pub nobody_all : (cs : List ℕ) → each_place (λ c. eqb c 0) cs ≡ true → cs ≡ replicate (length cs) 0
unfolding each_place
nobody_all [] h = refl
nobody_all (c ∷ cs) h =
    let p = and_parts (eqb c 0) (each_place (λ c. eqb c 0) cs) h in
    let e : c ≡ 0 = eqb-true _ _ p.0 in
    let f = nobody_all cs p.1 in
    (λ i. e i ∷ f i)

pub nobody_zeros : (n : ℕ) → each_place (λ c. eqb c 0) (replicate n 0) ≡ true
unfolding each_place
nobody_zeros zero = refl
nobody_zeros (suc n) = nobody_zeros n

-- of zeros none is the import's
pub by_nobody : (n : ℕ) → open_by 1 (replicate n 0) ≡ 0
unfolding open_by
by_nobody zero = refl
by_nobody (suc n) = by_nobody n

-- how many are a caller's: at most as many in a part
pub by_take : (caller n : ℕ) (cs : List ℕ) → open_by caller (take n cs) ≤ open_by caller cs
unfolding open_by
by_take caller zero cs = omega arith
by_take caller (suc n) [] = omega arith
by_take caller (suc n) (c ∷ cs) = go (eqb c caller) (by_take caller n cs)
  where
    go : (b : Bool) → open_by caller (take n cs) ≤ open_by caller cs
        → elim b [ true ↦ suc (open_by caller (take n cs)) | false ↦ open_by caller (take n cs) ]
        ≤ elim b [ true ↦ suc (open_by caller cs) | false ↦ open_by caller cs ]
    go true h = omega arith
    go false h = h

-- counted by a test
pub by_count : (caller : ℕ) (cs : List ℕ) → open_by caller cs ≡ count_by (λ c. eqb c caller) cs
unfolding open_by
by_count caller cs = is_count_by (open_by caller) (λ c. eqb c caller) refl (λ c cs. go (eqb c caller) cs) cs
  where
    go : (b : Bool) (cs : List ℕ) → elim b [ true ↦ suc (open_by caller cs) | false ↦ open_by caller cs ]
        ≡ cond b (1 + open_by caller cs) (open_by caller cs)
    go true cs = omega arith
    go false cs = refl

-- one more where it joins, at most as many once one leaves
pub by_more : (caller c : ℕ) (cs : List ℕ) → open_by caller (cs ++ (c ∷ [])) ≡ open_by caller cs + open_by caller (c ∷ [])
unfolding open_by
by_more caller c [] = omega arith
by_more caller c (d ∷ cs) = go (eqb d caller) (by_more caller c cs)
  where
    go : (b : Bool) → open_by caller (cs ++ (c ∷ [])) ≡ open_by caller cs + open_by caller (c ∷ [])
        → elim b [ true ↦ suc (open_by caller (cs ++ (c ∷ []))) | false ↦ open_by caller (cs ++ (c ∷ [])) ]
        ≡ elim b [ true ↦ suc (open_by caller cs) | false ↦ open_by caller cs ] + open_by caller (c ∷ [])
    go true e = omega arith
    go false e = e

pub by_less : (caller : ℕ) (s : Slot) (w : List Slot) (cs : List ℕ) → open_by caller (beside s w cs) ≤ open_by caller cs
unfolding open_by beside
by_less caller s [] cs = omega arith
by_less caller s (t ∷ w) [] = omega arith
by_less caller s (t ∷ w) (c ∷ cs) = go (eqb t.0 s.0) (by_less caller s w cs)
  where
    one : (b : Bool) (m n : ℕ) → m ≤ n → elim b [ true ↦ suc m | false ↦ m ] ≤ elim b [ true ↦ suc n | false ↦ n ]
    one true m n h = omega arith
    one false m n h = h

    more : (b : Bool) (n : ℕ) → n ≤ elim b [ true ↦ suc n | false ↦ n ]
    more true n = omega arith
    more false n = omega arith

    go : (b : Bool) → open_by caller (beside s w cs) ≤ open_by caller cs
        → open_by caller (elim b [ true ↦ cs | false ↦ c ∷ beside s w cs ]) ≤ elim (eqb c caller) [ true ↦ suc (open_by caller cs) | false ↦ open_by caller cs ]
    go true h = more (eqb c caller) (open_by caller cs)
    go false h = one (eqb c caller) _ _ h

-- a test passed by all of a list is passed by what is taken, dropped or left of it, and by one more that passes it
pub each_take : (t : ℕ → Bool) (n : ℕ) (cs : List ℕ) → each_place t cs ≡ true → each_place t (take n cs) ≡ true
unfolding each_place
each_take t zero cs h = refl
each_take t (suc n) [] h = refl
each_take t (suc n) (c ∷ cs) h = let p = and_parts (t c) (each_place t cs) h in and_of p.0 (each_take t n cs p.1)

pub each-drop : (t : ℕ → Bool) (n : ℕ) (cs : List ℕ) → each_place t cs ≡ true → each_place t (drop n cs) ≡ true
unfolding each_place
each-drop t zero cs h = h
each-drop t (suc n) [] h = refl
each-drop t (suc n) (c ∷ cs) h = each-drop t n cs (and_parts (t c) (each_place t cs) h).1

pub each_more : (t : ℕ → Bool) (c : ℕ) (cs : List ℕ) → each_place t cs ≡ true → t c ≡ true → each_place t (cs ++ (c ∷ [])) ≡ true
unfolding each_place
each_more t c [] h e = rw e
each_more t c (d ∷ cs) h e = let p = and_parts (t d) (each_place t cs) h in and_of p.0 (each_more t c cs p.1 e)

pub each-beside : (t : ℕ → Bool) (s : Slot) (w : List Slot) (cs : List ℕ) → each_place t cs ≡ true → each_place t (beside s w cs) ≡ true
unfolding each_place beside
each-beside t s [] cs h = h
each-beside t s (u ∷ w) [] h = refl
each-beside t s (u ∷ w) (c ∷ cs) h =
    let p = and_parts (t c) (each_place t cs) h in go (eqb u.0 s.0) p.0 p.1 (each-beside t s w cs p.1)
  where
    go : (b : Bool) → t c ≡ true → each_place t cs ≡ true → each_place t (beside s w cs) ≡ true
        → each_place t (elim b [ true ↦ cs | false ↦ c ∷ beside s w cs ]) ≡ true
    go true x y z = y
    go false x y z = and_of x z

each_imp : (t u : ℕ → Bool) → ((c : ℕ) → t c ≡ true → u c ≡ true) → (cs : List ℕ) → each_place t cs ≡ true → each_place u cs ≡ true
unfolding each_place
each_imp t u f [] h = refl
each_imp t u f (c ∷ cs) h = let p = and_parts (t c) (each_place t cs) h in and_of (f c p.0) (each_imp t u f cs p.1)

-- callers that keep their rule beside a window of n slots
pub record Named (n : ℕ) (cs : List ℕ) : Type 0 where
  pub size : length cs ≡ 63
  pub known : each_place (λ c. leb c 1) (take n cs) ≡ true
  pub past : each_place (λ c. eqb c 0) (drop n cs) ≡ true

pub named_at : (n : ℕ) (cs : List ℕ) → callers_test n cs ≡ true → Named n cs
named_at n cs h =
    let p = and_parts (eqb (length cs) 63) _ h in
    let q = and_parts (each_place (λ c. leb c 1) (take n cs)) _ p.1 in
    record { size = eqb-true _ _ p.0; known = q.0; past = q.1 }

-- while mending all of them are 0
pub nobody_mending : (cs : List ℕ) → callers_test 0 cs ≡ true → cs ≡ replicate 63 0
nobody_mending cs h = let N = named_at 0 cs h in nobody_all cs N.past ∙ ap (λ (n : ℕ). replicate n 0) N.size

zeros_at : (n : ℕ) → Named n (replicate 63 0)
zeros_at n = record {
  size = length-replicate {A = ℕ} 63 0;
  known = each_take (λ c. leb c 1) n (replicate 63 0)
      (each_imp (λ c. eqb c 0) (λ c. leb c 1) (λ c e. le-leb c 1 (omega (arith, eqb-true c 0 e))) (replicate 63 0) (nobody_zeros 63));
  past = each-drop (λ c. eqb c 0) n (replicate 63 0) (nobody_zeros 63);
}

pub named_of : (p : Phase) (n : ℕ) (cs : List ℕ) → callers_test (named_places p n) cs ≡ true → Named n cs
named_of (Formatting d) n cs h = named_at n cs h
named_of Recovering n cs h = rw (nobody_mending cs h) (zeros_at n)
named_of Ready n cs h = named_at n cs h

pub named_test : (n : ℕ) (cs : List ℕ) → Named n cs → callers_test n cs ≡ true
named_test n cs N = and_of (eq-eqb _ _ N.size) (and_of N.known N.past)

-- zeros keep the rule in any phase
pub zeros_test : (p : Phase) (n : ℕ) → callers_test (named_places p n) (replicate 63 0) ≡ true
zeros_test p n = named_test (named_places p n) (replicate 63 0) (zeros_at (named_places p n))

-- callers as an array
pub padded-callers : (cs : List ℕ) → padded 0 cs ≡ caller_array cs
unfolding padded caller_array
padded-callers cs = refl

pub take-callers : (cs : List ℕ) → take (length cs) (caller_array cs) ≡ cs
unfolding caller_array
take-callers cs = take_at cs _ (length cs) refl

pub callers-array : (n : ℕ) (cs : List ℕ) → Named n cs → n ≤ 63 → cs ≡ caller_array (take n cs)
unfolding caller_array
callers-array n cs N h =
    let k : length (drop n cs) ≡ 63 - length (take n cs) = omega (arith, length-drop n cs, length-take n cs, N.size) in
    sym (take-append-drop n cs) ∙ ap (λ (z : List ℕ). take n cs ++ z) (nobody_all (drop n cs) N.past)
    ∙ ap (λ (m : ℕ). take n cs ++ replicate m 0) k

pub length-callers : (cs : List ℕ) → length cs ≤ 63 → length (caller_array cs) ≡ 63
unfolding caller_array
length-callers cs few = length-append cs _ ∙ rw length-replicate (omega arith)

pub array_named : (cs : List ℕ) → length cs ≤ 63 → each_place (λ c. leb c 1) cs ≡ true → Named (length cs) (caller_array cs)
array_named cs few h = record {
  size = length-callers cs few;
  known = rw (take-callers cs) h;
  past = unfold caller_array in (rw (drop_at cs (replicate (63 - length cs) 0) (length cs) refl) (nobody_zeros (63 - length cs)));
}

-- callers beside a window, as their array, keep the rule: with one more, and without one
module _ (w : List Slot) (cs : List ℕ) (size : length cs ≡ length w) (known : each_place (λ c. leb c 1) cs ≡ true) where
  pub joins-test : (s : Slot) (caller : ℕ) → caller ≤ 1 → length w < 63
      → callers_test (length (w ++ (s ∷ []))) (caller_array (cs ++ (caller ∷ []))) ≡ true
  joins-test s caller h few =
      let n : length (cs ++ (caller ∷ [])) ≡ length (w ++ (s ∷ [])) = rw (length-append, length-append) (omega arith) in
      let m : length (cs ++ (caller ∷ [])) ≤ 63 = rw length-append (omega arith) in
      rw n at (named_test _ _ (array_named (cs ++ (caller ∷ [])) m (each_more (λ c. leb c 1) caller cs known (le-leb caller 1 h))))

  pub leaves-test : (s : Slot) → length w ≤ 63 → callers_test (length (without s w)) (caller_array (beside s w cs)) ≡ true
  leaves-test s few =
      let n : length (beside s w cs) ≡ length (without s w) = length-beside s w cs size in
      let m : length (beside s w cs) ≤ 63 = omega (arith, length_without s w) in
      rw n at (named_test _ _ (array_named (beside s w cs) m (each-beside (λ c. leb c 1) s w cs known)))
