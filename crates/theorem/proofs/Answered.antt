-- An accepted offer answers one of its three answers, an accepted fetch one of its two: a sweep takes a slot where not all are open.
use Prim.Native.Nat.{ℕ, zero, suc, ◌+◌, ◌-◌, ◌*◌, ◌/◌, ◌%◌, ◌<◌}
use mathlib.Core.Path.{◌≡◌, refl, sym, ap, subst, ◌∙◌}
use mathlib.Core.Logic.{◌≢◌}
use mathlib.Core.Bool.{Bool, true, false, not, ◌&&◌}
use mathlib.Core.List.{List, [], ◌∷◌}
use Rattle.std.specs.Prelude.{Option, Some, None}
use Rattle.std.proofs.lemmas.Option.{none-some}
use native.Mathlib.Omega.{arith}
use native.Mathlib.Decide.{ℕ_discrete, dec_lt}
use lib.ListN.{length, get_or, length-set}
use lib.Seq.{get_or-set_same, get_or-set_other}
use lib.Dec.{eqb, ltb}
use borrow.Author.Tests.{ltb-true, eqb-true, lt-ltb}
use Rattle.layout.specs.declared.Slot.{Slot}
use Rattle.layout.specs.declared.Block.{Block}
use Rattle.layout.specs.declared.Label.{Label}
use Rattle.layout.proofs.Booleans.{Told, told, told_true, told_false, clash}
use Rattle.record.specs.Record.{label_in}
use Rattle.protocol.specs.declared.Condition.{Condition}
use Rattle.protocol.specs.declared.Condition.TheVariants.{NotCached, Clean, Dirty, Writing, Fetching}
use Rattle.protocol.specs.Reply.{Reply, announced, copied_out}
use Rattle.protocol.specs.Rows.{row_flags, set_flags, dirty, writing, used, without_used, each_row, all_writing}
use Rattle.protocol.specs.Box.{Box}
use Rattle.protocol.specs.Condition.{condition_of, is_open, is_cached, is_writing, has_other}
use Rattle.protocol.specs.Sweep.{next_slot, Victim, sweep_from, sweep}
use Rattle.protocol.specs.Plan.{Call, offer, fetch, takes_as, takes, sweeps, offering, fetching, plan}
use Rattle.protocol.specs.Perform.{confirmed, perform}
use Rattle.protocol.specs.declared.Refusal.{Refusal}
use Rattle.protocol.specs.declared.Refusal.TheVariants.{SlotOpen, HasSlot, AllOpen}
use Rattle.protocol.specs.Judge.{test, judged}
use Rattle.protocol.specs.Calls.{decided, effect_of, result_of}
use Rattle.protocol.specs.Beside.{OfferAnswer, says_announced, says_overwrite, says_copied, FetchAnswer, fetch_announced, fetch_copied, Answers}
use Rattle.laws.proofs.refine.Sweeps.{next_low}
use Rattle.laws.proofs.Judged.{passed}
use Rattle.laws.proofs.Accepted.{Legal, service_legal}
use Rattle.theorem.proofs.UpdateFirst.{none_of}

-- so many steps of a sweep lead from one slot to another
data Leads (l : Label) (u : ℕ) : ℕ → ℕ → Type 0 where
  here : Leads l u 0 u
  after : (d s : ℕ) → Leads l u d (next_slot l (record { 0 = s })).0 → Leads l u (suc d) s

next_up : (l : Label) (s : ℕ) → suc s < l.slots → (next_slot l (record { 0 = s })).0 ≡ suc s
next_up l s h = rw (next_slot, lt-ltb (suc s) l.slots h)

next_wraps : (l : Label) (s : ℕ) → suc s ≡ l.slots → (next_slot l (record { 0 = s })).0 ≡ 0
next_wraps l s e = go (told (ltb (suc s) l.slots))
  where
    go : Told (ltb (suc s) l.slots) → (next_slot l (record { 0 = s })).0 ≡ 0
    go (told_true h) = absurd (omega (arith, ltb-true (suc s) l.slots h))
    go (told_false h) = rw (next_slot, h)

leads_up : (l : Label) (u d s : ℕ) → s + d ≡ u → u < l.slots → Leads l u d s
leads_up l u zero s e h = let q : s ≡ u = omega arith in rw q here
leads_up l u (suc d) s e h = after d s (rw (next_up l s (omega arith)) (leads_up l u d (suc s) (omega arith) h))

leads_round : (l : Label) (u d s : ℕ) → s + suc d ≡ l.slots → u < l.slots → (n : ℕ) × (n ≡ d + suc u) × Leads l u n s
leads_round l u zero s e h = (suc u, omega arith, after u s (rw (next_wraps l s (omega arith)) (leads_up l u u 0 (omega arith) h)))
leads_round l u (suc d) s e h =
    let r = leads_round l u d (suc s) (omega arith) h in
    let q : r.0 ≡ d + suc u = r.1 in
    (suc r.0, omega arith, after r.0 s (rw (next_up l s (omega arith)) r.2))

leads : (l : Label) (u s : ℕ) → u < l.slots → s < l.slots → (d : ℕ) × (d < l.slots) × Leads l u d s
leads l u s h k = go (dec_lt u s)
  where
    go : Dec (u < s) → (d : ℕ) × (d < l.slots) × Leads l u d s
    go (no n) = (u - s, omega arith, leads_up l u (u - s) s (omega arith) h)
    go (yes p) =
        let r = leads_round l u (l.slots - s - 1) s (omega arith) h in
        let q : r.0 ≡ (l.slots - s - 1) + suc u = r.1 in
        (r.0, omega arith, r.2)

-- flags without used
unused-writing : (f : ℕ) → writing (without_used f) ≡ writing f
unused-writing f = go (told (used f))
  where
    go : Told (used f) → writing (without_used f) ≡ writing f
    go (told_true u) =
        let k : f / 8 % 2 ≡ 1 = eqb-true (f / 8 % 2) 1 u in
        let q : (f - 8) / 4 % 2 ≡ f / 4 % 2 = omega arith in
        rw (without_used, u) (ap (λ (n : ℕ). eqb n 1) q)
    go (told_false u) = rw (without_used, u)

unused-used : (f : ℕ) → used f ≡ true → used (without_used f) ≡ false
unused-used f u =
    let k : f / 8 % 2 ≡ 1 = eqb-true (f / 8 % 2) 1 u in
    let q : (f - 8) / 8 % 2 ≡ 0 = omega arith in
    rw (without_used, u) (ap (λ (n : ℕ). eqb n 1) q)

-- a sweep's step passes a slot that is open or used
module _ (k : ℕ) (l : Label) (t : List ℕ) (s : Slot) where
  abbrev cleared : List ℕ
  cleared = set_flags t s (without_used (row_flags t s))

  -- either it takes the slot, or it goes on, in the same table or with that slot's used flag cleared
  data Step : Option Victim → Type 0 where
    took : (v : Victim) → Step (Some v)
    passes : writing (row_flags t s) ≡ true → Step (sweep_from k l t (next_slot l s))
    clears : writing (row_flags t s) ≡ false → used (row_flags t s) ≡ true → Step (sweep_from k l cleared (next_slot l s))

  step : Step (sweep_from (suc k) l t s)
  unfolding sweep_from
  step = go (told (writing (row_flags t s))) (told (used (row_flags t s)))
    where
      go : Told (writing (row_flags t s)) → Told (used (row_flags t s))
          → Step (elim (writing (row_flags t s)) [
            | true ↦ sweep_from k l t (next_slot l s)
            | false ↦ elim (used (row_flags t s)) [
              | true ↦ sweep_from k l (set_flags t s (without_used (row_flags t s))) (next_slot l s)
              | false ↦ Some (record { slot = s; table = t })
            ]
          ])
      go (told_true w) y = rw w (passes w)
      go (told_false w) (told_true y) = rw (w, y) (clears w y)
      go (told_false w) (told_false y) = rw (w, y) (took (record { slot = s; table = t }))

abbrev slot : ℕ → Slot
slot s = record { 0 = s }

onward : (l : Label) (u d s : ℕ) → Leads l u d s → s ≢ u → (e : ℕ) × (d ≡ suc e) × Leads l u e (next_slot l (slot s)).0
onward l u d s L n = go L n
  where
    go : {d s : ℕ} → Leads l u d s → s ≢ u → (e : ℕ) × (d ≡ suc e) × Leads l u e (next_slot l (slot s)).0
    go here n = absurd (n refl)
    go (after e s K) n = (e, refl, K)

flags_other : (t : List ℕ) (s u f : ℕ) → s ≢ u → row_flags (set_flags t (slot s) f) (slot u) ≡ row_flags t (slot u)
flags_other t s u f n = get_or-set_other t (2 * s + 1) (2 * u + 1) f 0 (λ e. n (omega arith))

-- a closed slot without the used flag is not passed
soon : (k : ℕ) (l : Label) (u d s : ℕ) (t : List ℕ) → d < k → Leads l u d s → writing (row_flags t (slot u)) ≡ false
    → used (row_flags t (slot u)) ≡ false → sweep_from k l t (slot s) ≢ None
soon zero l u d s t h L w y = absurd (omega arith)
soon (suc k) l u d s t h L w y = go (step k l t (slot s)) (λ e z v. soon k l u e z v)
  where
    go : {o : Option Victim} → Step k l t (slot s) o
        → ((e z : ℕ) (v : List ℕ) → e < k → Leads l u e z → writing (row_flags v (slot u)) ≡ false → used (row_flags v (slot u)) ≡ false
        → sweep_from k l v (slot z) ≢ None) → o ≢ None
    go (took v) ih = λ q. none-some v (sym q)
    go (passes a) ih =
        let n : s ≢ u = λ e. clash (subst (λ (z : ℕ). writing (row_flags t (slot z)) ≡ true) e a) w in
        let m = onward l u d s L n in
        let q : d ≡ suc m.0 = m.1 in
        ih m.0 _ t (omega arith) m.2 w y
    go (clears a b) ih =
        let n : s ≢ u = λ e. clash (subst (λ (z : ℕ). used (row_flags t (slot z)) ≡ true) e b) y in
        let m = onward l u d s L n in
        let q : d ≡ suc m.0 = m.1 in
        let f = flags_other t s u (without_used (row_flags t (slot s))) n in
        ih m.0 _ _ (omega arith) m.2 (ap writing f ∙ w) (ap used f ∙ y)

-- and with it, not twice
late : (k : ℕ) (l : Label) (u d s : ℕ) (t : List ℕ) → l.slots + d < k → u < l.slots → s < l.slots → length t ≡ 2 * l.slots
    → Leads l u d s → writing (row_flags t (slot u)) ≡ false → sweep_from k l t (slot s) ≢ None
late zero l u d s t h ul sl size L w = absurd (omega arith)
late (suc k) l u d s t h ul sl size L w = go (step k l t (slot s)) (λ e z v. late k l u e z v)
  where
    low : (next_slot l (slot s)).0 < l.slots
    low = next_low l (slot s) sl

    go : {o : Option Victim} → Step k l t (slot s) o
        → ((e z : ℕ) (v : List ℕ) → l.slots + e < k → u < l.slots → z < l.slots → length v ≡ 2 * l.slots → Leads l u e z
        → writing (row_flags v (slot u)) ≡ false → sweep_from k l v (slot z) ≢ None) → o ≢ None
    go (took v) ih = λ q. none-some v (sym q)
    go (passes a) ih =
        let n : s ≢ u = λ e. clash (subst (λ (z : ℕ). writing (row_flags t (slot z)) ≡ true) e a) w in
        let m = onward l u d s L n in
        let q : d ≡ suc m.0 = m.1 in
        ih m.0 _ t (omega arith) ul low size m.2 w
    go (clears a b) ih = by (ℕ_discrete s u)
      where
        v : List ℕ
        v = set_flags t (slot s) (without_used (row_flags t (slot s)))

        by : Dec (s ≡ u) → sweep_from k l (set_flags t (slot s) (without_used (row_flags t (slot s)))) (next_slot l (slot s)) ≢ None
        by (no n) =
            let m = onward l u d s L n in
            let q : d ≡ suc m.0 = m.1 in
            let f = flags_other t s u (without_used (row_flags t (slot s))) n in
            ih m.0 _ _ (omega arith) ul low (length-set t (2 * s + 1) _ ∙ size) m.2 (ap writing f ∙ w)
        by (yes e) =
            let m = leads l u (next_slot l (slot s)).0 ul low in
            let small : m.0 < l.slots = m.1 in
            let f : row_flags (set_flags t (slot s) (without_used (row_flags t (slot s)))) (slot u) ≡ without_used (row_flags t (slot s)) =
            ap (λ (z : ℕ). get_or (set_flags t (slot s) (without_used (row_flags t (slot s)))) (2 * z + 1) 0) (sym e)
            ∙ get_or-set_same t (2 * s + 1) (without_used (row_flags t (slot s))) 0 (omega arith) in
            soon k l u m.0 _ _ (omega arith) m.2 (ap writing f ∙ unused-writing (row_flags t (slot s)) ∙ a)
            (ap used f ∙ unused-used (row_flags t (slot s)) b)

-- a table that is not all open has a closed row
closed-row : (s : ℕ) (t : List ℕ) → each_row (λ s b f. writing f) s t ≡ false
    → (u : ℕ) × (2 * u + 1 < length t) × (writing (get_or t (2 * u + 1) 0) ≡ false)
unfolding each_row
closed-row s [] e = clash {b = true} refl e
closed-row s (b ∷ []) e = clash {b = true} refl e
closed-row s (b ∷ f ∷ t) e = go (told (writing f)) (closed-row (suc s) t)
  where
    go : Told (writing f) → (each_row (λ s b f. writing f) (suc s) t ≡ false
        → (u : ℕ) × (2 * u + 1 < length t) × (writing (get_or t (2 * u + 1) 0) ≡ false))
        → (u : ℕ) × (2 * u + 1 < length (b ∷ f ∷ t)) × (writing (get_or (b ∷ f ∷ t) (2 * u + 1) 0) ≡ false)
    go (told_false w) ih = (0, omega arith, w)
    go (told_true w) ih =
        let r = ih (sym (ap (λ (a : Bool). a && each_row (λ s b f. writing f) (suc s) t) w) ∙ e) in
        let q : 2 * suc r.0 + 1 ≡ suc (suc (2 * r.0 + 1)) = omega arith in
        (suc r.0, omega (arith, r.1), ap (λ (n : ℕ). writing (get_or (b ∷ f ∷ t) n 0)) q ∙ r.2)

module _ (x : Box) (L : Legal x) (some_shut : all_writing x.table ≡ false) where
  sweep-takes : sweep (label_in x.state) x.table x.state.hand ≢ None
  sweep-takes =
      let r = closed-row 0 x.table some_shut in
      let size : length x.table ≡ 2 * x.state.label.slots = L.table-size in
      let ul : r.0 < x.state.label.slots = omega (arith, r.1) in
      let m = leads (label_in x.state) r.0 x.state.hand.0 ul L.hand-low in
      let small : m.0 < x.state.label.slots = m.1 in
      late (2 * x.state.label.slots) (label_in x.state) r.0 m.0 x.state.hand.0 x.table (omega arith) ul L.hand-low
      size m.2 r.2

  -- a slot is swept for: copied out, or announced
  swept_answer : (P : Reply → Type 0) → ((s : Slot) → P (announced s)) → P copied_out → (b : Block) (by-caller f : ℕ)
      → P (perform (sweeps x b by-caller f) x).said
  unfolding perform confirmed
  swept_answer P a c b by-caller f = go (sweep (label_in x.state) x.table x.state.hand) refl
    where
      go : (o : Option Victim) → sweep (label_in x.state) x.table x.state.hand ≡ o
          → P (perform (takes x.state b by-caller f o) x).said
      go None e = absurd (sweep-takes e)
      go (Some v) e = by (dirty (row_flags v.table v.slot))
        where
          by : (d : Bool) → P (perform (takes_as d x.state b by-caller f v) x).said
          by true = c
          by false = a v.slot

said-plan : (c : Call) (x : Box) → judged c x ≡ None → (result_of c x).said ≡ (perform (plan c x) x).said
unfolding effect_of
said-plan c x e = ap (λ (o : Option Refusal). (decided o c x).said) e

module _ (b : Block) (c : ℕ) (x : Box) where
  offered : judged (offer b c) x ≡ None → OfferAnswer (result_of (offer b c) x).said
  unfolding plan test perform confirmed
  offered e = rw (said-plan (offer b c) x e) (go (condition_of x.table b) (passed (offer b c) x e SlotOpen refl) (passed (offer b c) x e AllOpen refl))
    where
      go : (z : Condition) → is_open z ≡ false → (not (is_cached z) && all_writing x.table) ≡ false
          → OfferAnswer (perform (offering x b c z) x).said
      go NotCached o a = swept_answer x (service_legal (offer b c) x refl e) a OfferAnswer says_announced says_copied b c 7
      go (Clean s) o a = says_announced s
      go (Dirty s) o a = says_overwrite
      go (Writing s) o a = clash {b = true} refl o
      go (Fetching s) o a = clash {b = true} refl o

  fetched : judged (fetch b c) x ≡ None → FetchAnswer (result_of (fetch b c) x).said
  unfolding plan test perform confirmed
  fetched e = rw (said-plan (fetch b c) x e) (go (condition_of x.table b) (passed (fetch b c) x e HasSlot refl) (passed (fetch b c) x e SlotOpen refl)
      (passed (fetch b c) x e AllOpen refl))
    where
      go : (z : Condition) → has_other z ≡ false → is_writing z ≡ false → (not (is_cached z) && all_writing x.table) ≡ false
          → FetchAnswer (perform (fetching x b c z) x).said
      go NotCached o w a = swept_answer x (service_legal (fetch b c) x refl e) a FetchAnswer fetch_announced fetch_copied b c 5
      go (Clean s) o w a = clash {b = true} refl o
      go (Dirty s) o w a = clash {b = true} refl o
      go (Writing s) o w a = clash {b = true} refl w
      go (Fetching s) o w a = clash {b = true} refl o

pub answers : (b : Block) (c : ℕ) (x : Box) → Answers b c x
answers b c x = record { of_offer = λ f. offered b c x (none_of (offer b c) x f); of_fetch_is = λ f. fetched b c x (none_of (fetch b c) x f) }
