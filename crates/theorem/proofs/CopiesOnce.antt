-- An offer repeated with nothing in between is never "copied out" a second time running.
use Prim.Native.Nat.{ℕ, suc, ◌+◌, ◌-◌, ◌*◌, ◌<◌}
use mathlib.Core.Path.{◌≡◌, refl, sym, ap, subst, ◌∙◌}
use mathlib.Core.Logic.{◌≢◌}
use mathlib.Core.Bool.{Bool, true, false}
use mathlib.Core.List.{List}
use Rattle.std.specs.Prelude.{Option, Some, None}
use native.Mathlib.Omega.{arith}
use lib.Seq.{get_or-set_same}
use Rattle.layout.specs.declared.Slot.{Slot}
use Rattle.layout.specs.declared.Block.{Block}
use Rattle.layout.specs.declared.Label.{Label}
use Rattle.protocol.specs.declared.Condition.{Condition}
use Rattle.protocol.specs.declared.Condition.TheVariants.{NotCached, Clean, Dirty, Writing, Fetching}
use Rattle.protocol.specs.Reply.{Reply, refusal, answer, dealt, copied_out, overwrite, nothing_to_do, announced}
use Rattle.protocol.specs.Rows.{row_flags, set_flags, dirty, writing, used, without_dirty}
use Rattle.record.specs.Record.{label_in}
use Rattle.protocol.specs.Box.{Box, left, box_after}
use Rattle.protocol.specs.Condition.{condition_of}
use Rattle.protocol.specs.Sweep.{Victim, sweep_from, sweep}
use Rattle.protocol.specs.Plan.{offer, Move, copies, takes_as, takes, offering, plan}
use Rattle.protocol.specs.Perform.{confirmed, perform}
use Rattle.protocol.specs.declared.Refusal.{Refusal}
use Rattle.protocol.specs.Judge.{judged}
use Rattle.protocol.specs.Calls.{decided, effect_of, result_of}
use Rattle.protocol.specs.Beside.{CopiesOnce}
use Rattle.layout.proofs.Booleans.{clash}
use Rattle.laws.proofs.refine.Flags.{cleaned_flags}
use Rattle.laws.proofs.refine.Sweeps.{Alike, alike_same, Swept, took, swept}
use Rattle.laws.proofs.Accepted.{Legal, service_legal}

-- the answers are not the same
number : Reply → ℕ
number (refusal n) = 0
number (answer n s) = n
number (dealt n) = 112

is_refusal : Reply → Bool
is_refusal (refusal n) = true
is_refusal (answer n s) = false
is_refusal (dealt n) = false

-- who answers "copied out": a sweep that took a dirty slot
data CopyingOut (x : Box) (b : Block) : Move → Type 0 where
  swept_dirty : (v : Victim) → sweep (label_in x.state) x.table x.state.hand ≡ Some v
      → dirty (row_flags v.table v.slot) ≡ true → CopyingOut x b (copies v.slot copied_out v.table v.slot)

other : {A : Type 0} {p : Reply} (n : ℕ) → number p ≡ n → n ≢ 103 → p ≡ copied_out → A
unfolding number
other n e d q = absurd (d (sym e ∙ ap number q))

copying_out : (x : Box) (b : Block) (c : ℕ) (z : Condition) → (perform (offering x b c z) x).said ≡ copied_out → CopyingOut x b (offering x b c z)
unfolding perform confirmed number
copying_out x b c NotCached e = go (sweep (label_in x.state) x.table x.state.hand) refl e
  where
    go : (o : Option Victim) → sweep (label_in x.state) x.table x.state.hand ≡ o
        → (perform (takes x.state b c 7 o) x).said ≡ copied_out → CopyingOut x b (takes x.state b c 7 o)
    go None q = λ e. other {p = nothing_to_do} 106 refl (omega arith) e
    go (Some v) q = by (dirty (row_flags v.table v.slot)) refl
      where
        by : (t : Bool) → dirty (row_flags v.table v.slot) ≡ t → (perform (takes_as t x.state b c 7 v) x).said ≡ copied_out
            → CopyingOut x b (takes_as t x.state b c 7 v)
        by true d e = swept_dirty v q d
        by false d e = other {p = announced v.slot} 101 refl (omega arith) e
copying_out x b c (Clean s) e = other {p = announced s} 101 refl (omega arith) e
copying_out x b c (Dirty s) e = other {p = overwrite} 102 refl (omega arith) e
copying_out x b c (Writing s) e = other {p = nothing_to_do} 106 refl (omega arith) e
copying_out x b c (Fetching s) e = other {p = nothing_to_do} 106 refl (omega arith) e

-- an answer of "copied out" is no refusal
none_copied : (b : Block) (c : ℕ) (x : Box) → (result_of (offer b c) x).said ≡ copied_out → judged (offer b c) x ≡ None
unfolding effect_of is_refusal
none_copied b c x e = go (judged (offer b c) x) refl
  where
    go : (o : Option Refusal) → judged (offer b c) x ≡ o → judged (offer b c) x ≡ None
    go (Some r) q = clash {b = is_refusal (decided (judged (offer b c) x) (offer b c) x).said} (rw q) (ap is_refusal e)
    go None q = q

said-plan : (b : Block) (c : ℕ) (x : Box) → judged (offer b c) x ≡ None → (result_of (offer b c) x).said ≡ (perform (plan (offer b c) x) x).said
unfolding effect_of
said-plan b c x e = ap (λ (o : Option Refusal). (decided o (offer b c) x).said) e

-- the box that it leaves, and the sweep that took the slot
record Left (x : Box) (b : Block) (c : ℕ) : Type 0 where
  victim : Victim
  took_it : sweep (label_in x.state) x.table x.state.hand ≡ Some victim
  was_dirty : dirty (row_flags victim.table victim.slot) ≡ true
  box_is : box_after (result_of (offer b c) x) ≡ box_after
      (left (perform (copies victim.slot copied_out victim.table victim.slot) x) x.images)

left_by_lem : (x : Box) (b : Block) (c : ℕ) → (result_of (offer b c) x).said ≡ copied_out → Left x b c
unfolding effect_of plan
left_by_lem x b c e =
    let n = none_copied b c x e in
    go (copying_out x b c (condition_of x.table b) (sym (said-plan b c x n) ∙ e))
    (ap (λ (o : Option Refusal). box_after (left (decided o (offer b c) x) x.images)) n)
  where
    go : {m : Move} → CopyingOut x b m → box_after (result_of (offer b c) x) ≡ box_after (left (perform m x) x.images) → Left x b c
    go (swept_dirty v q d) h = record { victim = v; took_it = q; was_dirty = d; box_is = h }

-- a sweep that begins at such a slot takes it
sweep-first : (l : Label) (t : List ℕ) (s : Slot) → 0 < l.slots → writing (row_flags t s) ≡ false → used (row_flags t s) ≡ false
    → sweep l t s ≡ Some (record { slot = s; table = t })
unfolding sweep_from
sweep-first l t s h w u =
    let n : ℕ = 2 * l.slots - 1 in
    let e : 2 * l.slots ≡ suc n = omega arith in
    ap (λ (m : ℕ). sweep_from m l t s) e ∙ rw (sweep_from, w, u)

victim_of_lem : {v w : Victim} → Some v ≡ Some w → v ≡ w
victim_of_lem e = cc

module _ (b : Block) (c : ℕ) (x : Box) (L : Legal x) (v : Victim) (low : v.slot.0 < x.state.label.slots)
    (w : writing (row_flags v.table v.slot) ≡ false) (u : used (row_flags v.table v.slot) ≡ false)
    (A : Alike (label_in x.state) x.table v.table) where
  x' : Box
  x' = box_after (left (perform (copies v.slot copied_out v.table v.slot) x) x.images)

  flags_are : row_flags (set_flags v.table v.slot (without_dirty (row_flags v.table v.slot))) v.slot ≡ without_dirty
      (row_flags v.table v.slot)
  flags_are = get_or-set_same v.table (2 * v.slot.0 + 1) _ 0 (omega (arith, A.size))

  -- the next sweep takes the slot at once, and it is not dirty any more
  not-again : Left x' b c → ⊥
  unfolding x' perform
  not-again G =
      let f = cleaned_flags (A.legal v.slot.0 low).flags w u in
      let t : List ℕ = set_flags v.table v.slot (without_dirty (row_flags v.table v.slot)) in
      let e = sweep-first (label_in x.state) t v.slot L.limits.some_slot (ap writing flags_are ∙ f.0)
      (ap used flags_are ∙ f.1) in
      let q : G.victim ≡ record { slot = v.slot; table = t } = victim_of_lem (sym G.took_it ∙ e) in
      clash (ap (λ (z : Victim). dirty (row_flags z.table z.slot)) (sym q) ∙ G.was_dirty) (ap dirty flags_are ∙ f.2)

pub copies-once : (b : Block) (c : ℕ) (x : Box) → CopiesOnce b c x
unfolding x'
copies-once b c x e again =
    let L = service_legal (offer b c) x refl (none_copied b c x e) in
    go L (left_by_lem x b c e)
    (swept (2 * x.state.label.slots) (label_in x.state) x.table x.table
    (alike_same (label_in x.state) x.table L.table-size L.rows) x.state.hand L.hand-low)
  where
    go : Legal x → (F : Left x b c) → Swept (label_in x.state) x.table (sweep (label_in x.state) x.table x.state.hand) → ⊥
    go L F S = by F.victim (subst (λ (o : Option Victim). Swept (label_in x.state) x.table o) F.took_it S) F.box_is
      where
        by : (v : Victim) → Swept (label_in x.state) x.table (Some v)
            → box_after (result_of (offer b c) x) ≡ box_after (left (perform (copies v.slot copied_out v.table v.slot) x) x.images)
            → ⊥
        by v (took u low w un A) q = not-again b c x L v low w un A
            (left_by_lem _ b c (subst (λ (y : Box). (result_of (offer b c) y).said ≡ copied_out) q again))
