-- The record of a run: a slot that joins the window last and leaves it again leaves window and callers as they were; and a block that a slot
-- was opened for is open there.
use Prim.Native.Nat.{ℕ, ◌+◌, ◌*◌, ◌<◌}
use mathlib.Core.Path.{◌≡◌, refl, sym, ap, ◌∙◌}
use mathlib.Core.Bool.{true, false}
use mathlib.Core.List.{List, [], ◌∷◌, ◌++◌}
use Rattle.std.specs.Prelude.{Option, Some, None}
use native.Mathlib.Omega.{arith}
use native.Mathlib.Decide.{dec_lt}
use lib.ListN.{length, take, length-append}
use lib.Dec.{eqb}
use borrow.Author.Tests.{eqb-true}
use Rattle.layout.specs.declared.Slot.{Slot}
use Rattle.layout.specs.declared.Block.{Block}
use Rattle.layout.specs.PageRule.{listed}
use Rattle.layout.proofs.Booleans.{Told, told, told_true, told_false, clash, or_neither}
use Rattle.record.specs.declared.Record.{Record}
use Rattle.record.specs.Record.{window_in, callers_in, with_stamp, with_window, with_callers}
use Rattle.record.specs.Callers.{caller_array}
use Rattle.record.specs.Window.{without, beside}
use Rattle.record.specs.Rule.{record_test}
use Rattle.record.proofs.WindowLaws.{take-array}
use Rattle.record.proofs.CallerLaws.{take-callers}
use Rattle.record.proofs.RecordLaws.{Parts, parts, window-length, callers-length, remade-same}
use Rattle.protocol.specs.declared.Condition.TheVariants.{NotCached}
use Rattle.protocol.specs.Rows.{row_flags, row_block, valid}
use Rattle.protocol.specs.Condition.{condition_at, condition_of}
use Rattle.protocol.specs.Perform.{joined, landed_state}
use Rattle.laws.proofs.model.Base.{eqb_same}
use Rattle.laws.proofs.refine.Conditions.{Located, at, nowhere, located}
use Rattle.list_turns.specs.Found.{Unheld}
use Rattle.import_run.proofs.RowLaws.{ran_as}

-- numbers that are not the same either way round
other_way : (a b : ℕ) → eqb a b ≡ false → eqb b a ≡ false
other_way a b e = go (told (eqb b a))
  where
    go : Told (eqb b a) → eqb b a ≡ false
    go (told_true q) = clash {b = eqb a b} (rw (eqb-true b a q) (eqb_same a)) e
    go (told_false q) = q

last_leaves : (s : Slot) (w : List Slot) → listed s w ≡ false → without s (w ++ (s ∷ [])) ≡ w
unfolding without listed
last_leaves s [] e = rw (without, eqb_same s.0)
last_leaves s (t ∷ w) e =
    let q = or_neither (eqb s.0 t.0) (listed s w) e in
    rw (without, other_way s.0 t.0 q.0, last_leaves s w q.1)

last_beside : (s : Slot) (w : List Slot) (c : ℕ) (cs : List ℕ) → length cs ≡ length w → listed s w ≡ false
    → beside s (w ++ (s ∷ [])) (cs ++ (c ∷ [])) ≡ cs
unfolding beside listed
last_beside s [] c [] n e = rw (beside, eqb_same s.0)
last_beside s [] c (d ∷ cs) n e = absurd (omega arith)
last_beside s (t ∷ w) c [] n e = absurd (omega arith)
last_beside s (t ∷ w) c (d ∷ cs) n e =
    let q = or_neither (eqb s.0 t.0) (listed s w) e in
    rw (beside, other_way s.0 t.0 q.0, last_beside s w c cs (omega arith) q.1)

named_are : (q : Record) (cs : List ℕ) → q.count ≡ length cs → q.callers ≡ caller_array cs → callers_in q ≡ cs
unfolding callers_in
named_are q cs n e = ap (λ (k : ℕ). take k q.callers) n ∙ ap (λ (c : List ℕ). take (length cs) c) e ∙ take-callers cs

-- so a slot that is opened and landed leaves the record with another hand, another stamp, and unsettled
pub landed-again : (r : Record) → record_test r ≡ true → (s : Slot) → listed s (window_in r) ≡ false → (caller : ℕ) (hand : Slot) (newest : ℕ)
    → landed_state true s (with_stamp (joined s caller hand r) newest) ≡ ran_as r hand newest true
landed-again r e s out caller hand newest =
    ap (λ (w : List Slot). with_callers (with_window q true (without s w)) (beside s w (callers_in q))) window_is
    ∙ ap (λ (cs : List ℕ). with_callers (with_window q true (without s w₁)) (beside s w₁ cs)) callers_are
    ∙ ap (λ (w : List Slot). with_callers (with_window q true w) (beside s w₁ c₁)) (last_leaves s (window_in r) out)
    ∙ ap (λ (cs : List ℕ). with_callers (with_window q true (window_in r)) cs) (last_beside s (window_in r) caller
    (callers_in r) same_length out)
    ∙ ap (λ (p : Record). ran_as p hand newest true) (remade-same r P)
  where
    P : Parts r
    P = parts r e

    w₁ : List Slot
    w₁ = window_in r ++ (s ∷ [])

    c₁ : List ℕ
    c₁ = callers_in r ++ (caller ∷ [])

    q : Record
    q = with_stamp (joined s caller hand r) newest

    same_length : length (callers_in r) ≡ length (window_in r)
    same_length = callers-length r P ∙ sym (window-length r P)

    window_is : window_in q ≡ w₁
    window_is = unfold window_in in (take-array w₁)

    callers_are : callers_in q ≡ c₁
    callers_are = named_are q c₁ (omega (
      arith,
      same_length,
      length-append (window_in r) (s ∷ []),
      length-append (callers_in r)
          (caller ∷ []),
    )) refl

-- a block's condition, by the lowest row that holds it; and where none does
pub condition_at_lem : (t : List ℕ) (b : Block) (s : Slot) → 2 * s.0 + 1 < length t → valid (row_flags t s) ≡ true → (row_block t s).0 ≡ b.0
    → Unheld s.0 t b.0 → condition_of t b ≡ condition_at t (Some s)
unfolding condition_of
condition_at_lem t b s h v e un = ap (condition_at t) (go (located 0 t b))
  where
    same : (i : ℕ) → (i < s.0 → ⊥) → (s.0 < i → ⊥) → record { 0 = 0 + i } ≡ s
    same i p q = by (dec_lt i s.0) (dec_lt s.0 i)
      where
        by : Dec (i < s.0) → Dec (s.0 < i) → record { 0 = 0 + i } ≡ s
        by (yes k) m = absurd (p k)
        by (no k) (yes m) = absurd (q m)
        by (no k) (no m) = let z : 0 + i ≡ s.0 = omega arith in λ j. record { 0 = z j }

    go : {o : Option Slot} → Located 0 t b.0 o → o ≡ Some s
    go (nowhere n) = absurd (n s.0 h v e)
    go (at i m w q low) = ap (λ (u : Slot). Some u) (same i (λ k. un i k w q) (λ k. low s.0 k v e))

pub condition_none : (t : List ℕ) (b : Block) (n : ℕ) → length t ≡ 2 * n → Unheld n t b.0 → condition_of t b ≡ NotCached
unfolding condition_of
condition_none t b n size un = ap (condition_at t) (go (located 0 t b))
  where
    go : {o : Option Slot} → Located 0 t b.0 o → o ≡ None
    go (nowhere m) = refl
    go (at i m w q low) = absurd (un i (omega (arith, size)) w q)
