-- A box that passes 3, 4 and 5, whatever it is: what its record and its table are.
use Prim.Native.Nat.{ℕ, ◌≤◌, ◌<◌}
use mathlib.Core.Path.{◌≡◌, refl, sym, ap, subst, ◌∙◌}
use mathlib.Core.Bool.{Bool, true, false, not, ◌&&◌}
use mathlib.Core.List.{List}
use Rattle.std.specs.Prelude.{None}
use native.Mathlib.Omega.{arith}
use lib.ListN.{length, drop, length-take}
use lib.Dec.{leb}
use borrow.Author.Tests.{ltb-true, eqb-true, not-false, lt-ltb, le-leb, eq-eqb}
use Rattle.layout.specs.declared.Slot.{Slot}
use Rattle.layout.specs.Places.{Limits, ssd_length, hdd_length, table_length}
use Rattle.layout.proofs.PlaceLaws.{within}
use Rattle.layout.proofs.Booleans.{clash, and_parts}
use Rattle.record.specs.declared.Phase.{Phase}
use Rattle.record.specs.declared.Phase.TheVariants.{Formatting, Recovering, Ready}
use Rattle.record.specs.Record.{label_in, window_in, callers_in}
use Rattle.layout.specs.Window.{array_of}
use Rattle.protocol.specs.Rows.{each_row}
use Rattle.protocol.specs.Box.{Box}
use Rattle.protocol.specs.Plan.{Call, step}
use Rattle.protocol.specs.Kinds.{Aim, a_service, kind}
use Rattle.protocol.specs.declared.Refusal.TheVariants.{BadRecord, WrongLength, BadRows, WrongPhase}
use Rattle.protocol.specs.Judge.{lengths_test, length_test, row_test, agree_test, rows_test, is_ready, lent_test, test, asked_first, judged}
use Rattle.record.specs.Window.{each_place, zero_slots}
use Rattle.record.specs.Callers.{named_places, callers_test}
use Rattle.record.proofs.CallerLaws.{Named, named_of}
use Rattle.record.specs.Rule.{steps_test, record_test}
use Rattle.record.proofs.WindowLaws.{length-array, zero_past_lem}
use Rattle.record.proofs.RecordLaws.{parts, window-length, window-array}
use Rattle.laws.proofs.model.Base.{Window}
use Rattle.laws.proofs.refine.Windows.{nums, length_nums, distinct_nums, below_nums, window_of_lem}
use Rattle.laws.proofs.refine.Tables.{Rows}
use Rattle.laws.proofs.Judged.{NoneHold, passed, passed_first}
use Rattle.laws.proofs.Sound.{Sound, sound_of, rows-legal}
use Rattle.laws.proofs.why.RowsRules.{agree_same}

pub record Legal (x : Box) : Type 0 where
  pub limits : Limits (label_in x.state)
  pub hand-low : x.state.hand.0 < x.state.label.slots
  pub steps : steps_test (label_in x.state) x.state.phase ≡ true
  pub count_is : x.state.count ≡ length (window_in x.state)
  pub array_is : x.state.window ≡ array_of (window_in x.state)
  pub named : callers_test (named_places x.state.phase x.state.count) x.state.callers ≡ true
  pub window-rule : Window x.state.label.slots (nums (window_in x.state))
  pub ssd-size : length x.images.ssd ≡ ssd_length (label_in x.state)
  pub hdd-size : length x.images.hdd ≡ hdd_length (label_in x.state)
  pub table-size : length x.table ≡ table_length (label_in x.state)
  pub rows : Rows (label_in x.state) x.table
  pub agree : agree_test x.state.phase x.table (window_in x.state) ≡ true

pub legal : (x : Box) → record_test x.state ≡ true → length_test (label_in x.state) x.images x.table ≡ true
    → rows_test x.state x.table ≡ true → Legal x
unfolding length_test lengths_test rows_test
legal x e f g =
    let P = parts x.state e in
    let q1 = and_parts _ _ f in
    let q2 = and_parts _ _ q1.1 in
    let r1 = and_parts (each_row (λ s block flags. row_test (label_in x.state) block flags) 0 x.table) _ g in
    let size : length x.table ≡ table_length (label_in x.state) = eqb-true _ _ q2.1 in
    record {
      limits = (within (label_in x.state)).0 P.in_limits;
      hand-low = ltb-true _ _ P.hand;
      steps = P.steps;
      count_is = sym (window-length x.state P);
      array_is = window-array x.state P;
      named = P.named;
      window-rule = window_of_lem (label_in x.state) (window_in x.state) (rw (window-length x.state P) P.most)
          P.apart P.ranged;
      ssd-size = eqb-true _ _ q1.0;
      hdd-size = eqb-true _ _ q2.0;
      table-size = size;
      rows = (rows-legal (label_in x.state) x.table size).0 r1.0;
      agree = r1.1;
    }

-- the same, from the tests of a chain that fail
pub legal-judged : (x : Box) (t : Bool) → not (record_test x.state) ≡ false
    → not (length_test (label_in x.state) x.images x.table && t) ≡ false → not (rows_test x.state x.table) ≡ false → Legal x
legal-judged x t e f g = legal x (not-false _ e) (and_parts (length_test (label_in x.state) x.images x.table) t (not-false _ f)).0
    (not-false _ g)

-- of a step, or of a service, that no reason refuses
pub step_legal : (x : Box) → judged step x ≡ None → Legal x
unfolding test
step_legal x e = let q = passed step x e in legal-judged x true (q BadRecord refl) (q WrongLength refl) (q BadRows refl)

module _ (c : Call) (x : Box) {a : Aim} (k : kind c ≡ a_service a) (e : judged c x ≡ None) where
  pub service_legal : Legal x
  unfolding test
  service_legal =
      let q = passed_first c x e k in
      legal-judged x (lent_test a.purpose (length x.table)) (q BadRecord refl) (rw k at (q WrongLength refl)) (rw k at (q BadRows refl))

  pub service_ready : x.state.phase ≡ Ready
  unfolding test
  service_ready = ready_of x.state.phase (rw k at (passed_first c x e k WrongPhase refl))
    where
      ready_of : (p : Phase) → not (is_ready p) ≡ false → p ≡ Ready
      ready_of Ready q = refl
      ready_of Recovering q = clash {b = true} refl q
      ready_of (Formatting d) q = clash {b = true} refl q

-- a legal box that is ready is sound
pub legal_sound : (x : Box) → Legal x → x.state.phase ≡ Ready → Sound (label_in x.state) x.table (window_in x.state)
legal_sound x L on =
    sound_of (label_in x.state) x.table (window_in x.state) L.table-size L.rows L.window-rule
    ((agree_same Ready x.table (window_in x.state)).0
    (subst (λ (p : Phase). agree_test p x.table (window_in x.state) ≡ true) on L.agree))

-- its callers: as many as its window has slots, each known
module _ (x : Box) (L : Legal x) where
  pub few : length (window_in x.state) ≤ 63
  few = omega (arith, L.window-rule.fits, length_nums (window_in x.state))

  named_callers : Named x.state.count x.state.callers
  named_callers = named_of x.state.phase x.state.count x.state.callers L.named

  pub callers-size : length (callers_in x.state) ≡ length (window_in x.state)
  unfolding callers_in
  callers-size = omega (arith, length-take x.state.count x.state.callers, named_callers.size, L.count_is, few)

  pub callers-known : each_place (λ c. leb c 1) (callers_in x.state) ≡ true
  unfolding callers_in
  callers-known = named_callers.known

-- and a legal box passes them
module _ (x : Box) (L : Legal x) where
  pub legal_record : record_test x.state ≡ true
  unfolding record_test
  legal_record =
      let w : List Slot = window_in x.state in
      rw (
        (within (label_in x.state)).1 L.limits,
        lt-ltb _ _ L.hand-low,
        L.steps,
        le-leb x.state.count 63 (omega (arith, L.count_is, few x L)),
        eq-eqb _ _ (ap length L.array_is ∙ length-array w (few x L)),
        sym (below_nums (label_in x.state) w) ∙ L.window-rule.in_slots,
        sym (distinct_nums w) ∙ L.window-rule.apart,
        past,
      ) L.named
    where
      past : zero_slots (drop x.state.count x.state.window) ≡ true
      past =
          ap (λ (n : ℕ). zero_slots (drop n x.state.window)) L.count_is
          ∙ ap (λ (v : List Slot). zero_slots (drop (length (window_in x.state)) v)) L.array_is ∙ zero_past_lem (window_in x.state)

  pub legal_lengths : length_test (label_in x.state) x.images x.table ≡ true
  unfolding length_test lengths_test
  legal_lengths = rw (eq-eqb _ _ L.ssd-size, eq-eqb _ _ L.hdd-size, eq-eqb _ _ L.table-size)

  pub legal_rows_is : rows_test x.state x.table ≡ true
  unfolding rows_test
  legal_rows_is = rw ((rows-legal (label_in x.state) x.table L.table-size).1 L.rows) L.agree

  -- so where it is ready no service is refused by what is asked first
  pub legal-first : x.state.phase ≡ Ready → (c : Call) {a : Aim} → kind c ≡ a_service a → lent_test a.purpose (length x.table) ≡ true
      → NoneHold (asked_first (kind c)) (λ r. test r c x)
  unfolding test
  legal-first on c k m = rw k (rw legal_record, (rw (k, legal_lengths, m), (rw (k, legal_rows_is), (rw (k, on), tt))))
