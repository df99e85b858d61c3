-- Judging: what each refusal says, and that a rest is asked exactly where there was none.
use Prim.Native.Nat.{ℕ}
use mathlib.Core.Path.{◌≡◌, refl, sym, ap, ◌∙◌}
use mathlib.Core.Logic.{◌≢◌}
use mathlib.Core.Bool.{Bool, true, false, not, ◌&&◌, true≢false}
use mathlib.Core.List.{List}
use lib.ListN.{length}
use Rattle.std.specs.Prelude.{Option, Some, None, Result, Ok, Err, is_ok}
use Rattle.std.specs.Result.{IsErrAnd}
use Rattle.std.proofs.lemmas.Result.{err_from_is_err_and}
use Rattle.std.proofs.lemmas.Option.{none-some}
use Rattle.protocol.specs.declared.Refusal.{Refusal}
use Rattle.protocol.specs.declared.Refusal.TheVariants.{BadRecord, WrongLength, BadRows, WrongPhase, BlockTooHigh, UnknownCaller}
use lib.Dec.{eqb, ltb, leb}
use borrow.Author.Tests.{eq-eqb, ne_eqb, eqb-true}
use Rattle.layout.proofs.Booleans.{and_parts}
use Rattle.layout.specs.declared.Block.{Block}
use Rattle.layout.specs.declared.Label.{Label}
use Rattle.layout.specs.Places.{ssd_length, hdd_length, table_length}
use Rattle.record.specs.declared.Record.{Record}
use Rattle.record.specs.Record.{label_in, window_in}
use Rattle.protocol.specs.Rows.{open_rows}
use Rattle.protocol.specs.Condition.{condition_of}
use Rattle.record.specs.Rule.{record_test}
use Rattle.protocol.specs.Judge.{lengths_test, rows_test, agree_test, is_ready}
use Rattle.table.specs.Scan.{legal_rows}
use Rattle.judging.specs.declared.Judged.{Judged}
use Rattle.judging.specs.Judging.{refuse_if, sound_then, ready_then, serves_then, unless, judged_by}

module _ (l : Label) (ssd hdd table : ℕ) where
  pub other-ssd : ssd ≢ ssd_length l → false ≡ lengths_test l ssd hdd table
  unfolding lengths_test
  other-ssd n = rw (ne_eqb ssd (ssd_length l) n)

  pub other-hdd : ssd ≡ ssd_length l → hdd ≢ hdd_length l → false ≡ lengths_test l ssd hdd table
  unfolding lengths_test
  other-hdd e n = rw (eq-eqb ssd (ssd_length l) e, ne_eqb hdd (hdd_length l) n)

  pub by_table : ssd ≡ ssd_length l → hdd ≡ hdd_length l → eqb table (table_length l) ≡ lengths_test l ssd hdd table
  unfolding lengths_test
  by_table e f = rw (eq-eqb ssd (ssd_length l) e, eq-eqb hdd (hdd_length l) f)

  pub lengths_table : lengths_test l ssd hdd table ≡ true → table ≡ table_length l
  unfolding lengths_test
  lengths_table e = eqb-true _ _ (and_parts (eqb hdd (hdd_length l)) _ (and_parts (eqb ssd (ssd_length l)) _ e).1).1

-- 5, by what a scan and the agreement say
module _ (r : Record) (t : List ℕ) where
  pub rows_bad : legal_rows (label_in r) t ≡ false → rows_test r t ≡ false
  unfolding rows_test
  rows_bad e = rw e

  pub rows_agree : legal_rows (label_in r) t ≡ true → agree_test r.phase t (window_in r) ≡ rows_test r t
  unfolding rows_test
  rows_agree e = rw e

module _ (ssd hdd page : ℕ) (t : List ℕ) (r : Record) (rest : Option Refusal) where
  pub bad_record_is : record_test r ≡ false → sound_then ssd hdd page t r rest ≡ Some BadRecord
  unfolding sound_then
  bad_record_is e = rw e

  pub bad_length : record_test r ≡ true → lengths_test (label_in r) ssd hdd (length t) ≡ false → sound_then ssd hdd page t r rest ≡ Some WrongLength
  unfolding sound_then
  bad_length e f = rw (e, f)

  pub bad_page : record_test r ≡ true → lengths_test (label_in r) ssd hdd (length t) ≡ true → page ≢ 4096
      → sound_then ssd hdd page t r rest ≡ Some WrongLength
  unfolding sound_then
  bad_page e f n = rw (e, f, ne_eqb page 4096 n)

  pub by_rows : record_test r ≡ true → lengths_test (label_in r) ssd hdd (length t) ≡ true → page ≡ 4096
      → sound_then ssd hdd page t r rest ≡ refuse_if (not (rows_test r t)) BadRows rest
  unfolding sound_then
  by_rows e f n = rw (e, f, eq-eqb page 4096 n)

-- Judging that goes on to a rest: it refuses whatever the rest is, or the rest decides.
pub data Asks (f : Option Refusal → Option Refusal) : Type 0 where
  stopped : (r : Refusal) → ((rest : Option Refusal) → f rest ≡ Some r) → Asks f
  passed : ((rest : Option Refusal) → f rest ≡ rest) → Asks f

pub refuse_asks : (a : Bool) (r : Refusal) → Asks (refuse_if a r)
refuse_asks true r = stopped r λ rest. refl
refuse_asks false r = passed λ rest. refl

pub then_asks : {f g : Option Refusal → Option Refusal} → Asks f → Asks g → Asks (λ rest. f (g rest))
then_asks (stopped r e) h = stopped r λ rest. e _
then_asks (passed e) (stopped r e₂) = stopped r λ rest. e _ ∙ e₂ rest
then_asks (passed e) (passed e₂) = passed λ rest. e _ ∙ e₂ rest

pub stops : {f : Option Refusal → Option Refusal} → Asks f → {r : Refusal} → f None ≡ Some r → (rest : Option Refusal) → f rest ≡ Some r
stops (stopped q e) h rest = e rest ∙ sym (e None) ∙ h
stops (passed e) {r} h rest = absurd (none-some r (sym (e None) ∙ h))

pub goes_on : {f : Option Refusal → Option Refusal} → Asks f → f None ≡ None → (rest : Option Refusal) → f rest ≡ rest
goes_on (stopped r e) h rest = absurd (none-some r (sym h ∙ e None))
goes_on (passed e) h rest = e rest

module _ (ssd hdd page : ℕ) (t : List ℕ) (r : Record) where
  pub sound_asks : Asks (sound_then ssd hdd page t r)
  unfolding sound_then
  sound_asks = then_asks (refuse_asks (not (record_test r)) BadRecord)
      (then_asks (refuse_asks (not (lengths_test (label_in r) ssd hdd (length t) && eqb page 4096)) WrongLength)
      (refuse_asks (not (rows_test r t)) BadRows))

  pub ready_asks : Asks (ready_then ssd hdd page t r)
  ready_asks = then_asks sound_asks (refuse_asks (not (is_ready r.phase)) WrongPhase)

  pub serves_asks : (b : Block) (caller : ℕ) → Asks (serves_then ssd hdd page t r b caller)
  serves_asks b caller = then_asks ready_asks
      (then_asks (refuse_asks (ltb 1 caller) UnknownCaller) (refuse_asks (leb r.label.blocks b.0) BlockTooHigh))

-- a value that is refused, and one that is not
abbrev value_or : {A : Type 0} → A → Result A Refusal → A
value_or d (Ok a) = a
value_or d (Err r) = d

abbrev refusal_or : {A : Type 0} → Refusal → Result A Refusal → Refusal
refusal_or d (Ok a) = d
refusal_or d (Err r) = r

pub is_refused : {A : Type 0} (o : Option Refusal) (a : A) (r : Refusal) → Err r ≡ unless o a → o ≡ Some r
is_refused (Some q) a r e = ap Some (sym (ap (refusal_or r) e))
is_refused {A} None a r e = absurd (true≢false (sym (ap (is_ok {T = A} {E = Refusal}) e)))

pub is_passed : {A : Type 0} (o : Option Refusal) (a x : A) → Ok x ≡ unless o a → (o ≡ None) × (x ≡ a)
is_passed {A} (Some q) a x e = absurd (true≢false (ap (is_ok {T = A} {E = Refusal}) e))
is_passed None a x e = (refl, ap (value_or x) e)

-- what was found where nothing is refused
pub record Looked (o : Option Refusal) (t : List ℕ) (b : Block) (j : Judged) : Type 0 where
  pub none : o ≡ None
  pub condition_is : j.condition ≡ condition_of t b
  pub writing_is : j.writing ≡ open_rows t

pub looked : (o : Option Refusal) (t : List ℕ) (b : Block) {j : Judged} → Ok j ≡ judged_by o t b → Looked o t b j
looked o t b {j} e =
    let p = is_passed o _ j e in
    record { none = p.0; condition_is = ap (λ (j : Judged). j.condition) p.1; writing_is = ap (λ (j : Judged). j.writing) p.1 }

-- judged by a beginning, and stopped or not
pub went_on : {f : Option Refusal → Option Refusal} → Asks f → (t : List ℕ) (b : Block) {j : Judged} {q : Result Judged Refusal}
    → q ≡ Ok j → q ≡ judged_by (f None) t b → (rest : Option Refusal) → f rest ≡ rest
went_on A t b w e rest = goes_on A (looked _ _ _ (sym w ∙ e)).none rest

pub stopped_at : {f : Option Refusal → Option Refusal} → Asks f → (t : List ℕ) (b : Block) {r : Refusal} {q : Result Judged Refusal}
    → q ≡ Err r → q ≡ judged_by (f None) t b → (rest : Option Refusal) → f rest ≡ Some r
stopped_at A t b w e rest = stops A (is_refused _ _ _ (sym w ∙ e)) rest

-- what `?` passes on
pub refused_on : {A : Type 0} {q : Result A Refusal} {r : Refusal} → IsErrAnd q (λ y. y ≡ r) → q ≡ Err r
refused_on {q} h = let k = err_from_is_err_and q h in k.1 ∙ ap Err k.2

-- a value that is refused by the rest of a chain
pub unless_some : {A : Type 0} {o : Option Refusal} {r : Refusal} (a : A) → o ≡ Some r → Err r ≡ unless o a
unless_some a e = ap (λ o. unless o a) (sym e)

pub unless_none : {A : Type 0} {o : Option Refusal} (a : A) → o ≡ None → Ok a ≡ unless o a
unless_none a e = ap (λ o. unless o a) (sym e)
