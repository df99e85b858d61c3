-- A box that passes 3 to 6, and a block that passes 7: what the calls ask of them.
use Prim.Native.Nat.{ℕ, ◌+◌, ◌*◌, ◌<◌}
use mathlib.Core.Path.{◌≡◌, refl, sym, ap, ◌∙◌}
use mathlib.Core.Bool.{Bool, true, false, not, ◌&&◌, ◌||◌}
use mathlib.Core.List.{List}
use native.Mathlib.Omega.{arith}
use native.Mathlib.Nat.{zero-add}
use lib.ListN.{length, take}
use Rattle.std.specs.Prelude.{Option, None}
use Rattle.std.proofs.lemmas.Option.{none-some}
use Rattle.protocol.specs.declared.Refusal.{Refusal}
use Rattle.protocol.specs.declared.Refusal.TheVariants.{BadRecord, WrongLength, BadRows, WrongPhase, BlockTooHigh, UnknownCaller}
use lib.Dec.{eqb, ltb, leb}
use borrow.Author.Tests.{eqb-true, leb-false, not-false}
use Rattle.layout.specs.declared.Slot.{Slot}
use Rattle.layout.specs.declared.Block.{Block}
use Rattle.layout.specs.Places.{table_length}
use Rattle.layout.specs.PageRule.{listed}
use Rattle.record.specs.declared.Record.{Record}
use Rattle.record.specs.declared.Phase.{Phase}
use Rattle.record.specs.declared.Phase.TheVariants.{Formatting, Recovering, Ready}
use Rattle.protocol.specs.Rows.{row_flags, writing, open_rows}
use Rattle.record.specs.Record.{label_in, window_in}
use Rattle.record.specs.Rule.{record_test}
use Rattle.protocol.specs.Judge.{lengths_test, length_test, rows_test, agree_test, is_ready}
use Rattle.record.specs.Window.{each_slot}
use Rattle.protocol.specs.Calls.{box_of}
use Rattle.layout.proofs.Booleans.{clash, and_parts}
use Rattle.laws.proofs.Accepted.{Legal, legal}
use Rattle.laws.proofs.refine.Tables.{each_get}
use Rattle.table.specs.Scan.{legal_rows}
use Rattle.record.proofs.RecordLaws.{parts}
use Rattle.agreement.proofs.AgreeLaws.{ready_is}
use Rattle.judging.specs.Judging.{refuse_if, sound_then, ready_then, serves_then}
use Rattle.judging.specs.Fits.{FitsRecord}
use Rattle.judging.proofs.JudgingLaws.{Asks, stopped, passed, sound_asks, ready_asks}

pass : (a : Bool) (r : Refusal) (rest : Option Refusal) → refuse_if a r rest ≡ None → (a ≡ false) × (rest ≡ None)
pass true r rest h = absurd (none-some r (sym h))
pass false r rest h = (refl, h)

-- what 3 to 5 leave of a box
pub record SoundBox (ssd hdd : List ℕ) (page : ℕ) (t : List ℕ) (r : Record) : Type 0 where
  pub record_kept : record_test r ≡ true
  pub sound : Legal (box_of ssd hdd t r)
  pub page-size : page ≡ 4096
  pub rows : legal_rows (label_in r) t ≡ true
  pub fits : FitsRecord (length ssd) (length t) r

-- and 6
pub record ReadyBox (ssd hdd : List ℕ) (page : ℕ) (t : List ℕ) (r : Record) : Type 0 where
  pub box : SoundBox ssd hdd page t r
  pub phase_is : r.phase ≡ Ready

ready_only : (p : Phase) → is_ready p ≡ true → p ≡ Ready
ready_only (Formatting d) e = clash e refl
ready_only Recovering e = clash e refl
ready_only Ready e = refl

module _ (ssd hdd : List ℕ) (page : ℕ) (t : List ℕ) (r : Record) where
  pub sound : sound_then (length ssd) (length hdd) page t r None ≡ None → SoundBox ssd hdd page t r
  unfolding sound_then length_test rows_test
  sound z =
      let p3 = pass (not (record_test r)) BadRecord _ z in
      let p4 = pass (not (lengths_test (label_in r) (length ssd) (length hdd) (length t) && eqb page 4096)) WrongLength _ p3.1 in
      let k = not-false _ p3.0 in
      let n = not-false _ p4.0 in
      let w = not-false _ (pass (not (rows_test r t)) BadRows _ p4.1).0 in
      let L : Legal (box_of ssd hdd t r) =
      legal (box_of ssd hdd t r) k (and_parts (lengths_test (label_in r) (length ssd) (length hdd) (length t)) _ n).0 w in
      record {
        record_kept = k;
        sound = L;
        page-size = eqb-true _ _ (and_parts (lengths_test (label_in r) (length ssd) (length hdd) (length t)) _ n).1;
        rows = (and_parts (legal_rows (label_in r) t) _ w).0;
        fits = record {
          ssd-size = L.ssd-size;
          table-size = L.table-size;
          slots-most = L.limits.slots-most;
          window_most_is = (parts r k).most;
        };
      }

  pub ready : ready_then (length ssd) (length hdd) page t r None ≡ None → ReadyBox ssd hdd page t r
  ready z = go (sound_asks (length ssd) (length hdd) page t r)
    where
      go : Asks (sound_then (length ssd) (length hdd) page t r) → ReadyBox ssd hdd page t r
      go (stopped r e) = absurd (none-some r (sym z ∙ e _))
      go (passed e) = record {
        box = sound (e None);
        phase_is = ready_only r.phase (not-false _ (pass (not (is_ready r.phase)) WrongPhase None (sym (e _) ∙ z)).0);
      }

  -- a block that passes 7 besides, and a caller that passes 18
  pub serves : (b : Block) (caller : ℕ) → serves_then (length ssd) (length hdd) page t r b caller None ≡ None → ReadyBox ssd hdd page t r × (b.0 < r.label.blocks)
  serves b caller z = go (ready_asks (length ssd) (length hdd) page t r)
    where
      go : Asks (ready_then (length ssd) (length hdd) page t r) → ReadyBox ssd hdd page t r × (b.0 < r.label.blocks)
      go (stopped r e) = absurd (none-some r (sym z ∙ e _))
      go (passed e) =
          let p = pass (ltb 1 caller) UnknownCaller (refuse_if (leb r.label.blocks b.0) BlockTooHigh None) (sym (e _) ∙ z) in
          (ready (e None), leb-false _ _ (pass (leb r.label.blocks b.0) BlockTooHigh None p.1).0)

-- where table and window of a ready record agree, the window has as many slots as there are writing rows
pub agree-count : (t : List ℕ) (r : Record) → record_test r ≡ true → length t ≡ table_length (label_in r) → agree_test Ready t (window_in r) ≡ true
    → r.count ≡ open_rows t
agree-count t r e size agree = sym (eqb-true _ _ (and_parts (each_slot (λ s. writing (row_flags t s)) (take r.count r.window)) _
    (ready_is r t e (open_rows t) size refl ∙ agree)).1)

module _ (ssd hdd : List ℕ) (page : ℕ) (t : List ℕ) (r : Record) (B : ReadyBox ssd hdd page t r) where
  agree : agree_test Ready t (window_in r) ≡ true
  agree = ap (λ (p : Phase). agree_test p t (window_in r)) (sym B.phase_is) ∙ B.box.sound.agree

  pub open_count : r.count ≡ open_rows t
  open_count = agree-count t r B.box.record_kept B.box.sound.table-size agree

  -- an open slot is in the window
  pub open_listed : (s : Slot) → s.0 < r.label.slots → writing (row_flags t s) ≡ true → listed s (window_in r) ≡ true
  open_listed s h o =
      let k : 2 * s.0 + 1 < length t = omega (arith, B.box.sound.table-size) in
      rw (zero-add s.0, o) at
      (each_get (λ s block flags. not (writing flags) || listed (record { 0 = s }) (window_in r)) 0 t
      (and_parts (each_slot (λ s. writing (row_flags t s)) (window_in r)) _ agree).1 s.0 k)
