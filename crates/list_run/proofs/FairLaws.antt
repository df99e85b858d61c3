-- A table and a record that 3 to 6 do not refuse; and that opening a slot leaves such ones.
use Prim.Native.Nat.{ℕ, ◌+◌, ◌%◌, ◌≤◌, ◌<◌}
use mathlib.Core.Path.{◌≡◌, sym, ap, subst, ◌∙◌}
use mathlib.Core.Bool.{true, false}
use mathlib.Core.List.{List, [], ◌∷◌, ◌++◌}
use native.Mathlib.Omega.{arith}
use lib.ListN.{length, length-append}
use borrow.Author.Tests.{lt-ltb, le-leb, eq-eqb}
use Rattle.layout.specs.declared.Slot.{Slot}
use Rattle.layout.specs.declared.Block.{Block}
use Rattle.layout.specs.PageRule.{distinct, in_range}
use Rattle.layout.proofs.Booleans.{and_of, and_parts}
use Rattle.record.specs.declared.Record.{Record}
use Rattle.record.specs.declared.Phase.{Phase}
use Rattle.record.specs.declared.Phase.TheVariants.{Ready}
use Rattle.record.specs.Callers.{caller_array, named_places, callers_test}
use Rattle.record.specs.Record.{label_in, window_in, callers_in}
use Rattle.record.specs.Rule.{record_test}
use Rattle.record.proofs.WindowLaws.{length-array, zero_past_lem}
use Rattle.record.proofs.CallerLaws.{joins-test}
use Rattle.record.proofs.RecordLaws.{parts, window-length, callers-length, callers-known}
use Rattle.protocol.specs.Rows.{set_row, open_rows}
use Rattle.protocol.specs.Perform.{joined}
use Rattle.protocol.specs.Judge.{agree_test, rows_test}
use Rattle.protocol.specs.Why.{ReadyAgree}
use Rattle.laws.proofs.model.Model.{open_row}
use Rattle.laws.proofs.refine.Flags.{row_of, LegalRow}
use Rattle.laws.proofs.refine.Tables.{row_at, Rows}
use Rattle.laws.proofs.refine.Sweeps.{Alike}
use Rattle.laws.proofs.refine.Windows.{length_nums, distinct_nums, below_nums, window_of_lem}
use Rattle.laws.proofs.Sound.{Sound, room, sound_of, sound_agree, sound_alike, sound_opens, rows-legal}
use Rattle.laws.proofs.Does.{grown-window}
use Rattle.laws.proofs.why.RowsRules.{agree_same}
use Rattle.protocol.specs.Calls.{box_of}
use Rattle.laws.proofs.Accepted.{legal_rows_is}
use Rattle.judging.proofs.ReadyLaws.{ReadyBox, agree-count}
use Rattle.table.specs.Scan.{legal_rows}
use Rattle.turns.specs.Turns.{Seen}
use Rattle.list_run.specs.Runs.{Fair}

pub ready-fair : {ssd hdd : List ℕ} {page : ℕ} {t : List ℕ} {r : Record} → ReadyBox ssd hdd page t r → Fair t r
ready-fair {ssd = ssd} {hdd = hdd} {t = t} {r = r} B = record {
  size = B.box.sound.table-size;
  record_kept = B.box.record_kept;
  rows = legal_rows_is (box_of ssd hdd t r) B.box.sound;
  ready = B.phase_is;
}

module _ {t : List ℕ} {r : Record} (F : Fair t r) where
  pub fair-legal : legal_rows (label_in r) t ≡ true
  unfolding rows_test
  fair-legal = (and_parts (legal_rows (label_in r) t) _ F.rows).0

  pub fair-rows : Rows (label_in r) t
  fair-rows = (rows-legal (label_in r) t F.size).0 fair-legal

  agree : agree_test Ready t (window_in r) ≡ true
  unfolding rows_test
  agree = subst (λ (p : Phase). agree_test p t (window_in r) ≡ true) F.ready (and_parts (legal_rows (label_in r) t) _ F.rows).1

  pub fair_sound : Sound (label_in r) t (window_in r)
  fair_sound =
      let P = parts r F.record_kept in
      sound_of (label_in r) t (window_in r) F.size fair-rows
      (window_of_lem (label_in r) (window_in r) (rw (window-length r P) P.most) P.apart P.ranged) ((agree_same Ready t (window_in r)).0 agree)

  -- the window has as many slots as there are writing rows
  pub fair-count : r.count ≡ open_rows t
  fair-count = agree-count t r F.record_kept F.size agree

  pub fair_seen : Seen t r r.count
  fair_seen = record { size = F.size; record_kept = F.record_kept; rows = fair-legal; counted = fair-count }

-- a slot joins the window of a ready record, and its caller beside it
module _ (r : Record) (e : record_test r ≡ true) (on : r.phase ≡ Ready) (s : Slot) (caller : ℕ) (hand : Slot) where
  abbrev w : List Slot
  w = window_in r ++ (s ∷ [])

  pub joined-window : window_in (joined s caller hand r) ≡ w
  joined-window = grown-window r hand w (callers_in r ++ (caller ∷ []))

  pub joined-test : caller ≤ 1 → hand.0 < r.label.slots → {t : List ℕ} → Sound (label_in r) t w → record_test (joined s caller hand r) ≡ true
  unfolding record_test
  joined-test known low S =
      let P = parts r e in
      let few : length w ≤ 63 = omega (arith, S.rule.fits, length_nums w) in
      let more : length w ≡ length (window_in r) + 1 = length-append (window_in r) (s ∷ []) in
      rw (
        P.in_limits,
        lt-ltb _ _ low,
        P.steps,
        le-leb (length w) 63 few,
        eq-eqb _ _ (length-array w few),
        ap (in_range (label_in r)) joined-window ∙ sym (below_nums (label_in r) w) ∙ S.rule.in_slots,
        ap distinct joined-window ∙ sym (distinct_nums w) ∙ S.rule.apart,
        zero_past_lem w,
      )
      (subst (λ (p : Phase). callers_test (named_places p (length w)) (caller_array (callers_in r ++ (caller ∷ []))) ≡ true) (sym on)
      (joins-test (window_in r) (callers_in r) (callers-length r P ∙ sym (window-length r P)) (callers-known r P) s caller known (omega (arith, more, few))))

-- a slot that is opened in the table v that a sweep left: closed before, its row legal
pub record Opened (t : List ℕ) (r : Record) (b : Block) (s : Slot) (f : ℕ) (v : List ℕ) (hand : Slot) : Type 0 where
  pub low : s.0 < r.label.slots
  pub alike : Alike (label_in r) t v
  pub hand-low : hand.0 < r.label.slots
  pub row : LegalRow (label_in r) b.0 f
  pub is_open_is : open_row (row_of b.0 (f % 8)) ≡ true
  pub was_shut : open_row (row_at t s.0) ≡ false
  pub few : open_rows t < 63

pub opened-fair : {t : List ℕ} {r : Record} {b : Block} {s : Slot} {f : ℕ} {v : List ℕ} {hand : Slot} → Fair t r → Opened t r b s f v hand
    → (caller : ℕ) → caller ≤ 1 → Fair (set_row v s b f) (joined s caller hand r)
unfolding rows_test
opened-fair {t} {r} {b} {s} {f} {v} {hand} F O caller known = record {
  size = S.size;
  record_kept = joined-test r F.record_kept F.ready s caller hand known O.hand-low S;
  rows = and_of ((rows-legal (label_in r) (set_row v s b f) S.size).1 S.legal)
      (subst (λ (p : Phase). agree_test p (set_row v s b f) (window_in (joined s caller hand r)) ≡ true) (sym F.ready)
      ((agree_same Ready (set_row v s b f) (window_in (joined s caller hand r))).1
      (subst (λ (w : List Slot). ReadyAgree (set_row v s b f) w) (sym (joined-window r F.record_kept F.ready s caller hand)) (sound_agree S))));
  ready = F.ready;
}
  where
    S : Sound (label_in r) (set_row v s b f) (window_in r ++ (s ∷ []))
    S = sound_opens (sound_alike (fair_sound F) O.alike) s.0 b.0 f O.low O.row O.is_open_is
        (ap open_row (O.alike.row s.0) ∙ O.was_shut) (room (fair_sound F) O.few)
