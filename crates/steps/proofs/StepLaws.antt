-- A step, by the record's phase, once 3 to 5 are passed.
use Prim.Native.Nat.{ℕ, zero, suc, ◌+◌, ◌≤◌}
use mathlib.Core.Path.{◌≡◌, refl, sym, ap, ◌∙◌}
use mathlib.Core.Bool.{Bool, true, false, not, ◌&&◌}
use mathlib.Core.List.{List, [], ◌∷◌}
use native.Mathlib.Omega.{arith}
use Rattle.std.specs.Prelude.{Some, None}
use lib.ListN.{length}
use lib.Dec.{leb}
use borrow.Author.Tests.{leb-true}
use Rattle.pages.specs.Pages.{put_page}
use Rattle.layout.specs.declared.Slot.{Slot}
use Rattle.layout.specs.Places.{meta_span}
use Rattle.layout.specs.Stamps.{largest_stamp}
use Rattle.record.specs.declared.Record.{Record}
use Rattle.record.specs.declared.Phase.{Phase}
use Rattle.record.specs.declared.Phase.TheVariants.{Formatting, Recovering, Ready}
use Rattle.protocol.specs.declared.Stored.TheVariants.{Ssd}
use Rattle.protocol.specs.Reply.{done}
use Rattle.record.specs.Record.{label_in, window_in}
use Rattle.protocol.specs.Box.{Box, Result, refusing, left}
use Rattle.protocol.specs.Plan.{step, formats, mends, lowest_page, stepping, stores_meta, plan}
use Rattle.protocol.specs.Perform.{format_store, format_state, perform}
use Rattle.protocol.specs.declared.Refusal.TheVariants.{BadRecord, WrongLength, BadRows, WrongPhase, StampsSpent}
use Rattle.protocol.specs.Judge.{is_ready, is_empty, agree_test, length_test, test, first_of, judged}
use Rattle.record.specs.Rule.{steps_test}
use Rattle.protocol.specs.Calls.{box_of, step_of}
use Rattle.layout.proofs.Booleans.{Told, told, told_true, told_false, clash, and_parts}
use Rattle.judging.specs.Judging.{sound_then}
use Rattle.judging.proofs.ServeLaws.{Judges, end, judged_on}
use Rattle.laws.proofs.Judged.{first_yes, first_no, performs, refused_as}
use Rattle.judging.proofs.ReadyLaws.{SoundBox}

-- what a step of a format leaves: its store is one of the SSD image
abbrev formatted : List ℕ → List ℕ → List ℕ → Record → ℕ → Result
formatted ssd hdd t r d =
    let store = format_store (label_in r) t (window_in r) d in
    record {
      said = done;
      stored = Some (Ssd store.place);
      state = format_state (label_in r) r d;
      table = t;
      ssd = put_page ssd store.place store.bytes;
      hdd = hdd;
    }

formats-left : (ssd hdd t : List ℕ) (r : Record) (d : ℕ)
    → formatted ssd hdd t r d ≡ left (perform (formats d) (box_of ssd hdd t r)) (record { ssd = ssd; hdd = hdd })
unfolding perform
formats-left ssd hdd t r zero = refl
formats-left ssd hdd t r (suc p) = go (told (leb (meta_span (label_in r)) p))
  where
    go : Told (leb (meta_span (label_in r)) p)
        → formatted ssd hdd t r (suc p) ≡ left (perform (formats (suc p)) (box_of ssd hdd t r)) (record { ssd = ssd; hdd = hdd })
    go (told_true e) = rw (format_store, e)
    go (told_false e) = rw (format_store, e)

module _ (ssd hdd t : List ℕ) (r : Record) where
  abbrev x : Box
  x = box_of ssd hdd t r

  pub step_judges : Judges step x (sound_then (length ssd) (length hdd) 4096 t r None) (WrongPhase ∷ StampsSpent ∷ [])
  unfolding first_of test sound_then length_test
  step_judges = record { begins = BadRecord ∷ WrongLength ∷ BadRows ∷ []; chain_is = refl; first_is = refl }

  module _ (z : sound_then (length ssd) (length hdd) 4096 t r None ≡ None) where
    asked : judged step x ≡ first_of (WrongPhase ∷ StampsSpent ∷ []) (λ q. test q step x)
    asked = judged_on step x _ (WrongPhase ∷ StampsSpent ∷ []) step_judges z

    pub step_ready : r.phase ≡ Ready → left (refusing 6 x) x.images ≡ step_of ssd hdd t r
    unfolding test
    step_ready e = refused_as step x WrongPhase (asked ∙ first_yes _ WrongPhase _ (ap (λ (p : Phase). not (not (is_ready p))) e))

    -- not ready: 13 is asked
    before-ready : (p : Phase) → r.phase ≡ p → is_ready p ≡ false → judged step x ≡ first_of (StampsSpent ∷ []) (λ q. test q step x)
    unfolding test
    before-ready p e f = asked ∙ first_no _ WrongPhase _ (ap (λ (q : Phase). not (not (is_ready q))) e ∙ ap (λ (b : Bool). not (not b)) f)

    pub step_formats : (d : ℕ) → r.phase ≡ Formatting d → formatted ssd hdd t r d ≡ step_of ssd hdd t r
    unfolding test plan
    step_formats d e = formats-left ssd hdd t r d ∙ performs step x (formats d)
        (before-ready (Formatting d) e refl
        ∙ first_no _ StampsSpent [] (ap (λ (p : Phase). stores_meta (stepping r p) && leb (largest_stamp (label_in r)) r.newest) e) ∙ end _)
        (ap (stepping r) e)

    module _ (e : r.phase ≡ Recovering) where
      pub step_spent : leb (largest_stamp (label_in r)) r.newest ≡ true → left (refusing 13 x) x.images ≡ step_of ssd hdd t r
      unfolding test plan
      step_spent s = refused_as step x StampsSpent
          (before-ready Recovering e refl
          ∙ first_yes _ StampsSpent [] (ap (λ (p : Phase). stores_meta (stepping r p) && leb (largest_stamp (label_in r)) r.newest) e ∙ s))

      pub step_mends : leb (largest_stamp (label_in r)) r.newest ≡ false
          → left (perform (mends (lowest_page (window_in r))) x) x.images ≡ step_of ssd hdd t r
      unfolding test plan
      step_mends s = performs step x (mends (lowest_page (window_in r)))
          (before-ready Recovering e refl
          ∙ first_no _ StampsSpent [] (ap (λ (p : Phase). stores_meta (stepping r p) && leb (largest_stamp (label_in r)) r.newest) e
          ∙ s) ∙ end _)
          (ap (stepping r) e)

module _ (ssd hdd t : List ℕ) (r : Record) (S : SoundBox ssd hdd 4096 t r) where
  -- so many steps of a format are done
  pub steps_low : (d : ℕ) → r.phase ≡ Formatting d → d ≤ meta_span (label_in r) + 1
  steps_low d e = leb-true _ _ (ap (steps_test (label_in r)) (sym e) ∙ S.sound.steps)

  -- while mending a slot is pending
  some_slot : (w : List Slot) → not (is_empty w) ≡ true → 1 ≤ length w
  some_slot [] h = clash h refl
  some_slot (s ∷ w) h = omega arith

  pub some_pending : r.phase ≡ Recovering → 1 ≤ r.count
  some_pending e =
      let a : agree_test Recovering t (window_in r) ≡ true =
      ap (λ (p : Phase). agree_test p t (window_in r)) (sym e) ∙ S.sound.agree in
      let n = some_slot (window_in r) (and_parts (not (is_empty (window_in r))) _ a).0 in
      omega (arith, S.sound.count_is)
