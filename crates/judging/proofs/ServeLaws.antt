-- Judging is judging by protocol's chains: what refuses first is the refusal, and where nothing does, what is left of the chain decides.
use Prim.Native.Nat.{ℕ}
use mathlib.Core.Path.{◌≡◌, refl, sym, ap, ◌∙◌}
use mathlib.Core.Bool.{Bool}
use mathlib.Core.List.{List, [], ◌∷◌, ◌++◌}
use Rattle.std.specs.Prelude.{Option, Some, None}
use Rattle.std.proofs.lemmas.Option.{none-some}
use lib.ListN.{length}
use Rattle.layout.specs.declared.Block.{Block}
use Rattle.record.specs.declared.Record.{Record}
use Rattle.protocol.specs.Box.{Box, refusing, left}
use Rattle.protocol.specs.Plan.{Call, flush, offer, fetch, land_fetch, look_up, view, write_back, land, look_up_list, offer_list, ask, slot_map}
use Rattle.protocol.specs.declared.Refusal.{Refusal}
use Rattle.protocol.specs.declared.Refusal.TheVariants.{BadRecord, WrongLength, BadRows, WrongPhase, BlockTooHigh, SlotOpen, WrongState, HasSlot, WindowFull, AllOpen, StampsSpent, ImportFull, UnknownCaller, BadScan, BadList, SheetShort}
use Rattle.protocol.specs.Judge.{lengths_test, number_of, length_test, test, chain, first_of, judged}
use Rattle.protocol.specs.Calls.{result_of, box_of}
use Rattle.layout.proofs.Booleans.{Told, told, told_true, told_false}
use Rattle.laws.proofs.Judged.{first_yes, first_no, refused_as}
use Rattle.judging.specs.Judging.{sound_then, ready_then, serves_then, list_then, scan_then}

-- nothing is left to ask
pub end : (h : Refusal → Bool) → first_of [] h ≡ None
unfolding first_of
end h = refl

module _ (h : Refusal → Bool) where
  -- the first refusal of a longer chain: that of its beginning, or else that of the rest
  begun_so : (qs more : List Refusal) (r : Refusal) → first_of qs h ≡ Some r → first_of (qs ++ more) h ≡ Some r
  begun_so [] more r e = absurd (none-some r (sym (end h) ∙ e))
  begun_so (q ∷ qs) more r e = go (told (h q)) (begun_so qs more r)
    where
      go : Told (h q) → (first_of qs h ≡ Some r → first_of (qs ++ more) h ≡ Some r) → first_of ((q ∷ qs) ++ more) h ≡ Some r
      go (told_true y) ih = first_yes h q (qs ++ more) y ∙ sym (first_yes h q qs y) ∙ e
      go (told_false n) ih = first_no h q (qs ++ more) n ∙ ih (sym (first_no h q qs n) ∙ e)

  begun_none : (qs more : List Refusal) → first_of qs h ≡ None → first_of (qs ++ more) h ≡ first_of more h
  begun_none [] more e = refl
  begun_none (q ∷ qs) more e = go (told (h q)) (begun_none qs more)
    where
      go : Told (h q) → (first_of qs h ≡ None → first_of (qs ++ more) h ≡ first_of more h) → first_of ((q ∷ qs) ++ more) h ≡ first_of more h
      go (told_true y) ih = absurd (none-some q (sym e ∙ first_yes h q qs y))
      go (told_false n) ih = first_no h q (qs ++ more) n ∙ ih (sym (first_no h q qs n) ∙ e)

-- a call's chain begins with reasons of which o is the first that holds, if any
pub record Judges (c : Call) (x : Box) (o : Option Refusal) (more : List Refusal) : Type 0 where
  pub begins : List Refusal
  pub chain_is : chain c ≡ begins ++ more
  pub first_is : o ≡ first_of begins (λ q. test q c x)

module _ (c : Call) (x : Box) where
  -- refused where the beginning is
  pub first_judged : (o : Option Refusal) (more : List Refusal) → Judges c x o more → (r : Refusal) → o ≡ Some r → judged c x ≡ Some r
  unfolding judged
  first_judged o more J r e = ap (λ (qs : List Refusal). first_of qs (λ q. test q c x)) J.chain_is
      ∙ begun_so (λ q. test q c x) J.begins more r (sym J.first_is ∙ e)

  pub refused_by : (o : Option Refusal) (more : List Refusal) → Judges c x o more → (r : Refusal) → o ≡ Some r
      → left (refusing (number_of r) x) x.images ≡ result_of c x
  refused_by o more J r e = refused_as c x r (first_judged o more J r e)

  -- and the rest of the chain is asked where it is not
  pub judged_on : (o : Option Refusal) (more : List Refusal) → Judges c x o more → o ≡ None → judged c x ≡ first_of more (λ q. test q c x)
  unfolding judged
  judged_on o more J e = ap (λ (qs : List Refusal). first_of qs (λ q. test q c x)) J.chain_is
      ∙ begun_none (λ q. test q c x) J.begins more (sym J.first_is ∙ e)

-- 3 to 6, and 3 to 7
abbrev ready_reasons : List Refusal
ready_reasons = BadRecord ∷ WrongLength ∷ BadRows ∷ WrongPhase ∷ []

abbrev serves_reasons : List Refusal
serves_reasons = BadRecord ∷ WrongLength ∷ BadRows ∷ WrongPhase ∷ BlockTooHigh ∷ []

-- with 18 before 7
abbrev calls_reasons : List Refusal
calls_reasons = BadRecord ∷ WrongLength ∷ BadRows ∷ WrongPhase ∷ UnknownCaller ∷ BlockTooHigh ∷ []

module _ (ssd hdd t : List ℕ) (r : Record) where
  pub flush_judges : Judges flush (box_of ssd hdd t r) (ready_then (length ssd) (length hdd) 4096 t r None) (StampsSpent ∷ [])
  unfolding first_of test sound_then length_test lengths_test
  flush_judges = record { begins = ready_reasons; chain_is = refl; first_is = refl }

  pub map_judges : (room : ℕ) → Judges (ask (slot_map room)) (box_of ssd hdd t r) (ready_then (length ssd) (length hdd) 4096 t r None) (SheetShort ∷ [])
  unfolding first_of test sound_then length_test lengths_test
  map_judges room = record { begins = ready_reasons; chain_is = refl; first_is = refl }

-- a list, by what 3 to 6 say, and by 16 and 7 besides
module _ (ssd hdd t : List ℕ) (r : Record) (blocks : List ℕ) (room : ℕ) where
  pub list-begins : Judges (look_up_list blocks room) (box_of ssd hdd t r) (ready_then (length ssd) (length hdd) 4096 t r None)
      (BadList ∷ BlockTooHigh ∷ [])
  unfolding first_of test sound_then length_test lengths_test
  list-begins = record { begins = ready_reasons; chain_is = refl; first_is = refl }

  pub list_judges : Judges (look_up_list blocks room) (box_of ssd hdd t r)
      (ready_then (length ssd) (length hdd) 4096 t r (list_then blocks room r.label.blocks None)) []
  unfolding first_of test sound_then length_test lengths_test
  list_judges = record { begins = ready_reasons ++ (BadList ∷ BlockTooHigh ∷ []); chain_is = refl; first_is = refl }

-- a list that is offered, by what 3 to 6 say, and by 15 and 18 besides
module _ (ssd hdd t : List ℕ) (r : Record) (blocks : List ℕ) (caller : ℕ) where
  pub offers_begin : Judges (offer_list blocks caller) (box_of ssd hdd t r) (ready_then (length ssd) (length hdd) 4096 t r None)
      (BadScan ∷ UnknownCaller ∷ BlockTooHigh ∷ SlotOpen ∷ ImportFull ∷ WindowFull ∷ AllOpen ∷ StampsSpent ∷ [])
  unfolding first_of test sound_then length_test lengths_test
  offers_begin = record { begins = ready_reasons; chain_is = refl; first_is = refl }

  pub offers_judges : Judges (offer_list blocks caller) (box_of ssd hdd t r)
      (ready_then (length ssd) (length hdd) 4096 t r (scan_then blocks caller None))
      (BlockTooHigh ∷ SlotOpen ∷ ImportFull ∷ WindowFull ∷ AllOpen ∷ StampsSpent ∷ [])
  unfolding first_of test sound_then length_test lengths_test
  offers_judges = record { begins = ready_reasons ++ (BadScan ∷ UnknownCaller ∷ []); chain_is = refl; first_is = refl }

module _ (ssd hdd t : List ℕ) (r : Record) (b : Block) where
  pub look_up_judges : Judges (look_up b) (box_of ssd hdd t r) (serves_then (length ssd) (length hdd) 4096 t r b 0 None) []
  unfolding first_of test sound_then length_test lengths_test
  look_up_judges = record { begins = serves_reasons; chain_is = refl; first_is = refl }

  pub view_judges : Judges (view b) (box_of ssd hdd t r) (serves_then (length ssd) (length hdd) 4096 t r b 0 None) []
  unfolding first_of test sound_then length_test lengths_test
  view_judges = record { begins = serves_reasons; chain_is = refl; first_is = refl }

  pub write_back_judges : Judges (write_back b) (box_of ssd hdd t r) (serves_then (length ssd) (length hdd) 4096 t r b 0 None) (SlotOpen ∷ [])
  unfolding first_of test sound_then length_test lengths_test
  write_back_judges = record { begins = serves_reasons; chain_is = refl; first_is = refl }

  pub land_fetch_judges : Judges (land_fetch b) (box_of ssd hdd t r) (serves_then (length ssd) (length hdd) 4096 t r b 0 None) (WrongState ∷ [])
  unfolding first_of test sound_then length_test lengths_test
  land_fetch_judges = record { begins = serves_reasons; chain_is = refl; first_is = refl }

  pub land_judges : (page : List ℕ)
      → Judges (land b page) (box_of ssd hdd t r) (serves_then (length ssd) (length hdd) (length page) t r b 0 None) (WrongState ∷ [])
  unfolding first_of test sound_then length_test lengths_test
  land_judges page = record { begins = serves_reasons; chain_is = refl; first_is = refl }

  -- with a caller
  module _ (caller : ℕ) where
    pub offer_judges : Judges (offer b caller) (box_of ssd hdd t r) (serves_then (length ssd) (length hdd) 4096 t r b caller None)
        (SlotOpen ∷ ImportFull ∷ WindowFull ∷ AllOpen ∷ StampsSpent ∷ [])
    unfolding first_of test sound_then length_test lengths_test
    offer_judges = record { begins = calls_reasons; chain_is = refl; first_is = refl }

    pub fetch_judges : Judges (fetch b caller) (box_of ssd hdd t r) (serves_then (length ssd) (length hdd) 4096 t r b caller None)
        (HasSlot ∷ SlotOpen ∷ ImportFull ∷ WindowFull ∷ AllOpen ∷ StampsSpent ∷ [])
    unfolding first_of test sound_then length_test lengths_test
    fetch_judges = record { begins = calls_reasons; chain_is = refl; first_is = refl }
