-- Each call by the block's condition, once 3 to 7 are passed.
use Prim.Native.Nat.{ℕ}
use mathlib.Core.Path.{◌≡◌, refl, sym, ap, ◌∙◌}
use mathlib.Core.Bool.{Bool, true, false, not, ◌&&◌}
use mathlib.Core.List.{List, [], ◌∷◌, ◌++◌}
use Rattle.std.specs.Prelude.{Option, Some, None}
use lib.ListN.{length, drop}
use lib.Dec.{leb, ltb}
use Rattle.pages.specs.Parts.{Part}
use Rattle.layout.specs.declared.Block.{Block}
use Rattle.layout.specs.Stamps.{largest_stamp}
use Rattle.record.specs.declared.Record.{Record}
use Rattle.protocol.specs.declared.Condition.{Condition}
use Rattle.protocol.specs.Reply.{nothing_to_do}
use Rattle.record.specs.Record.{label_in}
use Rattle.protocol.specs.Box.{Box, refusing, left}
use Rattle.protocol.specs.Condition.{condition_of, words_of, closed_slots, is_open, takes_write, takes_fetch}
use Rattle.protocol.specs.Plan.{Call, look_up_list, uses_all, flush, land_fetch, look_up, view, write_back, land, ask, slot_map, stay, confirms, looking_up, writing_back, landing, landing_fetch, flushing, stores_meta, plan}
use Rattle.protocol.specs.Perform.{perform}
use Rattle.protocol.specs.SlotMap.{map_bytes, map_text}
use Rattle.protocol.specs.declared.Refusal.{Refusal}
use Rattle.protocol.specs.declared.Refusal.TheVariants.{SlotOpen, WrongState, StampsSpent, SheetShort}
use Rattle.protocol.specs.Judge.{number_of, test, first_of, judged}
use Rattle.protocol.specs.Calls.{box_of, look_up_of, write_back_of, land_of, land_fetch_of, flush_of, look_up_list_of, words_by, words_left, list_words_of, viewed, view_part, view_of, mapped, map_of}
use Rattle.judging.specs.Judging.{ready_then, serves_then, list_then}
use Rattle.laws.proofs.Judged.{first_yes, first_no, performs, refused_as}
use Rattle.judging.proofs.ServeLaws.{Judges, end, first_judged, refused_by, judged_on, list-begins, list_judges, flush_judges, map_judges, look_up_judges, view_judges, write_back_judges, land_judges, land_fetch_judges}
use Rattle.judging.proofs.JudgingLaws.{goes_on, ready_asks}

module _ (ssd hdd t : List ℕ) (r : Record) (b : Block) (k : Condition) (e : condition_of t b ≡ k) where
  abbrev x : Box
  x = box_of ssd hdd t r

  module _ (z : serves_then (length ssd) (length hdd) 4096 t r b 0 None ≡ None) where
    pub look_up_is : left (perform (looking_up k) x) x.images ≡ look_up_of ssd hdd t r b
    unfolding plan
    look_up_is = performs (look_up b) x (looking_up k) (judged_on (look_up b) x _ [] (look_up_judges ssd hdd t r b) z ∙ end _) (ap looking_up e)

    pub write_back_open : is_open k ≡ true → left (refusing 8 x) x.images ≡ write_back_of ssd hdd t r b
    unfolding test
    write_back_open o = refused_as (write_back b) x SlotOpen
        (judged_on (write_back b) x _ (SlotOpen ∷ []) (write_back_judges ssd hdd t r b) z ∙ first_yes _ SlotOpen [] (ap is_open e ∙ o))

    pub write_back_is : is_open k ≡ false → left (perform (writing_back x k) x) x.images ≡ write_back_of ssd hdd t r b
    unfolding test plan
    write_back_is o = performs (write_back b) x (writing_back x k)
        (judged_on (write_back b) x _ (SlotOpen ∷ []) (write_back_judges ssd hdd t r b) z ∙ first_no _ SlotOpen [] (ap is_open e ∙ o) ∙ end _)
        (ap (writing_back x) e)

    pub land_fetch_wrong : takes_fetch k ≡ false → left (refusing 9 x) x.images ≡ land_fetch_of ssd hdd t r b
    unfolding test
    land_fetch_wrong o = refused_as (land_fetch b) x WrongState
        (judged_on (land_fetch b) x _ (WrongState ∷ []) (land_fetch_judges ssd hdd t r b) z
        ∙ first_yes _ WrongState [] (ap not (ap takes_fetch e ∙ o)))

    pub land_fetch_is : takes_fetch k ≡ true → left (perform (landing_fetch x b k) x) x.images ≡ land_fetch_of ssd hdd t r b
    unfolding test plan
    land_fetch_is o = performs (land_fetch b) x (landing_fetch x b k)
        (judged_on (land_fetch b) x _ (WrongState ∷ []) (land_fetch_judges ssd hdd t r b) z
        ∙ first_no _ WrongState [] (ap not (ap takes_fetch e ∙ o)) ∙ end _)
        (ap (landing_fetch x b) e)

  module _ (page : List ℕ) (z : serves_then (length ssd) (length hdd) (length page) t r b 0 None ≡ None) where
    pub land_wrong : takes_write k ≡ false → left (refusing 9 x) x.images ≡ land_of ssd hdd t r b page
    unfolding test
    land_wrong o = refused_as (land b page) x WrongState
        (judged_on (land b page) x _ (WrongState ∷ []) (land_judges ssd hdd t r b page) z
        ∙ first_yes _ WrongState [] (ap not (ap takes_write e ∙ o)))

    pub land_is : takes_write k ≡ true → left (perform (landing page k) x) x.images ≡ land_of ssd hdd t r b page
    unfolding test plan
    land_is o = performs (land b page) x (landing page k)
        (judged_on (land b page) x _ (WrongState ∷ []) (land_judges ssd hdd t r b page) z
        ∙ first_no _ WrongState [] (ap not (ap takes_write e ∙ o)) ∙ end _)
        (ap (landing page) e)

-- flush, by the record's unconfirmed
module _ (ssd hdd t : List ℕ) (r : Record) (z : ready_then (length ssd) (length hdd) 4096 t r None ≡ None) where
  abbrev y : Box
  y = box_of ssd hdd t r

  asked : judged flush y ≡ first_of (StampsSpent ∷ []) (λ q. test q flush y)
  asked = judged_on flush y _ (StampsSpent ∷ []) (flush_judges ssd hdd t r) z

  pub flush_idle : r.unconfirmed ≡ false → left (perform (stay nothing_to_do) y) y.images ≡ flush_of ssd hdd t r
  unfolding test plan
  flush_idle u = performs flush y (stay nothing_to_do)
      (asked ∙ first_no _ StampsSpent [] (ap (λ (b : Bool). stores_meta (flushing b) && leb (largest_stamp (label_in r)) r.newest) u)
      ∙ end _)
      (ap flushing u)

  pub flush_spent : r.unconfirmed ≡ true → leb (largest_stamp (label_in r)) r.newest ≡ true → left (refusing 13 y) y.images
      ≡ flush_of ssd hdd t r
  unfolding test plan
  flush_spent u s = refused_as flush y StampsSpent
      (asked ∙ first_yes _ StampsSpent [] (ap (λ (b : Bool). stores_meta (flushing b) && leb (largest_stamp (label_in r)) r.newest) u ∙ s))

  pub flush_done : r.unconfirmed ≡ true → leb (largest_stamp (label_in r)) r.newest ≡ false → left (perform confirms y) y.images
      ≡ flush_of ssd hdd t r
  unfolding test plan
  flush_done u s = performs flush y confirms
      (asked ∙ first_no _ StampsSpent [] (ap (λ (b : Bool). stores_meta (flushing b) && leb (largest_stamp (label_in r)) r.newest) u
      ∙ s) ∙ end _)
      (ap flushing u)

-- a list of blocks: what it leaves, and its words
module _ (ssd hdd t : List ℕ) (r : Record) (blocks words : List ℕ) where
  abbrev u : Box
  u = box_of ssd hdd t r

  abbrev c : Call
  c = look_up_list blocks (length words)

  refused-list : (o : Option Refusal) (more : List Refusal) → Judges c u o more → (q : Refusal) → o ≡ Some q
      → (left (refusing (number_of q) u) u.images ≡ look_up_list_of ssd hdd t r blocks words) × (words ≡ list_words_of ssd hdd t r blocks words)
  unfolding words_left
  refused-list o more J q e =
      (refused_by c u o more J q e, ap (λ (o : Option Refusal). words_by o t blocks words) (sym (first_judged c u o more J q e)))

  pub list_unready : (q : Refusal) → ready_then (length ssd) (length hdd) 4096 t r None ≡ Some q
      → (left (refusing (number_of q) u) u.images ≡ look_up_list_of ssd hdd t r blocks words) × (words ≡ list_words_of ssd hdd t r blocks words)
  list_unready q e = refused-list _ _ (list-begins ssd hdd t r blocks (length words)) q e

  module _ (z : ready_then (length ssd) (length hdd) 4096 t r None ≡ None) where
    abbrev own : Option Refusal
    own = list_then blocks (length words) r.label.blocks None

    -- past 6 the list's own refusals are judged
    on : ready_then (length ssd) (length hdd) 4096 t r own ≡ own
    on = goes_on (ready_asks (length ssd) (length hdd) 4096 t r) z own

    pub list-refused : (q : Refusal) → own ≡ Some q
        → (left (refusing (number_of q) u) u.images ≡ look_up_list_of ssd hdd t r blocks words)
        × (words ≡ list_words_of ssd hdd t r blocks words)
    list-refused q e = refused-list _ _ (list_judges ssd hdd t r blocks (length words)) q (on ∙ e)

    pub list_is : own ≡ None
        → (left (perform (uses_all (closed_slots t blocks)) u) u.images ≡ look_up_list_of ssd hdd t r blocks words)
        × (words_of t blocks ≡ list_words_of ssd hdd t r blocks words)
    unfolding plan words_left
    list_is e =
        let j = judged_on c u _ [] (list_judges ssd hdd t r blocks (length words)) (on ∙ e) ∙ end _ in
        (performs c u (uses_all (closed_slots t blocks)) j refl, ap (λ (o : Option Refusal). words_by o t blocks words) (sym j))

-- view
module _ (S H : Part) (t : List ℕ) (r : Record) (b : Block) where
  abbrev v : Box
  v = box_of S.bytes H.bytes t r

  pub view_refused : (q : Refusal) → serves_then (length S.bytes) (length H.bytes) 4096 t r b 0 None ≡ Some q
      → record { number = number_of q; handed = record { bytes = []; place = S.place } } ≡ view_of S H t r b
  unfolding view_of
  view_refused q e = ap (λ (o : Option Refusal). viewed o S H (label_in r) b (condition_of t b))
      (sym (first_judged (view b) v _ [] (view_judges S.bytes H.bytes t r b) q e))

  pub view_is : (k : Condition) → condition_of t b ≡ k → serves_then (length S.bytes) (length H.bytes) 4096 t r b 0 None ≡ None
      → record { number = 0; handed = view_part S H (label_in r) b k } ≡ view_of S H t r b
  unfolding view_of
  view_is k e z =
      ap (λ (c : Condition). record { number = 0; handed = view_part S H (label_in r) b c }) (sym e)
      ∙ ap (λ (o : Option Refusal). viewed o S H (label_in r) b (condition_of t b))
      (sym (judged_on (view b) v _ [] (view_judges S.bytes H.bytes t r b) z ∙ end _))

-- a slot map
module _ (ssd hdd t : List ℕ) (r : Record) (sheet : List ℕ) where
  abbrev m : Box
  m = box_of ssd hdd t r

  by_reason : {o : Option Refusal} → judged (ask (slot_map (length sheet))) m ≡ o → mapped o (label_in r) t sheet ≡ map_of ssd hdd t r sheet
  unfolding map_of
  by_reason e = ap (λ (o : Option Refusal). mapped o (label_in r) t sheet) (sym e)

  pub map-refused : (q : Refusal) → ready_then (length ssd) (length hdd) 4096 t r None ≡ Some q
      → record { number = number_of q; sheet = sheet } ≡ map_of ssd hdd t r sheet
  map-refused q e =
      by_reason (first_judged (ask (slot_map (length sheet))) m _ (SheetShort ∷ []) (map_judges ssd hdd t r (length sheet)) q e)

  module _ (z : ready_then (length ssd) (length hdd) 4096 t r None ≡ None) where
    asked_sheet : judged (ask (slot_map (length sheet))) m ≡ first_of (SheetShort ∷ []) (λ q. test q (ask (slot_map (length sheet))) m)
    asked_sheet = judged_on (ask (slot_map (length sheet))) m _ (SheetShort ∷ []) (map_judges ssd hdd t r (length sheet)) z

    pub map-short : ltb (length sheet) (map_bytes (label_in r)) ≡ true → record { number = 14; sheet = sheet } ≡ map_of ssd hdd t r sheet
    unfolding test
    map-short h = by_reason (asked_sheet ∙ first_yes _ SheetShort [] h)

    pub map_is : ltb (length sheet) (map_bytes (label_in r)) ≡ false
        → record { number = 0; sheet = map_text (label_in r) t ++ drop (map_bytes (label_in r)) sheet } ≡ map_of ssd hdd t r sheet
    unfolding test
    map_is h = by_reason (asked_sheet ∙ first_no _ SheetShort [] h ∙ end _)
