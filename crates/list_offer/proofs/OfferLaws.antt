-- What a list leaves that is offered, once it was run in memory: refused, the first block's offer alone, or one store for all.
use Prim.Native.Nat.{ℕ, zero, suc, ◌<◌}
use mathlib.Core.Path.{◌≡◌, refl, sym, ap, subst, ◌∙◌}
use mathlib.Core.Logic.{◌≢◌}
use mathlib.Core.Bool.{Bool, true, false, not, ◌&&◌, ◌||◌}
use mathlib.Core.List.{List, [], ◌∷◌}
use Rattle.std.specs.Prelude.{Option, Some, None, Result}
use native.Mathlib.Omega.{arith}
use lib.ListN.{length}
use lib.Dec.{leb}
use borrow.Author.Tests.{leb-true, leb-false, le-ltb, lt-leb}
use Rattle.layout.specs.declared.Block.{Block}
use Rattle.layout.specs.Places.{meta_pages}
use Rattle.layout.specs.Stamps.{largest_stamp, opening_bound}
use Rattle.layout.proofs.Booleans.{Told, told, told_true, told_false, or_neither}
use Rattle.record.specs.declared.Record.{Record}
use Rattle.record.specs.Record.{label_in}
use Rattle.record.proofs.RecordLaws.{parts, remade-same}
use Rattle.protocol.specs.declared.Condition.{Condition}
use Rattle.protocol.specs.declared.Condition.TheVariants.{NotCached, Clean, Dirty, Writing, Fetching}
use Rattle.protocol.specs.Reply.{dealt}
use Rattle.protocol.specs.Rows.{open_rows}
use Rattle.protocol.specs.Box.{Box, Effect, refusing, left}
use Rattle.protocol.specs.Condition.{condition_of, is_open, takes_write}
use Rattle.protocol.specs.Plan.{Call, Move, offer, offer_list, stay, import_open, offering, Offered, not_yet, offered_box, declines, placed_as, placed, offers_from, announcing, together, first_block, plan, stores_meta}
use Rattle.protocol.specs.Perform.{confirmed, perform}
use Rattle.protocol.specs.declared.Refusal.{Refusal}
use Rattle.protocol.specs.declared.Refusal.TheVariants.{BlockTooHigh, SlotOpen, ImportFull, WindowFull, AllOpen, StampsSpent}
use Rattle.protocol.specs.Judge.{number_of, test, first_of, judged}
use Rattle.protocol.specs.Calls.{decided, effect_of, result_of, box_of}
use Rattle.laws.proofs.Judged.{first_yes, first_no, refused_as, performs}
use Rattle.laws.proofs.OfferLists.{both}
use Rattle.judging.specs.Judging.{ready_then, serves_then, scan_then}
use Rattle.judging.specs.Fits.{FitsRecord}
use Rattle.judging.proofs.JudgingLaws.{goes_on, ready_asks}
use Rattle.judging.proofs.ServeLaws.{end, judged_on, refused_by, offer_judges, offers_begin, offers_judges}
use Rattle.turns.specs.declared.turn.Turn.{Turn}
use Rattle.turns.specs.Turns.{crowd_of, turned, spent}
use Rattle.performing.proofs.PerformLaws.{offer_turned}
use Rattle.list_run.specs.declared.Run.{Run}
use Rattle.list_run.specs.Runs.{Fair, bare, place_turn, offered_by, offered_as, announces_any, refused13, Ended}
use Rattle.scan_rule.proofs.ScanLaws.{scans}
use Rattle.list_run.proofs.RunLaws.{offers_ends}
use Rattle.list_turns.proofs.PlaceTurnLaws.{turn_high, turn_low}

-- the images say nothing of a place, nor of the list
module _ (ssd hdd t : List ℕ) (r : Record) (caller : ℕ) where
  same_place : (b : Block) (z y : Offered) (k : Condition)
      → let x = offered_box (box_of ssd hdd t r) y in let w = offered_box (bare t r) y in
      placed_as (declines x b caller k) z (offering x b caller k) ≡ placed_as (declines w b caller k) z (offering w b caller k)
  same_place b z y NotCached = refl
  same_place b z y (Clean s) = refl
  same_place b z y (Dirty s) = refl
  same_place b z y (Writing s) = refl
  same_place b z y (Fetching s) = refl

  offers_bare : (blocks : List ℕ) (z : Offered) → offers_from (box_of ssd hdd t r) caller z blocks ≡ offers_from (bare t r) caller z blocks
  unfolding offers_from placed
  offers_bare [] z = refl
  offers_bare (b ∷ blocks) z =
      ap (λ (o : Option Offered). elim o [ None ↦ z | Some y ↦ offers_from (box_of ssd hdd t r) caller y blocks ])
      (same_place (record { 0 = b }) z z (condition_of z.table (record { 0 = b })))
      ∙ go (placed (offered_box (bare t r) z) caller z (record { 0 = b })) (offers_bare blocks)
    where
      go : (o : Option Offered) → ((y : Offered) → offers_from (box_of ssd hdd t r) caller y blocks ≡ offers_from (bare t r) caller y blocks)
          → ◌≡◌ {A = Offered} (elim o [ None ↦ z | Some y ↦ offers_from (box_of ssd hdd t r) caller y blocks ])
          (elim o [ None ↦ z | Some y ↦ offers_from (bare t r) caller y blocks ])
      go None ih = refl
      go (Some y) ih = ih y

-- two calls with the same tests and the same plan do the same
module _ (h g : Refusal → Bool) where
  abbrev Agree : List Refusal → Type 0
  Agree [] = Unit {0}
  Agree (q ∷ qs) = (h q ≡ g q) × Agree qs

  first-same : (qs : List Refusal) → Agree qs → first_of qs h ≡ first_of qs g
  unfolding first_of
  first-same [] a = refl
  first-same (q ∷ qs) a =
      ap (λ (b : Bool). elim b [ true ↦ Some q | false ↦ first_of qs h ]) a.0 ∙ go (g q) (first-same qs a.1)
    where
      go : (b : Bool) → first_of qs h ≡ first_of qs g
          → ◌≡◌ {A = Option Refusal} (elim b [ true ↦ Some q | false ↦ first_of qs h ]) (elim b [ true ↦ Some q | false ↦ first_of qs g ])
      go true e = refl
      go false e = e

decided-same : (c d : Call) (x : Box) → plan c x ≡ plan d x → (o : Option Refusal) → decided o c x ≡ decided o d x
decided-same c d x e (Some q) = refl
decided-same c d x e None = ap (λ (m : Move). perform m x) e

module _ (ssd hdd t : List ℕ) (r : Record) (blocks : List ℕ) (caller : ℕ) where
  abbrev x : Box
  x = box_of ssd hdd t r

  abbrev c : Call
  c = offer_list blocks caller

  abbrev b : Block
  b = first_block blocks

  abbrev z : Offered
  z = offers_from x caller (not_yet x) blocks

  pub offers_unready : (e : Refusal) → ready_then (length ssd) (length hdd) 4096 t r None ≡ Some e → left (refusing (number_of e) x) x.images ≡ result_of c x
  offers_unready e q = refused_by c x _ _ (offers_begin ssd hdd t r blocks caller) e q

  module _ (ready : ready_then (length ssd) (length hdd) 4096 t r None ≡ None) where
    on : (rest : Option Refusal) → ready_then (length ssd) (length hdd) 4096 t r rest ≡ rest
    on = goes_on (ready_asks (length ssd) (length hdd) 4096 t r) ready

    pub offers_refused : (e : Refusal) → scan_then blocks caller None ≡ Some e → left (refusing (number_of e) x) x.images ≡ result_of c x
    offers_refused e q = refused_by c x _ _ (offers_judges ssd hdd t r blocks caller) e (on _ ∙ q)

    module _ (listed : scan_then blocks caller None ≡ None) (F : Fair t r) where
      asked : judged c x ≡ first_of (BlockTooHigh ∷ SlotOpen ∷ ImportFull ∷ WindowFull ∷ AllOpen ∷ StampsSpent ∷ []) (λ q. test q c x)
      asked = judged_on c x _ _ (offers_judges ssd hdd t r blocks caller) (on _ ∙ listed)

      serves : b.0 < r.label.blocks → serves_then (length ssd) (length hdd) 4096 t r b caller None ≡ None
      serves h = on _ ∙ rw (le-ltb 1 caller (scans blocks caller listed).known, lt-leb r.label.blocks b.0 h)

      -- no place was dealt with: the first block's offer
      module _ (n : z.places ≡ 0) where
        plan_is : plan c x ≡ plan (offer b caller) x
        unfolding plan
        plan_is = ap (λ (m : ℕ). together m (offering x b caller (condition_of t b)) z) n

        low_same : b.0 < r.label.blocks → effect_of c x ≡ effect_of (offer b caller) x
        unfolding effect_of test
        low_same low =
            ap (λ (o : Option Refusal). decided o c x)
            (asked ∙ first_no _ BlockTooHigh _ (lt-leb r.label.blocks b.0 low)
            ∙ first-same (λ q. test q c x) (λ q. test q (offer b caller) x) (SlotOpen ∷ ImportFull ∷ WindowFull ∷ AllOpen ∷ StampsSpent ∷ [])
            (refl, (refl, (refl, (refl, (ap (λ (m : Move). stores_meta m && leb (opening_bound (label_in r)) r.newest) plan_is, tt)))))
            ∙ sym (judged_on (offer b caller) x _ _ (offer_judges ssd hdd t r b caller) (serves low)))
            ∙ decided-same c (offer b caller) x plan_is (judged (offer b caller) x)

        offers_alone : left (turned (place_turn t r b caller) b caller x) x.images ≡ result_of c x
        unfolding test
        offers_alone = go (told (leb r.label.blocks b.0))
          where
            at : {T : Result Turn Refusal} → T ≡ place_turn t r b caller → left (turned T b caller x) x.images ≡ result_of c x
                → left (turned (place_turn t r b caller) b caller x) x.images ≡ result_of c x
            at e p = ap (λ (T : Result Turn Refusal). left (turned T b caller x) x.images) (sym e) ∙ p

            go : Told (leb r.label.blocks b.0) → left (turned (place_turn t r b caller) b caller x) x.images ≡ result_of c x
            go (told_true e) = at (turn_high (label_in r) t r.hand (crowd_of t r caller) b (leb-true _ _ e))
                (refused_as c x BlockTooHigh (asked ∙ first_yes _ BlockTooHigh _ e))
            go (told_false e) = at (turn_low (label_in r) t r.hand (crowd_of t r caller) b (leb-false _ _ e))
                (ap (λ (f : Effect). left f x.images) (sym (offer_turned ssd hdd t r b caller (serves (leb-false _ _ e))) ∙ sym (low_same (leb-false _ _ e))))

      -- some place was: the first one is not declined, and what is announced goes out
      module _ (n : 0 < z.places) where
        taken : declines x b caller (condition_of t b) ≡ false
        unfolding offers_from placed
        taken = go blocks n (told (declines x b caller (condition_of t b)))
          where
            same : offered_box x (not_yet x) ≡ x
            same = λ i. record { images = x.images; table = t; state = remade-same r (parts r F.record_kept) i }

            go : (l : List ℕ) → 0 < (offers_from x caller (not_yet x) l).places → Told (declines x (first_block l) caller (condition_of t (first_block l)))
                → declines x (first_block l) caller (condition_of t (first_block l)) ≡ false
            go l m (told_false e) = e
            go [] m (told_true e) = absurd (omega (arith, m))
            go (a ∷ l) m (told_true e) = absurd (omega (arith, m, none_dealt))
              where
                none_dealt : (offers_from x caller (not_yet x) (a ∷ l)).places ≡ 0
                none_dealt = ap (λ (y : Offered). y.places) (offers_ends x caller (not_yet x) a l
                    (ap (λ (y : Box). placed y caller (not_yet x) (record { 0 = a })) same
                    ∙ ap (λ (d : Bool). placed_as d (not_yet x) (offering x (record { 0 = a }) caller (condition_of t (record { 0 = a })))) e))

        moves_as : plan c x ≡ announcing z.page z
        unfolding plan
        moves_as = go z.places n
          where
            go : (m : ℕ) → 0 < m → together m (offering x b caller (condition_of t b)) z ≡ announcing z.page z
            go zero q = absurd (omega arith)
            go (suc m) q = refl

        stores_is : (p : Option ℕ) → stores_meta (announcing p z) ≡ elim p [ None ↦ false | Some q ↦ true ]
        stores_is None = refl
        stores_is (Some p) = refl

        spends_is : test StampsSpent c x ≡ (announces_any z && spent (label_in r) r.newest)
        unfolding test
        spends_is = ap (λ (m : Move). stores_meta m && spent (label_in r) r.newest) moves_as
            ∙ ap (λ (d : Bool). d && spent (label_in r) r.newest) (stores_is z.page)

        last : judged c x ≡ first_of (StampsSpent ∷ []) (λ q. test q c x)
        unfolding test
        last =
            let k = condition_of t b in
            let q = or_neither (leb r.label.blocks b.0) _ taken in
            let u = or_neither (is_open k) _ q.1 in
            let v = or_neither (not (takes_write k) && (import_open caller r || leb 63 (open_rows t))) _ u.1 in
            let w = both (not (takes_write k)) (import_open caller r) (leb 63 (open_rows t)) v.0 in
            asked ∙ first_no _ BlockTooHigh _ q.0 ∙ first_no _ SlotOpen _ u.0 ∙ first_no _ ImportFull _ w.0
            ∙ first_no _ WindowFull _ w.1 ∙ first_no _ AllOpen _ v.1

        judged_as : (announces_any z && spent (label_in r) r.newest) ≡ refused13 t r blocks caller
        judged_as = ap (λ (y : Offered). announces_any y && spent (label_in r) r.newest) (offers_bare ssd hdd t r caller blocks (not_yet x))

        offers_spent : refused13 t r blocks caller ≡ true → left (refusing 13 x) x.images ≡ result_of c x
        offers_spent e = refused_as c x StampsSpent
            (last ∙ first_yes _ StampsSpent _ (spends_is ∙ judged_as ∙ e))

        goes_out : refused13 t r blocks caller ≡ false → left (perform (announcing z.page z) x) x.images ≡ result_of c x
        goes_out e = performs c x _ (last ∙ first_no _ StampsSpent _ (spends_is ∙ judged_as ∙ e) ∙ end _) moves_as

      pub spent-leaves : refused13 t r blocks caller ≡ true → 0 < (offered_as t r blocks caller).places → left (refusing 13 x) x.images ≡ result_of c x
      spent-leaves e n = offers_spent (omega (arith, n, ap (λ (y : Offered). y.places) (offers_bare ssd hdd t r caller blocks (not_yet x)))) e

      -- so it is of what the run left
      module _ (v : List ℕ) (q : Run) (E : Ended t r v q (offered_as t r blocks caller)) where
        whole : offered_by v q ≡ z
        whole = E.offered ∙ sym (offers_bare ssd hdd t r caller blocks (not_yet x))

        pub same-table : q.places ≡ 0 → v ≡ t
        same-table n = E.untouched (E.nothing_yet n)

        pub alone_leaves : q.places ≡ 0 → left (turned (place_turn v r b caller) b caller (box_of ssd hdd v r)) x.images ≡ result_of c x
        alone_leaves n = ap (λ (w : List ℕ). left (turned (place_turn w r b caller) b caller (box_of ssd hdd w r)) x.images) (same-table n)
            ∙ offers_alone (sym (ap (λ (y : Offered). y.places) whole) ∙ n)

        module _ (n : q.places ≢ 0) (e : refused13 t r blocks caller ≡ false) where
          gone : {o : Option ℕ} → q.page ≡ o → left (perform (announcing o (offered_by v q)) x) x.images ≡ result_of c x
          gone k =
              ap (λ (o : Option ℕ). left (perform (announcing o (offered_by v q)) x) x.images) (sym k)
              ∙ ap (λ (y : Offered). left (perform (announcing y.page y) x) x.images) whole
              ∙ goes_out (omega (arith, n, ap (λ (y : Offered). y.places) whole)) e

          pub passed-leaves : q.page ≡ None → left (perform (stay (dealt q.places)) (box_of ssd hdd v r)) x.images ≡ result_of c x
          passed-leaves k =
              ap (λ (w : List ℕ). left (perform (stay (dealt q.places)) (box_of ssd hdd w r)) x.images) (E.untouched k) ∙ gone k

          -- and its store is in order
          label_is : label_in q.state ≡ label_in r
          label_is = sym (ap label_in E.state_is)

          pub state_fits : FitsRecord (length ssd) (length t) r → FitsRecord (length ssd) (length v) q.state
          state_fits T = record {
            ssd-size = rw label_is T.ssd-size;
            table-size = E.fair.size;
            slots-most = rw label_is T.slots-most;
            window_most_is = (parts q.state E.fair.record_kept).most;
          }

          module _ (p : ℕ) (k : q.page ≡ Some p) where
            pub stored-leaves : left (confirmed p (dealt q.places) q.state v x.images.ssd) x.images ≡ result_of c x
            unfolding perform
            stored-leaves = ap (λ (s : Record). left (confirmed p (dealt q.places) s v x.images.ssd) x.images) (sym E.state_is) ∙ gone k

            pub stamp-left : q.state.newest < largest_stamp (label_in q.state)
            stamp-left =
                let s : spent (label_in r) r.newest ≡ false =
                ap (λ (o : Option ℕ). elim o [ None ↦ false | Some j ↦ true ] && spent (label_in r) r.newest) (sym k)
                ∙ ap (λ (y : Offered). announces_any y && spent (label_in r) r.newest) E.offered ∙ e in
                subst (λ (s : Record). s.newest < largest_stamp (label_in s)) E.state_is (omega (arith, leb-false _ r.newest s))

            pub page_fits : p < meta_pages (label_in q.state)
            page_fits = rw label_is (E.page-low p k)
