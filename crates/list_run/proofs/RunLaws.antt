-- The run of a list, place after place: what is known before each, and what it leaves.
use Prim.Native.Nat.{ℕ, zero, suc, ◌+◌, ◌≤◌, ◌<◌}
use mathlib.Core.Path.{◌≡◌, refl, sym, ap, subst, ◌∙◌}
use mathlib.Core.Bool.{Bool, true, false, ◌&&◌}
use mathlib.Core.List.{List, [], ◌∷◌, ◌++◌}
use Rattle.std.specs.Prelude.{Option, Some, None, Result, Ok, Err}
use Rattle.std.proofs.lemmas.Option.{none-some}
use native.Mathlib.Omega.{arith}
use native.Mathlib.Numerals.{add-one}
use lib.ListN.{length, get_or, take, drop, length-append, drop_of_length-le}
use borrow.Author.Tests.{eqb-true}
use Rattle.layout.specs.declared.Slot.{Slot}
use Rattle.layout.specs.declared.Block.{Block}
use Rattle.layout.specs.Places.{meta_of, meta_pages}
use Rattle.layout.proofs.PlaceLaws.{meta_of-low}
use Rattle.layout.proofs.Booleans.{Told, told, told_true, told_false, clash}
use Rattle.layout.proofs.Loops.{left}
use Rattle.record.specs.declared.Record.{Record}
use Rattle.record.specs.Callers.{open_by, caller_array}
use Rattle.record.specs.Record.{label_in, window_in, callers_in}
use Rattle.record.specs.Rule.{record_test}
use Rattle.record.proofs.CallerLaws.{by_more, take-callers}
use Rattle.record.proofs.RecordLaws.{parts, window-length, callers-length, remade-same}
use Rattle.protocol.specs.declared.Condition.{Condition}
use Rattle.protocol.specs.Reply.{overwrite}
use Rattle.protocol.specs.Rows.{set_row}
use Rattle.protocol.specs.Box.{Box}
use Rattle.protocol.specs.Condition.{condition_of}
use Rattle.protocol.specs.Plan.{Move, stay, uses, uses_all, announces, lands, copies, confirms, mends, begins, formats, recovers, grown, opens, Offered, offered_box, on_page, dealt_with, placed_as, declines, offering, placed, offers_from}
use Rattle.protocol.specs.Perform.{joined}
use Rattle.protocol.specs.declared.Refusal.{Refusal}
use Rattle.protocol.specs.declared.Refusal.TheVariants.{StampsSpent}
use Rattle.protocol.specs.Judge.{names_once}
use Rattle.locating.specs.Places.{places_of}
use Rattle.sweeping.specs.Sweeps.{cleared_from}
use Rattle.turns.specs.declared.turn.Turn.{Turn}
use Rattle.turns.specs.Turns.{held_by, spent}
use Rattle.list_run.specs.declared.Run.{Run}
use Rattle.list_turns.specs.Found.{bound, Found}
use Rattle.list_turns.specs.PlaceTurns.{joins, goes_on}
use Rattle.list_run.specs.Runs.{Fair, begun, passed, opened_if, row_if, run_after, table_after_turn, place_turn, dealt_run, dealt_table, bare, offered_by, offered_as, announces_any, refused13, Ended, Ran}
use Rattle.scan_rule.proofs.ScanLaws.{once-apart}
use Rattle.list_turns.proofs.FoundLaws.{found_first, unheld_alike, unheld_row}
use Rattle.list_run.proofs.FairLaws.{fair-rows, joined-window, Opened, opened-fair}
use Rattle.list_run.proofs.PlacedLaws.{Placing, declined, passing, opening, copying, place_turn_is}

-- The page of the first slot announced stays.
abbrev Paged : ℕ → Offered → Type 0
Paged p z = (z.page ≡ Some p) × (0 < z.places)

abbrev Stays : ℕ → Option Offered → Type 0
Stays p None = Unit {0}
Stays p (Some y) = Paged p y

dealt_stays : (p : ℕ) (z : Offered) → z.page ≡ Some p → (m : Move) → Stays p (dealt_with z m)
dealt_stays p z e (stay said) = (e, omega arith)
dealt_stays p z e (announces said q t h w cs) = go (told (on_page z.page q))
  where
    same : on_page z.page q ≡ true → Some q ≡ Some p
    same k = ap Some (eqb-true q p (rw e at k))

    go : Told (on_page z.page q) → Stays p (dealt_with z (announces said q t h w cs))
    go (told_true k) = rw (k, dealt_with) (same k, omega arith)
    go (told_false k) = rw (k, dealt_with) tt
dealt_stays p z e (uses s q) = tt
dealt_stays p z e (uses_all ss) = tt
dealt_stays p z e (lands w s d) = tt
dealt_stays p z e (copies s q t h) = tt
dealt_stays p z e confirms = tt
dealt_stays p z e (mends q) = tt
dealt_stays p z e (begins l) = tt
dealt_stays p z e (formats d) = tt
dealt_stays p z e recovers = tt

place_stays : (p : ℕ) (z : Offered) → z.page ≡ Some p → (d : Bool) (m : Move) → Stays p (placed_as d z m)
place_stays p z e true m = tt
place_stays p z e false m = dealt_stays p z e m

page_stays : (x : Box) (caller p : ℕ) (blocks : List ℕ) (z : Offered) → Paged p z → Paged p (offers_from x caller z blocks)
unfolding offers_from placed
page_stays x caller p [] z e = e
page_stays x caller p (b ∷ blocks) z e =
    go (placed y caller z c) (place_stays p z e.0 (declines y c caller k) (offering y c caller k)) (page_stays x caller p blocks)
  where
    c : Block
    c = record { 0 = b }

    y : Box
    y = offered_box x z

    k : Condition
    k = condition_of z.table c

    go : (o : Option Offered) → Stays p o → ((y : Offered) → Paged p y → Paged p (offers_from x caller y blocks))
        → Paged p (elim o [ None ↦ z | Some y ↦ offers_from x caller y blocks ])
    go None s ih = e
    go (Some y) s ih = ih y s

-- one place, and those after it
module _ (x : Box) (caller : ℕ) (z : Offered) (b : ℕ) (blocks : List ℕ) where
  pub offers_ends : placed (offered_box x z) caller z (record { 0 = b }) ≡ None → offers_from x caller z (b ∷ blocks) ≡ z
  unfolding offers_from
  offers_ends e = ap (λ (o : Option Offered). elim o [ None ↦ z | Some y ↦ offers_from x caller y blocks ]) e

  offers_more : {y : Offered} → placed (offered_box x z) caller z (record { 0 = b }) ≡ Some y
      → offers_from x caller z (b ∷ blocks) ≡ offers_from x caller y blocks
  unfolding offers_from
  offers_more e = ap (λ (o : Option Offered). elim o [ None ↦ z | Some y ↦ offers_from x caller y blocks ]) e

-- the callers of a record that a slot has joined
joined-callers : (r : Record) → record_test r ≡ true → (s : Slot) (caller : ℕ) (hand : Slot)
    → callers_in (joined s caller hand r) ≡ callers_in r ++ (caller ∷ [])
unfolding callers_in
joined-callers r e s caller hand =
    let P = parts r e in
    let cs = callers_in r ++ (caller ∷ []) in
    let n : length (window_in r ++ (s ∷ [])) ≡ length cs =
    length-append (window_in r) (s ∷ []) ∙ ap (λ (m : ℕ). m + 1) (window-length r P ∙ sym (callers-length r P)) ∙ sym (length-append (callers_in r) (caller ∷ [])) in
    ap (λ (m : ℕ). take m (caller_array cs)) n ∙ take-callers cs

-- how many slots count against its caller's most, then
module _ (r : Record) (e : record_test r ≡ true) where
  pub held_more : (s : Slot) (caller : ℕ) (hand : Slot) → caller ≤ 1 → held_by caller (joined s caller hand r) ≡ held_by caller r + caller
  unfolding open_by
  held_more s zero hand k = refl
  held_more s (suc zero) hand k = ap (open_by 1) (joined-callers r e s 1 hand) ∙ by_more 1 1 (callers_in r)
  held_more s (suc (suc n)) hand k = absurd (omega arith)

-- the number in an option
some_is : {a b : ℕ} → Some a ≡ Some b → a ≡ b
some_is e = ap (λ (o : Option ℕ). elim o [ None ↦ 0 | Some q ↦ q ]) e

module _ (t₀ : List ℕ) (r₀ : Record) (blocks words : List ℕ) (caller : ℕ) where
  abbrev x : Box
  x = bare t₀ r₀

  -- what the places dealt with keep
  pub record Kept (t : List ℕ) (run : Run) : Type 0 where
    pub fair : Fair t run.state
    pub fixed : (h : Slot) (w : List Slot) (cs : List ℕ) → grown run.state h w cs ≡ grown r₀ h w cs
    pub fresh : run.page ≡ None → t ≡ t₀
    pub stamps : (p : ℕ) → run.page ≡ Some p → spent (label_in r₀) r₀.newest ≡ false
    pub later : run.places ≡ 0 → run.page ≡ None
    pub page-low : (p : ℕ) → run.page ≡ Some p → p < meta_pages (label_in r₀)

  -- before place j
  pub record Going (t : List ℕ) (run : Run) (j : ℕ) : Type 0 where
    pub kept : Kept t run
    pub whole : offers_from x caller (offered_by t run) (drop j blocks) ≡ offered_as t₀ r₀ blocks caller
    pub places_is : run.places ≡ j
    pub found : (k : ℕ) → j ≤ k → k < length blocks → Found run.state.label.slots t (get_or blocks k 0) (get_or words k 0)

  -- what the call leaves
  abbrev pub Leaves : List ℕ → Result Run Refusal → Type 0
  Leaves t q = Ran (refused13 t₀ r₀ blocks caller) t₀ r₀ t q (offered_as t₀ r₀ blocks caller)

  pub going_begin : Fair t₀ r₀ → words ≡ places_of t₀ blocks → Going t₀ (begun r₀) 0
  going_begin F e = record {
    kept = record {
      fair = F;
      fixed = λ h w cs. refl;
      fresh = λ z. refl;
      stamps = λ p z. absurd (none-some p z);
      later = λ z. refl;
      page-low = λ p z. absurd (none-some p z);
    };
    whole = refl;
    places_is = refl;
    found = λ k m h. rw e (found_first t₀ blocks r₀.label.slots F.size k h);
  }

  -- the whole list is dealt with, to here
  module _ (t : List ℕ) (run : Run) (K : Kept t run) where
    same-state : grown r₀ run.state.hand (window_in run.state) (callers_in run.state) ≡ run.state
    same-state = sym (K.fixed _ _ _) ∙ remade-same run.state (parts run.state K.fair.record_kept)

    spends_none : (announces_any (offered_by t run) && spent (label_in r₀) r₀.newest) ≡ false
    spends_none = go run.page refl
      where
        go : (o : Option ℕ) → run.page ≡ o → (elim o [ None ↦ false | Some q ↦ true ] && spent (label_in r₀) r₀.newest) ≡ false
        go None e = refl
        go (Some p) e = K.stamps p e

    finished : {z : Offered} → offered_by t run ≡ z → Ran (announces_any z && spent (label_in r₀) r₀.newest) t₀ r₀ t (Ok run) z
    finished e = subst (λ (z : Offered). Ran (announces_any z && spent (label_in r₀) r₀.newest) t₀ r₀ t (Ok run) z) e
        (subst (λ (b : Bool). Ran b t₀ r₀ t (Ok run) (offered_by t run)) (sym spends_none) (record {
          offered = refl;
          fair = K.fair;
          state_is = same-state;
          untouched = K.fresh;
          nothing_yet = K.later;
          page-low = K.page-low;
        }))

  pub going_done : (t : List ℕ) (run : Run) (j : ℕ) → Going t run j → length blocks ≤ j → Leaves t (Ok run)
  unfolding offers_from
  going_done t run j G h = finished t run G.kept
      (ap (offers_from x caller (offered_by t run)) (sym (drop_of_length-le blocks {i = j} h)) ∙ G.whole)

  -- after a place, by whether the run goes on
  abbrev pub Stepped : Result Bool Refusal → ℕ → Run → List ℕ → Type 0
  Stepped (Ok true) j q v = Going v q (j + 1)
  Stepped (Ok false) j q v = Leaves v (Ok q)
  Stepped (Err e) j q v = Leaves v (Err e)

  module _ (t : List ℕ) (run : Run) (j : ℕ) (G : Going t run j) (h : j < length blocks) (once : names_once blocks ≡ true)
      (known : caller ≤ 1) where
    abbrev b : Block
    b = record { 0 = get_or blocks j 0 }

    abbrev z : Offered
    z = offered_by t run

    abbrev there : Option Offered
    there = placed_as (declines (bare t run.state) b caller (condition_of t b)) z (offering (bare t run.state) b caller (condition_of t b))

    here : offers_from x caller z (drop j blocks) ≡ offers_from x caller z (get_or blocks j 0 ∷ drop (j + 1) blocks)
    here = ap (offers_from x caller z) (left blocks j 0 h)

    place_is : placed (offered_box x z) caller z b ≡ there
    unfolding placed
    place_is = ap (λ (r : Record). placed (bare t r) caller z b) (same-state t run G.kept)

    -- a place that is not dealt with
    stop : there ≡ None → Leaves t (Ok run)
    stop e = finished t run G.kept (sym (here ∙ offers_ends x caller z _ _ (place_is ∙ e)) ∙ G.whole)

    more : {y : Offered} → there ≡ Some y → offers_from x caller y (drop (j + 1) blocks) ≡ offered_as t₀ r₀ blocks caller
    more e = sym (here ∙ offers_more x caller z _ _ (place_is ∙ e)) ∙ G.whole

    pass : there ≡ dealt_with z (stay overwrite) → Going t (passed run) (j + 1)
    pass e = record {
      kept = record {
        fair = G.kept.fair;
        fixed = G.kept.fixed;
        fresh = G.kept.fresh;
        stamps = G.kept.stamps;
        later = λ z. absurd (omega arith);
        page-low = G.kept.page-low;
      };
      whole = more (e ∙ ap (λ (n : ℕ). Some (record {
        places = n;
        page = z.page;
        table = z.table;
        hand = z.hand;
        window = z.window;
        callers = z.callers;
      })) (sym (add-one run.places)));
      places_is = ap (λ (n : ℕ). n + 1) G.places_is;
      found = λ k m q. G.found k (omega arith) q;
    }

    module _ (s : Slot) (f n : ℕ) (hand : Slot) (O : Opened t run.state b s f (cleared_from n (label_in run.state) t run.state.hand) hand) where
      abbrev v : List ℕ
      v = set_row (cleared_from n (label_in run.state) t run.state.hand) s b f

      abbrev q : Run
      q = record { state = joined s caller hand run.state; page = Some (meta_of s); places = run.places + 1 }

      -- what the place leaves
      abbrev y : Offered
      y = record {
        places = suc run.places;
        page = Some (meta_of s);
        table = v;
        hand = hand;
        window = window_in run.state ++ (s ∷ []);
        callers = callers_in run.state ++ (caller ∷ []);
      }

      y_is : y ≡ offered_by v q
      y_is =
          let w = joined-window run.state G.kept.fair.record_kept G.kept.fair.ready s caller hand in
          let c = joined-callers run.state G.kept.fair.record_kept s caller hand in
          λ i. record {
            places = sym (add-one run.places) i;
            page = Some (meta_of s);
            table = v;
            hand = hand;
            window = sym w i;
            callers = sym c i;
          }

      others : (k : ℕ) → j + 1 ≤ k → k < length blocks → Found run.state.label.slots v (get_or blocks k 0) (get_or words k 0)
      others k m l =
          let u : List ℕ = cleared_from n (label_in run.state) t run.state.hand in
          let H = G.found k (omega arith) l in
          let o = bound run.state.label.slots (get_or words k 0) in (
            H.0,
            unheld_row u s b f (omega (arith, O.alike.size, O.low)) o (get_or blocks k 0) (once-apart blocks once j k (omega arith) l)
                (unheld_alike (label_in run.state) t u (fair-rows G.kept.fair) O.alike o (get_or blocks k 0) (bound-low (get_or words k 0) H.0) H.1),
          )
        where
          bound-low : (w : ℕ) → w ≤ run.state.label.slots → bound run.state.label.slots w ≤ run.state.label.slots
          bound-low zero e = omega arith
          bound-low (suc w) e = omega arith

      opens_there : there ≡ Some y → spent (label_in r₀) r₀.newest ≡ false → Going v q (j + 1)
      opens_there e new = record {
        kept = record {
          fair = opened-fair G.kept.fair O caller known;
          fixed = λ h w cs. G.kept.fixed h w cs;
          fresh = λ e. absurd (none-some (meta_of s) (sym e));
          stamps = λ p e. new;
          later = λ z. absurd (omega arith);
          page-low = λ p e. omega (arith, low, some_is e);
        };
        whole = more (e ∙ ap Some y_is);
        places_is = ap (λ (n : ℕ). n + 1) G.places_is;
        found = others;
      }
        where
          low : meta_of s < meta_pages (label_in r₀)
          low = rw (ap label_in (G.kept.fixed hand [] [])) at (meta_of-low (label_in run.state) s O.low)

      -- the first slot, and no stamp left for it
      spends : there ≡ Some y → run.page ≡ None → spent (label_in r₀) r₀.newest ≡ true → Leaves t (Err StampsSpent)
      spends e first used = subst (λ (d : Bool). Ran d t₀ r₀ t (Err StampsSpent) (offered_as t₀ r₀ blocks caller)) (sym refuses)
          (refl, G.kept.fresh first, all.1)
        where
          all : Paged (meta_of s) (offered_as t₀ r₀ blocks caller)
          all = subst (λ (o : Offered). Paged (meta_of s) o) (more e)
              (page_stays x caller (meta_of s) (drop (j + 1) blocks) y (refl, omega arith))

          refuses : refused13 t₀ r₀ blocks caller ≡ true
          refuses = ap (λ (p : Option ℕ). elim p [ None ↦ false | Some q ↦ true ] && spent (label_in r₀) r₀.newest) all.0 ∙ used

      spent_is : spent (label_in run.state) run.state.newest ≡ spent (label_in r₀) r₀.newest
      spent_is = ap (λ (r : Record). spent (label_in r) r.newest) (G.kept.fixed run.state.hand [] [])

      -- by whether the slot joins those announced
      abbrev After : Result Bool Refusal → Type 0
      After m = Stepped m j (opened_if m run s caller hand) (row_if m run b s f n t)

      opens_by : there ≡ dealt_with z (opens run.state s b caller f (cleared_from n (label_in run.state) t run.state.hand) hand)
          → After (joins (label_in run.state) run.page run.state.newest (meta_of s))
      opens_by e = go run.page refl (told (on_page run.page (meta_of s))) (told (spent (label_in run.state) run.state.newest))
        where
          at : (o : Option ℕ) → run.page ≡ o → (m : Result Bool Refusal)
              → joins (label_in run.state) o run.state.newest (meta_of s) ≡ m → After m
              → After (joins (label_in run.state) run.page run.state.newest (meta_of s))
          at o p m k = subst After (sym (ap (λ (o : Option ℕ). joins (label_in run.state) o run.state.newest (meta_of s)) p ∙ k))

          by : {d : Bool} → on_page run.page (meta_of s) ≡ d → there ≡ elim d [ true ↦ Some y | false ↦ None ]
          by k = e ∙ ap (λ (d : Bool). elim d [ true ↦ Some y | false ↦ None ]) k

          on : {d : Bool} (o : Option ℕ) → run.page ≡ o → on_page run.page (meta_of s) ≡ d → on_page o (meta_of s) ≡ d
          on o p k = ap (λ (o : Option ℕ). on_page o (meta_of s)) (sym p) ∙ k

          go : (o : Option ℕ) → run.page ≡ o → Told (on_page run.page (meta_of s)) → Told (spent (label_in run.state) run.state.newest)
              → After (joins (label_in run.state) run.page run.state.newest (meta_of s))
          go None p (told_false k) u = clash {b = true} refl (on None p k)
          go None p (told_true k) (told_true u) = at None p (Err StampsSpent)
              (ap (λ (b : Bool). elim b [ true ↦ Err StampsSpent | false ↦ Ok true ]) u) (spends (by k) p (sym spent_is ∙ u))
          go None p (told_true k) (told_false u) = at None p (Ok true)
              (ap (λ (b : Bool). elim b [ true ↦ Err StampsSpent | false ↦ Ok true ]) u) (opens_there (by k) (sym spent_is ∙ u))
          go (Some q) p (told_true k) u = at (Some q) p (Ok true) (ap Ok (on (Some q) p k)) (opens_there (by k) (G.kept.stamps q p))
          go (Some q) p (told_false k) u = at (Some q) p (Ok false) (ap Ok (on (Some q) p k)) (stop (by k))

    stepped : {T : Result Turn Refusal} → Placing t run.state b caller (condition_of t b) T
        → Stepped (goes_on (label_in run.state) T run.page run.state.newest) j (run_after T run caller) (table_after_turn T run b t)
    stepped (declined n e) = stop (e z)
    stepped (passing e) = pass (e z)
    stepped (opening s f n hand e O) = opens_by s f n hand O (e z)
    stepped (copying s n e low d) = stop (e z)

    -- the place at hand
    pub step : Stepped (goes_on (label_in run.state) (place_turn t run.state b caller) run.page run.state.newest) j (dealt_run t run b caller)
        (dealt_table t run b caller)
    step = stepped (place_turn_is t run.state b caller G.kept.fair)

-- refused by 13, or not
module _ (t₀ : List ℕ) (r₀ : Record) (v : List ℕ) (z : Offered) where
  pub ran_spent : (d : Bool) (e : Refusal) → Ran d t₀ r₀ v (Err e) z → (d ≡ true) × (e ≡ StampsSpent) × (v ≡ t₀) × (0 < z.places)
  ran_spent true e R = (refl, R.0, R.1, R.2)
  ran_spent false e R = absurd R

  pub ran_ended : (d : Bool) (q : Run) → Ran d t₀ r₀ v (Ok q) z → (d ≡ false) × Ended t₀ r₀ v q z
  ran_ended true q R = absurd R.0
  ran_ended false q R = (refl, R)
