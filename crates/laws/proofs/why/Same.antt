-- Each call's tests, in their order, are its numbers and conditions in document 01's words.
use Prim.Native.Nat.{ℕ, ◌*◌, ◌≤◌, ◌<◌}
use mathlib.Core.Path.{◌≡◌, refl, ap}
use mathlib.Core.Bool.{Bool, true, false, not, ◌&&◌, not-not}
use mathlib.Core.Logic.{◌≢◌}
use mathlib.Core.List.{List, [], ◌∷◌}
use native.Mathlib.Omega.{arith}
use lib.Dec.{leb, ltb}
use borrow.Author.Tests.{leb-true, le-leb, ltb-true, lt-ltb, eqb-true, eq-eqb}
use Rattle.layout.specs.declared.Block.{Block}
use Rattle.layout.specs.Places.{label_of}
use Rattle.layout.specs.Stamps.{largest_stamp}
use Rattle.layout.proofs.PlaceLaws.{within}
use Rattle.layout.proofs.Booleans.{clash}
use Rattle.layout.proofs.RuleLaws.{◌⇔◌}
use Rattle.record.specs.declared.Phase.{Phase}
use Rattle.record.specs.declared.Phase.TheVariants.{Formatting, Recovering, Ready}
use Rattle.record.specs.Record.{label_in}
use Rattle.record.proofs.RuleLaws.{record_same}
use Rattle.record.specs.Rule.{record_test}
use Rattle.protocol.specs.Rows.{writing, all_writing}
use Rattle.protocol.specs.Box.{Box}
use Rattle.protocol.specs.Condition.{condition_of, is_open, is_cached}
use Rattle.protocol.specs.Plan.{Call, format, step, flush, reopen, offer, fetch, land_fetch, look_up, view, write_back, land, look_up_list, offer_list, first_block, ask, slot_map, cost, plan, stores_meta, import_open}
use Rattle.protocol.specs.Recovery.{label_at, metas_of}
use Rattle.protocol.specs.SlotMap.{map_lines, map_bytes}
use Rattle.protocol.specs.declared.Refusal.{Refusal}
use Rattle.protocol.specs.Judge.{number_of, length_test, rows_test, is_ready, test, chain}
use Rattle.protocol.specs.Why.{BadRecord, BadLengths, BadRows, NotReady, TooHigh, SlotOpen, ImportFull, UnknownCaller, AllOpen, Spent, Lines, ShortSheet, Why, turns, in_turn}
use Rattle.laws.proofs.why.Basics.{none_same, and_same, is_same}
use Rattle.laws.proofs.why.Records.{label_same, lengths_same, land_lengths_same, cost_lengths_same}
use Rattle.laws.proofs.why.RowsRules.{each_same, rows_same}
use Rattle.laws.proofs.why.PagesRules.{pages-same}
use Rattle.laws.proofs.why.Slots.{cached_same, open_same, write_same, fetch_same, clean-same, writing-same, other-same}
use Rattle.laws.proofs.why.Counted.{count_same, import_same}
use Rattle.laws.proofs.why.Lists.{bad_list-same, listed_some, any_high_same, bad_scan-same}

-- tests in their order say numbers and conditions in theirs; a later one may rest on those before it, which do not hold where it is asked
pub data Says (t : Refusal → Bool) : List Refusal → List (ℕ × Type 0) → Type 1 where
  end : Says t [] []
  asks : {r : Refusal} {P : Type 0} {rs : List Refusal} {ws : List (ℕ × Type 0)} → t r ⇔ P → (t r ≡ false → Says t rs ws)
      → Says t (r ∷ rs) ((number_of r, P) ∷ ws)

infixr 5 ◌▸◌
abbrev ◌▸◌ : {t : Refusal → Bool} {r : Refusal} {P : Type 0} {rs : List Refusal} {ws : List (ℕ × Type 0)} → t r ⇔ P → Says t rs ws
    → Says t (r ∷ rs) ((number_of r, P) ∷ ws)
e ▸ says = asks e (λ h. says)

most-same : (m n : ℕ) → leb m n ⇔ (m ≤ n)
most-same m n = (leb-true m n, le-leb m n)

ready-same : (p : Phase) → is_ready p ⇔ (p ≡ Ready)
ready-same Ready = (λ h. refl, λ h. refl)
ready-same Recovering = (λ h. clash h refl, λ h. ap is_ready h)
ready-same (Formatting d) = (λ h. clash h refl, λ h. ap is_ready h)

step_same : (p : Phase) → not (not (is_ready p)) ⇔ (p ≡ Ready)
step_same p = rw not-not (ready-same p)

-- 18
caller_asked : (caller : ℕ) → ltb 1 caller ⇔ UnknownCaller caller
caller_asked caller = (
  λ h. let k = ltb-true 1 caller h in (λ e. absurd (omega arith), λ e. absurd (omega arith)),
  λ h. lt-ltb 1 caller (other caller h.0 h.1),
)
  where
    other : (n : ℕ) → n ≢ 0 → n ≢ 1 → 1 < n
    other n a b = omega arith

-- what a service asks of the box
module _ (x : Box) where
  record_asked : not (record_test x.state) ⇔ BadRecord x
  record_asked = none_same (record_same x.state)

  lengths_asked : not (length_test (label_in x.state) x.images x.table && true) ⇔ BadLengths x
  lengths_asked = none_same (lengths_same (label_in x.state) x)

  rows_asked : not (rows_test x.state x.table) ⇔ BadRows x
  rows_asked = none_same (rows_same x.state x.table)

  phase_asked : not (is_ready x.state.phase) ⇔ NotReady x
  phase_asked = none_same (ready-same x.state.phase)

  -- and of a block
  module _ (b : Block) where
    high_asked : leb x.state.label.blocks b.0 ⇔ TooHigh b x
    high_asked = most-same x.state.label.blocks b.0

    open_asked : is_open (condition_of x.table b) ⇔ SlotOpen b x
    open_asked = open_same x.table b

    all_asked : (not (is_cached (condition_of x.table b)) && all_writing x.table) ⇔ AllOpen b x
    all_asked =
        and_same (none_same (cached_same x.table b))
        (each_same _ (λ s k f. writing f ≡ true) (λ s k f. is_same (writing f)) x.table)

  -- and of its caller
  import_asked : (caller : ℕ) → import_open caller x.state ⇔ ImportFull caller x
  import_asked caller = and_same (eqb-true caller 1, eq-eqb caller 1) (import_same 8 x.state)

  stamps_asked : (n : ℕ) (c : Call) → (stores_meta (plan c x) && leb n x.state.newest) ⇔ Spent n c x
  stamps_asked n c = and_same (is_same (stores_meta (plan c x))) (most-same n x.state.newest)

  -- the lines of a map are as many as cover all slots, and no fewer
  lines_are : Lines x.state.label.slots (map_lines (label_in x.state))
  lines_are = record { cover = omega arith; no_fewer = λ m h. omega arith }

  sheet_asked : (room : ℕ) → ltb room (map_bytes (label_in x.state)) ⇔ ShortSheet room x
  sheet_asked room = (
    λ h. (map_lines (label_in x.state), lines_are, ltb-true _ _ h),
    λ h. lt-ltb room _ (short h.0 h.1 h.2),
  )
    where
      short : (n : ℕ) → Lines x.state.label.slots n → room < 67 * n → room < map_bytes (label_in x.state)
      short n N h = omega (arith, N.no_fewer (map_lines (label_in x.state)) lines_are.cover)

-- each test says what the documents say
pub same : (c : Call) (x : Box) → Says (λ r. test r c x) (chain c) (Why c x)
unfolding test largest_stamp
same (format slots blocks) x = none_same (within (label_of slots blocks)) ▸ none_same (lengths_same (label_of slots blocks) x) ▸ end
same reopen x =
    let l = label_at x.images.ssd in
    none_same (label_same x.images.ssd) ▸ none_same (lengths_same l x) ▸ none_same (pages-same l (metas_of l x.images.ssd)) ▸ end
same step x =
    record_asked x ▸ lengths_asked x ▸ rows_asked x ▸ step_same x.state.phase ▸ stamps_asked x 4294967295 step ▸ end
same flush x = record_asked x ▸ lengths_asked x ▸ rows_asked x ▸ phase_asked x ▸ stamps_asked x 4294967295 flush ▸ end
same (offer b caller) x =
    record_asked x ▸ lengths_asked x ▸ rows_asked x ▸ phase_asked x ▸ caller_asked caller ▸ high_asked x b ▸ open_asked x b
    ▸ and_same (clean-same x.table b) (import_asked x caller) ▸ and_same (clean-same x.table b) (count_same 63 x.table)
    ▸ all_asked x b ▸ stamps_asked x 4294967232 (offer b caller) ▸ end
same (fetch b caller) x =
    record_asked x ▸ lengths_asked x ▸ rows_asked x ▸ phase_asked x ▸ caller_asked caller ▸ high_asked x b ▸ other-same x.table b
    ▸ writing-same x.table b ▸ import_asked x caller ▸ count_same 63 x.table ▸ all_asked x b
    ▸ stamps_asked x 4294967232 (fetch b caller) ▸ end
same (land_fetch b) x =
    record_asked x ▸ lengths_asked x ▸ rows_asked x ▸ phase_asked x ▸ high_asked x b ▸ none_same (fetch_same x.table b) ▸ end
same (look_up b) x = record_asked x ▸ lengths_asked x ▸ rows_asked x ▸ phase_asked x ▸ high_asked x b ▸ end
same (view b) x = record_asked x ▸ lengths_asked x ▸ rows_asked x ▸ phase_asked x ▸ high_asked x b ▸ end
same (write_back b) x =
    record_asked x ▸ lengths_asked x ▸ rows_asked x ▸ phase_asked x ▸ high_asked x b ▸ open_asked x b ▸ end
same (land b page) x =
    record_asked x ▸ none_same (land_lengths_same page x) ▸ rows_asked x ▸ phase_asked x ▸ high_asked x b
    ▸ none_same (write_same x.table b) ▸ end
same (ask (slot_map n)) x = record_asked x ▸ lengths_asked x ▸ rows_asked x ▸ phase_asked x ▸ sheet_asked x n ▸ end
same (ask (cost blocks caller n)) x =
    record_asked x ▸ none_same (cost_lengths_same n x) ▸ rows_asked x ▸ phase_asked x ▸ bad_scan-same blocks ▸ caller_asked caller ▸ end
same (look_up_list blocks room) x =
    record_asked x ▸ lengths_asked x ▸ rows_asked x ▸ phase_asked x
    ▸ asks (bad_list-same blocks room) (λ h. any_high_same blocks x.state.label.blocks (listed_some blocks room h) ▸ end)
same (offer_list blocks caller) x =
    let b = first_block blocks in
    record_asked x ▸ lengths_asked x ▸ rows_asked x ▸ phase_asked x ▸ bad_scan-same blocks ▸ caller_asked caller ▸ high_asked x b ▸ open_asked x b
    ▸ and_same (clean-same x.table b) (import_asked x caller) ▸ and_same (clean-same x.table b) (count_same 63 x.table)
    ▸ all_asked x b ▸ stamps_asked x 4294967232 (offer_list blocks caller) ▸ end

-- every call's numbers are in the order of judging
pub in_order : (c : Call) (x : Box) → in_turn turns (Why c x) ≡ true
unfolding in_turn
in_order (format slots blocks) x = refl
in_order step x = refl
in_order flush x = refl
in_order reopen x = refl
in_order (offer b caller) x = refl
in_order (fetch b caller) x = refl
in_order (land_fetch b) x = refl
in_order (look_up b) x = refl
in_order (view b) x = refl
in_order (write_back b) x = refl
in_order (land b page) x = refl
in_order (ask (slot_map n)) x = refl
in_order (ask (cost blocks caller n)) x = refl
in_order (look_up_list blocks room) x = refl
in_order (offer_list blocks caller) x = refl
