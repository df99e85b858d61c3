-- The turn of an offer or a fetch, performed, is what protocol's chain and plan say; and it can be performed.
use Prim.Native.Nat.{ℕ, ◌<◌}
use mathlib.Core.Path.{◌≡◌, refl, sym, ap, subst, ◌∙◌}
use mathlib.Core.Bool.{Bool, true, false, not, ◌&&◌}
use mathlib.Core.List.{List, [], ◌∷◌}
use native.Mathlib.Omega.{arith}
use lib.ListN.{length}
use lib.Dec.{leb}
use borrow.Author.Tests.{leb-false}
use Rattle.std.specs.Prelude.{Option, Some, None, Result, Ok}
use Rattle.layout.specs.declared.Slot.{Slot}
use Rattle.layout.specs.declared.Block.{Block}
use Rattle.layout.specs.declared.Label.{Label}
use Rattle.layout.specs.Places.{table_length}
use Rattle.layout.proofs.Booleans.{Told, told, told_true, told_false}
use Rattle.record.specs.declared.Record.{Record}
use Rattle.record.specs.Record.{label_in}
use Rattle.protocol.specs.declared.Condition.{Condition}
use Rattle.protocol.specs.declared.Condition.TheVariants.{NotCached, Clean, Dirty, Writing, Fetching}
use Rattle.protocol.specs.Reply.{overwrite, copied_out}
use Rattle.protocol.specs.Rows.{row_flags, dirty, with_writing, open_rows, all_writing}
use Rattle.protocol.specs.Box.{Box, refusing}
use Rattle.protocol.specs.Condition.{condition_of, is_open, is_cached, is_writing, has_other}
use Rattle.protocol.specs.Sweep.{next_slot}
use Rattle.protocol.specs.Kinds.{to_write, to_fetch}
use Rattle.protocol.specs.Plan.{Call, Move, offer, fetch, stay, opens, copies, takes_as, takes, sweeps, offering, fetching, stores_meta, plan, import_open}
use Rattle.protocol.specs.Perform.{perform}
use Rattle.protocol.specs.declared.Refusal.{Refusal}
use Rattle.protocol.specs.declared.Refusal.TheVariants.{SlotOpen, HasSlot, WindowFull, AllOpen, StampsSpent, ImportFull}
use Rattle.protocol.specs.Judge.{number_of, opens_another, test, first_of, judged}
use Rattle.protocol.specs.Calls.{effect_of, box_of}
use Rattle.laws.proofs.refine.Tables.{Rows}
use Rattle.sweeping.specs.declared.Swept.{Swept}
use Rattle.sweeping.specs.Sweeps.{swept_of, cleared_from, swept_after}
use Rattle.turns.specs.declared.turn.Turn.{Turn}
use Rattle.turns.specs.declared.turn.Turn.TheVariants.{Opens, CopiesOut}
use Rattle.judging.specs.Judging.{serves_then}
use Rattle.turns.specs.Turns.{Within, crowd_of, if_room, take_turn, sweep_turn, clean_turn, offer_turn, fetch_turn, Performable, spent, table_after, turned}
use Rattle.laws.proofs.Judged.{refuses, does, first_yes, first_no}
use Rattle.judging.proofs.ServeLaws.{end, judged_on, offer_judges, fetch_judges}
use Rattle.judging.proofs.ReadyLaws.{ReadyBox, serves, open_count}
use Rattle.turns.proofs.SweepingLaws.{stuck_all, swept_is, took_is, not-all, passed_is}
use Rattle.turns.proofs.TurnLaws.{hand-low, rows_of, crowd_import, crowd_full, crowd_none}

-- 13, or a slot is opened
module _ (s : Slot) (flags passed : ℕ) (hand : Slot) (b : Block) (caller : ℕ) (x : Box) where
  pub turn_spent : spent (label_in x.state) x.state.newest ≡ true → refusing 13 x ≡ turned (Ok (Opens s flags passed hand)) b caller x
  turn_spent n = rw (n, turned)

  pub turn_opens : spent (label_in x.state) x.state.newest ≡ false
      → perform (opens x.state s b caller flags (table_after passed x) hand) x ≡ turned (Ok (Opens s flags passed hand)) b caller x
  turn_opens n = rw (n, turned)

-- 13 alone is left to ask of a call: it opens a slot, or it copies one out
module _ (c : Call) (x : Box) (b : Block) (caller passed : ℕ)
    (j : judged c x ≡ first_of (StampsSpent ∷ []) (λ q. test q c x))
    (e : test StampsSpent c x ≡ (stores_meta (plan c x) && spent (label_in x.state) x.state.newest)) where
  opening : (s : Slot) (flags : ℕ) (hand : Slot) → plan c x ≡ opens x.state s b caller flags (table_after passed x) hand
      → effect_of c x ≡ turned (Ok (Opens s flags passed hand)) b caller x
  opening s flags hand p = go (told (spent (label_in x.state) x.state.newest))
    where
      asks : test StampsSpent c x ≡ spent (label_in x.state) x.state.newest
      asks = e ∙ ap (λ (m : Move). stores_meta m && spent (label_in x.state) x.state.newest) p

      go : Told (spent (label_in x.state) x.state.newest) → effect_of c x ≡ turned (Ok (Opens s flags passed hand)) b caller x
      go (told_true n) = refuses c x StampsSpent (j ∙ first_yes _ StampsSpent [] (asks ∙ n)) ∙ turn_spent s flags passed hand b caller x n
      go (told_false n) = does c x _ (j ∙ first_no _ StampsSpent [] (asks ∙ n) ∙ end _) p ∙ turn_opens s flags passed hand b caller x n

  copying : (s : Slot) → plan c x ≡ copies s copied_out (table_after passed x) s → effect_of c x ≡ turned (Ok (CopiesOut s passed)) b caller x
  copying s p = does c x _
      (j ∙ first_no _ StampsSpent [] (e ∙ ap (λ (m : Move). stores_meta m && spent (label_in x.state) x.state.newest) p) ∙ end _) p

-- a call that opens another slot: 17 or 11 refuses it, whatever its turn would be, or there is room and the rest is asked
data Crowd (c : Call) (x : Box) (b : Block) (caller : ℕ) (more : List Refusal) : Type 0 where
  crowded : ((T : Result Turn Refusal) → effect_of c x ≡ turned (if_room (crowd_of x.table x.state caller) T) b caller x) → Crowd c x b caller more
  roomy : ((T : Result Turn Refusal) → turned T b caller x ≡ turned (if_room (crowd_of x.table x.state caller) T) b caller x)
      → judged c x ≡ first_of more (λ q. test q c x) → Crowd c x b caller more

module _ (c : Call) (x : Box) (b : Block) (caller : ℕ) (more : List Refusal)
    (j : judged c x ≡ first_of (ImportFull ∷ WindowFull ∷ more) (λ q. test q c x))
    (e17 : test ImportFull c x ≡ import_open caller x.state) (e11 : test WindowFull c x ≡ leb 63 (open_rows x.table)) where
  crowd : Crowd c x b caller more
  crowd = go (told (import_open caller x.state)) (told (leb 63 (open_rows x.table)))
    where
      by : (r : Refusal) → Some r ≡ crowd_of x.table x.state caller → (T : Result Turn Refusal)
          → refusing (number_of r) x ≡ turned (if_room (crowd_of x.table x.state caller) T) b caller x
      by r e T = ap (λ (o : Option Refusal). turned (if_room o T) b caller x) e

      go : Told (import_open caller x.state) → Told (leb 63 (open_rows x.table)) → Crowd c x b caller more
      go (told_true a) f = crowded λ T.
          refuses c x ImportFull (j ∙ first_yes _ ImportFull _ (e17 ∙ a))
          ∙ by ImportFull (crowd_import x.table x.state caller a) T
      go (told_false a) (told_true f) = crowded λ T.
          refuses c x WindowFull (j ∙ first_no _ ImportFull _ (e17 ∙ a) ∙ first_yes _ WindowFull _ (e11 ∙ f))
          ∙ by WindowFull (crowd_full x.table x.state caller a f) T
      go (told_false a) (told_false f) = roomy
          (λ T. ap (λ (o : Option Refusal). turned (if_room o T) b caller x) (crowd_none x.table x.state caller a f))
          (j ∙ first_no _ ImportFull _ (e17 ∙ a) ∙ first_no _ WindowFull _ (e11 ∙ f))

-- a call that sweeps for a slot: 17, 11, 12 and 13 are left to ask of it
module _ (c : Call) (x : Box) (b : Block) (caller flags : ℕ) (size : length x.table ≡ table_length (label_in x.state))
    (R : Rows (label_in x.state) x.table) (low : x.state.hand.0 < x.state.label.slots)
    (j : judged c x ≡ first_of (ImportFull ∷ WindowFull ∷ AllOpen ∷ StampsSpent ∷ []) (λ q. test q c x))
    (e17 : test ImportFull c x ≡ import_open caller x.state)
    (e11 : test WindowFull c x ≡ leb 63 (open_rows x.table)) (e12 : test AllOpen c x ≡ all_writing x.table)
    (e13 : test StampsSpent c x ≡ (stores_meta (plan c x) && spent (label_in x.state) x.state.newest))
    (p : plan c x ≡ sweeps x b caller flags) where
  abbrev l : Label
  l = label_in x.state

  sweeping : effect_of c x ≡ turned (sweep_turn l x.table x.state.hand (crowd_of x.table x.state caller) flags) b caller x
  sweeping = go (crowd c x b caller (AllOpen ∷ StampsSpent ∷ []) j e17 e11) (swept_of l x.table x.state.hand) refl
    where
      took : (s : Slot) (k : ℕ) → Told (dirty (row_flags x.table s)) → swept_of l x.table x.state.hand ≡ swept_after s k
          → judged c x ≡ first_of (StampsSpent ∷ []) (λ q. test q c x)
          → effect_of c x ≡ turned (take_turn l x.table flags (swept_after s k)) b caller x
      took s k d f n =
          go d (p ∙ ap (takes x.state b caller flags) (swept_is l x.table x.state.hand s k size R low (sym f))
          ∙ ap (λ (d : Bool). takes_as d x.state b caller flags (record { slot = s; table = table_after k x })) dirty_is)
        where
          dirty_is : dirty (row_flags (table_after k x) s) ≡ dirty (row_flags x.table s)
          dirty_is = (passed_is k l x.table x.state.hand size R low).dirty_is s
              (took_is l x.table x.state.hand s k size R low (sym f)).low

          go : Told (dirty (row_flags x.table s))
              → plan c x ≡ takes_as (dirty (row_flags x.table s)) x.state b caller flags (record { slot = s; table = table_after k x })
              → effect_of c x ≡ turned (take_turn l x.table flags (swept_after s k)) b caller x
          go (told_true d) q = copying c x b caller k n e13 s (q ∙ rw (d, takes_as)) ∙ rw (d, take_turn, turned)
          go (told_false d) q = opening c x b caller k n e13 s flags (next_slot l s) (q ∙ rw (d, takes_as)) ∙ rw (d, take_turn, turned)

      swept : (w : Option Swept) → swept_of l x.table x.state.hand ≡ w → judged c x ≡ first_of (AllOpen ∷ StampsSpent ∷ []) (λ q. test q c x)
          → effect_of c x ≡ turned (take_turn l x.table flags w) b caller x
      swept None f n =
          refuses c x AllOpen (n ∙ first_yes _ AllOpen _ (e12 ∙ stuck_all l x.table x.state.hand size low f))
      swept (Some v) f n =
          took v.slot v.passed (told (dirty (row_flags x.table v.slot))) f
          (n ∙ first_no _ AllOpen _ (e12 ∙ not-all l x.table x.state.hand v.slot v.passed size R low (sym f)))

      go : Crowd c x b caller (AllOpen ∷ StampsSpent ∷ []) → (w : Option Swept) → swept_of l x.table x.state.hand ≡ w
          → effect_of c x ≡ turned (sweep_turn l x.table x.state.hand (crowd_of x.table x.state caller) flags) b caller x
      go (crowded f) w q = f _
      go (roomy f n) w q =
          swept w q n ∙ ap (λ (v : Option Swept). turned (take_turn l x.table flags v) b caller x) (sym q) ∙ f _

-- where 3 to 7 and 18 are passed, an offer or a fetch is its turn
module _ (ssd hdd t : List ℕ) (r : Record) (b : Block) (caller : ℕ)
    (z : serves_then (length ssd) (length hdd) 4096 t r b caller None ≡ None) where
  abbrev x : Box
  x = box_of ssd hdd t r

  B : ReadyBox ssd hdd 4096 t r
  B = (serves ssd hdd 4096 t r b caller z).0

  abbrev size : length t ≡ table_length (label_in r)
  size = B.box.sound.table-size

  R : Rows (label_in r) t
  R = rows_of (label_in r) t size B.box.rows

  low : r.hand.0 < r.label.slots
  low = hand-low r B.box.record_kept

  pub offer_turned : effect_of (offer b caller) x ≡ turned (offer_turn t r caller (condition_of t b)) b caller x
  unfolding test plan cleared_from
  offer_turned = go (condition_of t b) refl
    where
      asked : judged (offer b caller) x ≡ first_of (SlotOpen ∷ ImportFull ∷ WindowFull ∷ AllOpen ∷ StampsSpent ∷ []) (λ q. test q (offer b caller) x)
      asked = judged_on (offer b caller) x _ _ (offer_judges ssd hdd t r b caller) z

      go : (k : Condition) → condition_of t b ≡ k → effect_of (offer b caller) x ≡ turned (offer_turn t r caller k) b caller x
      go NotCached e = sweeping (offer b caller) x b caller 7 size R low (asked ∙ first_no _ SlotOpen _ (ap is_open e))
          (ap (λ (k : Condition). opens_another to_write k && import_open caller r) e)
          (ap (λ (k : Condition). opens_another to_write k && leb 63 (open_rows t)) e)
          (ap (λ (k : Condition). not (is_cached k) && all_writing t) e) refl (ap (offering x b caller) e)
      go (Clean s) e = clean (crowd (offer b caller) x b caller (AllOpen ∷ StampsSpent ∷ []) (asked ∙ first_no _ SlotOpen _ (ap is_open e))
          (ap (λ (k : Condition). opens_another to_write k && import_open caller r) e)
          (ap (λ (k : Condition). opens_another to_write k && leb 63 (open_rows t)) e))
        where
          clean : Crowd (offer b caller) x b caller (AllOpen ∷ StampsSpent ∷ [])
              → effect_of (offer b caller) x ≡ turned (clean_turn t r.hand (crowd_of t r caller) s) b caller x
          clean (crowded f) = f _
          clean (roomy f n) =
              opening (offer b caller) x b caller 0 (n ∙ first_no _ AllOpen _ (ap (λ (k : Condition). not (is_cached k) && all_writing t) e))
              refl s (with_writing (row_flags t s)) r.hand (ap (offering x b caller) e)
              ∙ f _
      go (Dirty s) e = does (offer b caller) x (stay overwrite)
          (asked ∙ first_no _ SlotOpen _ (ap is_open e)
          ∙ first_no _ ImportFull _ (ap (λ (k : Condition). opens_another to_write k && import_open caller r) e)
          ∙ first_no _ WindowFull _ (ap (λ (k : Condition). opens_another to_write k && leb 63 (open_rows t)) e)
          ∙ first_no _ AllOpen _ (ap (λ (k : Condition). not (is_cached k) && all_writing t) e)
          ∙ first_no _ StampsSpent _ (ap (λ (k : Condition). stores_meta (offering x b caller k) && spent (label_in r) r.newest) e)
          ∙ end _)
          (ap (offering x b caller) e)
      go (Writing s) e = refuses (offer b caller) x SlotOpen (asked ∙ first_yes _ SlotOpen _ (ap is_open e))
      go (Fetching s) e = refuses (offer b caller) x SlotOpen (asked ∙ first_yes _ SlotOpen _ (ap is_open e))

  pub fetch_turned : effect_of (fetch b caller) x ≡ turned (fetch_turn t r caller (condition_of t b)) b caller x
  unfolding test plan
  fetch_turned = go (condition_of t b) refl
    where
      asked : judged (fetch b caller) x
          ≡ first_of (HasSlot ∷ SlotOpen ∷ ImportFull ∷ WindowFull ∷ AllOpen ∷ StampsSpent ∷ []) (λ q. test q (fetch b caller) x)
      asked = judged_on (fetch b caller) x _ _ (fetch_judges ssd hdd t r b caller) z

      go : (k : Condition) → condition_of t b ≡ k → effect_of (fetch b caller) x ≡ turned (fetch_turn t r caller k) b caller x
      go NotCached e = sweeping (fetch b caller) x b caller 5 size R low
          (asked ∙ first_no _ HasSlot _ (ap has_other e) ∙ first_no _ SlotOpen _ (ap is_writing e))
          (ap (λ (k : Condition). opens_another to_fetch k && import_open caller r) e)
          (ap (λ (k : Condition). opens_another to_fetch k && leb 63 (open_rows t)) e)
          (ap (λ (k : Condition). not (is_cached k) && all_writing t) e) refl (ap (fetching x b caller) e)
      go (Clean s) e = refuses (fetch b caller) x HasSlot (asked ∙ first_yes _ HasSlot _ (ap has_other e))
      go (Dirty s) e = refuses (fetch b caller) x HasSlot (asked ∙ first_yes _ HasSlot _ (ap has_other e))
      go (Writing s) e =
          refuses (fetch b caller) x SlotOpen (asked ∙ first_no _ HasSlot _ (ap has_other e) ∙ first_yes _ SlotOpen _ (ap is_writing e))
      go (Fetching s) e = refuses (fetch b caller) x HasSlot (asked ∙ first_yes _ HasSlot _ (ap has_other e))

  -- and it can be performed
  room : (T : Result Turn Refusal) → (leb 63 (open_rows t) ≡ false → Performable T t r) → Performable (if_room (crowd_of t r caller) T) t r
  room T f = go (told (import_open caller r)) (told (leb 63 (open_rows t)))
    where
      at : (o : Option Refusal) → o ≡ crowd_of t r caller → Performable (if_room o T) t r → Performable (if_room (crowd_of t r caller) T) t r
      at o e p = subst (λ (o : Option Refusal). Performable (if_room o T) t r) e p

      go : Told (import_open caller r) → Told (leb 63 (open_rows t)) → Performable (if_room (crowd_of t r caller) T) t r
      go (told_true a) k = at (Some ImportFull) (crowd_import t r caller a) tt
      go (told_false a) (told_true k) = at (Some WindowFull) (crowd_full t r caller a k) tt
      go (told_false a) (told_false k) = at None (crowd_none t r caller a k) (f k)

  few : leb 63 (open_rows t) ≡ false → r.count < 63
  few a = rw (open_count ssd hdd 4096 t r B) (leb-false 63 (open_rows t) a)

  sweep_performs : (flags : ℕ) → Performable (sweep_turn (label_in r) t r.hand (crowd_of t r caller) flags) t r
  sweep_performs flags = room _ (λ a. take (few a) (swept_of (label_in r) t r.hand) refl)
    where
      took : (s : Slot) (k : ℕ) → r.count < 63 → s.0 < r.label.slots → Told (dirty (row_flags t s))
          → Performable (take_turn (label_in r) t flags (swept_after s k)) t r
      took s k c h (told_true d) = rw (d, take_turn, Performable) (h, d)
      took s k c h (told_false d) = rw (d, take_turn, Performable) (h, c)

      take : r.count < 63 → (w : Option Swept) → swept_of (label_in r) t r.hand ≡ w → Performable (take_turn (label_in r) t flags w) t r
      take c None e = tt
      take c (Some v) e =
          took v.slot v.passed c (took_is (label_in r) t r.hand v.slot v.passed size R low (sym e)).low (told (dirty (row_flags t v.slot)))

  pub offer_performs : (k : Condition) → Within r.label.slots k → Performable (offer_turn t r caller k) t r
  offer_performs NotCached w = sweep_performs 7
  offer_performs (Clean s) w = room _ (λ a. (w, few a))
  offer_performs (Dirty s) w = tt
  offer_performs (Writing s) w = tt
  offer_performs (Fetching s) w = tt

  pub fetch_performs : (k : Condition) → Performable (fetch_turn t r caller k) t r
  fetch_performs NotCached = sweep_performs 5
  fetch_performs (Clean s) = tt
  fetch_performs (Dirty s) = tt
  fetch_performs (Writing s) = tt
  fetch_performs (Fetching s) = tt
