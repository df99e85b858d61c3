-- A list of blocks offered as one (document 02, N3): each place does what a single offer does, so all that it announces are openings on
-- one metadata page.
use Prim.Native.Nat.{ℕ, zero, suc, ◌<◌}
use mathlib.Core.Path.{◌≡◌, refl, sym, subst, ◌∙◌}
use mathlib.Core.Bool.{Bool, true, false, not, ◌&&◌, ◌||◌}
use mathlib.Core.List.{List, [], ◌∷◌, ◌++◌}
use Rattle.std.specs.Prelude.{Option, Some, None}
use native.Mathlib.Omega.{arith}
use lib.ListN.{length, take}
use lib.Dec.{ltb, leb}
use borrow.Author.Tests.{leb-false, eqb-true}
use Rattle.layout.specs.declared.Slot.{Slot}
use Rattle.layout.specs.declared.Block.{Block}
use Rattle.layout.specs.Places.{meta_of}
use Rattle.layout.specs.Stamps.{opening_bound}
use Rattle.record.specs.Record.{label_in, window_in, callers_in}
use Rattle.record.proofs.RecordLaws.{parts, remade-same}
use Rattle.protocol.specs.Rows.{set_row, open_rows}
use Rattle.protocol.specs.Box.{Box}
use Rattle.protocol.specs.Condition.{condition_of, is_open, takes_write}
use Rattle.protocol.specs.Plan.{offer_list, grown, Move, import_open, opens, offering, Offered, not_yet, offered_box, declines, on_page, dealt_with, placed_as, placed, offers_from, announcing, together, first_block, plan, stores_meta}
use Rattle.protocol.specs.Kinds.{Aim, aims_first}
use Rattle.protocol.specs.declared.Refusal.TheVariants.{BlockTooHigh, SlotOpen, WindowFull, StampsSpent, ImportFull, UnknownCaller}
use Rattle.protocol.specs.Judge.{test, judged}
use Rattle.layout.proofs.Booleans.{Told, told, told_true, told_false, or_neither}
use Rattle.laws.proofs.Sound.{Sound}
use Rattle.laws.proofs.Judged.{passed}
use Rattle.laws.proofs.Accepted.{Legal, legal_record, service_legal, service_ready, legal_sound}
use Rattle.laws.proofs.Does.{Opening, Openings, opens_one, opens_more, later, Quiet, Does, does_nothing, does_announce, openings_sound, Taken, taken-stay, taken_open, taken_copy, taken_does, Fit, fit, here, offers}

-- a legal record is its own window and callers
pub grown_self : (x : Box) → Legal x → grown x.state x.state.hand (window_in x.state) (callers_in x.state) ≡ x.state
grown_self x L = remade-same x.state (parts x.state (legal_record x L))

-- the hand after openings is a slot
openings_hand : {x : Box} {q : ℕ} {t : List ℕ} {h : Slot} {w : List Slot} {cs : List ℕ} → Openings x q t h w cs
    → h.0 < x.state.label.slots
openings_hand (opens_one O e) = O.hand-low
openings_hand (opens_more Os O e) = O.hand-low

abbrev pub offered_of : ℕ → Option ℕ → List ℕ → Slot → List Slot → List ℕ → Offered
offered_of n o t h w cs = record { places = n; page = o; table = t; hand = h; window = w; callers = cs }

pub both : (a b c : Bool) → (a && (b || c)) ≡ false → ((a && b) ≡ false) × ((a && c) ≡ false)
both true b c e = or_neither b c e
both false b c e = (refl, refl)

module _ (x : Box) (L : Legal x) (S : Sound (label_in x.state) x.table (window_in x.state)) (caller : ℕ)
    (known : ltb 1 caller ≡ false) where
  -- what the places dealt with have left: nothing announced yet, or openings on one page
  pub data Ran : Option ℕ → List ℕ → Slot → List Slot → List ℕ → Type 0 where
    ran_none : Ran None x.table x.state.hand (window_in x.state) (callers_in x.state)
    ran_some : {q : ℕ} {t : List ℕ} {h : Slot} {w : List Slot} {cs : List ℕ} → Openings x q t h w cs → Ran (Some q) t h w cs

  abbrev pub RanTo : Offered → Type 0
  RanTo z = Ran z.page z.table z.hand z.window z.callers

  -- the list ends before a place, or goes on after it
  data Goes : Option Offered → Type 0 where
    ends : Goes None
    goes : {z : Offered} → RanTo z → Goes (Some z)

  -- a place in box y, which the places before it left
  module _ (y : Box) (F : Fit y) (z : Offered) (R : RanTo z) (b : Block)
      (more : (s : Slot) (b : Block) (c f : ℕ) (v : List ℕ) (hand : Slot) → Opening y s b c f v hand → on_page z.page (meta_of s) ≡ true
      → Ran (Some (meta_of s)) (set_row v s b f) hand (window_in y.state ++ (s ∷ [])) (callers_in y.state ++ (c ∷ []))) where
    by_turn : {m : Move} → Taken y m → Goes (dealt_with z m)
    by_turn (taken-stay n) = goes R
    by_turn (taken_open {s} {b} {c} {f} {v} {hand} O) = go (told (on_page z.page (meta_of s)))
      where
        go : Told (on_page z.page (meta_of s)) → Goes (dealt_with z (opens y.state s b c f v hand))
        go (told_true e) = rw (e, dealt_with) (goes (more s b c f v hand O e))
        go (told_false e) = rw (e, dealt_with) ends
    by_turn (taken_copy C) = ends

    place : Goes (placed y caller z b)
    unfolding placed
    place = go (told (declines y b caller (condition_of y.table b)))
      where
        go : Told (declines y b caller (condition_of y.table b))
            → Goes (placed_as (declines y b caller (condition_of y.table b)) z (offering y b caller (condition_of y.table b)))
        go (told_true e) = rw e ends
        go (told_false e) =
            let k = condition_of y.table b in
            let q = or_neither (leb y.state.label.blocks b.0) _ e in
            let r = or_neither (is_open k) _ q.1 in
            let t = or_neither (not (takes_write k) && (import_open caller y.state || leb 63 (open_rows y.table))) _ r.1 in
            let s = both (not (takes_write k)) (import_open caller y.state) (leb 63 (open_rows y.table)) t.0 in
            rw e (by_turn (offers y F b caller known (leb-false _ _ q.0) (here y F b) r.0 s.0 s.1))

  -- a place after those dealt with
  start : offered_box x (not_yet x) ≡ x
  start = λ i. record { images = x.images; table = x.table; state = grown_self x L i }

  place_after_is : {o : Option ℕ} {t : List ℕ} {h : Slot} {w : List Slot} {cs : List ℕ} → Ran o t h w cs → (n : ℕ) (b : Block)
      → Goes (placed (later x t h w cs) caller (offered_of n o t h w cs) b)
  place_after_is ran_none n b =
      subst (λ (y : Box). Goes (placed y caller (offered_of n None x.table x.state.hand (window_in x.state) (callers_in x.state)) b))
      (sym start) (place x (fit L) _ ran_none b (λ s b c f v hand O e. ran_some (opens_one O refl)))
  place_after_is (ran_some {q} {t} {h} {w} {cs} Os) n b =
      let T = openings_sound Os S in
      place (later x t h w cs) (record { table-size = T.size; rows = T.legal; hand-low = openings_hand Os }) _ (ran_some Os) b
      (λ s b c f v hand O e. rw (eqb-true (meta_of s) q e) (ran_some (opens_more Os O (eqb-true (meta_of s) q e))))

  pub ran : (blocks : List ℕ) (z : Offered) → RanTo z → RanTo (offers_from x caller z blocks)
  unfolding offers_from
  ran [] z R = R
  ran (b ∷ blocks) z R =
      go (ran blocks) (place_after_is R z.places (record { 0 = b }))
    where
      go : ((y : Offered) → RanTo y → RanTo (offers_from x caller y blocks)) → {o : Option Offered} → Goes o
          → RanTo (elim o [ None ↦ z | Some y ↦ offers_from x caller y blocks ])
      go rest ends = R
      go rest (goes {z = y} R') = rest y R'

  announces_does : {a : Aim} → Quiet a → {o : Option ℕ} {t : List ℕ} {h : Slot} {w : List Slot} {cs : List ℕ} → Ran o t h w cs → (n : ℕ)
      → (stores_meta (announcing o (offered_of n o t h w cs)) && leb (opening_bound (label_in x.state)) x.state.newest) ≡ false
      → Does x a (announcing o (offered_of n o t h w cs))
  announces_does q ran_none n spent = does_nothing q refl
  announces_does q (ran_some Os) n spent = does_announce q refl Os (leb-false _ _ spent)

  -- the first place alone, or all that were dealt with
  together_does : {a : Aim} → Quiet a → {first : Move} → Taken x first → (z : Offered) → RanTo z → (n : ℕ)
      → (stores_meta (together n first z) && leb (opening_bound (label_in x.state)) x.state.newest) ≡ false
      → Does x a (together n first z)
  together_does q T z R zero spent = taken_does q T spent
  together_does q T z R (suc n) spent = announces_does q R z.places spent

pub offer_list_does : (x : Box) (blocks : List ℕ) (c : ℕ) → judged (offer_list blocks c) x ≡ None
    → Does x (aims_first blocks c) (plan (offer_list blocks c) x)
unfolding test plan
offer_list_does x blocks c e =
    let L = service_legal (offer_list blocks c) x refl e in
    let S = legal_sound x L (service_ready (offer_list blocks c) x refl e) in
    let q = passed (offer_list blocks c) x e in
    let b : Block = first_block blocks in
    let first = offers x (fit L) b c (q UnknownCaller refl) (leb-false _ _ (q BlockTooHigh refl)) (here x (fit L) b) (q SlotOpen refl)
    (q ImportFull refl) (q WindowFull refl)
    in
    let z = offers_from x c (not_yet x) blocks in
    together_does x L S c (q UnknownCaller refl) (λ d. refl) first z (ran x L S c (q UnknownCaller refl) blocks (not_yet x) ran_none) z.places
    (q StampsSpent refl)
