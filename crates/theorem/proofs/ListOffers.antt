-- A list of blocks offered as one leaves what single offers would leave, but for the stamp (document 02, N3).
use Prim.Native.Nat.{ℕ, zero, suc, ◌+◌, ◌-◌, ◌≤◌, ◌<◌}
use mathlib.Core.Path.{◌≡◌, refl, sym, ap, subst, ◌∙◌}
use mathlib.Core.Logic.{◌≢◌}
use mathlib.Core.Bool.{Bool, true, false, not, ◌&&◌, ◌||◌, and-false}
use mathlib.Core.List.{List, [], ◌∷◌, ◌++◌}
use Rattle.std.specs.Prelude.{Option, Some, None}
use Rattle.std.proofs.lemmas.Option.{same_Some, none-some}
use native.Mathlib.Omega.{arith}
use lib.ListN.{length, get_or, take}
use lib.Dec.{ltb, leb}
use borrow.Author.Tests.{leb-false, lt-leb, eqb-false}
use Rattle.pages.proofs.PageLaws.{length_put}
use Rattle.layout.specs.declared.Slot.{Slot}
use Rattle.layout.specs.declared.Block.{Block}
use Rattle.layout.specs.Places.{meta_of, meta_place, ssd_length, hdd_length}
use Rattle.layout.specs.Window.{array_of}
use Rattle.layout.specs.Stamps.{opening_bound}
use Rattle.layout.proofs.PlaceLaws.{meta_of-low, page-place, meta_within}
use Rattle.layout.proofs.Booleans.{Told, told, told_true, told_false, clash, and_of, or_neither}
use Rattle.record.specs.declared.Record.{Record}
use Rattle.record.specs.declared.Phase.{Phase}
use Rattle.record.specs.declared.Phase.TheVariants.{Ready}
use Rattle.record.specs.Callers.{caller_array, named_places, callers_test}
use Rattle.record.specs.Record.{label_in, window_in, callers_in, window_of, with_stamp, put_window}
use Rattle.record.proofs.CallerLaws.{joins-test}
use Rattle.protocol.specs.declared.Condition.{Condition}
use Rattle.protocol.specs.declared.Condition.TheVariants.{NotCached, Clean, Dirty, Writing, Fetching}
use Rattle.protocol.specs.declared.Stored.TheVariants.{Ssd}
use Rattle.protocol.specs.Reply.{Reply, refusal, answer, dealt, announced, copied_out, nothing_to_do, refused}
use Rattle.protocol.specs.Rows.{row_flags, dirty, set_row, open_rows, all_writing}
use Rattle.protocol.specs.Box.{Images, Box, applied, stored_of, Effect, left, box_after}
use Rattle.protocol.specs.Condition.{condition_of, is_open, is_cached, takes_write}
use Rattle.protocol.specs.Plan.{offer, offer_list, grown, Move, takes_as, takes, opens, import_open, offering, Offered, not_yet, offered_box, declines, on_page, dealt_with, placed_as, placed, offers_from, announcing, together, first_block, plan, stores_meta}
use Rattle.protocol.specs.Sweep.{Victim, sweep}
use Rattle.protocol.specs.Metadata.{store_place}
use Rattle.protocol.specs.Perform.{confirmed, perform}
use Rattle.protocol.specs.declared.Refusal.{Refusal}
use Rattle.protocol.specs.declared.Refusal.TheVariants.{BlockTooHigh, SlotOpen, WindowFull, AllOpen, ImportFull, UnknownCaller}
use Rattle.protocol.specs.Judge.{number_of, agree_test, test, judged}
use Rattle.protocol.specs.Calls.{effect_of, result_of}
use Rattle.protocol.specs.Beside.{OfferAnswer, says_announced, says_overwrite, says_copied, stamped_at, at_stamp, is_taken, Offers, stored_pages, one_by_one, EndsList, by_refusal, by_copy, by_page, AsOffers, ListAsOffers}
use Rattle.laws.proofs.model.Base.{Window}
use Rattle.laws.proofs.refine.Windows.{nums, length_nums}
use Rattle.laws.proofs.Sound.{Sound, room, sound_agree}
use Rattle.laws.proofs.Judged.{passed, accepted, does, refuses}
use Rattle.laws.proofs.Accepted.{Legal, callers-size, callers-known, service_legal, service_ready, legal_sound, legal-first}
use Rattle.laws.proofs.Does.{Opening, later, grown-window, opening_sound, still_overwrite, still_nothing, Taken, taken-stay, taken_open, taken_copy, fit, here, offers}
use Rattle.laws.proofs.OfferLists.{grown_self, both, offered_of, Ran, ran_none, ran_some, RanTo, ran}
use Rattle.laws.proofs.why.RowsRules.{agree_same}
use Rattle.theorem.proofs.Answered.{answers}
use Rattle.theorem.proofs.StoresLegally.{stores_whole}
use Rattle.theorem.proofs.UpdateFirst.{none_of}

abbrev code_in : Reply → ℕ
code_in (refusal n) = 0
code_in (answer n s) = n
code_in (dealt n) = 112

-- the box with a slot opened is legal
module _ (y : Box) (L : Legal y) (on : y.state.phase ≡ Ready) {s : Slot} {b : Block} {c f : ℕ} {v : List ℕ} {hand : Slot}
    (O : Opening y s b c f v hand) where
  abbrev w : List Slot
  w = window_in y.state ++ (s ∷ [])

  abbrev cs : List ℕ
  cs = callers_in y.state ++ (c ∷ [])

  T : Sound (label_in y.state) (set_row v s b f) w
  T = opening_sound O (legal_sound y L on)

  few : length (window_in y.state) < 63
  few = omega (arith, room (legal_sound y L on) O.few, length_nums (window_in y.state))

  window_is : window_in (grown y.state hand w cs) ≡ w
  window_is = grown-window y.state hand w cs

  joined-legal : Legal (later y (set_row v s b f) hand w cs)
  joined-legal = record {
    limits = L.limits;
    hand-low = O.hand-low;
    steps = L.steps;
    count_is = sym (ap length window_is);
    array_is = sym (ap array_of window_is);
    named = subst (λ (p : Phase). callers_test (named_places p (length w)) (caller_array cs) ≡ true) (sym on)
        (joins-test (window_in y.state) (callers_in y.state) (callers-size y L) (callers-known y L) s c O.known few);
    window-rule = subst (λ (z : List Slot). Window y.state.label.slots (nums z)) (sym window_is) T.rule;
    ssd-size = L.ssd-size;
    hdd-size = L.hdd-size;
    table-size = T.size;
    rows = T.legal;
    agree = subst (λ (p : Phase). agree_test p (set_row v s b f) (window_in (grown y.state hand w cs)) ≡ true) (sym on)
        (rw window_is ((agree_same Ready (set_row v s b f) w).1 (sound_agree T)));
  }

-- another page than the first announced, so one was announced
page-other : (o : Option ℕ) (p : ℕ) → on_page o p ≡ false → (q : ℕ) × (o ≡ Some q) × (p ≢ q)
page-other None p e = clash {b = true} refl e
page-other (Some q) p e = (q, refl, eqb-false p q e)

pub never : {p : Reply} → OfferAnswer p → p ≢ nothing_to_do
never (says_announced s) e = omega (arith, ap code_in e)
never says_overwrite e = omega (arith, ap code_in e)
never says_copied e = omega (arith, ap code_in e)

pub one_of : (a b c : Bool) → (a && b) ≡ false → (a && c) ≡ false → (a && (b || c)) ≡ false
one_of true b c e f = rw (e, f)
one_of false b c e f = refl

-- a record at a stamp, settled or not
abbrev stamped_as : ℕ → Bool → Record → Record
stamped_as m u r = put_window (with_stamp r m) u (window_of r)

module _ (x : Box) (on : x.state.phase ≡ Ready) (caller : ℕ) (known : ltb 1 caller ≡ false) where
  -- settled by the first store
  abbrev unconfirmed_by : Option ℕ → Bool
  unconfirmed_by None = x.state.unconfirmed
  unconfirmed_by (Some q) = false

  -- the box of single offers after the places that z dealt with: at another stamp, with other images
  abbrev twin : Images → ℕ → Offered → Box
  twin im m z = record {
    images = im;
    table = z.table;
    state = stamped_as m (unconfirmed_by z.page) (grown x.state z.hand z.window z.callers);
  }

  record Sized (im : Images) : Type 0 where
    ssd-size : length im.ssd ≡ ssd_length (label_in x.state)
    hdd-size : length im.hdd ≡ hdd_length (label_in x.state)

  twin_legal : (im : Images) (m : ℕ) (z : Offered) → Sized im → Legal (offered_box x z) → Legal (twin im m z)
  unfolding window_in
  twin_legal im m z I L = record {
    limits = L.limits;
    hand-low = L.hand-low;
    steps = L.steps;
    count_is = L.count_is;
    array_is = L.array_is;
    named = L.named;
    window-rule = L.window-rule;
    ssd-size = I.ssd-size;
    hdd-size = I.hdd-size;
    table-size = L.table-size;
    rows = L.rows;
    agree = L.agree;
  }

  offering-same : (im : Images) (m : ℕ) (z : Offered) (b : Block) (k : Condition)
      → offering (twin im m z) b caller k ≡ offering (offered_box x z) b caller k
  unfolding window_in callers_in
  offering-same im m z b NotCached = go (sweep (label_in x.state) z.table z.hand)
    where
      by : (d : Bool) (v : Victim) → takes_as d (twin im m z).state b caller 7 v ≡ takes_as d (offered_box x z).state b caller 7 v
      by true v = refl
      by false v = refl

      go : (o : Option Victim) → takes (twin im m z).state b caller 7 o ≡ takes (offered_box x z).state b caller 7 o
      go None = refl
      go (Some v) = by (dirty (row_flags v.table v.slot)) v
  offering-same im m z b (Clean s) = refl
  offering-same im m z b (Dirty s) = refl
  offering-same im m z b (Writing s) = refl
  offering-same im m z b (Fetching s) = refl

  -- one place: the offer is taken and the list goes on, or it ends
  data Ends (z : Offered) : Reply → Type 0 where
    refused_by : (k : ℕ) → Ends z (refusal k)
    copied_out_is : Ends z copied_out
    elsewhere : (s : Slot) (q : ℕ) → z.page ≡ Some q → meta_of s ≢ q → Ends z (announced s)

  data Step (im : Images) (m : ℕ) (z : Offered) (b : Block) : Option Offered → Type 0 where
    goes_on : (y : Offered) (im' : Images) (m' : ℕ) → y.places ≡ suc z.places → m' ≤ suc m → Sized im' → Legal (offered_box x y)
        → is_taken (result_of (offer b caller) (twin im m z)).said ≡ true
        → box_after (result_of (offer b caller) (twin im m z)) ≡ twin im' m' y → Step im m z b (Some y)
    stops : Ends z (result_of (offer b caller) (twin im m z)).said → Step im m z b None

  module _ (im : Images) (m : ℕ) (z : Offered) (I : Sized im) (L : Legal (offered_box x z))
      (spare : m < opening_bound (label_in x.state)) (b : Block) where
    abbrev y : Box
    y = twin im m z

    abbrev k : Condition
    k = condition_of z.table b

    abbrev declined : Bool
    declined = declines (offered_box x z) b caller k

    Ly : Legal y
    Ly = twin_legal im m z I L

    -- the tests of 7 to 12
    record Asked : Type 0 where
      low : leb x.state.label.blocks b.0 ≡ false
      shut : is_open k ≡ false
      import_few : (not (takes_write k) && import_open caller (grown x.state z.hand z.window z.callers)) ≡ false
      few_open : (not (takes_write k) && leb 63 (open_rows z.table)) ≡ false
      some_shut : (not (is_cached k) && all_writing z.table) ≡ false

    asked : declined ≡ false → Asked
    asked e =
        let q = or_neither (leb x.state.label.blocks b.0) _ e in
        let r = or_neither (is_open k) _ q.1 in
        let t = or_neither (not (takes_write k) && (import_open caller (offered_box x z).state || leb 63 (open_rows z.table))) _ r.1 in
        let s = both (not (takes_write k)) (import_open caller (offered_box x z).state) (leb 63 (open_rows z.table)) t.0 in
        record { low = q.0; shut = r.0; import_few = s.0; few_open = s.1; some_shut = t.1 }

    -- a place that is not declined is accepted, and the other way round
    goes : Asked → judged (offer b caller) y ≡ None
    unfolding test callers_in
    goes A =
        accepted (offer b caller) y (legal-first y Ly on (offer b caller) refl refl) (
          known,
          (
            A.low,
            (
              A.shut,
              (
                A.import_few,
                (
                  A.few_open,
                  (
                    A.some_shut,
                    (rw (lt-leb (opening_bound (label_in x.state)) m spare) (and-false (stores_meta (plan (offer b caller) y))), tt),
                  ),
                ),
              ),
            ),
          ),
        )

    not_declined : judged (offer b caller) y ≡ None → declined ≡ false
    unfolding test callers_in
    not_declined e =
        let q = passed (offer b caller) y e in
        rw (
          q BlockTooHigh refl,
          q SlotOpen refl,
          one_of (not (takes_write k)) (import_open caller (offered_box x z).state) (leb 63 (open_rows z.table)) (q ImportFull refl) (q WindowFull refl),
        ) (q AllOpen refl)

    taken : Asked → Taken (offered_box x z) (offering (offered_box x z) b caller k)
    taken A = offers (offered_box x z) (fit L) b caller known (leb-false _ _ A.low) (here (offered_box x z) (fit L) b) A.shut
        A.import_few A.few_open

    made : judged (offer b caller) y ≡ None → {v : Move} → offering y b caller k ≡ v → effect_of (offer b caller) y ≡ perform v y
    unfolding plan
    made j {v} e = does (offer b caller) y v j e

    -- by what the offer does
    by_turn : judged (offer b caller) y ≡ None → {v : Move} → Taken (offered_box x z) v → offering y b caller k ≡ v
        → Step im m z b (dealt_with z v)
    unfolding perform confirmed store_place
    by_turn j (taken-stay still_overwrite) e =
        goes_on _ im m refl (omega arith) I L (ap (λ (f : Effect). is_taken f.said) (made j e)) (ap (λ (f : Effect). box_after (left f im)) (made j e))
    by_turn j (taken-stay still_nothing) e = absurd
        (never ((answers b caller y).of_offer (ap (λ (f : Effect). refused f.said) (made j e))) (ap (λ (f : Effect). f.said) (made j e)))
    by_turn j (taken_open {s = s} {b = d} {c = c} {f = f} {v = v} {hand = hand} O) e = go (told (on_page z.page (meta_of s)))
      where
        sized : Sized (applied (perform (opens (offered_box x z).state s d c f v hand) y).store im)
        sized = record {
          ssd-size = length_put im.ssd _ (meta_place (label_in x.state) (meta_of s))
              (rw I.ssd-size (meta_within (label_in x.state) (meta_of s)
              (page-place (label_in x.state) (meta_of s) (meta_of-low (label_in x.state) s O.low))))
              (stores_whole (offer b caller) y _ (ap (λ (f : Effect). f.store) (made j e))) ∙ I.ssd-size;
          hdd-size = I.hdd-size;
        }

        go : Told (on_page z.page (meta_of s)) → Step im m z b (dealt_with z (opens (offered_box x z).state s d c f v hand))
        go (told_true h) = rw (h, dealt_with) (goes_on _ _ (m + 1) refl (omega arith) sized (joined-legal (offered_box x z) L on O)
            (ap (λ (f : Effect). is_taken f.said) (made j e)) (ap (λ (f : Effect). box_after (left f im)) (made j e)))
        go (told_false h) = rw (h, dealt_with) (stops (subst (Ends z) (ap (λ (f : Effect). f.said) (sym (made j e)))
            (let q = page-other z.page (meta_of s) h in elsewhere s q.0 q.1 q.2)))
    by_turn j (taken_copy C) e = stops (subst (Ends z) (ap (λ (f : Effect). f.said) (sym (made j e))) copied_out_is)

    step : Step im m z b (placed (offered_box x z) caller z b)
    unfolding placed
    step = go (told declined)
      where
        refused_so : (o : Option Refusal) → judged (offer b caller) y ≡ o → declined ≡ true → Ends z (result_of (offer b caller) y).said
        refused_so None j e = clash e (not_declined j)
        refused_so (Some r) j e = subst (Ends z) (ap (λ (f : Effect). f.said) (sym (refuses (offer b caller) y r j))) (refused_by (number_of r))

        go : Told declined → Step im m z b (placed (offered_box x z) caller z b)
        go (told_true e) = subst (λ (d : Bool). Step im m z b (placed_as d z (offering (offered_box x z) b caller k))) (sym e)
            (stops (refused_so (judged (offer b caller) y) refl e))
        go (told_false e) = subst (λ (d : Bool). Step im m z b (placed_as d z (offering (offered_box x z) b caller k))) (sym e)
            (by_turn (goes (asked e)) (taken (asked e)) (offering-same im m z b k))

  -- the places of a list, from where z dealt with the ones before: the run ends at y
  record Alike (im : Images) (m : ℕ) (z : Offered) (blocks : List ℕ) (y : Offered) : Type 0 where
    count : ℕ
    most : count ≤ length blocks
    places : y.places ≡ z.places + count
    images : Images
    stamp : ℕ
    box : (one_by_one (take count blocks) caller (twin im m z)).box ≡ twin images stamp y
    taken-all : (one_by_one (take count blocks) caller (twin im m z)).taken ≡ true
    ends : count < length blocks → Ends y (result_of (offer (record { 0 = get_or blocks count 0 }) caller) (twin images stamp y)).said

  alike : (blocks : List ℕ) (im : Images) (m : ℕ) (z : Offered) → Sized im → Legal (offered_box x z)
      → m + length blocks ≤ opening_bound (label_in x.state)
      → Alike im m z blocks (offers_from x caller z blocks)
  unfolding offers_from one_by_one
  alike [] im m z I L h = record {
    count = 0;
    most = omega arith;
    places = omega arith;
    images = im;
    stamp = m;
    box = refl;
    taken-all = refl;
    ends = λ q. absurd (omega arith);
  }
  alike (b ∷ blocks) im m z I L h = go (alike blocks) (step im m z I L (omega arith) (record { 0 = b }))
    where
      go : ((im : Images) (m : ℕ) (z : Offered) → Sized im → Legal (offered_box x z) → m + length blocks ≤ opening_bound (label_in x.state)
          → Alike im m z blocks (offers_from x caller z blocks)) → {o : Option Offered} → Step im m z (record { 0 = b }) o
          → Alike im m z (b ∷ blocks) (elim o [ None ↦ z | Some y ↦ offers_from x caller y blocks ])
      go rest (stops e) = record {
        count = 0;
        most = omega arith;
        places = omega arith;
        images = im;
        stamp = m;
        box = refl;
        taken-all = refl;
        ends = λ q. e;
      }
      go rest (goes_on y im' m' n h' I' L' t e) =
          let A = rest im' m' y I' L' (omega (arith, h')) in
          record {
            count = suc A.count;
            most = omega (arith, A.most);
            places = omega (arith, A.places, n);
            images = A.images;
            stamp = A.stamp;
            box = ap (λ (q : Box). (one_by_one (take A.count blocks) caller q).box) e ∙ A.box;
            taken-all = and_of t (ap (λ (q : Box). (one_by_one (take A.count blocks) caller q).taken) e ∙ A.taken-all);
            ends = λ q. A.ends (omega arith);
          }

abbrev places_in : Reply → ℕ
places_in (refusal n) = 0
places_in (answer n s) = 0
places_in (dealt n) = n

dealt_is : (n k : ℕ) → dealt n ≡ dealt k → n ≡ k
dealt_is n k e = ap (λ (p : Reply). places_in p) e

-- a single offer's answer is another
not-dealt : {x : Box} {v : Move} → Taken x v → {n : ℕ} → (perform v x).said ≢ dealt n
unfolding perform confirmed
not-dealt (taken-stay still_overwrite) e = omega (arith, ap code_in e)
not-dealt (taken-stay still_nothing) e = omega (arith, ap code_in e)
not-dealt (taken_open O) e = omega (arith, ap code_in e)
not-dealt (taken_copy C) e = omega (arith, ap code_in e)

-- what the list leaves, by how far the run came
module _ (x : Box) (L : Legal x) (on : x.state.phase ≡ Ready) (caller : ℕ) (known : ltb 1 caller ≡ false) where
  S : Sound (label_in x.state) x.table (window_in x.state)
  S = legal_sound x L on

  record Leaves (n : ℕ) (z : Offered) (e : Effect) : Type 0 where
    counted : z.places ≡ n
    table : z.table ≡ e.table
    state : stamped_as 0 (unconfirmed_by x on caller known z.page) (grown x.state z.hand z.window z.callers)
        ≡ stamped_at 0 e.state
    stamp : e.state.newest ≡ x.state.newest + stored_pages (stored_of e.store)
    page : (q : ℕ) → z.page ≡ Some q → stored_of e.store ≡ Some (Ssd (meta_place (label_in x.state) q))

  announcing-leaves : {o : Option ℕ} {t : List ℕ} {h : Slot} {w : List Slot} {cs : List ℕ} → Ran x L S caller known o t h w cs → (k n : ℕ)
      → (perform (announcing o (offered_of k o t h w cs)) x).said ≡ dealt n
      → Leaves n (offered_of k o t h w cs) (perform (announcing o (offered_of k o t h w cs)) x)
  unfolding perform confirmed store_place
  announcing-leaves ran_none k n s = record {
    counted = dealt_is k n s;
    table = refl;
    state = ap (stamped_as 0 x.state.unconfirmed) (grown_self x L);
    stamp = omega arith;
    page = λ q e. absurd (none-some q e);
  }
  announcing-leaves (ran_some {q} Os) k n s = record {
    counted = dealt_is k n s;
    table = refl;
    state = refl;
    stamp = refl;
    page = λ p e. ap (λ (i : ℕ). Some (Ssd (meta_place (label_in x.state) i))) (same_Some q p e);
  }

  together-leaves : {first : Move} → Taken x first → (z : Offered) → RanTo x L S caller known z → (k n : ℕ)
      → (perform (together k first z) x).said ≡ dealt n → (0 < k) × Leaves n z (perform (together k first z) x)
  together-leaves T z R zero n s = absurd (not-dealt T s)
  together-leaves T z R (suc k) n s = (omega arith, announcing-leaves R z.places n s)

  -- the first place alone
  first_taken : (blocks : List ℕ) → judged (offer_list blocks caller) x ≡ None
      → Taken x (offering x (first_block blocks) caller (condition_of x.table (first_block blocks)))
  unfolding test
  first_taken blocks e =
      let q = passed (offer_list blocks caller) x e in
      let b : Block = first_block blocks in
      offers x (fit L) b caller known (leb-false _ _ (q BlockTooHigh refl)) (here x (fit L) b) (q SlotOpen refl) (q ImportFull refl)
      (q WindowFull refl)

  starts : offered_box x (not_yet x) ≡ x
  starts = λ i. record { images = x.images; table = x.table; state = grown_self x L i }

  twin_starts : (m : ℕ) → twin x on caller known x.images m (not_yet x) ≡ at_stamp m x
  twin_starts m = λ i. record { images = x.images; table = x.table; state = stamped_as m x.state.unconfirmed (grown_self x L i) }

  -- an end of the list, by the page that was stored
  ended : (z : Offered) (e : Effect) {n : ℕ} → Leaves n z e → {p : Reply} → Ends x on caller known z p
      → EndsList (label_in x.state) (stored_of e.store) p
  ended z e W (refused_by k) = by_refusal k
  ended z e W copied_out_is = by_copy
  ended z e W (elsewhere s q h d) = by_page s q (W.page q h) d

  module _ (blocks : List ℕ) (n m : ℕ) (j : judged (offer_list blocks caller) x ≡ None) (said : (result_of (offer_list blocks caller) x).said ≡ dealt n)
      (h : m + length blocks ≤ opening_bound (label_in x.state)) where
    z : Offered
    z = offers_from x caller (not_yet x) blocks

    effect : Effect
    effect = effect_of (offer_list blocks caller) x

    both_leave : (0 < z.places) × Leaves n z effect
    unfolding plan effect z
    both_leave =
        let b : Block = first_block blocks in
        let first : Move = offering x b caller (condition_of x.table b) in
        let e = does (offer_list blocks caller) x (together z.places first z) j refl in
        subst (λ (f : Effect). (0 < z.places) × Leaves n z f) (sym e)
        (together-leaves (first_taken blocks j) z (ran x L S caller known blocks (not_yet x) ran_none) z.places n
        (ap (λ (f : Effect). f.said) (sym e) ∙ said))

    leaves : Leaves n z effect
    leaves = both_leave.1

    A : Alike x on caller known x.images m (not_yet x) blocks z
    unfolding z
    A = alike x on caller known blocks x.images m (not_yet x) (record { ssd-size = L.ssd-size; hdd-size = L.hdd-size })
        (subst Legal (sym starts) L) h

    count_is : A.count ≡ n
    count_is = omega (arith, A.places, leaves.counted)

    one_by_one_is : one_by_one (take n blocks) caller (at_stamp m x)
        ≡ one_by_one (take A.count blocks) caller (twin x on caller known x.images m (not_yet x))
    one_by_one_is =
        ap (λ (k : ℕ). one_by_one (take k blocks) caller (at_stamp m x)) (sym count_is)
        ∙ ap (one_by_one (take A.count blocks) caller) (sym (twin_starts m))

    box_is : (one_by_one (take n blocks) caller (at_stamp m x)).box ≡ twin x on caller known A.images A.stamp z
    box_is = ap (λ (o : Offers). o.box) one_by_one_is ∙ A.box

    next : n < length blocks
        → Ends x on caller known z
        (result_of (offer (record { 0 = get_or blocks n 0 }) caller) (twin x on caller known A.images A.stamp z)).said
    next q =
        subst
        (λ (i : ℕ). Ends x on caller known z
        (result_of (offer (record { 0 = get_or blocks i 0 }) caller) (twin x on caller known A.images A.stamp z)).said)
        count_is (A.ends (omega (arith, count_is)))

    as_offers : AsOffers blocks caller n m x
    unfolding effect
    as_offers = record {
      some_place = omega (arith, both_leave.0, leaves.counted);
      in_list = omega (arith, A.most, count_is);
      all-taken = ap (λ (o : Offers). o.taken) one_by_one_is ∙ A.taken-all;
      same-table = ap (λ (y : Box). y.table) box_is ∙ leaves.table;
      same_record = ap (λ (y : Box). stamped_at 0 y.state) box_is ∙ leaves.state;
      one-stamp = leaves.stamp;
      next_ends = λ q. ended z effect leaves (rw box_is (next q));
    }

pub list_as_offers : ListAsOffers
unfolding test
list_as_offers blocks caller n m x said h =
    let j = none_of (offer_list blocks caller) x (ap refused said) in
    as_offers x (service_legal (offer_list blocks caller) x refl j) (service_ready (offer_list blocks caller) x refl j) caller
    (passed (offer_list blocks caller) x j UnknownCaller refl) blocks n m j said h
