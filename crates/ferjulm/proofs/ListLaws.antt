-- A list of C calls leaves what demand 3's `run` makes of the unpacked box.
use Prim.Native.Nat.{ℕ, ◌+◌, ◌≤◌, ◌<◌}
use mathlib.Core.Path.{◌≡◌, refl, sym, ap, ◌∙◌}
use mathlib.Core.Bool.{Bool, true, false, cond}
use mathlib.Core.List.{List, [], ◌∷◌, ◌++◌, map}
use Rattle.std.specs.Prelude.{Option, Some, None}
use native.Mathlib.Omega.{arith}
use lib.ListN.{length, length-take, length-append, length-replicate}
use lib.Dec.{eqb, leb}
use borrow.Author.Tests.{eq-eqb, eqb-true, not-false}
use Rattle.layout.specs.declared.Slot.{Slot}
use Rattle.layout.specs.declared.Block.{Block}
use Rattle.layout.specs.declared.Label.{Label}
use Rattle.layout.specs.Places.{meta_of, meta_span}
use Rattle.layout.specs.Window.{array_of}
use Rattle.layout.proofs.Booleans.{Told, told, told_true, told_false, clash}
use Rattle.record.specs.declared.Record.{Record}
use Rattle.record.specs.declared.Phase.{Phase}
use Rattle.record.specs.declared.Phase.TheVariants.{Formatting, Recovering, Ready}
use Rattle.record.specs.Record.{window_in, callers_in, with_hand, with_phase, with_stamp}
use Rattle.record.proofs.WindowLaws.{length-array, length_without}
use Rattle.record.proofs.LeaveLaws.{beside_few}
use Rattle.record.proofs.CallerLaws.{length-callers}
use Rattle.protocol.specs.Reply.{Reply, refusal, answer, dealt, refused}
use Rattle.protocol.specs.Rows.{row_flags, writing}
use Rattle.protocol.specs.Box.{Box, left, Result, box_after}
use Rattle.protocol.specs.Plan.{slot_map, cost, Call, format, step, flush, reopen, offer, fetch, land_fetch, look_up, view, write_back, land, look_up_list, offer_list, ask, grown, Move, lowest_page, stepping, plan}
use Rattle.protocol.specs.Perform.{confirmed, landed_state, format_state, perform}
use Rattle.protocol.specs.Recovery.{label_at, metas_of, newest_of, spent_stamp, recover, off_page}
use Rattle.protocol.specs.Kinds.{Aim}
use Rattle.protocol.specs.declared.Refusal.{Refusal}
use Rattle.protocol.specs.declared.Refusal.TheVariants.{BadRows}
use Rattle.protocol.specs.Judge.{test, judged}
use Rattle.protocol.specs.Calls.{decided, effect_of, result_of}
use Rattle.protocol.specs.ReferenceDisk.{Disk}
use Rattle.protocol.specs.Events.{World, call, called, run}
use Rattle.laws.proofs.Judged as judging
use Rattle.laws.proofs.Accepted.{service_legal, service_ready, legal_sound}
use Rattle.laws.proofs.Sound.{Sound, room}
use Rattle.laws.proofs.Does.{Does, does_nothing, does_use, does_use_all, does_announce, does_copy, does_land, does_fetch, does_rest, does_confirm, Openings, opens_one, opens_more, grown-window, openings_sound}
use Rattle.laws.proofs.Sorted.{Sorted, is_format, is_reopen, is_step, is_service, sorted}
use Rattle.laws.proofs.refine.Windows.{length_nums}
use Rattle.laws.proofs.why.Answers.{plan_answers}
use Rattle.laws.proofs.SlotMaps.{changes_nothing}
use Rattle.stored.specs.Stored.{numbered_of}
use Rattle.stored.proofs.StoredLaws.{found, newest_bounded}
use Rattle.stored.proofs.RuleLaws.{passed}
use Rattle.c_record.specs.Words.{record_words, words_of, unpacked, is_record, record_in}
use Rattle.c_closing.specs.Closing.{words_after}
use Rattle.c_record.proofs.WordLaws.{window-length, callers-length}
use Rattle.c_closing.proofs.ClosedLaws.{record_length}
use Rattle.c_record.proofs.RoundTrip.{Whole, packed_is, unpacked_is, unpacked_packed}
use Rattle.ferjulm.specs.Calls.{Left, kept, left_by, result_by, left_in, c_call, c_fresh}
use Rattle.ferjulm.specs.Lists.{c_served, c_made, c_run, reaches, with_if, reached, box_in, ran_from, RunsAlike}

-- The window keeps its 63 places, and their callers.
off_few : (p : ℕ) (w : List Slot) → length (off_page p w) ≤ length w
unfolding off_page
off_few p [] = omega arith
off_few p (t ∷ w) = go (eqb (meta_of t) p) (off_few p w)
  where
    go : (b : Bool) → length (off_page p w) ≤ length w
        → length {A = Slot} (elim b [ true ↦ off_page p w | false ↦ t ∷ off_page p w ]) ≤ length (t ∷ w)
    go true h = omega arith
    go false h = omega arith

in_few : (r : Record) → Whole r → length (window_in r) ≤ 63
unfolding window_in
in_few r W = omega (arith, length-take r.count r.window, W.slots)

callers_few : (r : Record) → Whole r → length (callers_in r) ≤ 63
unfolding callers_in
callers_few r W = omega (arith, length-take r.count r.callers, W.callers)

-- where the window has room, so have its callers
callers-room : (r : Record) → Whole r → length (window_in r) < 63 → length (callers_in r) < 63
unfolding window_in callers_in
callers-room r W h = omega (arith, length-take r.count r.window, length-take r.count r.callers, W.slots, W.callers)

module _ (x : Box) (whole : Whole x.state) where
  landed-whole : (o : Bool) (s : Slot) → Whole (landed_state o s x.state)
  landed-whole true s =
      let w = window_in x.state in
      let cs = callers_in x.state in
      record {
        slots = length-array _ (omega (arith, length_without s w, in_few x.state whole));
        callers = length-callers _ (omega (arith, beside_few s w cs, callers_few x.state whole));
      }
  landed-whole false s = whole

  steps-whole : (p : Phase) → Whole (perform (stepping x.state p) x).state
  unfolding perform confirmed
  steps-whole (Formatting d) = go (leb (meta_span x.state.label + 1) d)
    where
      go : (b : Bool)
          → Whole (elim b [
            | true ↦ with_phase (with_hand (with_stamp x.state 0) (record { 0 = 0 })) Ready
            | false ↦ with_phase x.state (Formatting (d + 1))
          ])
      go true = record { slots = whole.slots; callers = whole.callers }
      go false = record { slots = whole.slots; callers = whole.callers }
  steps-whole Recovering = record {
    slots = length-array _ (omega (arith, off_few (lowest_page (window_in x.state)) (window_in x.state), in_few x.state whole));
    callers = whole.callers;
  }
  steps-whole Ready = whole

  -- a slot joins a window that has room, in the box or in what openings left of it
  joined-whole : (r : Record) → Whole r → (h s : Slot) (c : ℕ) → length (window_in r) < 63
      → Whole (grown x.state h (window_in r ++ (s ∷ [])) (callers_in r ++ (c ∷ [])))
  joined-whole r W h s c few = record {
    slots = length-array _ (omega (arith, length-append (window_in r) (s ∷ []), few));
    callers = length-callers _ (omega (arith, length-append (callers_in r) (c ∷ []), callers-room r W few));
  }

  openings_whole : Sound x.state.label x.table (window_in x.state) → {q : ℕ} {t : List ℕ} {h : Slot} {w : List Slot} {cs : List ℕ}
      → Openings x q t h w cs → Whole (grown x.state h w cs)
  openings_whole S {h = hand} (opens_one {s = s} {c = c} O e) =
      joined-whole x.state whole hand s c (omega (arith, room S O.few, length_nums (window_in x.state)))
  openings_whole S {h = hand} (opens_more {h = h} {w = w} {cs = cs} {s = s} {c = c} Os O e) =
      let T = openings_sound Os S in
      joined-whole (grown x.state h w cs) (openings_whole S Os) hand s c
      (rw grown-window (omega (arith, room T O.few, length_nums w)))

  does_whole : {a : Aim} {m : Move} → Sound x.state.label x.table (window_in x.state) → Does x a m → Whole (perform m x).state
  unfolding perform confirmed
  does_whole S (does_nothing z n) = whole
  does_whole S (does_use z n H) = whole
  does_whole S (does_use_all z A) = whole
  does_whole S (does_announce z n O spare) = let W = openings_whole S O in record { slots = W.slots; callers = W.callers }
  does_whole S (does_copy z n C) = record { slots = whole.slots; callers = whole.callers }
  does_whole S (does_land {s = s} H bl y size) = landed-whole (writing (row_flags x.table s)) s
  does_whole S (does_fetch {s = s} z H bl w) = landed-whole (writing (row_flags x.table s)) s
  does_whole S (does_rest n u) = whole
  does_whole S (does_confirm u n) = record { slots = whole.slots; callers = whole.callers }

  recovers-whole : judged reopen x ≡ None → let l = label_at x.images.ssd in
      Whole (recover l (metas_of l x.images.ssd) (spent_stamp l x.images.ssd)).state
  unfolding recover test
  recovers-whole e =
      let l = label_at x.images.ssd in
      let pages = metas_of l x.images.ssd in
      let P = passed l pages (not-false _ (judging.passed reopen x e BadRows refl)) in
      let f = found pages (numbered_of pages) refl in
      let few : length (newest_of pages).window ≤ 63 =
      rw f.newest_is at (newest_bounded l pages _ P.legal f.on_page_is).most in
      record { slots = length-array _ few; callers = length-replicate {A = ℕ} 63 0 }

  plan-whole : (c : Call) → judged c x ≡ None → Whole (perform (plan c x) x).state
  plan-whole c = go (sorted c)
    where
      go : {c : Call} → Sorted c → judged c x ≡ None → Whole (perform (plan c x) x).state
      go (is_format slots blocks) e = unfold plan perform in
          (record { slots = length-array [] (omega arith); callers = length-replicate {A = ℕ} 63 0 })
      go is_reopen e = unfold plan perform in (recovers-whole e)
      go is_step e = unfold plan in (steps-whole x.state.phase)
      go {c} (is_service K does) e =
          does_whole (legal_sound x (service_legal c x K e) (service_ready c x K e)) (does x e)

-- so many words have a window of 63 places, and their callers
words-whole : (words : List ℕ) → length words ≡ 134 → Whole (unpacked words)
unfolding unpacked
words-whole words n = record { slots = window-length words n; callers = callers-length words n }

-- What a call's answer leaves of the words, unpacked, is its record; and words that are a record stay one.
module _ (c : Call) (k : Left) where
  abbrev R : Result
  R = result_of c (box_in k)

  abbrev by : Left
  by = left_by R k.words

  after-unpacked : (said : Reply) (r : Record) → refused said ≡ false → Whole r → unpacked (words_after said r k.words) ≡ r
  after-unpacked (refusal n) r h w = clash refl h
  after-unpacked (answer n s) r h w = unpacked_is r w
  after-unpacked (dealt n) r h w = unpacked_is r w

  after_record : (said : Reply) (r : Record) → refused said ≡ false → Whole r → is_record (words_after said r k.words) ≡ true
  after_record (refusal n) r h w = clash refl h
  after_record (answer n s) r h w = packed_is r w
  after_record (dealt n) r h w = packed_is r w

  left-box : length k.words ≡ 134 → box_in by ≡ box_after R
  unfolding effect_of
  left-box size = by_reason (judged c (box_in k)) refl
    where
      by_reason : (o : Option Refusal) → judged c (box_in k) ≡ o
          → let Q = left (decided o c (box_in k)) (box_in k).images in box_in (left_by Q k.words) ≡ box_after Q
      by_reason (Some r) e = refl
      by_reason None e =
          rw (after-unpacked _ _ (plan_answers c (box_in k) e) (plan-whole (box_in k) (words-whole k.words size) c e))

  left_record : is_record k.words ≡ true → is_record by.words ≡ true
  unfolding effect_of
  left_record h = by_reason (judged c (box_in k)) refl
    where
      by_reason : (o : Option Refusal) → judged c (box_in k) ≡ o
          → is_record (words_after (decided o c (box_in k)).said (decided o c (box_in k)).state k.words) ≡ true
      by_reason (Some r) e = h
      by_reason None e =
          let q = perform (plan c (box_in k)) (box_in k) in
          after_record q.said q.state (plan_answers c (box_in k) e) (plan-whole (box_in k) (words-whole k.words (record_length k.words h)) c e)

-- One call: past the words it is the box's call, else nothing changes.
record Once (c : Call) (k : Left) : Type 0 where
  made : reaches c k.words ≡ true → box_in (c_made c k) ≡ box_after (result_of c (box_in k))
  stays : reaches c k.words ≡ false → box_in (c_made c k) ≡ box_in k
  reach : is_record k.words ≡ true → reaches c k.words ≡ true
  stay_record : is_record k.words ≡ true → is_record (c_made c k).words ≡ true

module _ (c : Call) (k : Left) where
  -- by words that must be a record
  served_as : (b : Bool) → is_record k.words ≡ b
      → c_served c k ≡ left_in (result_by (cond b (Some (unpacked k.words)) None) c k.ssd k.hdd k.table) k.ssd k.hdd k.table k.words
  unfolding c_call
  served_as b h = rw h

  served_once : c_made c k ≡ c_served c k → reaches c k.words ≡ is_record k.words → Once c k
  served_once m r = record {
    made = λ h. ap box_in (m ∙ served_as true (sym r ∙ h)) ∙ left-box c k (record_length k.words (sym r ∙ h));
    stays = λ h. ap box_in (m ∙ served_as false (sym r ∙ h));
    reach = λ h. r ∙ h;
    stay_record = λ h. ap (λ (q : Left). is_record q.words) (m ∙ served_as true h) ∙ left_record c k h;
  }

  -- by any 134 words
  fresh_as : (n : ℕ) (b : Bool) → eqb (length k.words) record_words ≡ b
      → c_fresh n c k.ssd k.hdd k.table k.words ≡ cond b (by c k) (kept n k.ssd k.hdd k.table k.words)
  unfolding c_fresh
  fresh_as n b h = rw h

  fresh-once : (n : ℕ) → c_made c k ≡ c_fresh n c k.ssd k.hdd k.table k.words
      → reaches c k.words ≡ eqb (length k.words) record_words → Once c k
  fresh-once n m r = record {
    made = λ h. ap box_in (m ∙ fresh_as n true (sym r ∙ h)) ∙ left-box c k (eqb-true _ _ (sym r ∙ h));
    stays = λ h. ap box_in (m ∙ fresh_as n false (sym r ∙ h));
    reach = λ h. r ∙ long h;
    stay_record = λ h. ap (λ (q : Left). is_record q.words) (m ∙ fresh_as n true (long h)) ∙ left_record c k h;
  }
    where
      long : is_record k.words ≡ true → eqb (length k.words) record_words ≡ true
      long h = eq-eqb _ _ (record_length k.words h)

-- a view leaves the box
view_box : (b : Block) (x : Box) → x ≡ box_after (result_of (view b) x)
unfolding effect_of plan perform
view_box b x = by_reason (judged (view b) x)
  where
    by_reason : (o : Option Refusal) → x ≡ box_after (left (decided o (view b) x) x.images)
    by_reason (Some r) = refl
    by_reason None = refl

once : (c : Call) (k : Left) → Once c k
once (format slots blocks) k = fresh-once (format slots blocks) k _ refl refl
once step k = served_once step k refl refl
once flush k = served_once flush k refl refl
once reopen k = fresh-once reopen k _ refl refl
once (offer b caller) k = served_once (offer b caller) k refl refl
once (fetch b caller) k = served_once (fetch b caller) k refl refl
once (land_fetch b) k = served_once (land_fetch b) k refl refl
once (look_up b) k = served_once (look_up b) k refl refl
once (view b) k = record { made = λ h. view_box b (box_in k); stays = λ h. refl; reach = λ h. h; stay_record = λ h. h }
once (write_back b) k = served_once (write_back b) k refl refl
once (land b page) k = served_once (land b page) k refl refl
once (ask (slot_map n)) k = record {
  made = λ h. sym (changes_nothing (slot_map n) (box_in k)).box;
  stays = λ h. refl;
  reach = λ h. h;
  stay_record = λ h. h;
}
once (ask (cost blocks caller n)) k = record {
  made = λ h. sym (changes_nothing (cost blocks caller n) (box_in k)).box;
  stays = λ h. refl;
  reach = λ h. h;
  stay_record = λ h. h;
}
once (look_up_list blocks room) k = served_once (look_up_list blocks room) k refl refl
once (offer_list blocks caller) k = served_once (offer_list blocks caller) k refl refl

-- The list.
module _ (c : Call) (cs : List Call) (k : Left) (d : Disk) where
  abbrev next : Disk
  next = (called c (record { box = box_in k; disk = d })).disk

  -- a call that gets past the words is the list's first
  ran_more : reaches c k.words ≡ true → ran_from (c_made c k) next cs ≡ ran_from k d (c ∷ cs)
  unfolding run called
  ran_more h = ap (λ (x : Box). (run (map call cs) (record { box = x; disk = next })).box) ((once c k).made h)

runs_any : (cs : List Call) (k : Left) (d : Disk) → box_in (c_run cs k) ≡ ran_from k d (reached cs k)
unfolding c_run reached run
runs_any [] k d = refl
runs_any (c ∷ cs) k d = go (told (reaches c k.words)) (runs_any cs (c_made c k))
  where
    go : Told (reaches c k.words) → ((e : Disk) → box_in (c_run cs (c_made c k)) ≡ ran_from (c_made c k) e (reached cs (c_made c k)))
        → box_in (c_run cs (c_made c k)) ≡ ran_from k d (with_if (reaches c k.words) c (reached cs (c_made c k)))
    go (told_true h) ih = rw h (ih (next c cs k d) ∙ ran_more c (reached cs (c_made c k)) k d h)
    go (told_false h) ih =
        rw h (ih d ∙ ap (λ (x : Box). (run (map call (reached cs (c_made c k))) (record { box = x; disk = d })).box) ((once c k).stays h))

reach_all : (cs : List Call) (k : Left) → is_record k.words ≡ true → (reached cs k ≡ cs) × (is_record (c_run cs k).words ≡ true)
unfolding c_run reached
reach_all [] k h = (refl, h)
reach_all (c ∷ cs) k h =
    let q = reach_all cs (c_made c k) ((once c k).stay_record h) in
    (rw ((once c k).reach h, q.0), q.1)

pub runs_alike : (cs : List Call) (k : Left) (d : Disk) → RunsAlike cs k d
runs_alike cs k d = record {
  any = runs_any cs k d;
  all = λ h. (reach_all cs k h).0;
  unpacks = unpacks;
  packs = λ h. unpacked_packed (c_run cs k).words (ran_from k d cs).state (unpacks h);
}
  where
    unpacks : is_record k.words ≡ true → record_in (c_run cs k).words ≡ Some (ran_from k d cs).state
    unpacks h =
        let q = reach_all cs k h in
        rw q.1 (ap (λ (x : Box). Some x.state) (runs_any cs k d ∙ ap (ran_from k d) q.0))
