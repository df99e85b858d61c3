-- Every page that a call stores is 4,096 bytes; every metadata page among them keeps the page's rule, and says table, window and stamp.
use Prim.Native.Nat.{ℕ, zero, suc, ◌+◌, ◌^◌, ◌<◌}
use mathlib.Core.Path.{◌≡◌, refl, sym, ap, subst, ◌∙◌}
use mathlib.Core.Logic.{◌≢◌}
use mathlib.Core.Bool.{Bool, true, false, ◌&&◌}
use mathlib.Core.List.{List, [], ◌∷◌}
use Rattle.std.specs.Prelude.{Option, Some, None}
use Rattle.std.proofs.lemmas.Option.{same_Some, none-some}
use native.Mathlib.Omega.{arith}
use lib.ListN.{length}
use lib.Dec.{leb}
use borrow.Author.Tests.{leb-false}
use Rattle.pages.specs.Pages.{IsPage}
use Rattle.pages.proofs.PageLaws.{length-page, length_zero}
use Rattle.layout.specs.declared.Slot.{Slot}
use Rattle.layout.specs.declared.Label.{Label}
use Rattle.layout.specs.Places.{Limits, meta_pages, meta_place, data_place, block_place, table_length, meta_span}
use Rattle.layout.specs.LabelPage.{encode_label}
use Rattle.layout.specs.MetaPage.{encode_meta, rows_on}
use Rattle.protocol.specs.Metadata.{store_place, meta_bytes}
use Rattle.layout.specs.PageRule.{PageRule}
use Rattle.layout.specs.Stamps.{largest_stamp, opening_bound}
use Rattle.layout.proofs.StampLaws.{stamp_fits}
use Rattle.layout.proofs.PlaceLaws.{page-place, meta_not-label, metas_one, meta_below_data, data_within}
use Rattle.layout.proofs.LabelLaws.{length_encode}
use Rattle.layout.proofs.RuleLaws.{page-rule}
use Rattle.record.specs.declared.Record.{Record}
use Rattle.record.specs.declared.Phase.{Phase}
use Rattle.record.specs.declared.Phase.TheVariants.{Formatting, Recovering, Ready}
use Rattle.protocol.specs.Reply.{Reply, done}
use Rattle.record.specs.Record.{label_in, window_in, with_hand, with_phase, with_stamp}
use Rattle.protocol.specs.Box.{Box, Image, ssd_image, hdd_image, Store, Effect}
use Rattle.protocol.specs.Recovery.{off_page}
use Rattle.protocol.specs.Plan.{Call, step, grown, announces, lands, mends, formats, lowest_page, stepping, plan, stores_meta, Move}
use Rattle.protocol.specs.Perform.{confirmed, landed_in, mended_at, format_store, format_state, perform}
use Rattle.protocol.specs.declared.Refusal.{Refusal}
use Rattle.protocol.specs.declared.Refusal.TheVariants.{StampsSpent}
use Rattle.protocol.specs.Judge.{is_empty, agree_test, test, judged}
use Rattle.protocol.specs.Calls.{decided, effect_of}
use Rattle.protocol.specs.Beside.{stamp_stored, MetaStored, StoresLegally}
use Rattle.layout.proofs.Booleans.{Told, told, told_true, told_false, clash, and_parts}
use Rattle.laws.proofs.model.Base.{Window, keep_window}
use Rattle.laws.proofs.refine.Windows.{nums, length_nums, nums_off}
use Rattle.record.proofs.WindowLaws.{take-array}
use Rattle.laws.proofs.refine.Tables.{Rows}
use Rattle.protocol.specs.Kinds.{Aim}
use Rattle.theorem.proofs.refine.Stores.{rows-length, page-stamp, page-window, page_entry, page-legal}
use Rattle.theorem.proofs.RoundTrip.{encoded_page, reads_back}
use Rattle.laws.proofs.Judged.{passed}
use Rattle.theorem.proofs.UpdateFirst.{none_of}
use Rattle.laws.proofs.Sound.{Sound}
use Rattle.laws.proofs.Accepted.{Legal, step_legal, service_legal, service_ready, legal_sound}
use Rattle.laws.proofs.Does.{Openings, Does, does_nothing, does_use, does_use_all, does_announce, does_copy, does_land, does_fetch, does_rest, does_confirm, grown-window, openings_sound}
use Rattle.laws.proofs.Sorted.{Sorted, is_format, is_reopen, is_step, is_service, sorted}

-- a page of this table, window and stamp
meta_stored : (l : Label) → Limits l → (table : List ℕ) → length table ≡ table_length l → Rows l table → (t : ℕ) → t < 2 ^ 32
    → (w : List Slot) → Window l.slots (nums w) → (t ≡ 0 → w ≡ [])
    → (p : ℕ) (ph : Phase) (r : Record) → t ≡ stamp_stored ph r.newest → window_in r ≡ w
    → MetaStored l p (encode_meta t w (rows_on p table)) ph r table
meta_stored l K table size R t fits w W z p ph r st wi = record {
  legal = legal;
  is_page = whole;
  again = reads_back l p _ whole legal;
  stamp = page-stamp l K table size R t fits w W p ∙ st;
  window = page-window l K table size R t fits w W p ∙ sym wi;
  entries = page_entry l K table size R t fits w W p;
}
  where
    legal : PageRule l p (encode_meta t w (rows_on p table))
    legal = (page-rule l p _).0 (page-legal l K table size R t fits w W p z)

    whole : IsPage (encode_meta t w (rows_on p table))
    whole = encoded_page t w (rows_on p table) (omega (arith, W.fits, length_nums w)) (omega (arith, rows-length l table size p))

-- what is asked of an effect
abbrev Stores : Label → Phase → Effect → Type 0
Stores l ph e =
    (s : Store) → e.store ≡ Some s
    → (length s.bytes ≡ 4096)
    × (s.image ≡ ssd_image → (p : ℕ) → p < meta_pages l → s.place ≡ meta_place l p → MetaStored l p s.bytes ph e.state e.table)

no_store : {A : Type 0} {s : Store} → None ≡ Some s → A
no_store {s = s} q = absurd (none-some s q)

the_store : {s t : Store} → Some s ≡ Some t → s ≡ t
the_store {s} {t} q = same_Some s t q

sized : {s t : Store} → s ≡ t → length s.bytes ≡ 4096 → length t.bytes ≡ 4096
sized q n = ap (λ (u : Store). length u.bytes) (sym q) ∙ n

-- a store on the HDD is none on the SSD
is_ssd : Image → Bool
is_ssd ssd_image = true
is_ssd hdd_image = false

hdd-not : {A : Type 0} {pl : ℕ} {by : List ℕ} {s : Store} → record { image = hdd_image; place = pl; bytes = by } ≡ s → s.image ≡ ssd_image
    → A
unfolding is_ssd
hdd-not q i = clash {b = true} refl (sym (ap is_ssd (ap (λ (t : Store). t.image) q ∙ i)))

-- an effect with this one metadata store
one_store : (l : Label) (ph : Phase) (e : Effect) (q : ℕ) (bytes : List ℕ)
    → e.store ≡ Some (record { image = ssd_image; place = meta_place l q; bytes = bytes }) → MetaStored l q bytes ph e.state e.table
    → Stores l ph e
one_store l ph e q bytes f M s g = (sized same M.is_page.size, at)
  where
    same : record { image = ssd_image; place = meta_place l q; bytes = bytes } ≡ s
    same = the_store (sym f ∙ g)

    at : s.image ≡ ssd_image → (p : ℕ) → p < meta_pages l → s.place ≡ meta_place l p → MetaStored l p s.bytes ph e.state e.table
    at i p h pl =
        subst (λ (m : ℕ). MetaStored l m s.bytes ph e.state e.table)
        (metas_one l q p (ap (λ (t : Store). t.place) same ∙ pl))
        (subst (λ (t : Store). MetaStored l q t.bytes ph e.state e.table) same M)

-- an effect that stores elsewhere
elsewhere : (l : Label) (ph : Phase) (e : Effect) (u : Store) → e.store ≡ Some u → length u.bytes ≡ 4096
    → ((p : ℕ) → p < meta_pages l → u.place ≢ meta_place l p) → Stores l ph e
elsewhere l ph e u f z n s g =
    (sized (the_store (sym f ∙ g)) z, λ i p h pl. absurd (n p h (ap (λ (t : Store). t.place) (the_store (sym f ∙ g)) ∙ pl)))

-- not formatting
data Serving : Phase → Type 0 where
  ready : Serving Ready
  recovering : Serving Recovering

-- a metadata store
confirmed_stores : (l : Label) → Limits l → (r : Record) → label_in r ≡ l → (table : List ℕ) → length table ≡ table_length l → Rows l table
    → r.newest < largest_stamp (label_in r)
    → Window l.slots (nums (window_in r)) → (ph : Phase) → Serving ph → (q : ℕ) (said : Reply) (ssd : List ℕ)
    → Stores l ph (confirmed q said r table ssd)
unfolding confirmed store_place meta_bytes
confirmed_stores l K r e table size R n W ph v q said ssd =
    one_store l ph (confirmed q said r table ssd) q _
    (ap (λ (k : Label). Some (record {
      image = ssd_image;
      place = meta_place k q;
      bytes = encode_meta (r.newest + 1) (window_in r) (rows_on q table);
    })) e)
    (meta_stored l K table size R (r.newest + 1) (omega (arith, stamp_fits (label_in r))) (window_in r) W (λ z. absurd (omega arith)) q ph
    (with_stamp r (r.newest + 1)) (go v) (unfold window_in in refl))
  where
    go : {h : Phase} → Serving h → r.newest + 1 ≡ stamp_stored h (r.newest + 1)
    go ready = refl
    go recovering = refl

-- data pages
lands_elsewhere : (l : Label) (ph : Phase) (write : Bool) (s : Slot) (d : List ℕ) (x : Box) → label_in x.state ≡ l → length d ≡ 4096
    → Stores l ph (perform (lands write s d) x)
unfolding perform
lands_elsewhere l ph write s d x e z = elsewhere l ph (landed_in write s d x) _ refl z past
  where
    past : (p : ℕ) → p < meta_pages l → data_place (label_in x.state) s ≢ meta_place l p
    past p h q = omega (arith, q, ap (λ (k : Label). data_place k s) e, meta_below_data l p (page-place l p h) s)

-- a legal box that is ready
module _ (x : Box) (L : Legal x) (on : x.state.phase ≡ Ready) where
  abbrev lab : Label
  lab = label_in x.state

  S : Sound lab x.table (window_in x.state)
  S = legal_sound x L on

  serving : Serving x.state.phase
  serving = rw on ready

  announces_stores : (said : Reply) {q : ℕ} {t : List ℕ} {hand : Slot} {w : List Slot} {cs : List ℕ} → Openings x q t hand w cs
      → x.state.newest < opening_bound (label_in x.state) → Stores lab x.state.phase (perform (announces said q t hand w cs) x)
  unfolding perform
  announces_stores said {q} {t} {hand} {w} {cs} O spare =
      let T = openings_sound O S in
      confirmed_stores lab L.limits (grown x.state hand w cs) refl t T.size T.legal (omega arith)
      (subst (λ (z : List Slot). Window x.state.label.slots (nums z)) (sym (grown-window x.state hand w cs)) T.rule)
      x.state.phase serving q said x.images.ssd

  does_stores : {a : Aim} {m : Move} → Does x a m → Stores lab x.state.phase (perform m x)
  unfolding perform
  does_stores (does_nothing z n) = λ s g. no_store g
  does_stores (does_use z n H) = λ s g. no_store g
  does_stores (does_use_all z A) = λ s g. no_store g
  does_stores (does_announce {said = said} z n O spare) = announces_stores said O spare
  does_stores (does_copy {s = s} z n C) =
      λ t g. (
        sized (the_store g) (length-page x.images.ssd (data_place lab s)
            (rw L.ssd-size (data_within lab s C.low))),
        λ i. hdd-not (the_store g) i,
      )
  does_stores (does_land H bl d size) = lands_elsewhere lab x.state.phase true _ _ x refl size
  does_stores (does_fetch {b = b} z H bl w) =
      lands_elsewhere lab x.state.phase false _ _ x refl (length-page x.images.hdd (block_place lab b) (omega (arith, L.hdd-size, bl)))
  does_stores (does_rest n u) = λ s g. no_store g
  does_stores (does_confirm u n) =
      confirmed_stores lab L.limits x.state refl x.table S.size S.legal n S.rule x.state.phase serving 0 done
      x.images.ssd

-- a step
module _ (x : Box) (L : Legal x) where
  mended_window : (q : ℕ) → window_in (mended_at q x.state) ≡ off_page q (window_in x.state)
  unfolding window_in
  mended_window q = take-array (off_page q (window_in x.state))

  mends_stores : x.state.phase ≡ Recovering → x.state.newest < largest_stamp (label_in x.state)
      → Stores (label_in x.state) x.state.phase (perform (mends (lowest_page (window_in x.state))) x)
  unfolding perform
  mends_stores on n =
      let q : ℕ = lowest_page (window_in x.state) in
      confirmed_stores (label_in x.state) L.limits (mended_at q x.state) refl x.table L.table-size L.rows n
      (subst (λ (z : List Slot). Window x.state.label.slots (nums z)) (sym (mended_window q))
      (subst (λ (z : List ℕ). Window x.state.label.slots z) (sym (nums_off q (window_in x.state)))
      (keep_window _ x.state.label.slots (nums (window_in x.state)) L.window-rule)))
      x.state.phase (rw on recovering) q done x.images.ssd

  -- while formatting nothing is open
  none_open : (d : ℕ) → x.state.phase ≡ Formatting d → window_in x.state ≡ []
  none_open d on = go (window_in x.state)
      (and_parts (is_empty (window_in x.state)) _
      (subst (λ (q : Phase). agree_test q x.table (window_in x.state) ≡ true) on L.agree)).0
    where
      go : (w : List Slot) → is_empty w ≡ true → w ≡ []
      go [] e = refl
      go (s ∷ w) e = clash {b = false} e refl

  format-window : (d : ℕ) → window_in (format_state (label_in x.state) x.state d) ≡ window_in x.state
  unfolding window_in
  format-window d = go (leb (meta_span (label_in x.state) + 1) d)
    where
      go : (b : Bool) → window_in (elim b [
        | true ↦ with_phase
            (with_hand (with_stamp x.state 0) (record { 0 = 0 })) Ready
        | false ↦ with_phase x.state (Formatting (d + 1))
      ]) ≡ window_in
          x.state
      go true = refl
      go false = refl

  formats_stores : (d : ℕ) → x.state.phase ≡ Formatting d → Stores (label_in x.state) x.state.phase (perform (formats d) x)
  unfolding perform meta_bytes
  formats_stores zero on = elsewhere (label_in x.state) x.state.phase (perform (formats 0) x) _ refl length_zero
      (λ p h q. meta_not-label (label_in x.state) p (sym q))
  formats_stores (suc q) on = go (told (leb (meta_span (label_in x.state)) q))
    where
      meta : MetaStored (label_in x.state) q (encode_meta 0 (window_in x.state) (rows_on q x.table)) x.state.phase
          (format_state (label_in x.state) x.state (suc q)) x.table
      meta =
          meta_stored (label_in x.state) L.limits x.table L.table-size L.rows 0 (omega arith) (window_in x.state)
          L.window-rule (λ _. none_open (suc q) on) q x.state.phase _
          (rw on refl) (format-window (suc q))

      go : Told (leb (meta_span (label_in x.state)) q) → Stores (label_in x.state) x.state.phase (perform (formats (suc q)) x)
      go (told_true e) = elsewhere (label_in x.state) x.state.phase (perform (formats (suc q)) x)
          (record { image = ssd_image; place = 0; bytes = encode_label (label_in x.state) }) (rw (format_store, e))
          (length_encode (label_in x.state)) (λ p h z. meta_not-label (label_in x.state) p (sym z))
      go (told_false e) = one_store (label_in x.state) x.state.phase (perform (formats (suc q)) x) q _ (rw (format_store, e)) meta

  step_stores : (ph : Phase) → x.state.phase ≡ ph → (stores_meta (stepping x.state ph) && leb (largest_stamp (label_in x.state))
      x.state.newest) ≡ false
      → Stores (label_in x.state) x.state.phase (perform (stepping x.state ph) x)
  unfolding perform
  step_stores (Formatting d) on spent = formats_stores d on
  step_stores Recovering on spent = mends_stores on (leb-false _ _ spent)
  step_stores Ready on spent = λ s g. no_store g

-- a call that no reason refuses
made_stores : {c : Call} → Sorted c → (x : Box) → judged c x ≡ None → Stores (label_in x.state) x.state.phase (perform (plan c x) x)
made_stores (is_format slots blocks) x e = unfold plan perform in λ s g. no_store g
made_stores is_reopen x e = unfold plan perform in λ s g. no_store g
made_stores is_step x e =
    unfold test plan in (step_stores x (step_legal x e) x.state.phase refl (passed step x e StampsSpent refl))
made_stores (is_service {c} k does) x e = does_stores x (service_legal c x k e) (service_ready c x k e) (does x e)

pub stores_legally : (c : Call) (x : Box) → StoresLegally c x
unfolding effect_of
stores_legally c x r s g =
    let e = none_of c x r in
    (subst (λ (o : Option Refusal). Stores (label_in x.state) x.state.phase (decided o c x)) (sym e) (made_stores (sorted c) x e) s g).1

-- a refused call stores nothing, so this is of any call
pub stores_whole : (c : Call) (x : Box) (s : Store) → (effect_of c x).store ≡ Some s → length s.bytes ≡ 4096
unfolding effect_of
stores_whole c x s = by_reason (judged c x) refl
  where
    by_reason : (o : Option Refusal) → judged c x ≡ o → (decided o c x).store ≡ Some s → length s.bytes ≡ 4096
    by_reason (Some r) e g = no_store g
    by_reason None e g = (made_stores (sorted c) x e s g).0
