-- The run of a load is a list of demand 3, and so every block reads as on a plain disk.
use Prim.Native.Nat.{ℕ, zero, suc, ◌+◌, ◌≤◌, ◌<◌}
use mathlib.Core.Path.{◌≡◌, refl, sym, ap, subst, ◌∙◌}
use mathlib.Core.Bool.{Bool, true, false, cond}
use mathlib.Core.List.{List, []}
use native.Mathlib.Omega.{arith}
use native.Mathlib.Numerals.{add-one}
use native.Mathlib.Decide.{ℕ_discrete}
use lib.ListN.{length, length-replicate}
use lib.Dec.{eqb}
use borrow.Author.Tests.{eq-eqb, ne_eqb}
use Rattle.pages.specs.Pages.{page_at, put_page}
use Rattle.pages.proofs.PageLaws.{length_put, put_same, put_other}
use Rattle.layout.specs.declared.Block.{Block}
use Rattle.layout.specs.declared.Label.{Label}
use Rattle.record.specs.declared.Phase.TheVariants.{Ready}
use Rattle.protocol.specs.Reply.{refused}
use Rattle.protocol.specs.Box.{Box, box_after}
use Rattle.protocol.specs.Plan.{Call, land_fetch, land}
use Rattle.protocol.specs.Kinds.{aims_by, aims, no_block, to_serve, to_settle, to_write, to_fetch, to_land_fetch, to_land, aim}
use Rattle.protocol.specs.Judge.{is_ready}
use Rattle.protocol.specs.Calls.{result_of}
use Rattle.protocol.specs.ReferenceDisk.{Disk, fed_call}
use Rattle.protocol.specs.Events.{World, call, called, run, read_of}
use Rattle.laws.proofs.Does.{flush_does, offer_does, fetch_does, land_fetch_does, look_up_does, land_does}
use Rattle.theorem.proofs.refine.Formatting.{whole-format}
use Rattle.draws.specs.declared.Kind.{Kind}
use Rattle.draws.specs.declared.Kind.TheVariants.{Write, Fetch, LookUp, Flush}
use Rattle.draws.specs.Draws.{drawn, kind_of, block_of, draw_page}
use Rattle.draws.proofs.DrawLaws.{page-length}
use Rattle.protocol.specs.Cost.{is_copied_out}
use Rattle.load_calls.specs.Openings.{opening, again_if, past}
use Rattle.load_turns.specs.Turns.{fed_if, landed, land_if, turned}
use Rattle.load_text.specs.LoadText.{counted}
use Rattle.load_run.specs.Runs.{blank, Load, begun, run_from, same, equal_to}
use Rattle.load_run.specs.Equal.{AllEqual}
use Rattle.load_run.proofs.SameLaws.{same_self}
use Rattle.load_theorem.proofs.Lists.{blank-taken, start, Reached, one_more, reached_safe}
use Rattle.load_theorem.proofs.Served.{Service, fed_by, phase_kept, service_fits, service_feeds}

-- a ready box that a list of demand 3 has reached, with the plain disk's pages beside it
record Kept (x : Box) (plain : List ℕ) : Type 0 where
  disk : Disk
  reached : Reached (record { box = x; disk = disk })
  ready : x.state.phase ≡ Ready
  size : length plain ≡ 32768
  pages : (b : Block) → b.0 < 8 → disk.page b ≡ page_at plain b.0

-- a service, with the reference disk as it is fed
module _ (c : Call) (S : Service c) (x : Box) where
  abbrev fed_after : Disk → Disk
  fed_after d = fed_by c (refused (result_of c x).said) d

  reach_next : (d : Disk) → Reached (record { box = x; disk = d }) → Reached (record { box = box_after (result_of c x); disk = fed_after d })
  unfolding called
  reach_next d r =
      let w : World = record { box = x; disk = d } in
      subst (λ (e : Disk). Reached (record { box = box_after (result_of c x); disk = e })) (service_feeds c S w)
      (one_more (call c) (service_fits c S w) r)

  kept_next : (plain after : List ℕ) → length after ≡ 32768 → (K : Kept x plain)
      → ((b : Block) → b.0 < 8 → (fed_after K.disk).page b ≡ page_at after b.0) → Kept (box_after (result_of c x)) after
  kept_next plain after size K pages = record {
    disk = fed_after K.disk;
    reached = reach_next K.disk K.reached;
    ready = phase_kept c S x ∙ K.ready;
    size = size;
    pages = pages;
  }

-- one that lands no write
module _ (c : Call) (S : Service c) (quiet : (d : Disk) → (fed_call (aim c).purpose (aim c).block d).page ≡ d.page) where
  fed_quiet : (t : Bool) (d : Disk) → (fed_by c t d).page ≡ d.page
  fed_quiet true d = refl
  fed_quiet false d = quiet d

  quiet_next : (x : Box) (plain : List ℕ) → Kept x plain → Kept (box_after (result_of c x)) plain
  quiet_next x plain K =
      kept_next c S x plain plain K.size K
      (λ b h. ap (λ (f : Block → List ℕ). f b) (fed_quiet (refused (result_of c x).said) K.disk) ∙ K.pages b h)

  past_next : (x : Box) (plain : List ℕ) → Kept x plain → Kept (box_after (past c x)) plain
  unfolding past
  past_next x plain K = go (is_copied_out (result_of c x).said) (quiet_next x plain K)
    where
      go : (t : Bool) → Kept (box_after (result_of c x)) plain → Kept (box_after (again_if t c (result_of c x))) plain
      go true L = quiet_next (box_after (result_of c x)) plain L
      go false L = L

-- the call that a draw begins with
opening_served : (k : Kind) (b : Block) → Service (opening k b)
opening_served Write b = record { aimed = aims_by b to_write 0; kind_is = refl; does = λ x. offer_does x b 0 }
opening_served Fetch b = record { aimed = aims_by b to_fetch 0; kind_is = refl; does = λ x. fetch_does x b 0 }
opening_served LookUp b = record { aimed = aims b to_serve; kind_is = refl; does = λ x. look_up_does x b }
opening_served Flush b = record { aimed = aims no_block to_settle; kind_is = refl; does = flush_does }

opening_quiet : (k : Kind) (b : Block) (d : Disk) → (fed_call (aim (opening k b)).purpose (aim (opening k b)).block d).page ≡ d.page
opening_quiet Write b d = refl
opening_quiet Fetch b d = refl
opening_quiet LookUp b d = refl
opening_quiet Flush b d = refl

-- a landed write: the plain disk's page is the reference disk's
module _ (b : Block) (page plain : List ℕ) (low : b.0 < 8) (full : length page ≡ 4096) (size : length plain ≡ 32768) where
  fed-size : (t : Bool) → length (fed_if t b page plain) ≡ 32768
  fed-size true = size
  fed-size false = length_put plain page b.0 (omega arith) full ∙ size

  fed-pages : (t : Bool) (d : Disk) → ((c : Block) → c.0 < 8 → d.page c ≡ page_at plain c.0)
      → (c : Block) → c.0 < 8 → (fed_by (land b page) t d).page c ≡ page_at (fed_if t b page plain) c.0
  fed-pages true d k c h = k c h
  fed-pages false d k c h = go (ℕ_discrete c.0 b.0)
    where
      go : Dec (c.0 ≡ b.0) → cond (eqb c.0 b.0) page (d.page c) ≡ page_at (put_page plain b.0 page) c.0
      go (yes e) = rw (eq-eqb c.0 b.0 e)
          (sym (ap (page_at (put_page plain b.0 page)) e ∙ put_same plain page b.0 (omega arith) full))
      go (no n) = rw (ne_eqb c.0 b.0 n) (k c h ∙ sym (put_other plain page b.0 c.0 (omega arith) full n))

  land_served : Service (land b page)
  land_served = record { aimed = aims b (to_land page); kind_is = refl; does = λ x. land_does x b page }

-- a draw
module _ (b : Block) (page : List ℕ) (low : b.0 < 8) (full : length page ≡ 4096) where
  fetch_served : Service (land_fetch b)
  fetch_served = record { aimed = aims b to_land_fetch; kind_is = refl; does = λ x. land_fetch_does x b }

  landed-kept : (k : Kind) (x : Box) (plain : List ℕ) → Kept x plain → Kept (landed k b page x plain).box (landed k b page x plain).plain
  unfolding landed
  landed-kept Write x plain K =
      let t = refused (result_of (land b page) x).said in
      kept_next (land b page) (land_served b page plain low full K.size) x plain (fed_if t b page plain)
      (fed-size b page plain low full K.size t) K (fed-pages b page plain low full K.size t K.disk K.pages)
  landed-kept Fetch x plain K = quiet_next (land_fetch b) fetch_served (λ d. refl) x plain K
  landed-kept LookUp x plain K = K
  landed-kept Flush x plain K = K

turned-kept : (s : ℕ) (x : Box) (plain : List ℕ) → Kept x plain → Kept (turned s x plain).box (turned s x plain).plain
unfolding turned
turned-kept s x plain K =
    let k = kind_of s in
    let b = block_of s in
    go (refused (past (opening k b) x).said) (past_next (opening k b) (opening_served k b) (opening_quiet k b) x plain K)
  where
    go : (t : Bool) {y : Box} → Kept y plain
        → Kept (land_if t (kind_of s) (block_of s) (draw_page s) y plain).box (land_if t (kind_of s) (block_of s) (draw_page s) y plain).plain
    go true L = L
    go false {y} L = landed-kept (block_of s) (draw_page s) (omega arith) (page-length s) (kind_of s) y plain L

-- the whole run
run-kept : (n s : ℕ) (l : Load) → Kept l.box l.plain → Kept (run_from n s l).box (run_from n s l).plain
unfolding run_from
run-kept zero s l K = K
run-kept (suc n) s l K = run-kept n (drawn s) _ (turned-kept (drawn s) l.box l.plain K)

-- P1's box, its HDD zero, beside a plain disk of zeros
begun_kept : Kept begun.box begun.plain
unfolding blank run
begun_kept =
    let F = whole-format 4 8 blank blank-taken in
    record {
      disk = start.disk;
      reached = record { events = []; fit = tt; leads = refl };
      ready = ap (λ (y : Box). y.state.phase) F.is_box;
      size = length-replicate {A = ℕ} 32768 0;
      pages = λ b h. ap (λ (y : Box). page_at y.images.hdd b.0) F.is_box;
    }

equal_all : (x : Box) (plain : List ℕ) → Kept x plain → (n : ℕ) → n ≤ 8 → equal_to n x plain ≡ n
unfolding equal_to
equal_all x plain K zero h = refl
equal_all x plain K (suc n) h =
    let b : Block = record { 0 = n } in
    let on : is_ready x.state.phase ≡ true = ap is_ready K.ready in
    let S = reached_safe K.reached in
    let low : n < x.state.label.blocks = subst (λ (l : Label). n < l.blocks) (sym S.label) (omega arith) in
    let e : read_of x b ≡ page_at plain n = S.reads on b low ∙ K.pages b (omega arith) in
    let t : same (read_of x b) (page_at plain n) ≡ true = ap (λ (p : List ℕ). same p (page_at plain n)) e ∙ same_self (page_at plain n) in
    ap (λ (s : Bool). counted s (equal_to n x plain)) t ∙ ap (λ (m : ℕ). m + 1) (equal_all x plain K n (omega arith)) ∙ add-one n

pub all_equal : AllEqual
all_equal seed draws = equal_all _ _ (run-kept draws seed begun begun_kept) 8 (omega arith)
