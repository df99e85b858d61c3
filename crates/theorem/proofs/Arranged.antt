-- What comes after two landings of open blocks is the same in either order, and after a set of them in any arrangement.
use Prim.Native.Nat.{ℕ}
use mathlib.Core.Path.{◌≡◌, refl, sym, ap, ◌∙◌}
use mathlib.Core.Logic.{◌≢◌}
use mathlib.Core.HLevel.{¬_prop}
use mathlib.Core.Bool.{Bool, true, false, cond, not, ◌&&◌}
use mathlib.Core.List.Permᴰ
use mathlib.Core.List.Pairwise
use mathlib.Core.List.{List, [], ◌∷◌, ◌++◌, map, mem-cons_self, mem-cons_of_mem, Permᴰ, rel_of_Pairwise-cons}
use lib.Dec.{eqb}
use borrow.Author.Tests.{eqb-true, ne_eqb}
use Rattle.layout.proofs.Booleans.{Told, told, told_true, told_false}
use Rattle.protocol.specs.Box.{Box}
use Rattle.protocol.specs.Plan.{land, land_fetch}
use Rattle.protocol.specs.ReferenceDisk.{Disk, written, fed}
use Rattle.protocol.specs.Events.{World, new, Event, call, reads_if, called, reopened, crashed, run}
use Rattle.protocol.specs.Beside.{Landing, of_write, of_fetch, landing_call, landing_block, LandsOpen, OtherBlock, TwoOpen, landed, AlikeAfter, OpenSet, AllLand, Arranged}
use Rattle.theorem.proofs.Reachable.{crashed-made}
use Rattle.theorem.proofs.Landings.{turned, lands-store, still_open, either_order}

-- what a landing feeds the reference disk
abbrev feeds : Landing → Disk → Disk
feeds (of_write b page) k = written b page k
feeds (of_fetch b) k = k

-- of two choices at different numbers the order does not matter
chosen : {A : Type 0} (m a b : ℕ) → a ≢ b → (p q r : A)
    → cond (eqb m b) q (cond (eqb m a) p r) ≡ cond (eqb m a) p (cond (eqb m b) q r)
chosen m a b n p q r = go (told (eqb m a)) (told (eqb m b))
  where
    go : Told (eqb m a) → Told (eqb m b) → cond (eqb m b) q (cond (eqb m a) p r) ≡ cond (eqb m a) p (cond (eqb m b) q r)
    go (told_true e) (told_true f) = absurd (n (sym (eqb-true m a e) ∙ eqb-true m b f))
    go (told_true e) (told_false f) = rw (e, f)
    go (told_false e) t = rw e

fed-alike : (c d : Landing) → OtherBlock c d → (k : Disk) → feeds d (feeds c k) ≡ feeds c (feeds d k)
fed-alike (of_write a p) (of_write b q) n k = λ i. record {
  page = λ m. pages m.0 (k.page m) i;
  contents = λ m. contents m.0 (k.contents m) i;
}
  where
    pages : (m : ℕ) (r : List ℕ) → cond (eqb m b.0) q (cond (eqb m a.0) p r) ≡ cond (eqb m a.0) p (cond (eqb m b.0) q r)
    pages m r = chosen m a.0 b.0 n p q r

    contents : (m : ℕ) (r : List (List ℕ))
        → cond (eqb m b.0) (q ∷ cond (eqb b.0 a.0) (p ∷ k.contents a) (k.contents b)) (cond (eqb m a.0) (p ∷ k.contents a) r)
        ≡ cond (eqb m a.0) (p ∷ cond (eqb a.0 b.0) (q ∷ k.contents b) (k.contents a)) (cond (eqb m b.0) (q ∷ k.contents b) r)
    contents m r =
        rw (ne_eqb b.0 a.0 (λ e. n (sym e)), ne_eqb a.0 b.0 n)
        (chosen m a.0 b.0 n (p ∷ k.contents a) (q ∷ k.contents b) r)
fed-alike (of_write a p) (of_fetch b) n k = refl
fed-alike (of_fetch a) (of_write b q) n k = refl
fed-alike (of_fetch a) (of_fetch b) n k = refl

called_is : (c : Landing) (w : World) → LandsOpen c w.box
    → called (landing_call c) w ≡ record { box = landed c w.box; disk = feeds c w.disk }
unfolding called
called_is (of_write b page) w O =
    ap (λ (r : Bool). record {
      box = landed (of_write b page) w.box;
      disk = fed (land b page) r (reads_if (not r && false) (landed (of_write b page) w.box)) w.disk;
    }) O.accepted
called_is (of_fetch b) w O =
    ap (λ (r : Bool). record {
      box = landed (of_fetch b) w.box;
      disk = fed (land_fetch b) r (reads_if (not r && false) (landed (of_fetch b) w.box)) w.disk;
    }) O.accepted

module _ (c d : Landing) (w : World) (T : TwoOpen c d w.box) where
  both_called : called (landing_call d) (called (landing_call c) w)
      ≡ record { box = landed d (landed c w.box); disk = feeds d (feeds c w.disk) }
  both_called =
      ap (called (landing_call d)) (called_is c w T.one)
      ∙ called_is d (record { box = landed c w.box; disk = feeds c w.disk }) (still_open c d w.box T).0

  -- a cut of the second with its page stored
  cut-called : crashed (landing_call d) new (called (landing_call c) w) ≡ called (landing_call d) (called (landing_call c) w)
  unfolding called
  cut-called =
      let s = lands-store d (landed c w.box) (still_open c d w.box T).0 in
      crashed-made (landing_call d) (called (landing_call c) w) s.0 s.1

either_called : (c d : Landing) (w : World) → TwoOpen c d w.box
    → called (landing_call d) (called (landing_call c) w) ≡ called (landing_call c) (called (landing_call d) w)
either_called c d w T =
    both_called c d w T
    ∙ (λ i. record { box = either_order c d w.box T i; disk = fed-alike c d T.different w.disk i })
    ∙ sym (both_called d c w (turned T))

pub alike-after : AlikeAfter
unfolding run
alike-after c d w T = record {
  after_both = λ es. ap (run es) (either_called c d w T);
  cut_at_second = λ j es. ap (λ (v : World). run es (reopened j v))
      (cut-called c d w T ∙ either_called c d w T ∙ sym (cut-called d c w (turned T)));
}

-- a set of landings, as they land
rest_open : (c : Landing) (cs : List Landing) (x : Box) → OpenSet (c ∷ cs) x → OpenSet cs (landed c x)
rest_open c cs x O = record {
  each = λ d m. (still_open c d x (record {
    one = O.each c mem-cons_self;
    other = O.each d (mem-cons_of_mem c m);
    different = rel_of_Pairwise-cons O.different m;
  })).0;
  different = Pairwise.of_cons O.different;
}

all-land : (cs : List Landing) (x : Box) → OpenSet cs x → AllLand cs x
all-land [] x O = tt
all-land (c ∷ cs) x O = (O.each c mem-cons_self, all-land cs (landed c x) (rest_open c cs x O))

set_moved : {cs ds : List Landing} {x : Box} → Permᴰ cs ds → OpenSet cs x → OpenSet ds x
set_moved p O = record {
  each = λ d m. O.each d (Permᴰ.mem (Permᴰ.symm p) m);
  different = Permᴰ.pairwise (λ a b. ¬_prop) (λ a b n e. n (sym e)) p O.different;
}

abbrev events : List Landing → List Event
events cs = map (λ c. call (landing_call c)) cs

same_after : {cs ds : List Landing} → Permᴰ cs ds → (w : World) → OpenSet cs w.box → (es : List Event)
    → run (events cs ++ es) w ≡ run (events ds ++ es) w
unfolding run called
same_after Permᴰ.nil w O es = refl
same_after (Permᴰ.cons {a = a} {l₁ = cs} {l₂ = ds} e p) w O es =
    same_after p (called (landing_call a) w) (rest_open a cs w.box O) es
    ∙ ap (λ (c : Landing). run (events ds ++ es) (called (landing_call c) w)) e
same_after (Permᴰ.swap {a = a} {b = b} {l = cs} e f) w O es =
    (alike-after a b w (record {
      one = O.each a mem-cons_self;
      other = O.each b (mem-cons_of_mem a mem-cons_self);
      different = rel_of_Pairwise-cons O.different mem-cons_self;
    })).after_both (events cs ++ es)
    ∙ (λ i. run (call (landing_call (f i)) ∷ call (landing_call (e i)) ∷ (events cs ++ es)) w)
same_after (Permᴰ.trans p q) w O es = same_after p w O es ∙ same_after q w (set_moved p O) es

pub arranged : Arranged
arranged cs ds w O p = record { all-land = all-land ds w.box (set_moved p O); same = same_after p w O }
