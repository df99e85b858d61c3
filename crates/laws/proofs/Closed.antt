-- Closing an open slot of a legal, ready box leaves one: what a landing in it does.
use Prim.Native.Nat.{ℕ, ◌<◌}
use mathlib.Core.Path.{◌≡◌, sym, ap, subst, ◌∙◌}
use mathlib.Core.Bool.{Bool, true}
use mathlib.Core.List.{List}
use native.Mathlib.Omega.{arith}
use lib.ListN.{length}
use Rattle.pages.proofs.PageLaws.{length_put}
use Rattle.layout.specs.declared.Slot.{Slot}
use Rattle.layout.specs.Places.{data_place}
use Rattle.layout.proofs.PlaceLaws.{data_within}
use Rattle.layout.specs.Window.{array_of}
use Rattle.record.specs.declared.Phase.{Phase}
use Rattle.record.specs.declared.Phase.TheVariants.{Ready}
use Rattle.record.specs.Callers.{caller_array, named_places, callers_test}
use Rattle.record.specs.Record.{label_in, window_in, callers_in}
use Rattle.record.specs.Window.{without, beside}
use Rattle.record.proofs.CallerLaws.{leaves-test}
use Rattle.record.proofs.WindowLaws.{take-array}
use Rattle.protocol.specs.Rows.{row_flags, set_flags, valid, writing}
use Rattle.protocol.specs.Box.{Box, ssd_image, stored_on, left, box_after}
use Rattle.protocol.specs.Plan.{lands}
use Rattle.protocol.specs.Perform.{landed_flags, landed_state, perform}
use Rattle.protocol.specs.Judge.{agree_test}
use Rattle.laws.proofs.model.Base.{Window}
use Rattle.laws.proofs.refine.Windows.{nums}
use Rattle.laws.proofs.Sound.{Sound, sound_closes, sound_agree}
use Rattle.laws.proofs.Accepted.{Legal, few, callers-size, callers-known, legal_sound}
use Rattle.laws.proofs.why.RowsRules.{agree_same}

-- the box after it
abbrev pub closed : Bool → Slot → List ℕ → Box → Box
closed write s page x = record {
  images = stored_on ssd_image (data_place (label_in x.state) s) page x.images;
  table = set_flags x.table s (landed_flags write (row_flags x.table s));
  state = landed_state true s x.state;
}

pub closed_is : (write : Bool) (s : Slot) (page : List ℕ) (x : Box) → writing (row_flags x.table s) ≡ true
    → box_after (left (perform (lands write s page) x) x.images) ≡ closed write s page x
unfolding perform
closed_is write s page x o = λ i. record {
  images = stored_on ssd_image (data_place (label_in x.state) s) page x.images;
  table = set_flags x.table s (landed_flags write (row_flags x.table s));
  state = landed_state (o i) s x.state;
}

module _ (x : Box) (L : Legal x) (on : x.state.phase ≡ Ready) (write : Bool) (s : Slot) (low : s.0 < x.state.label.slots)
    (v : valid (row_flags x.table s) ≡ true) (page : List ℕ) (size : length page ≡ 4096) where
  abbrev w : List Slot
  w = without s (window_in x.state)

  pub closed-window : window_in (closed write s page x).state ≡ w
  unfolding window_in
  closed-window = take-array w

  pub closed_sound : Sound (label_in x.state) (closed write s page x).table w
  closed_sound = sound_closes (legal_sound x L on) write s.0 low v

  pub closed-legal : Legal (closed write s page x)
  closed-legal = record {
    limits = L.limits;
    hand-low = L.hand-low;
    steps = L.steps;
    count_is = sym (ap length closed-window);
    array_is = sym (ap array_of closed-window);
    named = subst (λ (p : Phase). callers_test (named_places p (length w)) (caller_array (beside s (window_in x.state) (callers_in x.state))) ≡ true)
        (sym on) (leaves-test (window_in x.state) (callers_in x.state) (callers-size x L) (callers-known x L) s (few x L));
    window-rule = subst (λ (z : List Slot). Window x.state.label.slots (nums z)) (sym closed-window) closed_sound.rule;
    ssd-size = length_put x.images.ssd page (data_place (label_in x.state) s)
        (rw L.ssd-size (data_within (label_in x.state) s low)) size
        ∙ L.ssd-size;
    hdd-size = L.hdd-size;
    table-size = closed_sound.size;
    rows = closed_sound.legal;
    agree = subst (λ (p : Phase). agree_test p (closed write s page x).table (window_in (closed write s page x).state) ≡ true) (sym on)
        (rw closed-window ((agree_same Ready (closed write s page x).table w).1 (sound_agree closed_sound)));
  }
