-- A box that a list of events can reach, and how the crash argument sees it.
use Prim.Native.Nat.{ℕ, ◌+◌, ◌≤◌, ◌<◌}
use mathlib.Core.Path.{◌≡◌}
use mathlib.Core.Logic.{◌≢◌}
use mathlib.Core.Bool.{Bool, true, false, cond}
use mathlib.Core.List.{List, []}
use lib.ListN.{length, get_or, take}
use lib.Dec.{ltb}
use Rattle.pages.specs.Pages.{page_at}
use Rattle.layout.specs.declared.Slot.{Slot}
use Rattle.layout.specs.declared.Label.{Label}
use Rattle.layout.specs.Places.{Limits, meta_pages, data_place, ssd_length, hdd_length, table_length}
use Rattle.layout.specs.LabelPage.{encode_label}
use Rattle.layout.specs.MetaPage.{stamp_of}
use Rattle.layout.specs.PageRule.{page_test}
use Rattle.layout.specs.Stamps.{largest_stamp}
use Rattle.record.specs.declared.Phase.{Phase}
use Rattle.record.specs.declared.Phase.TheVariants.{Recovering, Ready}
use Rattle.record.specs.Callers.{open_by, named_places, callers_test}
use Rattle.record.specs.Record.{record_of, put_callers}
use Rattle.protocol.specs.Box.{Box}
use Rattle.protocol.specs.Recovery.{metas_of, entry_in, newest_of, spent_stamp}
use Rattle.protocol.specs.ReferenceDisk.{Disk}
use Rattle.protocol.specs.Events.{World}
use Rattle.laws.proofs.model.Model as model
use Rattle.laws.proofs.model.Base.{Window}
use Rattle.laws.proofs.model.Model.{Row, Model, Plain, Linked, ready_linked, Stored, Revived, Mending}
use Rattle.laws.proofs.refine.Windows.{nums}
use Rattle.laws.proofs.refine.Flags.{row_of}
use Rattle.laws.proofs.refine.Tables.{row_at, Rows}
use Rattle.laws.proofs.Sound.{Sound}

-- everything of a reachable box but its label
pub record Core : Type 0 where
  pub ssd : List ℕ
  pub hdd : List ℕ
  pub table : List ℕ
  pub hand : Slot
  pub newest : ℕ
  pub recovering : Bool
  pub unconfirmed : Bool
  pub window : List Slot
  pub callers : List ℕ

abbrev pub phase_for : Bool → Phase
phase_for true = Recovering
phase_for false = Ready

abbrev pub box_of_core : Label → Core → Box
box_of_core l k = record {
  images = record { ssd = k.ssd; hdd = k.hdd };
  table = k.table;
  state = put_callers (record_of l k.hand k.newest (phase_for k.recovering) k.unconfirmed k.window) k.callers;
}

-- the stored entry of slot s
unfoldable pub entry_row : Label → List (List ℕ) → ℕ → Row
entry_row l pages s = cond (ltb s l.slots)
    (row_of (entry_in pages (record { 0 = s })).block.0 (entry_in pages (record { 0 = s })).flags) Row.free

unfoldable pub abs : Label → Core → Model
abs l k = record {
  slots = l.slots;
  blocks = l.blocks;
  top = largest_stamp l;
  row = row_at k.table;
  entry = entry_row l (metas_of l k.ssd);
  hdd = λ b. page_at k.hdd b;
  slot_page = λ s. page_at k.ssd (data_place l (record { 0 = s }));
  window = nums k.window;
  stored_window = nums (newest_of (metas_of l k.ssd)).window;
  newest = k.newest;
  stamp = spent_stamp l k.ssd;
  unconfirmed = k.unconfirmed;
  recovering = k.recovering;
}

-- what the metadata pages keep besides what the model says
pub record Pages (l : Label) (pages : List (List ℕ)) : Type 0 where
  pub each : (p : ℕ) → p < meta_pages l → page_test l p (get_or pages p []) ≡ true
  pub apart : (p q : ℕ) → p < meta_pages l → q < meta_pages l → p ≢ q → stamp_of (get_or pages p []) ≢ 0
      → stamp_of (get_or pages p []) ≢ stamp_of (get_or pages q [])

-- what the images keep
pub record ImagesKept (l : Label) (ssd hdd : List ℕ) : Type 0 where
  pub limits : Limits l
  pub ssd-size : length ssd ≡ ssd_length l
  pub hdd-size : length hdd ≡ hdd_length l
  pub label-page : page_at ssd 0 ≡ encode_label l
  pub pages : Pages l (metas_of l ssd)

-- what the callers of a window's places keep, of which the crash argument sees nothing: number 3's rule, and few are the import's
pub record CallersKept (recovering : Bool) (w : List Slot) (cs : List ℕ) : Type 0 where
  pub rule : callers_test (named_places (phase_for recovering) (length w)) cs ≡ true
  pub few : open_by 1 (take (length w) cs) ≤ 8

pub record Shape (l : Label) (k : Core) : Type 0 where
  pub images : ImagesKept l k.ssd k.hdd
  pub table-size : length k.table ≡ table_length l
  pub hand_ok : k.hand.0 < l.slots
  pub rows : Rows l k.table
  pub callers : CallersKept k.recovering k.window k.callers

-- table and window of a ready box are sound
pub ready_sound : (l : Label) (k : Core) → Shape l k → (p : Plain) → model.Ready (abs l k) p → Sound l k.table k.window
unfolding abs
ready_sound l k S p R = record { size = S.table-size; legal = S.rows; rule = R.window-rule; open_is = R.open_row_is }

-- the reference disk, as far as the blocks go
pub record Agrees (l : Label) (d : Disk) (p : Plain) : Type 0 where
  pub page : (b : ℕ) → b < l.blocks → d.page (record { 0 = b }) ≡ p.page b
  pub contents : (b : ℕ) → b < l.blocks → d.contents (record { 0 = b }) ≡ p.may b

-- a reachable box is ready or mending
pub data Phased (x : Model) (p : Plain) : Type 0 where
  is_ready_is : model.Ready x p → Phased x p
  is_mending : x.recovering ≡ true → Mending x p → Phased x p

-- how table and record stand to the stored entries before every reopening: those of a ready box, or what a reopening made of them
pub data Tied (x : Model) : Type 0 where
  by_ready : x.recovering ≡ false → Window x.slots x.window → Linked x → Tied x
  by_mending : x.recovering ≡ true → Revived x → Tied x

pub phased_tied : (x : Model) (p : Plain) → Phased x p → Tied x
phased_tied x p (is_ready_is R) = by_ready R.phase R.window-rule (ready_linked x p R)
phased_tied x p (is_mending on M) = by_mending on M.rows

-- A world that may be reopened: what a cut leaves. Images and plain disk keep what a reopening needs (`images` of the shape, `stored`,
-- `agrees`), and blocks are found before it as after it (`tied`). Whether the box could serve, or go on mending, it does not say.
pub record Held (l : Label) (w : World) : Type 0 where
  pub core : Core
  pub is_core : w.box ≡ box_of_core l core
  pub shape : Shape l core
  pub plain : Plain
  pub agrees : Agrees l w.disk plain
  pub stored : Stored (abs l core) plain
  pub tied : Tied (abs l core)

-- A world that a list of events reaches: ready, or mending.
pub record Inv (l : Label) (w : World) : Type 0 where
  pub core : Core
  pub is_core : w.box ≡ box_of_core l core
  pub shape : Shape l core
  pub plain : Plain
  pub agrees : Agrees l w.disk plain
  pub phased : Phased (abs l core) plain
