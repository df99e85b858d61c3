-- The box as the crash argument sees it, the plain disk, what holds of a ready box, and the seven moves.
use Prim.Native.Nat.{ℕ, suc, ◌+◌, ◌≤◌, ◌<◌}
use mathlib.Core.Path.{◌≡◌}
use mathlib.Core.Logic.{◌≢◌}
use mathlib.Core.Bool.{Bool, true, false, cond, not, ◌||◌}
use mathlib.Core.List.{List, [], ◌∷◌, ◌++◌, Memᴰ}
use native.Mathlib.Omega.{arith}
use lib.ListN.{length}
use lib.Dec.{eqb}
use Rattle.laws.proofs.model.Base.{upd, has, meta_no, without, off, Window}

abbrev pub Page : Type 0
Page = List ℕ

-- the five legal rows: flags 0, 1, 3, 5, 7
pub data Row : Type 0 where
  free : Row
  clean dirty fetching writing : ℕ → Row

abbrev pub valid : Row → Bool
valid free = false
valid (clean b) = true
valid (dirty b) = true
valid (fetching b) = true
valid (writing b) = true

abbrev pub dirty_row : Row → Bool
dirty_row free = false
dirty_row (clean b) = false
dirty_row (dirty b) = true
dirty_row (fetching b) = false
dirty_row (writing b) = true

abbrev pub open_row : Row → Bool
open_row free = false
open_row (clean b) = false
open_row (dirty b) = false
open_row (fetching b) = true
open_row (writing b) = true

abbrev pub block_of : Row → ℕ
block_of free = 0
block_of (clean b) = b
block_of (dirty b) = b
block_of (fetching b) = b
block_of (writing b) = b

-- a row that has landed; one that was copied out; what a reopening makes of an entry
abbrev pub shut : Row → Row
shut free = free
shut (clean b) = clean b
shut (dirty b) = dirty b
shut (fetching b) = clean b
shut (writing b) = dirty b

abbrev pub cleaned : Row → Row
cleaned free = free
cleaned (clean b) = clean b
cleaned (dirty b) = clean b
cleaned (fetching b) = fetching b
cleaned (writing b) = writing b

abbrev pub revived : Bool → Row → Row
revived true r = free
revived false r = shut r

pub record Model : Type 0 where
  pub slots : ℕ
  pub blocks : ℕ
  -- the largest stamp
  pub top : ℕ
  pub row : ℕ → Row
  pub entry : ℕ → Row
  pub hdd : ℕ → Page
  pub slot_page : ℕ → Page
  pub window : List ℕ
  pub stored_window : List ℕ
  pub newest : ℕ
  -- the largest stamp that a store has spent, whatever page has the newest window
  pub stamp : ℕ
  pub unconfirmed : Bool
  pub recovering : Bool

pub record Plain : Type 0 where
  pub page : ℕ → Page
  pub may : ℕ → List Page

-- what a flush makes of the plain disk
unfoldable pub settle : Plain → Plain
settle p = record { page = p.page; may = λ b. p.page b ∷ [] }

-- store metadata page q from the rows r, with the window w
unfoldable pub stored : ℕ → (ℕ → Row) → List ℕ → Model → Model
stored q r w x =
    record {
      slots = x.slots;
      blocks = x.blocks;
      top = x.top;
      row = r;
      entry = λ t. cond (eqb (meta_no t) q) (r t) (x.entry t);
      hdd = x.hdd;
      slot_page = x.slot_page;
      window = w;
      stored_window = w;
      newest = suc x.newest;
      stamp = suc x.newest;
      unconfirmed = false;
      recovering = x.recovering;
    }

abbrev pub opened : ℕ → Row → Model → Model
opened s r x = stored (meta_no s) (upd x.row s r) (x.window ++ (s ∷ [])) x

abbrev pub flushed : Model → Model
flushed x = stored 0 x.row x.window x

unfoldable pub landed : ℕ → Page → Model → Model
landed s d x =
    record {
      slots = x.slots;
      blocks = x.blocks;
      top = x.top;
      row = upd x.row s (shut (x.row s));
      entry = x.entry;
      hdd = x.hdd;
      slot_page = upd x.slot_page s d;
      window = without x.window s;
      stored_window = x.stored_window;
      newest = x.newest;
      stamp = x.stamp;
      unconfirmed = x.unconfirmed || open_row (x.row s);
      recovering = x.recovering;
    }

unfoldable pub copied : ℕ → Model → Model
copied s x =
    record {
      slots = x.slots;
      blocks = x.blocks;
      top = x.top;
      row = upd x.row s (cleaned (x.row s));
      entry = x.entry;
      hdd = upd x.hdd (block_of (x.row s)) (x.slot_page s);
      slot_page = x.slot_page;
      window = x.window;
      stored_window = x.stored_window;
      newest = x.newest;
      stamp = x.stamp;
      unconfirmed = x.unconfirmed;
      recovering = x.recovering;
    }

abbrev pub empty : List ℕ → Bool
empty [] = true
empty (s ∷ w) = false

unfoldable pub reopened : Model → Model
reopened x =
    record {
      slots = x.slots;
      blocks = x.blocks;
      top = x.top;
      row = λ t. revived (has x.stored_window t) (x.entry t);
      entry = x.entry;
      hdd = x.hdd;
      slot_page = x.slot_page;
      window = x.stored_window;
      stored_window = x.stored_window;
      newest = x.stamp;
      stamp = x.stamp;
      unconfirmed = false;
      recovering = not (empty x.stored_window);
    }

-- one mending step, at the page q
unfoldable pub mended : ℕ → Model → Model
mended q x =
    record {
      slots = x.slots;
      blocks = x.blocks;
      top = x.top;
      row = x.row;
      entry = λ t. cond (eqb (meta_no t) q) (x.row t) (x.entry t);
      hdd = x.hdd;
      slot_page = x.slot_page;
      window = off q x.window;
      stored_window = off q x.window;
      newest = suc x.newest;
      stamp = suc x.newest;
      unconfirmed = false;
      recovering = not (empty (off q x.window));
    }

abbrev pub count : Bool → ℕ
count true = 1
count false = 0

pub count-le : (b : Bool) → count b ≤ 1
count-le true = omega arith
count-le false = omega arith

pub record Ready (x : Model) (p : Plain) : Type 0 where
  pub phase : x.recovering ≡ false
  pub in_range_is : (s : ℕ) → valid (x.row s) ≡ true → s < x.slots
  pub in_blocks : (s : ℕ) → valid (x.row s) ≡ true → block_of (x.row s) < x.blocks
  pub window-rule : Window x.slots x.window
  pub stored_window-rule : Window x.slots x.stored_window
  pub same-valid : (s : ℕ) → valid (x.entry s) ≡ valid (x.row s)
  pub same_block : (s : ℕ) → block_of (x.entry s) ≡ block_of (x.row s)
  pub dirty-below : (s : ℕ) → dirty_row (x.row s) ≡ true → dirty_row (x.entry s) ≡ true
  pub open_row_is : (s : ℕ) → open_row (x.row s) ≡ has x.window s
  pub window-stored : (s : ℕ) → has x.window s ≡ true → has x.stored_window s ≡ true
  pub stored_open : (s : ℕ) → has x.stored_window s ≡ true → open_row (x.entry s) ≡ true
  pub settled : x.unconfirmed ≡ false → (s : ℕ) → has x.stored_window s ≡ true → has x.window s ≡ true
  pub once : (s t : ℕ) → valid (x.row s) ≡ true → valid (x.row t) ≡ true → block_of (x.row s) ≡ block_of (x.row t) → s ≡ t
  pub cached : (s : ℕ) → valid (x.row s) ≡ true → open_row (x.row s) ≡ false → x.slot_page s ≡ p.page (block_of (x.row s))
  pub on_disk : (b : ℕ) → ((s : ℕ) → dirty_row (x.row s) ≡ true → open_row (x.row s) ≡ false → block_of (x.row s) ≢ b) → x.hdd b ≡ p.page b
  pub may_page : (b : ℕ) → Memᴰ (p.page b) (p.may b)
  pub loose : (b : ℕ) → ((s : ℕ) → valid (x.row s) ≡ true → has x.stored_window s ≡ false → block_of (x.row s) ≢ b) → Memᴰ (x.hdd b) (p.may b)
  pub stamps : x.stamp ≡ x.newest
  pub short : length x.window + count x.unconfirmed ≤ length x.stored_window
  pub budget : x.newest + length x.stored_window ≤ x.top

-- what links the rows and the window of a ready box to the stored entries: all that finding a block after a cut asks of them
pub record Linked (x : Model) : Type 0 where
  pub same-valid : (s : ℕ) → valid (x.entry s) ≡ valid (x.row s)
  pub same_block : (s : ℕ) → block_of (x.entry s) ≡ block_of (x.row s)
  pub open_row_is : (s : ℕ) → open_row (x.row s) ≡ has x.window s
  pub window-stored : (s : ℕ) → has x.window s ≡ true → has x.stored_window s ≡ true

pub ready_linked : (x : Model) (p : Plain) → Ready x p → Linked x
ready_linked x p R = record {
  same-valid = R.same-valid;
  same_block = R.same_block;
  open_row_is = R.open_row_is;
  window-stored = R.window-stored;
}

-- what holds of the images alone, whatever record and table there are
pub record Stored (x : Model) (p : Plain) : Type 0 where
  pub in_range_is : (s : ℕ) → valid (x.entry s) ≡ true → s < x.slots
  pub in_blocks : (s : ℕ) → valid (x.entry s) ≡ true → block_of (x.entry s) < x.blocks
  pub stored_window-rule : Window x.slots x.stored_window
  pub once : (s t : ℕ) → valid (x.entry s) ≡ true → valid (x.entry t) ≡ true → block_of (x.entry s) ≡ block_of (x.entry t) → s ≡ t
  pub stored_open : (s : ℕ) → has x.stored_window s ≡ true → open_row (x.entry s) ≡ true
  pub kept : (s : ℕ) → valid (x.entry s) ≡ true → has x.stored_window s ≡ false → x.slot_page s ≡ p.page (block_of (x.entry s))
  pub kept-clean : (s : ℕ) → valid (x.entry s) ≡ true → has x.stored_window s ≡ false → dirty_row (x.entry s) ≡ false → x.hdd (block_of (x.entry s)) ≡ x.slot_page s
  pub loose : (b : ℕ) → ((s : ℕ) → valid (x.entry s) ≡ true → has x.stored_window s ≡ false → block_of (x.entry s) ≢ b) → Memᴰ (x.hdd b) (p.may b)
  pub may_page : (b : ℕ) → Memᴰ (p.page b) (p.may b)
  pub budget : x.stamp + length x.stored_window ≤ x.top

-- the rows are what a reopening makes of the entries
abbrev pub Revived : Model → Type 0
Revived x = (s : ℕ) → x.row s ≡ revived (has x.stored_window s) (x.entry s)

-- a box that is mending: its table is what the reopening made of the entries, its window the pending slots
pub record Mending (x : Model) (p : Plain) : Type 0 where
  pub images : Stored x p
  pub rows : Revived x
  pub window : x.window ≡ x.stored_window
  pub stamps : x.stamp ≡ x.newest
  pub settled : x.unconfirmed ≡ false
  pub phase : x.recovering ≡ not (empty x.window)

-- models that agree at every place are equal
pub record Same (x y : Model) : Type 0 where
  pub slots : x.slots ≡ y.slots
  pub blocks : x.blocks ≡ y.blocks
  pub top : x.top ≡ y.top
  pub row : (s : ℕ) → x.row s ≡ y.row s
  pub entry : (s : ℕ) → x.entry s ≡ y.entry s
  pub hdd : (b : ℕ) → x.hdd b ≡ y.hdd b
  pub slot_page : (s : ℕ) → x.slot_page s ≡ y.slot_page s
  pub window : x.window ≡ y.window
  pub stored_window : x.stored_window ≡ y.stored_window
  pub newest : x.newest ≡ y.newest
  pub stamp : x.stamp ≡ y.stamp
  pub unconfirmed : x.unconfirmed ≡ y.unconfirmed
  pub recovering : x.recovering ≡ y.recovering

pub same_path : (x y : Model) → Same x y → x ≡ y
same_path x y S =
    λ i. record {
      slots = S.slots i;
      blocks = S.blocks i;
      top = S.top i;
      row = λ s. S.row s i;
      entry = λ s. S.entry s i;
      hdd = λ b. S.hdd b i;
      slot_page = λ s. S.slot_page s i;
      window = S.window i;
      stored_window = S.stored_window i;
      newest = S.newest i;
      stamp = S.stamp i;
      unconfirmed = S.unconfirmed i;
      recovering = S.recovering i;
    }
