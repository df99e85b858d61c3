-- The box: two images, a table and a record; the one store that a call may make, and what a call leaves.
use Rattle.std.specs.Prelude.{ℕ, List}
use Rattle.std.specs.Prelude.{Option, Some, None}
use Rattle.pages.specs.Pages.{put_page}
use Rattle.record.specs.declared.Record.{Record}
use Rattle.protocol.specs.declared.Stored.{Stored}
use Rattle.protocol.specs.declared.Stored.TheVariants.{Ssd, Hdd}
use Rattle.protocol.specs.Reply.{Reply, refusal}

pub record Images : Type 0 where
  pub ssd : List ℕ
  pub hdd : List ℕ

pub record Box : Type 0 where
  pub images : Images
  pub table : List ℕ
  pub state : Record

-- a store: which image, which page of it, and its 4,096 bytes
pub data Image : Type 0 where
  ssd_image hdd_image : Image

pub record Store : Type 0 where
  pub image : Image
  pub place : ℕ
  pub bytes : List ℕ

abbrev pub stored_on : Image → ℕ → List ℕ → Images → Images
stored_on ssd_image place bytes im = record { ssd = put_page im.ssd place bytes; hdd = im.hdd }
stored_on hdd_image place bytes im = record { ssd = im.ssd; hdd = put_page im.hdd place bytes }

-- the images after a call: "Each call stores at most one page"
abbrev pub applied : Option Store → Images → Images
applied None im = im
applied (Some s) im = stored_on s.image s.place s.bytes im

-- what a call does: its answer, the record and the table after it, and its store, if any
pub record Effect : Type 0 where
  pub said : Reply
  pub state : Record
  pub table : List ℕ
  pub store : Option Store

-- "A refusal returns its number and the record handed in; every image, table and page is unchanged"
abbrev pub refusing : ℕ → Box → Effect
refusing n x = record { said = refusal n; state = x.state; table = x.table; store = None }

-- the page that a store is on, by its number in its image
abbrev pub page_in : Image → ℕ → Stored
page_in ssd_image place = Ssd place
page_in hdd_image place = Hdd place

abbrev pub stored_of : Option Store → Option Stored
stored_of None = None
stored_of (Some s) = Some (page_in s.image s.place)

-- everything that a call leaves, and the page that it stored, in one record
pub record Result : Type 0 where
  pub said : Reply
  pub stored : Option Stored
  pub state : Record
  pub table : List ℕ
  pub ssd : List ℕ
  pub hdd : List ℕ

abbrev pub left : Effect → Images → Result
left e im = record {
  said = e.said;
  stored = stored_of e.store;
  state = e.state;
  table = e.table;
  ssd = (applied e.store im).ssd;
  hdd = (applied e.store im).hdd;
}

-- the box that a call leaves
abbrev pub box_after : Result → Box
box_after r = record { images = record { ssd = r.ssd; hdd = r.hdd }; table = r.table; state = r.state }
