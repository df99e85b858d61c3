-- What kind of call a call is, and what it asks for: all that most conditions of document 01's table want to know of it.
use Rattle.std.specs.Prelude.{ℕ, max, List, [], ◌∷◌}
use Rattle.layout.specs.declared.Block.{Block}
use Rattle.layout.specs.declared.Label.{Label}
use Rattle.protocol.specs.Plan.{Call, format, step, flush, reopen, offer, fetch, land_fetch, look_up, view, write_back, land, look_up_list, offer_list, ask, Ask, slot_map, cost, first_block, format_label}

-- what a call is for, as far as conditions and the plain disk differ by it
pub data Purpose : Type 0 where
  -- to be served, no more; that what has landed lasts; a slot, to write the block or to fetch it; that its fetch lands
  to_serve to_settle to_write to_fetch to_land_fetch : Purpose
  -- that these bytes land
  to_land : List ℕ → Purpose
  -- that stores are counted, over a scratch table of so many words (document 02, N8)
  to_count : ℕ → Purpose

-- the block that a call names (0 where it names none: no such call asks for it), and what it is for; its caller (0 where it names none);
-- the blocks that it lists, and how many places are lent for the answer, bytes of a sheet or words of a list (0 where none are)
pub record Aim : Type 0 where
  pub block : Block
  pub purpose : Purpose
  pub caller : ℕ
  pub list : List ℕ
  pub room : ℕ

abbrev pub aims_by : Block → Purpose → ℕ → Aim
aims_by b p caller = record { block = b; purpose = p; caller = caller; list = []; room = 0 }

abbrev pub aims : Block → Purpose → Aim
aims b p = aims_by b p 0

-- the highest of some block numbers, 0 of none
unfoldable pub highest : List ℕ → ℕ
highest [] = 0
highest (b ∷ blocks) = max b (highest blocks)

-- of a list it names the highest block: "any block too high is 7" (document 02, N6)
abbrev pub aims_all : List ℕ → ℕ → Aim
aims_all blocks room = record { block = record { 0 = highest blocks }; purpose = to_serve; caller = 0; list = blocks; room = room }

-- of a list that is offered it names the first block (document 02, N3)
abbrev pub aims_first : List ℕ → ℕ → Aim
aims_first blocks caller = record { block = first_block blocks; purpose = to_write; caller = caller; list = blocks; room = 0 }

abbrev pub no_block : Block
no_block = record { 0 = 0 }

abbrev pub ask_aim : Ask → Aim
ask_aim (slot_map n) = record { block = no_block; purpose = to_serve; caller = 0; list = []; room = n }
ask_aim (cost blocks caller n) = record { block = no_block; purpose = to_count n; caller = caller; list = blocks; room = 0 }

-- a call begins a format of a label, reopens, makes a step, or is a service of a ready box
pub data Kind : Type 0 where
  a_format : Label → Kind
  a_reopening a_step : Kind
  a_service : Aim → Kind

abbrev pub kind : Call → Kind
kind (format slots blocks) = a_format (format_label slots blocks)
kind reopen = a_reopening
kind step = a_step
kind flush = a_service (aims no_block to_settle)
kind (offer b caller) = a_service (aims_by b to_write caller)
kind (fetch b caller) = a_service (aims_by b to_fetch caller)
kind (land_fetch b) = a_service (aims b to_land_fetch)
kind (look_up b) = a_service (aims b to_serve)
kind (view b) = a_service (aims b to_serve)
kind (write_back b) = a_service (aims b to_serve)
kind (land b page) = a_service (aims b (to_land page))
kind (ask a) = a_service (ask_aim a)
kind (look_up_list blocks room) = a_service (aims_all blocks room)
kind (offer_list blocks caller) = a_service (aims_first blocks caller)

abbrev pub aim_of : Kind → Aim
aim_of (a_format l) = aims no_block to_serve
aim_of a_reopening = aims no_block to_serve
aim_of a_step = aims no_block to_serve
aim_of (a_service a) = a

abbrev pub aim : Call → Aim
aim c = aim_of (kind c)
