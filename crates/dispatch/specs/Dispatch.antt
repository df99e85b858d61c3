-- A call made through its value, as demand 3's lists see it.
use Rattle.std.specs.Prelude.{ℕ, List}
use Rattle.protocol.specs.Reply.{Reply, refused}
use Rattle.protocol.specs.Box.{Result, box_after}
use Rattle.protocol.specs.Plan.{Call, format, step, flush, reopen, offer, fetch, land_fetch, look_up, write_back, land, look_up_list, offer_list}
use Rattle.protocol.specs.Calls.{result_of}
use Rattle.protocol.specs.ReferenceDisk.{Disk, fed}
use Rattle.protocol.specs.Events.{World, call, reads_if, finished, apply}
use Rattle.dispatch.specs.declared.Request.{Request}
use Rattle.dispatch.specs.declared.Request.TheVariants.{Format, Step, Offer, Land, Fetch, LandFetch, LookUp, LookUpList, OfferList, WriteBack, Flush, Reopen}

-- the call that a request is, with the page, the listed blocks and the room for their words beside it
abbrev pub call_of : Request → List ℕ → List ℕ → ℕ → Call
call_of (Format slots blocks) page list room = format slots blocks
call_of Step page list room = step
call_of (Offer b caller) page list room = offer b caller
call_of (Land b) page list room = land b page
call_of (Fetch b caller) page list room = fetch b caller
call_of (LandFetch b) page list room = land_fetch b
call_of (LookUp b) page list room = look_up b
call_of LookUpList page list room = look_up_list list room
call_of (OfferList caller) page list room = offer_list list caller
call_of (WriteBack b) page list room = write_back b
call_of Flush page list room = flush
call_of Reopen page list room = reopen

-- a call's answer, and box and reference disk after it
pub record Made : Type 0 where
  pub said : Reply
  pub world : World

-- as the lists of demand 3 have it
abbrev pub made_by : Call → World → Made
made_by c w = record { said = (result_of c w.box).said; world = apply (call c) w }

-- as its caller has it: the box is what the call left, and the reference disk is fed from that alone
abbrev pub made_of : Call → Result → Disk → Made
made_of c r disk = record {
  said = r.said;
  world = record { box = box_after r; disk = fed c (refused r.said) (reads_if (finished c r) (box_after r)) disk };
}
