use lib.ListN.{length}
use mathlib.Core.Path.{◌≡◌}
use Rattle.protocol.specs.Box.{Box, Result}
use Rattle.protocol.specs.Plan.{Call}
use Rattle.protocol.specs.Calls.{result_of, box_of}
use Rattle.protocol.specs.ReferenceDisk.{Disk}
use Rattle.dispatch.specs.declared.Request.{Request}
use Rattle.dispatch.specs.Dispatch.{call_of, made_of, made_by}
use Rattle.dispatch.proofs.DispatchLaws.{made}
use Rattle.dispatch.proofs.dispatch.dispatch.Goals as goal
use Rattle.dispatch.proofs.dispatch.dispatch.Goals.{Start}

-- the box that is lent, and the call that a request is with what stands beside it
abbrev box : Start → Box
box s = let a = s.args in box_of a.ssd.now a.hdd.now a.table.now a.state

abbrev call : Start → Request → Call
call s q = let a = s.args in call_of q a.page.now a.blocks.now (length a.words.now)

as_call : (s : Start) {v : Request} {r : Result} → s.args.request ≡ v → r ≡ result_of (call s v) (box s) → (disk : Disk)
    → made_of (call s s.args.request) r disk ≡ made_by (call s s.args.request) (record { box = box s; disk = disk })
as_call s e f = let a = s.args in made a.request _ a.page.now a.blocks.now (length a.words.now) (box s) _ e f

pub returns-in-Format : goal.returns-in-Format
returns-in-Format c =
    as_call (goal.at.returns-in-Format c).Start c.in-Format.is (c.format.ensures c.args.state)

pub returns-in-Step : goal.returns-in-Step
returns-in-Step c =
    as_call (goal.at.returns-in-Step c).Start c.in-Step.is c.step.ensures

pub returns-in-Offer : goal.returns-in-Offer
returns-in-Offer c =
    as_call (goal.at.returns-in-Offer c).Start c.in-Offer.is c.offer.ensures

pub returns-in-Land : goal.returns-in-Land
returns-in-Land c =
    as_call (goal.at.returns-in-Land c).Start c.in-Land.is c.land.ensures

pub returns-in-Fetch : goal.returns-in-Fetch
returns-in-Fetch c =
    as_call (goal.at.returns-in-Fetch c).Start c.in-Fetch.is c.fetch.ensures

pub returns-in-LandFetch : goal.returns-in-LandFetch
returns-in-LandFetch c =
    as_call (goal.at.returns-in-LandFetch c).Start c.in-LandFetch.is c.land_fetch.ensures

pub returns-in-LookUp : goal.returns-in-LookUp
returns-in-LookUp c =
    as_call (goal.at.returns-in-LookUp c).Start c.in-LookUp.is c.look_up.ensures

pub returns-in-LookUpList : goal.returns-in-LookUpList
returns-in-LookUpList c =
    as_call (goal.at.returns-in-LookUpList c).Start c.in-LookUpList.is c.look_up_list.ensures.0

pub returns-in-OfferList : goal.returns-in-OfferList
returns-in-OfferList c =
    as_call (goal.at.returns-in-OfferList c).Start c.in-OfferList.is c.offer_list.ensures

pub returns-in-WriteBack : goal.returns-in-WriteBack
returns-in-WriteBack c =
    as_call (goal.at.returns-in-WriteBack c).Start c.in-WriteBack.is c.write_back.ensures

pub returns-in-Flush : goal.returns-in-Flush
returns-in-Flush c =
    as_call (goal.at.returns-in-Flush c).Start c.in-Flush.is c.flush.ensures

pub returns-in-Reopen : goal.returns-in-Reopen
returns-in-Reopen c =
    as_call (goal.at.returns-in-Reopen c).Start c.in-Reopen.is (c.reopen.ensures c.args.state)
