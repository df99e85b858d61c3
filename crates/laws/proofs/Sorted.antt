-- Each call by its kind: a format, a reopening, a step, or a service of a ready box, with what it does.
use Prim.Native.Nat.{ℕ}
use mathlib.Core.Path.{◌≡◌, refl}
use Rattle.std.specs.Prelude.{None}
use Rattle.protocol.specs.Box.{Box}
use Rattle.protocol.specs.Plan.{Call, format, step, flush, reopen, offer, fetch, land_fetch, look_up, view, write_back, land, look_up_list, offer_list, ask, plan}
use Rattle.protocol.specs.Kinds.{Aim, a_service, kind}
use Rattle.protocol.specs.Judge.{judged}
use Rattle.laws.proofs.Does.{Does, flush_does, offer_does, fetch_does, land_fetch_does, look_up_does, view_does, write_back_does, land_does, look_up_list_does, ask_does}
use Rattle.laws.proofs.OfferLists.{offer_list_does}

pub data Sorted : Call → Type 0 where
  is_format : (slots blocks : ℕ) → Sorted (format slots blocks)
  is_reopen : Sorted reopen
  is_step : Sorted step
  is_service : {c : Call} {a : Aim} → kind c ≡ a_service a → ((x : Box) → judged c x ≡ None → Does x a (plan c x)) → Sorted c

pub sorted : (c : Call) → Sorted c
sorted (format slots blocks) = is_format slots blocks
sorted reopen = is_reopen
sorted step = is_step
sorted flush = is_service refl flush_does
sorted (offer b caller) = is_service refl (λ x. offer_does x b caller)
sorted (fetch b caller) = is_service refl (λ x. fetch_does x b caller)
sorted (land_fetch b) = is_service refl (λ x. land_fetch_does x b)
sorted (look_up b) = is_service refl (λ x. look_up_does x b)
sorted (view b) = is_service refl (λ x. view_does x b)
sorted (write_back b) = is_service refl (λ x. write_back_does x b)
sorted (land b page) = is_service refl (λ x. land_does x b page)
sorted (ask a) = is_service refl (λ x. ask_does x a)
sorted (look_up_list blocks room) = is_service refl (λ x. look_up_list_does x blocks room)
sorted (offer_list blocks caller) = is_service refl (λ x. offer_list_does x blocks caller)
