-- A service leaves a ready box ready, and the reference disk as it was, but for a write that lands.
use Prim.Native.Nat.{ℕ}
use mathlib.Core.Path.{◌≡◌, refl, sym, ap, subst, ◌∙◌}
use mathlib.Core.Bool.{Bool, true, false, not, ◌&&◌}
use mathlib.Core.List.{List}
use Rattle.std.specs.Prelude.{Option, Some, None}
use Rattle.layout.specs.declared.Slot.{Slot}
use Rattle.layout.specs.declared.Block.{Block}
use Rattle.record.specs.declared.Record.{Record}
use Rattle.protocol.specs.Reply.{refused}
use Rattle.protocol.specs.Rows.{row_flags, writing}
use Rattle.protocol.specs.Box.{Box, Result, box_after}
use Rattle.protocol.specs.Plan.{Call, Move, plan}
use Rattle.protocol.specs.Kinds.{Kind, Aim, a_service, kind, aim}
use Rattle.protocol.specs.Perform.{landed_state, confirmed, perform}
use Rattle.protocol.specs.declared.Refusal.{Refusal}
use Rattle.protocol.specs.Judge.{is_ready, judged}
use Rattle.protocol.specs.Calls.{decided, effect_of, result_of}
use Rattle.protocol.specs.ReferenceDisk.{Disk, fed_call, fed}
use Rattle.protocol.specs.Events.{World, may_finish, reads_if, called, KindFits, CallFits}
use Rattle.laws.proofs.Does.{Does, does_nothing, does_use, does_use_all, does_announce, does_copy, does_land, does_fetch, does_rest, does_confirm}

landed_phase : (was : Bool) (s : Slot) (r : Record) → (landed_state was s r).phase ≡ r.phase
landed_phase true s r = refl
landed_phase false s r = refl

-- no move of a service changes the phase
does_phase : {x : Box} {a : Aim} {m : Move} → Does x a m → (perform m x).state.phase ≡ x.state.phase
unfolding perform confirmed
does_phase (does_nothing z n) = refl
does_phase (does_use z n H) = refl
does_phase (does_use_all z A) = refl
does_phase (does_announce z n O spare) = refl
does_phase (does_copy z n C) = refl
does_phase {x = x} (does_land {s = s} H bl y size) = landed_phase (writing (row_flags x.table s)) s x.state
does_phase {x = x} (does_fetch {s = s} z H bl w) = landed_phase (writing (row_flags x.table s)) s x.state
does_phase (does_rest n u) = refl
does_phase (does_confirm u n) = refl

-- a call that is a service of a ready box
pub record Service (c : Call) : Type 0 where
  pub aimed : Aim
  pub kind_is : kind c ≡ a_service aimed
  pub does : (x : Box) → judged c x ≡ None → Does x aimed (plan c x)

-- what it feeds the reference disk
abbrev pub fed_by : Call → Bool → Disk → Disk
fed_by c true d = d
fed_by c false d = fed_call (aim c).purpose (aim c).block d

module _ (c : Call) (S : Service c) where
  pub phase_kept : (x : Box) → (result_of c x).state.phase ≡ x.state.phase
  unfolding effect_of
  phase_kept x = go (judged c x) refl
    where
      go : (o : Option Refusal) → judged c x ≡ o → (decided o c x).state.phase ≡ x.state.phase
      go (Some r) e = refl
      go None e = does_phase (S.does x e)

  pub service_fits : (w : World) → CallFits c w
  service_fits w = subst (λ (k : Kind). KindFits k (refused (result_of c w.box).said)) (sym S.kind_is) tt

  pub service_feeds : (w : World) → (called c w).disk ≡ fed_by c (refused (result_of c w.box).said) w.disk
  unfolding called
  service_feeds w = go (refused (result_of c w.box).said)
    where
      r : Result
      r = result_of c w.box

      go : (t : Bool) → fed c t (reads_if (not t && (may_finish (kind c) && is_ready r.state.phase)) (box_after r)) w.disk
          ≡ fed_by c t w.disk
      go true = refl
      go false = ap (λ (k : Kind). fed c false (reads_if (may_finish k && is_ready r.state.phase) (box_after r)) w.disk) S.kind_is
