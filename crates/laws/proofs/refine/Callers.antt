-- What the callers of a window's places keep, through what calls do to the window. The crash argument sees nothing of them.
use Prim.Native.Nat.{ℕ, ◌≤◌, ◌<◌}
use mathlib.Core.Path.{◌≡◌, sym}
use mathlib.Core.Bool.{Bool, true, false}
use mathlib.Core.List.{List, [], ◌∷◌, ◌++◌}
use native.Mathlib.Omega.{arith}
use lib.ListN.{length, take, replicate, length-append, length-take}
use Rattle.layout.specs.declared.Slot.{Slot}
use Rattle.record.specs.Window.{without, beside}
use Rattle.record.specs.Callers.{open_by, caller_array}
use Rattle.record.proofs.LeaveLaws.{length-beside}
use Rattle.record.proofs.CallerLaws.{Named, named_at, nobody_mending, zeros_test, take-callers, by_nobody, by_take, by_less, joins-test, leaves-test}
use Rattle.laws.proofs.refine.Abstract.{phase_for, CallersKept}

-- nobody is named: after a format or a reopening
pub nobody_kept : (r : Bool) (w : List Slot) → CallersKept r w (replicate 63 0)
nobody_kept r w = record { rule = zeros_test (phase_for r) (length w); few = omega (arith, by_take 1 (length w) (replicate 63 0), by_nobody 63) }

-- nor while mending, nor once that is finished
pub mended_kept : {w : List Slot} {cs : List ℕ} → CallersKept true w cs → (r : Bool) (v : List Slot) → CallersKept r v cs
mended_kept {w} {cs} K r v = rw (nobody_mending cs K.rule) (nobody_kept r v)

-- of a ready box
module _ {w : List Slot} {cs : List ℕ} (K : CallersKept false w cs) (most : length w ≤ 63) where
  named : Named (length w) cs
  named = named_at (length w) cs K.rule

  size : length (take (length w) cs) ≡ length w
  size = omega (arith, length-take (length w) cs, named.size)

  -- a slot joins, and its caller beside it
  pub joined-kept : (s : Slot) (c : ℕ) → length w < 63 → c ≤ 1
      → (open_by 1 (take (length w) cs) ≤ 8 → open_by 1 (take (length w) cs ++ (c ∷ [])) ≤ 8)
      → CallersKept false (w ++ (s ∷ [])) (caller_array (take (length w) cs ++ (c ∷ [])))
  joined-kept s c h known room = record {
    rule = joins-test w (take (length w) cs) size named.known s c known h;
    few =
        let n : length (w ++ (s ∷ [])) ≡ length (take (length w) cs ++ (c ∷ [])) = rw (length-append, length-append) (omega (arith, size)) in
        rw (n, take-callers (take (length w) cs ++ (c ∷ []))) (room K.few);
  }

  -- an open slot leaves, and its caller with it
  pub left-kept : (s : Slot) → CallersKept false (without s w) (caller_array (beside s w (take (length w) cs)))
  left-kept s = record {
    rule = leaves-test w (take (length w) cs) size named.known s most;
    few =
        let n : length (without s w) ≡ length (beside s w (take (length w) cs)) = sym (length-beside s w (take (length w) cs) size) in
        rw (n, take-callers (beside s w (take (length w) cs))) (omega (arith, by_less 1 s w (take (length w) cs), K.few));
  }
