-- A call by its value is the call of demand 3's lists.
use Prim.Native.Nat.{ℕ}
use mathlib.Core.Path.{◌≡◌, ap}
use mathlib.Core.List.{List}
use Rattle.protocol.specs.Box.{Box, Result}
use Rattle.protocol.specs.Plan.{Call}
use Rattle.protocol.specs.Calls.{result_of}
use Rattle.protocol.specs.ReferenceDisk.{Disk}
use Rattle.protocol.specs.Events.{called}
use Rattle.dispatch.specs.declared.Request.{Request}
use Rattle.dispatch.specs.Dispatch.{call_of, made_of, made_by}

made-call : (c : Call) (x : Box) (r : Result) → r ≡ result_of c x → (disk : Disk) → made_of c r disk ≡ made_by c
    (record { box = x; disk = disk })
unfolding called
made-call c x r e disk = ap (λ (y : Result). made_of c y disk) e

pub made : (q v : Request) (page blocks : List ℕ) (room : ℕ) (x : Box) (r : Result) → q ≡ v
    → r ≡ result_of (call_of v page blocks room) x → (disk : Disk)
    → made_of (call_of q page blocks room) r disk ≡ made_by (call_of q page blocks room) (record { box = x; disk = disk })
made q v page blocks room x r e f disk = rw e (made-call (call_of v page blocks room) x r f disk)
