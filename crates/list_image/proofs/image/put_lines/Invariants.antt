use Prim.Native.Nat.{◌*◌, ◌≤◌}
use mathlib.Core.Path.{◌≡◌}
use lib.ListN.{length}
use Rattle.protocol.specs.Recovery.{metas_of}
use Rattle.fields.specs.Written.{Written}
use Rattle.list_image.specs.Listing.{lines_of}
use Rattle.list_image.proofs.image.put_lines.Given as goal

abbrev pub invariant-loop-s : goal.invariant-loop-s
invariant-loop-s l = (l.s ≤ l.slots) × (length l.page ≡ length l.initial.page) × Written l.initial.page l.page l.at l.end (63 * l.s) (lines_of (l.pending) (metas_of l.l l.ssd) l.s)
