use Prim.Native.Nat.{◌*◌}
use mathlib.Core.Path.{◌≡◌}
use lib.ListN.{take}
use borrow.Rule.Slice.PartMut.{put_mid}
use Rattle.layout.specs.MetaPage.{slots_bytes}
use Rattle.metadata.proofs.page.write_window.Given as goal

abbrev pub invariant-loop-i : goal.invariant-loop-i
invariant-loop-i l = l.page ≡ put_mid 16 (4 * l.i) l.initial.page (slots_bytes (take l.i l.slots))
