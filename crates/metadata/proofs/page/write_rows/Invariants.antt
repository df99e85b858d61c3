use Prim.Native.Nat.{◌*◌}
use mathlib.Core.Path.{◌≡◌}
use lib.ListN.{take}
use borrow.Rule.Slice.PartMut.{put_mid}
use Rattle.layout.specs.MetaPage.{rows_bytes}
use Rattle.metadata.proofs.page.write_rows.Given as goal

abbrev pub invariant-loop-i : goal.invariant-loop-i
invariant-loop-i l = l.page ≡ put_mid 512 (8 * l.i) l.initial.page (rows_bytes (take (2 * l.i) l.rows))
