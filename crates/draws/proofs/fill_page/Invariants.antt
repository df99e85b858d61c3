use Prim.Native.Nat.{◌*◌}
use mathlib.Core.Path.{◌≡◌}
use borrow.Rule.Slice.PartMut.{put_mid}
use Rattle.pages.specs.Words.{le_bytes}
use Rattle.draws.specs.Draws.{copies}
use Rattle.draws.proofs.fill_page.Given as goal

abbrev pub invariant-loop-n : goal.invariant-loop-n
invariant-loop-n l = l.page ≡ put_mid 0 (4 * l.n) l.initial.page (copies l.n (le_bytes 4 l.s))
