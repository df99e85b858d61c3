-- The call that a draw of a load begins with (document 02, N10).
use Rattle.std.specs.Prelude.{Bool, true, false}
use Rattle.layout.specs.declared.Block.{Block}
use Rattle.protocol.specs.Reply.{refused}
use Rattle.protocol.specs.Box.{Box, Result, box_after}
use Rattle.protocol.specs.Plan.{Call, flush, offer, fetch, look_up}
use Rattle.protocol.specs.Calls.{result_of}
use Rattle.protocol.specs.Cost.{is_copied_out}
use Rattle.draws.specs.declared.Kind.{Kind}
use Rattle.draws.specs.declared.Kind.TheVariants.{Write, Fetch, LookUp, Flush}

-- "picks write, fetch, look-up or flush": the call that a draw begins with; "the caller 0"
abbrev pub opening : Kind → Block → Call
opening Write b = offer b 0
opening Fetch b = fetch b 0
opening LookUp b = look_up b
opening Flush b = flush

-- "after being repeated past a copy-out": once, since no offer answers "copied out" a second time running
abbrev pub again_if : Bool → Call → Result → Result
again_if true c r = result_of c (box_after r)
again_if false c r = r

unfoldable pub past : Call → Box → Result
past c x = again_if (is_copied_out (result_of c x).said) c (result_of c x)

-- what such a call leaves: the box, and whether it was refused
pub record Opened : Type 0 where
  pub box : Box
  pub refused : Bool

abbrev pub left_of : Result → Opened
left_of r = record { box = box_after r; refused = refused r.said }
