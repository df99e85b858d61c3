-- A draw of a load, made: what it leaves of the box and of the plain disk beside it (document 02, N10).
use Rattle.std.specs.Prelude.{ℕ, Bool, true, false, List}
use Rattle.pages.specs.Pages.{put_page}
use Rattle.layout.specs.declared.Block.{Block}
use Rattle.protocol.specs.Reply.{refused}
use Rattle.protocol.specs.Box.{Box, box_after}
use Rattle.protocol.specs.Plan.{land_fetch, land}
use Rattle.protocol.specs.Calls.{result_of, box_of}
use Rattle.draws.specs.declared.Kind.{Kind}
use Rattle.draws.specs.declared.Kind.TheVariants.{Write, Fetch, LookUp, Flush}
use Rattle.draws.specs.Draws.{kind_of, block_of, draw_page}
use Rattle.load_calls.specs.Openings.{opening, past}
use Rattle.record.specs.declared.Record.{Record}

-- the box, the plain disk's pages in order, and whether the draw was refused
pub record Turned : Type 0 where
  pub box : Box
  pub plain : List ℕ
  pub refused : Bool

-- the plain disk is fed a landed write, unless its landing was refused
abbrev pub fed_if : Bool → Block → List ℕ → List ℕ → List ℕ
fed_if true b page plain = plain
fed_if false b page plain = put_page plain b.0 page

-- "Writes and fetches are landed directly"; a look-up and a flush land nothing
unfoldable pub landed : Kind → Block → List ℕ → Box → List ℕ → Turned
landed Write b page x plain =
    let r = result_of (land b page) x in
    record { box = box_after r; plain = fed_if (refused r.said) b page plain; refused = refused r.said }
landed Fetch b page x plain =
    let r = result_of (land_fetch b) x in
    record { box = box_after r; plain = plain; refused = refused r.said }
landed LookUp b page x plain = record { box = x; plain = plain; refused = false }
landed Flush b page x plain = record { box = x; plain = plain; refused = false }

-- "a refusal is counted and the run goes on": it lands nothing
abbrev pub land_if : Bool → Kind → Block → List ℕ → Box → List ℕ → Turned
land_if true k b page x plain = record { box = x; plain = plain; refused = true }
land_if false k b page x plain = landed k b page x plain

-- a draw, by its state
unfoldable pub turned : ℕ → Box → List ℕ → Turned
turned s x plain =
    let r = past (opening (kind_of s) (block_of s)) x in
    land_if (refused r.said) (kind_of s) (block_of s) (draw_page s) (box_after r) plain

-- what a draw in code leaves
abbrev pub turn_left : Record → Bool → List ℕ → List ℕ → List ℕ → List ℕ → Turned
turn_left state refused ssd hdd table plain = record { box = box_of ssd hdd table state; plain = plain; refused = refused }
