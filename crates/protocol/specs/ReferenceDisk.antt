-- The reference disk: document 01's plain disk.
use Rattle.std.specs.Prelude.{ℕ, Bool, true, false, cond, eqb}
use mathlib.Core.List.{List, [], ◌∷◌, Memᴰ}
use Rattle.std.specs.Prelude.{Option, Some, None}
use Rattle.layout.specs.declared.Block.{Block}
use Rattle.protocol.specs.Plan.{Call}
use Rattle.protocol.specs.Kinds.{Purpose, to_serve, to_settle, to_write, to_fetch, to_land_fetch, to_land, to_count, aim}

-- "Each block has a page and the contents that may come back"
pub record Disk : Type 0 where
  pub page : Block → List ℕ
  pub contents : Block → List (List ℕ)

-- a page is one of a block's contents
abbrev pub MayBe : Disk → Block → List ℕ → Type 0
MayBe d b page = Memᴰ page (d.contents b)

-- each block's page is its only content: "both at first its HDD page"; a flush; a finished reopening
abbrev pub durable : (Block → List ℕ) → Disk
durable page = record { page = page; contents = λ b. page b ∷ [] }

-- "the bytes become the block's page and join its contents"
abbrev pub written : Block → List ℕ → Disk → Disk
written b bytes d = record {
  page = λ c. cond (eqb c.0 b.0) bytes (d.page c);
  contents = λ c. cond (eqb c.0 b.0) (bytes ∷ d.contents b) (d.contents c);
}

-- what a call that was not refused does to the disk: "Landing a write", "Flush", "Anything else .. no change"
abbrev pub fed_call : Purpose → Block → Disk → Disk
fed_call to_serve b d = d
fed_call to_settle b d = durable d.page
fed_call to_write b d = d
fed_call to_fetch b d = d
fed_call to_land_fetch b d = d
fed_call (to_land bytes) b d = written b bytes d
fed_call (to_count n) b d = d

-- "The plain disk is fed calls, arguments, refusals, and what blocks read as when a reopening finishes"
abbrev pub fed : Call → Bool → Option (Block → List ℕ) → Disk → Disk
fed c true reads d = d
fed c false None d = fed_call (aim c).purpose (aim c).block d
fed c false (Some reads) d = durable reads
