use Prim.Native.Nat.{◌<◌}
use native.Mathlib.Omega.{arith}
use Rattle.layout.specs.Places.{meta_pages}
use Rattle.layout.proofs.PlaceLaws.{meta_of-low}
use Rattle.protocol.specs.Recovery.{entry_in}
use Rattle.stored.proofs.StoredLaws.{page-read}
use Rattle.stored.proofs.image.entry_of.Goals as goal
use Rattle.stored.proofs.image.entry_of.Goals.{After-meta_of}

-- the slot's page is one of the label's
low : (c : After-meta_of) → c.meta_of.result < meta_pages c.args.l
low c = rw c.meta_of.ensures (meta_of-low c.args.l c.args.s c.requires.s_lt_slots)

pub meta_page-requires : goal.meta_page-requires
meta_page-requires c = record { ssd_len = c.requires.ssd_len; p_bound = low c }

pub entry_at-requires : goal.entry_at-requires
entry_at-requires c =
    record {
      page_len = (page-read c.args.l _ _ _ c.requires.ssd_len (low (goal.at.entry_at-requires c).After-meta_of) c.meta_page.ensures).1;
      i_bound = omega arith;
    }

pub returns : goal.returns
unfolding entry_in
returns c =
    rw (c.entry_at.ensures, (page-read c.args.l _ _ _ c.requires.ssd_len (low (goal.at.returns c).After-meta_of) c.meta_page.ensures).0, c.meta_of.ensures)
