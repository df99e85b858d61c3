-- Update before data: what is stored of a slot as bytes land in it.
use Prim.Native.Nat.{ℕ, ◌+◌, ◌*◌}
use mathlib.Core.Path.{◌≡◌, refl, sym, subst, ◌∙◌}
use mathlib.Core.Bool.{true, false}
use mathlib.Core.List.{[]}
use Rattle.std.specs.Prelude.{Option, Some, None}
use lib.ListN.{get_or}
use Rattle.layout.specs.declared.Slot.{Slot}
use Rattle.layout.specs.declared.Block.{Block}
use Rattle.layout.specs.declared.Label.{Label}
use Rattle.protocol.specs.declared.Condition.{Condition}
use Rattle.protocol.specs.declared.Condition.TheVariants.{Dirty, Writing, Fetching}
use Rattle.protocol.specs.Reply.{refused}
use Rattle.protocol.specs.Rows.{valid, dirty, writing}
use Rattle.protocol.specs.Box.{Box}
use Rattle.protocol.specs.Plan.{Call, land, land_fetch}
use Rattle.protocol.specs.Kinds.{kind}
use Rattle.protocol.specs.Recovery.{metas_of, entry_in, newest_of}
use Rattle.protocol.specs.declared.Refusal.{Refusal}
use Rattle.protocol.specs.Judge.{judged}
use Rattle.protocol.specs.Calls.{decided, effect_of, result_of}
use Rattle.protocol.specs.ReferenceDisk.{Disk}
use Rattle.protocol.specs.Events.{World, may_finish, CallFits}
use Rattle.protocol.specs.Beside.{StoredOpen, StoredWriting, StoredDirty, UpdateFirst}
use Rattle.layout.proofs.Booleans.{clash}
use Rattle.laws.proofs.model.Base.{has}
use Rattle.laws.proofs.model.Model as model
use Rattle.laws.proofs.model.Model.{Plain, open_row}
use Rattle.laws.proofs.refine.Windows.{nums, has_nums}
use Rattle.laws.proofs.refine.Tables.{row_at, at_open, at_block, at_valid, at_dirty}
use Rattle.laws.proofs.refine.Conditions.{Held, Stands, is_writing_is, is_dirty, is_fetching, stands}
use Rattle.theorem.proofs.refine.Reopens.{valid_entry, block_entry, dirty_entry, open_entry}
use Rattle.theorem.proofs.refine.ReadyCalls.{world_of}
use Rattle.theorem.proofs.Reachable.{Mendable, steps, reopens_it, mendable}
use Rattle.laws.proofs.refine.Abstract.{Core, box_of_core, abs, Shape, Phased, is_ready_is, is_mending, Inv}

-- a call that is neither refused nor one of mending finds a ready box
pub none_of : (c : Call) (x : Box) → refused (result_of c x).said ≡ false → judged c x ≡ None
unfolding effect_of
none_of c x f = go (judged c x) refl
  where
    go : (o : Option Refusal) → judged c x ≡ o → judged c x ≡ None
    go (Some r) e = clash {b = refused (decided (judged c x) c x).said} (rw e) f
    go None e = e

module _ (l : Label) (k : Core) (S : Shape l k) (p : Plain) (R : model.Ready (abs l k) p) (b s : ℕ) (H : Held l k.table b s) where
  stored : model.Stored (abs l k) p
  stored = Rattle.theorem.proofs.model.Reopened.ready-stored (abs l k) p R

  -- row and entry agree
  entry_valid : valid (entry_in (metas_of l k.ssd) (record { 0 = s })).flags ≡ true
  unfolding abs
  entry_valid = sym (valid_entry l k p S.images stored s H.low) ∙ R.same-valid s ∙ at_valid l k.table S.rows s H.low ∙ H.held

  entry_block : (entry_in (metas_of l k.ssd) (record { 0 = s })).block.0 ≡ b
  unfolding abs
  entry_block = sym (block_entry l k p S.images stored s H.low entry_valid) ∙ R.same_block s
      ∙ at_block l k.table S.rows s H.low H.held ∙ H.block

  open_announced : writing (get_or k.table (2 * s + 1) 0) ≡ true
      → StoredOpen l (record { ssd = k.ssd; hdd = k.hdd }) (record { 0 = b }) (record { 0 = s })
  unfolding abs
  open_announced w =
      let o : open_row (row_at k.table s) ≡ true = at_open l k.table S.rows s H.low ∙ w in
      let h : has (nums (newest_of (metas_of l k.ssd)).window) s ≡ true = R.window-stored s (sym (R.open_row_is s) ∙ o) in
      record {
        valid_entry = entry_valid;
        writing_entry = sym (open_entry l k p S.images stored s H.low) ∙ R.stored_open s h;
        block = entry_block;
        in_window_lem = sym (has_nums (newest_of (metas_of l k.ssd)).window s) ∙ h;
      }

  closed-stored : dirty (get_or k.table (2 * s + 1) 0) ≡ true
      → StoredDirty l (record { ssd = k.ssd; hdd = k.hdd }) (record { 0 = b }) (record { 0 = s })
  unfolding abs
  closed-stored d = record {
    valid_entry = entry_valid;
    dirty_entry = sym (dirty_entry l k p S.images stored s H.low) ∙ R.dirty-below s (at_dirty l k.table S.rows s H.low ∙ d);
    block = entry_block;
  }

-- any reference disk
abbrev blank : Disk
blank = record { page = λ b. []; contents = λ b. [] }

may_of : {c : Call} → Mendable c → may_finish (kind c) ≡ true
may_of steps = refl
may_of reopens_it = refl

module _ (l : Label) (k : Core) (S : Shape l k) (p : Plain) (P : Phased (abs l k) p) where
  -- no landing is made while mending
  ready_at : (c : Call) → may_finish (kind c) ≡ false → CallFits c (world_of l k blank)
      → refused (result_of c (box_of_core l k)).said ≡ false → model.Ready (abs l k) p
  ready_at c m f r = go P
    where
      go : Phased (abs l k) p → model.Ready (abs l k) p
      go (is_ready_is R) = R
      go (is_mending on M) = clash (may_of (mendable l k blank (unfold abs in on) c f (none_of c (box_of_core l k) r))) m

  core_first : UpdateFirst l (world_of l k blank)
  core_first = record {
    land_open = λ b page r s e. go_open b s (ready_at (land b page) refl tt r)
        (subst (λ (z : Condition). Stands l k.table b.0 z) e (stands l k.table S.table-size b));
    land-closed = λ b page r s e. go_closed b s (ready_at (land b page) refl tt r)
        (subst (λ (z : Condition). Stands l k.table b.0 z) e (stands l k.table S.table-size b));
    fetch_open = λ b r s e. go_fetch b s (ready_at (land_fetch b) refl tt r)
        (subst (λ (z : Condition). Stands l k.table b.0 z) e (stands l k.table S.table-size b));
  }
    where
      go_open : (b : Block) (s : Slot) → model.Ready (abs l k) p → Stands l k.table b.0 (Writing s)
          → StoredWriting l (record { ssd = k.ssd; hdd = k.hdd }) b s
      go_open b s R (is_writing_is t H w d) = record {
        opened = open_announced l k S p R b.0 s.0 H w;
        dirty_entry = (closed-stored l k S p R b.0 s.0 H d).dirty_entry;
      }

      go_closed : (b : Block) (s : Slot) → model.Ready (abs l k) p → Stands l k.table b.0 (Dirty s)
          → StoredDirty l (record { ssd = k.ssd; hdd = k.hdd }) b s
      go_closed b s R (is_dirty t H w d) = closed-stored l k S p R b.0 s.0 H d

      go_fetch : (b : Block) (s : Slot) → model.Ready (abs l k) p → Stands l k.table b.0 (Fetching s)
          → StoredOpen l (record { ssd = k.ssd; hdd = k.hdd }) b s
      go_fetch b s R (is_fetching t H w d) = open_announced l k S p R b.0 s.0 H w

pub update_first : (l : Label) (w : World) → Inv l w → UpdateFirst l w
update_first l w I = subst (λ (x : Box). UpdateFirst l (record { box = x; disk = w.disk })) (sym I.is_core)
    (any (core_first l I.core I.shape I.plain I.phased))
  where
    any : UpdateFirst l (world_of l I.core blank)
        → UpdateFirst l (world_of l I.core w.disk)
    any F = record { land_open = F.land_open; land-closed = F.land-closed; fetch_open = F.fetch_open }
