-- Several slots of one metadata page join the window, with one store: as by one store for each, but for the stamp.
use Prim.Native.Nat.{ℕ, suc, ◌+◌, ◌-◌, ◌≤◌, ◌<◌}
use mathlib.Core.Path.{◌≡◌, refl, sym, ap, ◌∙◌}
use mathlib.Core.Bool.{Bool, false, cond}
use mathlib.Core.List.{[], ◌∷◌, ◌++◌}
use native.Mathlib.Omega.{arith}
use lib.ListN.{length, length-append}
use lib.Dec.{eqb}
use Rattle.layout.proofs.Booleans.{Told, told, told_true, told_false}
use Rattle.laws.proofs.model.Base.{upd, meta_no}
use Rattle.laws.proofs.model.Model.{Row, Model, Plain, Ready, same_path, stored, opened}
use Rattle.theorem.proofs.model.Moves.{Opens, opens-ready}

-- with another newest stamp
unfoldable pub restamped : ℕ → Model → Model
restamped n x = record {
  slots = x.slots;
  blocks = x.blocks;
  top = x.top;
  row = x.row;
  entry = x.entry;
  hdd = x.hdd;
  slot_page = x.slot_page;
  window = x.window;
  stored_window = x.stored_window;
  newest = n;
  stamp = n;
  unconfirmed = x.unconfirmed;
  recovering = x.recovering;
}

restamped_ready : (n : ℕ) (x : Model) (p : Plain) → Ready x p → n + length x.stored_window ≤ x.top → Ready (restamped n x) p
unfolding restamped
restamped_ready n x p R h = record {
  phase = R.phase;
  in_range_is = R.in_range_is;
  in_blocks = R.in_blocks;
  window-rule = R.window-rule;
  stored_window-rule = R.stored_window-rule;
  same-valid = R.same-valid;
  same_block = R.same_block;
  dirty-below = R.dirty-below;
  open_row_is = R.open_row_is;
  window-stored = R.window-stored;
  stored_open = R.stored_open;
  settled = R.settled;
  once = R.once;
  cached = R.cached;
  on_disk = R.on_disk;
  may_page = R.may_page;
  loose = R.loose;
  stamps = refl;
  short = R.short;
  budget = h;
}

-- the box with stamps to spare, and then one slot of page q after another opened, each with a store of its own
pub data Chain (q : ℕ) (x : Model) : Model → Type 0 where
  none_yet : Chain q x (restamped 0 x)
  one_more : {y : Model} {s : ℕ} {r : Row} → Chain q x y → meta_no s ≡ q → Opens y s r → Chain q x (opened s r y)

module _ (q : ℕ) (x : Model) (p : Plain) (R : Ready x p) where
  pub chain-ready : {y : Model} → Chain q x y → Ready y p
  chain-ready none_yet = restamped_ready 0 x p R (omega (arith, R.budget))
  chain-ready (one_more {y} c e o) = opens-ready y p (chain-ready c) o

  -- as many stamps as slots were opened
  chain-count : {y : Model} → Chain q x y → y.newest + length x.window ≡ length y.window
  unfolding restamped stored
  chain-count none_yet = omega arith
  chain-count (one_more c e o) = simp length-append (omega (arith, chain-count c))

  -- what a chain leaves alone
  pub record Rest (y : Model) : Type 0 where
    pub slots : x.slots ≡ y.slots
    pub blocks : x.blocks ≡ y.blocks
    pub top : x.top ≡ y.top
    pub entry : (t : ℕ) → eqb (meta_no t) q ≡ false → x.entry t ≡ y.entry t
    pub hdd : (b : ℕ) → x.hdd b ≡ y.hdd b
    pub slot_page : (s : ℕ) → x.slot_page s ≡ y.slot_page s
    pub recovering : x.recovering ≡ y.recovering

  pub chain-rest : {y : Model} → Chain q x y → Rest y
  unfolding restamped stored
  chain-rest none_yet = record {
    slots = refl;
    blocks = refl;
    top = refl;
    entry = λ t h. refl;
    hdd = λ b. refl;
    slot_page = λ s. refl;
    recovering = refl;
  }
  chain-rest (one_more {y} {s} {r} c e o) =
      let K = chain-rest c in
      record {
        slots = K.slots;
        blocks = K.blocks;
        top = K.top;
        entry = λ t h. K.entry t h
            ∙ sym (ap (λ (b : Bool). cond b (upd y.row s r t) (y.entry t)) (ap (λ (m : ℕ). eqb (meta_no t) m) e ∙ h));
        hdd = K.hdd;
        slot_page = K.slot_page;
        recovering = K.recovering;
      }

  -- so there are stamps left
  pub chain_spare : {y : Model} → Chain q x y → 126 < x.top → y.newest < y.top - 63
  chain_spare c h = omega (arith, chain-count c, (chain-ready c).window-rule.fits, (chain-rest c).top)

  -- one store for all of them
  announced-same : {y : Model} (c : Chain q x y) (s : ℕ) (r : Row) → meta_no s ≡ q
      → stored q (upd y.row s r) (y.window ++ (s ∷ [])) x ≡ restamped (suc x.newest) (opened s r y)
  unfolding restamped stored
  announced-same {y} c s r e =
      let K = chain-rest c in
      same_path _ _ record {
        slots = K.slots;
        blocks = K.blocks;
        top = K.top;
        row = λ t. refl;
        entry = λ t. at t (told (eqb (meta_no t) q));
        hdd = K.hdd;
        slot_page = K.slot_page;
        window = refl;
        stored_window = refl;
        newest = refl;
        stamp = refl;
        unconfirmed = refl;
        recovering = K.recovering;
      }
    where
      at : (t : ℕ) → Told (eqb (meta_no t) q)
          → cond (eqb (meta_no t) q) (upd y.row s r t) (x.entry t) ≡ cond (eqb (meta_no t) (meta_no s)) (upd y.row s r t) (y.entry t)
      at t (told_true h) = rw (e, h)
      at t (told_false h) = rw (e, h) ((chain-rest c).entry t h)

  pub announced-ready : {y : Model} → Chain q x y → {s : ℕ} {r : Row} → meta_no s ≡ q → Opens y s r → x.newest < x.top - 63
      → Ready (stored q (upd y.row s r) (y.window ++ (s ∷ [])) x) p
  announced-ready {y} c {s} {r} e o h =
      let Y : Ready (opened s r y) p = opens-ready y p (chain-ready c) o in
      rw (announced-same c s r e) (restamped_ready (suc x.newest) (opened s r y) p Y
      (omega (arith, Y.stored_window-rule.fits, (chain-rest (one_more c e o)).top)))
