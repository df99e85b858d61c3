-- The stored entries of legal pages, and the rules between pages as tests.
use Prim.Native.Nat.{ℕ, zero, suc, ◌+◌, ◌*◌, ◌/◌, ◌%◌, ◌<◌}
use mathlib.Core.Path.{◌≡◌, refl, sym}
use mathlib.Core.Logic.{◌≢◌, inl, inr}
use mathlib.Core.Bool.{Bool, true, false, not, ◌&&◌, ◌||◌, or-true}
use mathlib.Core.List.{List, [], ◌∷◌}
use native.Mathlib.Omega.{arith}
use lib.ListN.{length, get_or}
use lib.Dec.{eqb}
use borrow.Author.Tests.{lt-ltb, ne_eqb}
use Rattle.laws.proofs.refine.Tables.{at_suc}
use Rattle.layout.specs.declared.Slot.{Slot}
use Rattle.layout.proofs.PlaceLaws.{meta_of-low}
use Rattle.layout.specs.declared.Label.{Label}
use Rattle.layout.specs.declared.Entry.{Entry}
use Rattle.layout.specs.MetaPage.{stamp_of, rows_from}
use Rattle.layout.specs.PageRule.{page_test, LegalFlags, listed}
use Rattle.layout.proofs.RuleLaws.{page-rule}
use Rattle.protocol.specs.Rows.{valid, dirty, writing}
use Rattle.protocol.specs.Recovery.{entry_in, each_legal, stamp_in, stamps_differ, block_in, none_twice, all_open_in, recovered}
use Rattle.layout.proofs.Booleans.{Told, told, told_true, told_false, clash}
use Rattle.laws.proofs.model.Base.{has, eqb_same}
use Rattle.laws.proofs.model.Model as model
use Rattle.laws.proofs.model.Model.{dirty_row, open_row, block_of, revived}
use Rattle.laws.proofs.refine.Windows.{nums, has_nums}
use Rattle.laws.proofs.refine.Flags.{row_of, f0, f1, f3, LegalRow}
use Rattle.laws.proofs.refine.Abstract.{entry_row, Pages}

-- rows made of entries
pub length-rows : (n : ℕ) (f : ℕ → Entry) → length (rows_from n f) ≡ 2 * n
unfolding rows_from
length-rows zero f = refl
length-rows (suc n) f = let i = length-rows n (λ k. f (suc k)) in omega arith

pub rows-block : (n : ℕ) (f : ℕ → Entry) (s : ℕ) → s < n → get_or (rows_from n f) (2 * s) 0 ≡ (f s).block.0
unfolding rows_from
rows-block zero f s h = absurd (omega arith)
rows-block (suc n) f zero h = refl
rows-block (suc n) f (suc s) h = let e : 2 * suc s ≡ suc (suc (2 * s)) = omega arith in rw e (rows-block n (λ k. f (suc k)) s (omega arith))

pub rows_flags : (n : ℕ) (f : ℕ → Entry) (s : ℕ) → s < n → get_or (rows_from n f) (2 * s + 1) 0 ≡ (f s).flags
unfolding rows_from
rows_flags zero f s h = absurd (omega arith)
rows_flags (suc n) f zero h = refl
rows_flags (suc n) f (suc s) h = let e : 2 * suc s + 1 ≡ suc (suc (2 * s + 1)) = omega arith in
    rw e (rows_flags n (λ k. f (suc k)) s (omega arith))

-- an entry's flags: the five legal sums
pub data Sums : ℕ → Type 0 where
  s0 : Sums 0
  s1 : Sums 1
  s3 : Sums 3
  s5 : Sums 5
  s7 : Sums 7

sums_of : (f : ℕ) → LegalFlags f → Sums f
sums_of f (inl e) = rw e s0
sums_of f (inr (inl e)) = rw e s1
sums_of f (inr (inr (inl e))) = rw e s3
sums_of f (inr (inr (inr (inl e)))) = rw e s5
sums_of f (inr (inr (inr (inr e)))) = rw e s7

pub record LegalEntry (l : Label) (e : Entry) : Type 0 where
  pub sums : Sums e.flags
  pub low : valid e.flags ≡ true → e.block.0 < l.blocks

low_of : {f : ℕ} → Sums f → valid f ≡ true → f ≢ 0
low_of s0 v e = clash {b = false} v refl
low_of s1 v e = omega arith
low_of s3 v e = omega arith
low_of s5 v e = omega arith
low_of s7 v e = omega arith

pub legal_entry : (l : Label) (pages : List (List ℕ)) → Pages l pages → (s : ℕ) → s < l.slots
    → LegalEntry l (entry_in pages (record { 0 = s }))
unfolding entry_in
legal_entry l pages P s h =
    let r = (page-rule l (s / 240) (get_or pages (s / 240) [])).0 (P.each (s / 240) (meta_of-low l (record { 0 = s }) h)) in
    let q = (r.entries (s % 240) (omega arith)).pair in
    let k = sums_of _ q.legal in
    record { sums = k; low = λ v. q.below (low_of k v) }

-- what flags say of the model's entry
pub record SameEntry (e : Entry) : Type 0 where
  pub same-valid : model.valid (row_of e.block.0 e.flags) ≡ valid e.flags
  pub same-dirty : dirty_row (row_of e.block.0 e.flags) ≡ dirty e.flags
  pub same_open : open_row (row_of e.block.0 e.flags) ≡ writing e.flags
  pub same_block : valid e.flags ≡ true → block_of (row_of e.block.0 e.flags) ≡ e.block.0

same_of : (b : ℕ) {f : ℕ} → Sums f → SameEntry (record { block = record { 0 = b }; flags = f })
unfolding row_of
same_of b s0 = record { same-valid = refl; same-dirty = refl; same_open = refl; same_block = λ v. clash {b = false} v refl }
same_of b s1 = record { same-valid = refl; same-dirty = refl; same_open = refl; same_block = λ v. refl }
same_of b s3 = record { same-valid = refl; same-dirty = refl; same_open = refl; same_block = λ v. refl }
same_of b s5 = record { same-valid = refl; same-dirty = refl; same_open = refl; same_block = λ v. refl }
same_of b s7 = record { same-valid = refl; same-dirty = refl; same_open = refl; same_block = λ v. refl }

pub same_entry : (e : Entry) → Sums e.flags → SameEntry e
same_entry e k = same_of e.block.0 k

-- the entry of a slot
pub entry_in_lem : (l : Label) (pages : List (List ℕ)) (s : ℕ) → s < l.slots
    → entry_row l pages s ≡ row_of (entry_in pages (record { 0 = s })).block.0 (entry_in pages (record { 0 = s })).flags
unfolding entry_row
entry_in_lem l pages s h = rw (lt-ltb s l.slots h)

-- a recovered entry is the model's
recovered_of : (w : List Slot) (s b : ℕ) {f : ℕ} → Sums f → (listed (record { 0 = s }) w ≡ true → writing f ≡ true) → (h : Bool)
    → listed (record { 0 = s }) w ≡ h
    → row_of (recovered w (record { 0 = s }) (record { block = record { 0 = b }; flags = f })).block.0
    ((recovered w (record { 0 = s }) (record { block = record { 0 = b }; flags = f })).flags % 8) ≡ revived h (row_of b f)
unfolding row_of
recovered_of w s b s0 o true e = refl
recovered_of w s b s1 o true e = clash {b = false} (o e) refl
recovered_of w s b s3 o true e = clash {b = false} (o e) refl
recovered_of w s b s5 o true e = rw (recovered, e)
recovered_of w s b s7 o true e = rw (recovered, e)
recovered_of w s b s0 o false e = refl
recovered_of w s b s1 o false e = refl
recovered_of w s b s3 o false e = refl
recovered_of w s b s5 o false e = rw (recovered, e)
recovered_of w s b s7 o false e = rw (recovered, e)

pub recovered-row : (w : List Slot) (s : ℕ) (e : Entry) → Sums e.flags → (listed (record { 0 = s }) w ≡ true → writing e.flags ≡ true)
    → row_of (recovered w (record { 0 = s }) e).block.0 ((recovered w (record { 0 = s }) e).flags % 8) ≡ revived (has (nums w) s)
    (row_of e.block.0 e.flags)
recovered-row w s e k o = recovered_of w s e.block.0 k o (has (nums w) s) (sym (has_nums w s))

-- and a legal row
recovered-legal_of : (l : Label) (w : List Slot) (s b : ℕ) {f : ℕ} → Sums f → (valid f ≡ true → b < l.blocks) → (h : Bool)
    → listed (record { 0 = s }) w ≡ h
    → LegalRow l (recovered w (record { 0 = s }) (record { block = record { 0 = b }; flags = f })).block.0
    (recovered w (record { 0 = s }) (record { block = record { 0 = b }; flags = f })).flags
recovered-legal_of l w s b s0 low h e = record { flags = f0; low = λ v. clash {b = false} v refl; free = λ v. refl }
recovered-legal_of l w s b s1 low h e = record { flags = f1; low = λ v. low refl; free = λ v. clash {b = true} refl v }
recovered-legal_of l w s b s3 low h e = record { flags = f3; low = λ v. low refl; free = λ v. clash {b = true} refl v }
recovered-legal_of l w s b s5 low true e = rw (recovered, e) record { flags = f0; low = λ v. clash {b = false} v refl; free = λ v. refl }
recovered-legal_of l w s b s5 low false e =
    rw (recovered, e) record { flags = f1; low = λ v. low refl; free = λ v. clash {b = true} refl v }
recovered-legal_of l w s b s7 low true e = rw (recovered, e) record { flags = f0; low = λ v. clash {b = false} v refl; free = λ v. refl }
recovered-legal_of l w s b s7 low false e =
    rw (recovered, e) record { flags = f3; low = λ v. low refl; free = λ v. clash {b = true} refl v }

pub recovered-legal : (l : Label) (w : List Slot) (s : ℕ) (e : Entry) → LegalEntry l e
    → LegalRow l (recovered w (record { 0 = s }) e).block.0 (recovered w (record { 0 = s }) e).flags
recovered-legal l w s e k = recovered-legal_of l w s e.block.0 k.sums k.low (listed (record { 0 = s }) w) refl

-- The rules between pages, as tests.
pub each_legal_lem : (l : Label) (p : ℕ) (pages : List (List ℕ)) → ((q : ℕ) → q < length pages → page_test l (p + q) (get_or pages q []) ≡ true)
    → each_legal l p pages ≡ true
unfolding each_legal
each_legal_lem l p [] h = refl
each_legal_lem l p (page ∷ pages) h =
    let z : p + 0 ≡ p = omega arith in
    let first : page_test l p page ≡ true = rw z at (h 0 (omega arith)) in
    rw (first, each_legal_lem l (suc p) pages (λ q k. let e : p + suc q ≡ suc p + q = omega arith in rw e at (h (suc q) (omega arith))))

not_in : (t : ℕ) (pages : List (List ℕ)) → ((q : ℕ) → q < length pages → t ≢ stamp_of (get_or pages q [])) → stamp_in t pages ≡ false
unfolding stamp_in
not_in t [] h = refl
not_in t (page ∷ pages) h = rw (ne_eqb t (stamp_of page) (h 0 (omega arith)), not_in t pages (λ q k. h (suc q) (omega arith)))

pub stamps_differ_lem : (pages : List (List ℕ))
    → ((p q : ℕ) → p < q → q < length pages → stamp_of (get_or pages p []) ≢ 0 → stamp_of (get_or pages p []) ≢ stamp_of (get_or pages q []))
    → stamps_differ pages ≡ true
unfolding stamps_differ
stamps_differ_lem [] h = refl
stamps_differ_lem (page ∷ pages) h = rw (stamps_differ_lem pages (λ p q i j. h (suc p) (suc q) (omega arith) (omega arith)))
    (go (told (eqb (stamp_of page) 0)))
  where
    go : Told (eqb (stamp_of page) 0) → ((eqb (stamp_of page) 0 || not (stamp_in (stamp_of page) pages)) && true) ≡ true
    go (told_true e) = rw e
    go (told_false e) = rw (
      e,
      not_in (stamp_of page) pages
          (λ q k. h 0 (suc q) (omega arith) (omega arith) (λ z. clash (rw z (eqb_same 0)) e)),
    )

-- a block in none of the rows
no_block : (b : ℕ) (t : List ℕ) → ((s : ℕ) → 2 * s + 1 < length t → valid (get_or t (2 * s + 1) 0) ≡ true → get_or t (2 * s) 0 ≢ b)
    → block_in b t ≡ false
unfolding block_in
no_block b [] h = refl
no_block b (x ∷ []) h = refl
no_block b (x ∷ f ∷ t) h = rw (first (told (valid f)), no_block b t later)
  where
    first : Told (valid f) → (valid f && eqb x b) ≡ false
    first (told_true v) = rw (v, ne_eqb x b (h 0 (omega arith) v))
    first (told_false v) = rw v

    later : (s : ℕ) → 2 * s + 1 < length t → valid (get_or t (2 * s + 1) 0) ≡ true → get_or t (2 * s) 0 ≢ b
    later s q =
        let e0 : 2 * suc s ≡ suc (suc (2 * s)) = omega arith in
        let e1 : 2 * suc s + 1 ≡ suc (suc (2 * s + 1)) = omega arith in
        let i = h (suc s) (omega arith) in
        rw (e1, e0) at i

pub none_twice_lem : (t : List ℕ) → ((s u : ℕ) → s < u → 2 * u + 1 < length t → valid (get_or t (2 * s + 1) 0) ≡ true
    → valid (get_or t (2 * u + 1) 0) ≡ true → get_or t (2 * s) 0 ≢ get_or t (2 * u) 0) → none_twice t ≡ true
unfolding none_twice
none_twice_lem [] h = refl
none_twice_lem (x ∷ []) h = refl
none_twice_lem (x ∷ f ∷ t) h = rw (first (told (valid f)), none_twice_lem t (λ s u i q. shift s u i q))
  where
    first : Told (valid f) → not (valid f && block_in x t) ≡ true
    first (told_true v) = rw (
      v,
      no_block x t (λ s q w e.
          let i = h 0 (suc s) (omega arith) (omega arith) v in
          let j = rw ((at_suc s).1, (at_suc s).0) at i in
          j w (sym e)),
    )
    first (told_false v) = rw v

    shift : (s u : ℕ) → s < u → 2 * u + 1 < length t → valid (get_or t (2 * s + 1) 0) ≡ true → valid (get_or t (2 * u + 1) 0) ≡ true
        → get_or t (2 * s) 0 ≢ get_or t (2 * u) 0
    shift s u i q =
        let j = h (suc s) (suc u) (omega arith) (omega arith) in
        rw ((at_suc s).1, (at_suc s).0, (at_suc u).1, (at_suc u).0) at j

pub all_open_lem : (pages : List (List ℕ)) (w : List Slot)
    → ((s : Slot) → listed s w ≡ true → (valid (entry_in pages s).flags ≡ true) × (writing (entry_in pages s).flags ≡ true))
    → all_open_in pages w ≡ true
unfolding all_open_in listed
all_open_lem pages [] h = refl
all_open_lem pages (s ∷ w) h =
    let f = h s (rw (eqb_same s.0)) in
    rw (f.0, f.1, all_open_lem pages w (λ t q. h t (rw q (or-true (eqb t.0 s.0)))))
