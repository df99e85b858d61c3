-- The rows of two metadata pages, computed in one walk of each page: `entryIn` reads each entry from the page's start.
use Prim.Native.Nat.{ℕ, zero, suc, ◌+◌, ◌*◌, ◌%◌, ◌<◌}
use native.Mathlib.Nat.{add-zero, zero-add, suc-add, add-suc, mul-suc, mod-eq_of_lt, div-eq_of_lt, add_comm, zero-lt-suc, le_of_suc-le-suc, not-suc-le-zero}
use native.Mathlib.Omega.{arith}
use mathlib.Core.Path.{◌≡◌, refl, sym, ap, ◌∙◌}
use mathlib.Core.Bool.{Bool, true, false, ◌&&◌}
use mathlib.Core.List.{List, [], ◌∷◌, ◌++◌}
use Rattle.std.specs.Prelude.{Option, Some, None}
use lib.ListN.{take, drop, get_or}
use lib.Seq.{drop-drop}
use Rattle.layout.specs.declared.Slot.{Slot}
use Rattle.layout.specs.declared.Label.{Label}
use Rattle.layout.specs.declared.Entry.{Entry}
use Rattle.layout.specs.Places.{label_of}
use Rattle.layout.specs.MetaPage.{decode_entry, entry_part, rows_from}
use Rattle.protocol.specs.Recovery.{entry_in, Newest, newest_of, spent_in, each_legal, stamps_differ, none_twice, all_open_in, pages_test, recovered, Recovered, recover, recover_if, recover_from}

-- the rows of n entries from slot s on, each in its own 8 of the bytes, after a function of slot and entry
unfoldable pub walked : (Slot → Entry → Entry) → ℕ → ℕ → List ℕ → List ℕ
walked g s zero bytes = []
walked g s (suc n) bytes =
    let e = g (record { 0 = s }) (decode_entry (take 8 bytes)) in
    let rest = walked g (suc s) n (drop 8 bytes) in
    e.block.0 ∷ e.flags ∷ rest

AsWalked : (Slot → Entry → Entry) → ℕ → ℕ → List ℕ → (ℕ → Entry) → Type 0
AsWalked g s n bytes f = (i : ℕ) → i < n → f i ≡ g (record { 0 = s + i }) (decode_entry (take 8 (drop (8 * i) bytes)))

past : (i : ℕ) (bytes : List ℕ) → drop (8 * suc i) bytes ≡ drop (8 * i) (drop 8 bytes)
past i bytes = ap (λ (k : ℕ). drop k bytes) (mul-suc 8 i ∙ add_comm (8 * i) 8) ∙ sym (drop-drop (8 * i) 8 bytes)

rows_walked : (g : Slot → Entry → Entry) (s n : ℕ) (bytes : List ℕ) (f : ℕ → Entry) → AsWalked g s n bytes f
    → rows_from n f ≡ walked g s n bytes
unfolding rows_from walked AsWalked
rows_walked g s zero bytes f h = refl
rows_walked g s (suc n) bytes f h =
    let first : f 0 ≡ g (record { 0 = s }) (decode_entry (take 8 bytes)) =
    h 0 (zero-lt-suc n) ∙ ap (λ (k : ℕ). g (record { 0 = k }) (decode_entry (take 8 bytes))) (add-zero s) in
    let rest : rows_from n (λ i. f (suc i)) ≡ walked g (suc s) n (drop 8 bytes) =
    rows_walked g (suc s) n (drop 8 bytes) (λ i. f (suc i)) (λ i lt.
    h (suc i) (omega arith)
    ∙ ap (λ (k : ℕ). g (record { 0 = k }) (decode_entry (take 8 (drop (8 * suc i) bytes)))) (add-suc s i ∙ sym (suc-add s i))
    ∙ ap (λ (rest : List ℕ). g (record { 0 = suc s + i }) (decode_entry (take 8 rest))) (past i bytes)) in
    ap (λ (e : Entry). e.block.0 ∷ e.flags ∷ rows_from n (λ i. f (suc i))) first
    ∙ ap (λ (rows : List ℕ). (g (record { 0 = s }) (decode_entry (take 8 bytes))).block.0 ∷ (g (record { 0 = s })
    (decode_entry (take 8 bytes))).flags ∷ rows) rest

-- the rows of both pages, of 241 slots
unfoldable pub both_walked : (Slot → Entry → Entry) → List ℕ → List ℕ → List ℕ
both_walked g page₀ page₁ = walked g 0 240 (drop 512 page₀) ++ walked g 240 1 (drop 512 page₁)

split_rows : (f : ℕ → Entry) → rows_from 241 f ≡ rows_from 240 f ++ rows_from 1 (λ i. f (240 + i))
unfolding rows_from
split_rows f = refl

entry_first : (page : List ℕ) (pages : List (List ℕ)) (i : ℕ) → i < 240
    → entry_in (page ∷ pages) (record { 0 = i }) ≡ decode_entry (take 8 (drop (8 * i) (drop 512 page)))
unfolding entry_in entry_part
entry_first page pages i lt =
    ap (λ (k : ℕ). decode_entry (take 8 (drop (512 + 8 * (i % 240)) (get_or (page ∷ pages) k [])))) (div-eq_of_lt lt)
    ∙ ap (λ (k : ℕ). decode_entry (take 8 (drop (512 + 8 * k) page))) (mod-eq_of_lt lt)
    ∙ ap (λ (bytes : List ℕ). decode_entry (take 8 bytes)) (sym (drop-drop (8 * i) 512 page))

first_walked : (g : Slot → Entry → Entry) (page : List ℕ) (pages : List (List ℕ))
    → AsWalked g 0 240 (drop 512 page) (λ s. g (record { 0 = s }) (entry_in (page ∷ pages) (record { 0 = s })))
unfolding AsWalked
first_walked g page pages i lt =
    ap (g (record { 0 = i })) (entry_first page pages i lt)
    ∙ ap (λ (k : ℕ). g (record { 0 = k }) (decode_entry (take 8 (drop (8 * i) (drop 512 page))))) (sym (zero-add i))

second_walked : (g : Slot → Entry → Entry) (page₀ page₁ : List ℕ)
    → AsWalked g 240 1 (drop 512 page₁) (λ i. g (record { 0 = 240 + i }) (entry_in (page₀ ∷ page₁ ∷ []) (record { 0 = 240 + i })))
unfolding AsWalked entry_in entry_part
second_walked g page₀ page₁ zero lt = refl
second_walked g page₀ page₁ (suc i) lt = absurd (not-suc-le-zero (le_of_suc-le-suc lt))

both_rows : (g : Slot → Entry → Entry) (page₀ page₁ : List ℕ)
    → rows_from 241 (λ s. g (record { 0 = s }) (entry_in (page₀ ∷ page₁ ∷ []) (record { 0 = s }))) ≡ both_walked g page₀ page₁
unfolding both_walked
both_rows g page₀ page₁ =
    let f : ℕ → Entry = λ s. g (record { 0 = s }) (entry_in (page₀ ∷ page₁ ∷ []) (record { 0 = s })) in
    split_rows f
    ∙ ap (λ (rows : List ℕ). rows ++ rows_from 1 (λ i. f (240 + i)))
    (rows_walked g 0 240 (drop 512 page₀) f (first_walked g page₀ (page₁ ∷ [])))
    ∙ ap (λ (rows : List ℕ). walked g 0 240 (drop 512 page₀) ++ rows)
    (rows_walked g 240 1 (drop 512 page₁) (λ i. f (240 + i)) (second_walked g page₀ page₁))

-- `recoverFrom` on two metadata pages of 241 slots, so computed
unfoldable pub quick_test : Label → List ℕ → List ℕ → Bool
quick_test l page₀ page₁ =
    let pages = page₀ ∷ page₁ ∷ [] in
    each_legal l 0 pages
    && (stamps_differ pages && (none_twice (both_walked (λ s e. e) page₀ page₁) && all_open_in pages (newest_of pages).window))

-- (the table and the record are computed even of pages that break a rule)
abbrev pick : Bool → Recovered → Option Recovered
pick true r = Some r
pick false r = None

unfoldable pub quick_recover : Label → List ℕ → List ℕ → Option Recovered
quick_recover l page₀ page₁ =
    let pages = page₀ ∷ page₁ ∷ [] in
    pick (quick_test l page₀ page₁) (record {
      table = both_walked (recovered (newest_of pages).window) page₀ page₁;
      state = (recover l pages (spent_in pages)).state;
    })

picked : (b : Bool) (l : Label) (pages : List (List ℕ)) (spent : ℕ) → recover_if b l pages spent ≡ pick b (recover l pages spent)
picked true l pages spent = refl
picked false l pages spent = refl

pub quick_recover_lem : (blocks : ℕ) (page₀ page₁ : List ℕ)
    → recover_from (label_of 241 blocks) (page₀ ∷ page₁ ∷ []) (spent_in (page₀ ∷ page₁ ∷ [])) ≡ quick_recover (label_of 241 blocks) page₀ page₁
unfolding recover_from pages_test recover quick_test quick_recover
quick_recover_lem blocks page₀ page₁ =
    let l : Label = label_of 241 blocks in
    let pages : List (List ℕ) = page₀ ∷ page₁ ∷ [] in
    let n : Newest = newest_of pages in
    picked (pages_test l pages) l pages (spent_in pages)
    ∙ ap (λ (rows : List ℕ).
    pick (each_legal l 0 pages && (stamps_differ pages && (none_twice rows && all_open_in pages n.window))) (recover l pages (spent_in pages)))
    (both_rows (λ s e. e) page₀ page₁)
    ∙ ap (λ (rows : List ℕ).
    pick (quick_test l page₀ page₁) (record { table = rows; state = (recover l pages (spent_in pages)).state }))
    (both_rows (recovered n.window) page₀ page₁)
