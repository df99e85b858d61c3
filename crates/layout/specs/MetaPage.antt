-- The metadata page, written and read (document 01, "Metadata page").
use Rattle.std.specs.Prelude.{ℕ, zero, suc, ◌+◌, ◌*◌, ◌%◌, List, [], ◌∷◌, ◌++◌, length, get_or, take, drop}
use Rattle.pages.specs.Pages.{padded}
use Rattle.pages.specs.Words.{le_bytes, le_number}
use Rattle.layout.specs.declared.Slot.{Slot}
use Rattle.layout.specs.declared.Entry.{Entry}

-- the bytes of a window: "slot numbers of 4 bytes"
unfoldable pub slots_bytes : List Slot → List ℕ
slots_bytes [] = []
slots_bytes (s ∷ window) = le_bytes 4 s.0 ++ slots_bytes window

-- an entry: "block (4), flags (1), zero (3)"; the used flag, 8, is a row's alone
unfoldable pub entry_bytes : ℕ → ℕ → List ℕ
entry_bytes block flags = le_bytes 4 block ++ (flags % 8 ∷ 0 ∷ 0 ∷ 0 ∷ [])

-- the entries of table rows, two words a row: block and flags
unfoldable pub rows_bytes : List ℕ → List ℕ
rows_bytes [] = []
rows_bytes (block ∷ []) = []
rows_bytes (block ∷ flags ∷ rows) = entry_bytes block flags ++ rows_bytes rows

-- the page of a stamp, a window and the rows of its slots: 0..3 stamp, 4..5 window length, zero, 16.. window, zero,
-- 512.. entries, zero
unfoldable pub encode_meta : ℕ → List Slot → List ℕ → List ℕ
encode_meta stamp window rows =
    padded 4096 (padded 512 (padded 16 (le_bytes 4 stamp ++ le_bytes 2 (length window)) ++ slots_bytes window) ++ rows_bytes rows)

-- the rows of the slots of metadata page p, of a whole table
abbrev pub rows_on : ℕ → List ℕ → List ℕ
rows_on p table = take 480 (drop (480 * p) table)

-- Reading: each field from its own bytes.

-- bytes 0..3
unfoldable pub stamp_of : List ℕ → ℕ
stamp_of page = le_number (take 4 page)

-- bytes 4..5
unfoldable pub count_of : List ℕ → ℕ
count_of page = le_number (take 2 (drop 4 page))

-- bytes 16..267: place k of the window
unfoldable pub slot_at : List ℕ → ℕ → Slot
slot_at page k = record { 0 = le_number (take 4 (drop (16 + 4 * k) page)) }

-- the first n of a list that is given by its places
unfoldable pub firsts : {A : Type 0} → ℕ → (ℕ → A) → List A
firsts zero f = []
firsts (suc n) f = f 0 ∷ firsts n (λ k. f (suc k))

-- the window, up to its length
unfoldable pub window_of : List ℕ → List Slot
window_of page = firsts (count_of page) (slot_at page)

-- bytes 512..2431: "Each entry is read from its own 8 bytes of the page"
unfoldable pub entry_part : List ℕ → ℕ → List ℕ
entry_part page i = take 8 (drop (512 + 8 * i) page)

unfoldable pub decode_entry : List ℕ → Entry
decode_entry part = record { block = record { 0 = le_number (take 4 part) }; flags = get_or part 4 0 }

abbrev pub entry_at : List ℕ → ℕ → Entry
entry_at page i = decode_entry (entry_part page i)

-- table rows of the first n of a sequence of entries
unfoldable pub rows_from : ℕ → (ℕ → Entry) → List ℕ
rows_from zero f = []
rows_from (suc n) f = (f 0).block.0 ∷ (f 0).flags ∷ rows_from n (λ i. f (suc i))
