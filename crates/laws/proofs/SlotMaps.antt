-- The slot map: its lines, byte by byte; that it changes nothing; and its number.
use Prim.Native.Nat.{ℕ, zero, suc, ◌+◌, ◌-◌, ◌*◌, ◌/◌, ◌%◌, ◌^◌, ◌≤◌, ◌<◌}
use mathlib.Core.Path.{◌≡◌, refl, sym, ap, subst, ◌∙◌}
use mathlib.Core.Logic.{◌≢◌, ◌↔◌}
use mathlib.Core.Bool.{Bool, true, false, cond}
use mathlib.Core.List.{List, [], ◌∷◌, ◌++◌, append_assoc}
use Rattle.std.specs.Prelude.{Option, Some, None}
use native.Mathlib.Omega.{arith}
use native.Mathlib.Nat.{pow-suc}
use native.Mathlib.Decide.{dec_lt}
use lib.ListN.{length, get_or, take, drop, replicate, length-append, length-drop, replicate-append-replicate, get_or-append}
use lib.Seq.{get_or-append-add, get_or-drop, take_at}
use lib.Dec.{eqb}
use borrow.Author.Tests.{lt-ltb, le-ltb, ltb-false, ne_eqb}
use Rattle.layout.specs.declared.Slot.{Slot}
use Rattle.layout.specs.declared.Block.{Block}
use Rattle.layout.specs.declared.Label.{Label}
use Rattle.layout.specs.LabelPage.{decimal}
use Rattle.layout.specs.MetaPage.{firsts}
use Rattle.layout.proofs.Decimal.{decimal-one, decimal_more, length_more}
use Rattle.layout.proofs.JudgeLaws.{length-firsts, get_firsts}
use Rattle.layout.proofs.Booleans.{clash}
use Rattle.record.specs.declared.Record.{Record}
use Rattle.record.specs.Record.{label_in}
use Rattle.protocol.specs.declared.Condition.{Condition}
use Rattle.protocol.specs.declared.Condition.TheVariants.{NotCached, Clean, Dirty, Writing, Fetching}
use Rattle.protocol.specs.Rows.{row_flags, valid, dirty, writing}
use Rattle.protocol.specs.Reply.{refusal, refused}
use Rattle.protocol.specs.Box.{Box, left, box_after}
use Rattle.protocol.specs.Condition.{condition_of}
use Rattle.protocol.specs.Plan.{Ask, slot_map, Call, ask, plan}
use Rattle.protocol.specs.Perform.{perform}
use Rattle.protocol.specs.SlotMap.{held_letter, letter_of, letter_at, aligned, map_line, lines_of, map_lines, map_bytes, map_text}
use Rattle.protocol.specs.declared.Refusal.{Refusal}
use Rattle.protocol.specs.declared.Refusal.TheVariants.{SheetShort}
use Rattle.protocol.specs.Judge.{number_of, test, judged}
use Rattle.protocol.specs.Calls.{decided, effect_of, box_of, mapped, map_of}
use Rattle.protocol.specs.Why.{SlotOf, Why, FirstWhy}
use Rattle.protocol.specs.Beside.{ChangesNothing, said_by, MapSays, MapsSlots, MapKeeps, LetterSays}
use Rattle.protocol.proofs.Reasons.{number_some}
use Rattle.laws.proofs.Judged.{passed}
use Rattle.laws.proofs.Accepted.{service_legal}
use Rattle.laws.proofs.why.Exact.{refuses}
use Rattle.laws.proofs.why.Slots.{cached_as, Found, missing, held, found}

-- A number in columns: the digit of each, or a space before its first digit.
abbrev pub column_of : ℕ → ℕ
column_of m = cond (eqb m 0) 32 (48 + m % 10)

-- k columns of a number, none of 0
unfoldable pub columns : ℕ → ℕ → List ℕ
columns zero m = []
columns (suc k) m = columns k (m / 10) ++ (column_of m ∷ [])

columns_none : (k : ℕ) → columns k 0 ≡ replicate k 32
unfolding columns
columns_none zero = refl
columns_none (suc k) =
    let e : k + 1 ≡ suc k = omega arith in
    ap (λ (t : List ℕ). t ++ (32 ∷ [])) (columns_none k) ∙ replicate-append-replicate k 1 32 ∙ ap (λ (n : ℕ). replicate n 32) e

aligned-one : (k n : ℕ) → n < 10 → aligned (suc k) (decimal n) ≡ replicate k 32 ++ ((48 + n) ∷ [])
unfolding aligned
aligned-one k n h =
    let e : suc k - 1 ≡ k = omega arith in
    ap (λ (t : List ℕ). replicate (suc k - length t) 32 ++ t) (decimal-one n h) ∙ ap (λ (m : ℕ). replicate m 32 ++ ((48 + n) ∷ [])) e

aligned_more : (k n : ℕ) → 10 ≤ n → n < 10000000000
    → aligned (suc k) (decimal n) ≡ aligned k (decimal (n / 10)) ++ ((48 + n % 10) ∷ [])
unfolding aligned
aligned_more k n h l =
    let e : suc k - length (decimal n) ≡ k - length (decimal (n / 10)) = omega (arith, length_more n h l) in
    ap (λ (m : ℕ). replicate m 32 ++ decimal n) e
    ∙ ap (λ (t : List ℕ). replicate (k - length (decimal (n / 10))) 32 ++ t) (decimal_more n h l)
    ∙ sym (append_assoc (replicate (k - length (decimal (n / 10))) 32) (decimal (n / 10)) ((48 + n % 10) ∷ []))

some_column : (m : ℕ) → 0 < m → column_of m ≡ 48 + m % 10
some_column m h = rw (ne_eqb m 0 (λ e. omega arith))

columns_are : (k m : ℕ) → 0 < m → m < 10 ^ k → m < 10000000000 → aligned k (decimal m) ≡ columns k m
unfolding columns
columns_are zero m p h l = absurd (omega arith)
columns_are (suc k) m p h l =
    let w : 10 ^ suc k ≡ 10 ^ k * 10 = pow-suc 10 k in
    go (dec_lt m 10) (λ a. columns_are k (m / 10) (omega arith) (omega arith) (omega arith))
  where
    go : Dec (m < 10) → (10 ≤ m → aligned k (decimal (m / 10)) ≡ columns k (m / 10)) → aligned (suc k) (decimal m) ≡ columns (suc k) m
    go (yes s) ih =
        let z : m / 10 ≡ 0 = omega arith in
        let r : m % 10 ≡ m = omega arith in
        aligned-one k m s ∙ rw (some_column m p, z, r, columns_none k)
    go (no s) ih =
        let a : 10 ≤ m = omega arith in
        aligned_more k m a l ∙ rw (ih a, some_column m p)

-- a number below 100,000 in 5 columns: four that may be spaces, and its last digit
pub number_columns : (n : ℕ) → n < 100000 → aligned 5 (decimal n) ≡ columns 4 (n / 10) ++ ((48 + n % 10) ∷ [])
number_columns n h = go (dec_lt n 10)
  where
    go : Dec (n < 10) → aligned 5 (decimal n) ≡ columns 4 (n / 10) ++ ((48 + n % 10) ∷ [])
    go (yes s) =
        let z : n / 10 ≡ 0 = omega arith in
        let r : n % 10 ≡ n = omega arith in
        aligned-one 4 n s ∙ rw (z, r, columns_none 4)
    go (no s) =
        let a : 10 ≤ n = omega arith in
        aligned_more 4 n a (omega arith) ∙ ap (λ (t : List ℕ). t ++ ((48 + n % 10) ∷ [])) (columns_are 4 (n / 10) (omega arith) (omega arith) (omega arith))

pub length-number : (n : ℕ) → n < 100000 → length (aligned 5 (decimal n)) ≡ 5
unfolding columns
length-number n h = ap length (number_columns n h)

-- A line, byte by byte.
module _ (l : Label) (table : List ℕ) (k : ℕ) (low : 60 * k < 100000) where
  abbrev letters : List ℕ
  letters = firsts 60 (λ i. letter_at l table (60 * k + i))

  length_letters : length letters ≡ 60
  length_letters = length-firsts 60 _

  length-line : length (map_line l table k) ≡ 67
  unfolding map_line
  length-line =
      length-append (aligned 5 (decimal (60 * k))) (32 ∷ (letters ++ (10 ∷ [])))
      ∙ omega (arith, length-number (60 * k) low, length-append letters (10 ∷ []), length_letters)

  after-number : (i : ℕ) → get_or (map_line l table k) (6 + i) 0 ≡ get_or (letters ++ (10 ∷ [])) i 0
  unfolding map_line
  after-number i =
      let a : List ℕ = aligned 5 (decimal (60 * k)) in
      let e : 6 + i ≡ length a + suc i = omega (arith, length-number (60 * k) low) in
      ap (λ (j : ℕ). get_or (map_line l table k) j 0) e ∙ get_or-append-add a (32 ∷ (letters ++ (10 ∷ []))) (suc i) 0

  line-letter : (i : ℕ) → i < 60 → get_or (map_line l table k) (6 + i) 0 ≡ letter_at l table (60 * k + i)
  line-letter i h =
      after-number i
      ∙ get_or-append letters (10 ∷ []) 0 i (omega (arith, length_letters))
      ∙ get_firsts 60 (λ i. letter_at l table (60 * k + i)) i 0 h

  line_end : get_or (map_line l table k) 66 0 ≡ 10
  line_end =
      let e : 60 ≡ length letters + 0 = omega (arith, length_letters) in
      after-number 60 ∙ ap (λ (j : ℕ). get_or (letters ++ (10 ∷ [])) j 0) e ∙ get_or-append-add letters (10 ∷ []) 0 0

-- The lines.
module _ (l : Label) (table : List ℕ) where
  pub length_lines : (n : ℕ) → n ≤ 960 → length (lines_of l table n) ≡ 67 * n
  unfolding lines_of
  length_lines zero h = refl
  length_lines (suc n) h =
      length-append (lines_of l table n) (map_line l table n)
      ∙ omega (arith, length_lines n (omega arith), length-line l table n (omega arith))

  line_byte : (n k i : ℕ) → n ≤ 960 → k < n → i < 67 → get_or (lines_of l table n) (67 * k + i) 0 ≡ get_or (map_line l table k) i 0
  unfolding lines_of
  line_byte zero k i h q b = absurd (omega arith)
  line_byte (suc n) k i h q b = go (dec_lt k n) (line_byte n k i (omega arith))
    where
      size : length (lines_of l table n) ≡ 67 * n
      size = length_lines n (omega arith)

      go : Dec (k < n) → (k < n → i < 67 → get_or (lines_of l table n) (67 * k + i) 0 ≡ get_or (map_line l table k) i 0)
          → get_or (lines_of l table n ++ map_line l table n) (67 * k + i) 0 ≡ get_or (map_line l table k) i 0
      go (yes m) ih = get_or-append (lines_of l table n) (map_line l table n) 0 (67 * k + i) (omega (arith, size)) ∙ ih m b
      go (no m) ih =
          let e : k ≡ n = omega arith in
          let j : 67 * n + i ≡ length (lines_of l table n) + i = omega (arith, size) in
          rw (e, j) (get_or-append-add (lines_of l table n) (map_line l table n) i 0)

  letter_byte : (s : ℕ) → map_lines l ≤ 960 → s < 60 * map_lines l
      → get_or (map_text l table) (67 * (s / 60) + (6 + s % 60)) 0 ≡ letter_at l table s
  letter_byte s few h =
      let e : 60 * (s / 60) + s % 60 ≡ s = omega arith in
      line_byte (map_lines l) (s / 60) (6 + s % 60) few (omega arith) (omega arith)
      ∙ line-letter l table (s / 60) (omega arith) (s % 60) (omega arith)
      ∙ ap (letter_at l table) e

pub maps_slots : MapsSlots
unfolding letter_at
maps_slots l table L =
    let few : map_lines l ≤ 960 = omega (arith, L.slots-most) in
    record {
      size = length_lines l table (map_lines l) few;
      letter = λ s h. letter_byte l table s.0 few (omega arith) ∙ rw (lt-ltb s.0 l.slots h);
      filled = λ s h q. letter_byte l table s few q ∙ rw (le-ltb s l.slots h);
      ended = λ k h. line_byte l table (map_lines l) k 66 few h (omega arith) ∙ line_end l table k (omega arith);
    }

-- A call that only asks.
pub changes_nothing : (a : Ask) (x : Box) → ChangesNothing a x
unfolding effect_of plan perform
changes_nothing a x = record { box = box (judged (ask a) x); stored = stored (judged (ask a) x) }
  where
    box : (o : Option Refusal) → box_after (left (decided o (ask a) x) x.images) ≡ x
    box (Some r) = refl
    box None = refl

    stored : (o : Option Refusal) → (left (decided o (ask a) x) x.images).stored ≡ None
    stored (Some r) = refl
    stored None = refl

-- A map's number, as demand 3's lists have it.
pub said_some : (n : ℕ) → n ≢ 0 → refusal n ≡ said_by n
said_some zero h = absurd (h refl)
said_some (suc n) h = refl

pub map_says : (ssd hdd table : List ℕ) (state : Record) (sheet : List ℕ) → MapSays ssd hdd table state sheet
unfolding effect_of plan perform map_of
map_says ssd hdd table state sheet = by_reason (judged (ask (slot_map (length sheet))) (box_of ssd hdd table state))
  where
    by_reason : (o : Option Refusal) → let x = box_of ssd hdd table state in
        (left (decided o (ask (slot_map (length sheet))) x) x.images).said ≡ said_by (mapped o (label_in state) table sheet).number
    by_reason (Some r) = said_some (number_of r) (number_some r)
    by_reason None = refl

-- "A number is used if its condition holds for that call, and in no other case": of the number that a map gives
said-number : (m n : ℕ) → said_by m ≡ refusal n → m ≡ n
said-number zero n e = clash (ap refused e) refl
said-number (suc m) n e = cc

pub map_refuses : (ssd hdd table : List ℕ) (state : Record) (sheet : List ℕ) (n : ℕ) → n ≢ 0
    → ((map_of ssd hdd table state sheet).number ≡ n) ↔ FirstWhy (Why (ask (slot_map (length sheet))) (box_of ssd hdd table state)) n
map_refuses ssd hdd table state sheet n z =
    let says = map_says ssd hdd table state sheet in
    let same = refuses (ask (slot_map (length sheet))) (box_of ssd hdd table state) n in
    (λ h. same.0 (says ∙ ap said_by h ∙ sym (said_some n z)), λ h. said-number _ n (sym says ∙ same.1 h))

-- What a map leaves of the buffer.
pub map-keeps : (ssd hdd table : List ℕ) (state : Record) (sheet : List ℕ) → MapKeeps ssd hdd table state sheet
unfolding map_of test
map-keeps ssd hdd table state sheet = record {
  refused-same = refused-same (judged c x);
  begins = begins (judged c x) refl;
  after_stays = after_stays (judged c x) refl;
  size = size (judged c x) refl;
}
  where
    c : Call
    c = ask (slot_map (length sheet))

    x : Box
    x = box_of ssd hdd table state

    l : Label
    l = label_in state

    refused-same : (o : Option Refusal) → (mapped o l table sheet).number ≢ 0 → (mapped o l table sheet).sheet ≡ sheet
    refused-same (Some r) h = refl
    refused-same None h = absurd (h refl)

    -- of a map that is not refused: the text's length, and that there is room for it
    text : judged c x ≡ None → length (map_text l table) ≡ map_bytes l
    text e = (maps_slots l table (service_legal c x refl e).limits).size

    room : judged c x ≡ None → map_bytes l ≤ length sheet
    room e = ltb-false (length sheet) (map_bytes l) (passed c x e SheetShort refl)

    begins : (o : Option Refusal) → judged c x ≡ o → (mapped o l table sheet).number ≡ 0
        → take (map_bytes l) (mapped o l table sheet).sheet ≡ map_text l table
    begins (Some r) e h = absurd (number_some r h)
    begins None e h = take_at (map_text l table) (drop (map_bytes l) sheet) (map_bytes l) (text e)

    after_stays : (o : Option Refusal) → judged c x ≡ o → (k : ℕ) → map_bytes l ≤ k → get_or (mapped o l table sheet).sheet k 0 ≡ get_or sheet k 0
    after_stays (Some r) e k h = refl
    after_stays None e k h =
        let i : ℕ = k - map_bytes l in
        let a : k ≡ length (map_text l table) + i = omega (arith, text e) in
        let b : map_bytes l + i ≡ k = omega arith in
        ap (λ (j : ℕ). get_or (map_text l table ++ drop (map_bytes l) sheet) j 0) a
        ∙ get_or-append-add (map_text l table) (drop (map_bytes l) sheet) i 0
        ∙ get_or-drop (map_bytes l) sheet i 0
        ∙ ap (λ (j : ℕ). get_or sheet j 0) b

    size : (o : Option Refusal) → judged c x ≡ o → length (mapped o l table sheet).sheet ≡ length sheet
    size (Some r) e = refl
    size None e =
        length-append (map_text l table) (drop (map_bytes l) sheet)
        ∙ omega (arith, text e, room e, length-drop (map_bytes l) sheet)

-- A block's letter.
letter_held : (flags : ℕ) (w d : Bool) → valid flags ≡ true → writing flags ≡ w → dirty flags ≡ d → letter_of flags ≡ held_letter w d
unfolding letter_of
letter_held flags w d v ew ed = rw (v, ew, ed)

pub letter_says : (table : List ℕ) (b : Block) (s : Slot) → LetterSays table b s
letter_says table b s = record {
  clean = λ e. says (Clean s) e;
  dirtied = λ e. says (Dirty s) e;
  writes = λ e. says (Writing s) e;
  fetches = λ e. says (Fetching s) e;
}
  where
    -- the letter of the slot that a condition names
    Says : Condition → Type 0
    Says NotCached = Unit {0}
    Says (Clean t) = letter_of (row_flags table t) ≡ 99
    Says (Dirty t) = letter_of (row_flags table t) ≡ 100
    Says (Writing t) = letter_of (row_flags table t) ≡ 119
    Says (Fetching t) = letter_of (row_flags table t) ≡ 102

    by_flags : (t : SlotOf table b) (w d : Bool) → writing (row_flags table t.slot) ≡ w → dirty (row_flags table t.slot) ≡ d
        → Says (cached_as w d t.slot)
    by_flags t true true ew ed = letter_held (row_flags table t.slot) true true t.valid-row ew ed
    by_flags t true false ew ed = letter_held (row_flags table t.slot) true false t.valid-row ew ed
    by_flags t false true ew ed = letter_held (row_flags table t.slot) false true t.valid-row ew ed
    by_flags t false false ew ed = letter_held (row_flags table t.slot) false false t.valid-row ew ed

    go : {k : Condition} → Found table b k → Says k
    go (missing n) = tt
    go (held t) = by_flags t (writing (row_flags table t.slot)) (dirty (row_flags table t.slot)) refl refl

    says : (k : Condition) → condition_of table b ≡ k → Says k
    says k e = subst Says e (go (found table b))
