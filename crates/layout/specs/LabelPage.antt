-- The label page (document 01, "Label").
use Rattle.std.specs.Prelude.{ℕ, zero, suc, ◌+◌, ◌-◌, ◌*◌, ◌/◌, ◌%◌, Bool, true, false, ◌&&◌, List, [], ◌∷◌, ◌++◌, eqb, ltb, leb}
use Rattle.std.specs.Prelude.{Option, Some, None}
use Rattle.pages.specs.Pages.{padded}
use Rattle.layout.specs.declared.Label.{Label}
use Rattle.layout.specs.Places.{label_of, within_limits}

-- "the lines `cache=lufuw`, `layout=1`, `slots=N`, `blocks=N`, each ended by byte 10"
abbrev pub cache_line : List ℕ
cache_line = 99 ∷ 97 ∷ 99 ∷ 104 ∷ 101 ∷ 61 ∷ 108 ∷ 117 ∷ 102 ∷ 117 ∷ 119 ∷ 10 ∷ []

abbrev pub layout_line : List ℕ
layout_line = 108 ∷ 97 ∷ 121 ∷ 111 ∷ 117 ∷ 116 ∷ 61 ∷ 49 ∷ 10 ∷ []

abbrev pub slots_key : List ℕ
slots_key = 115 ∷ 108 ∷ 111 ∷ 116 ∷ 115 ∷ 61 ∷ []

abbrev pub blocks_key : List ℕ
blocks_key = 98 ∷ 108 ∷ 111 ∷ 99 ∷ 107 ∷ 115 ∷ 61 ∷ []

-- "decimal without leading zeros": the digits of a number below 10 to the k
unfoldable pub digits : ℕ → ℕ → List ℕ
digits zero n = []
digits (suc k) n = elim (ltb n 10) [ true ↦ (48 + n) ∷ [] | false ↦ digits k (n / 10) ++ ((48 + n % 10) ∷ []) ]

-- a 32-bit number, which has at most 10 digits
abbrev pub decimal : ℕ → List ℕ
decimal n = digits 10 n

-- the label page: its lines, "then zero bytes to the page's end"
unfoldable pub label_text : Label → List ℕ
label_text l =
    cache_line
    ++ (layout_line ++ (slots_key ++ (decimal l.slots ++ (10 ∷ (blocks_key ++ (decimal l.blocks ++ (10 ∷ [])))))))

unfoldable pub encode_label : Label → List ℕ
encode_label l = padded 4096 (label_text l)

-- Reading a label: what stands after a text, after a number with its byte 10, and whether all the rest is zero.

-- the bytes after the text, if they begin with it
unfoldable pub after : List ℕ → List ℕ → Option (List ℕ)
after [] bytes = Some bytes
after (t ∷ text) [] = None
after (t ∷ text) (b ∷ bytes) = elim (eqb t b) [ true ↦ after text bytes | false ↦ None ]

-- a number that was read, and the bytes after its line
pub record Number : Type 0 where
  pub value : ℕ
  pub rest : List ℕ

-- up to k digits more, then byte 10
unfoldable pub number_from : ℕ → ℕ → List ℕ → Option Number
number_from k n [] = None
number_from zero n (b ∷ bytes) = elim (eqb b 10) [ true ↦ Some (record { value = n; rest = bytes }) | false ↦ None ]
number_from (suc k) n (b ∷ bytes) =
    elim (eqb b 10) [
      | true ↦ Some (record { value = n; rest = bytes })
      | false ↦ elim (leb 48 b && leb b 57) [ true ↦ number_from k (10 * n + (b - 48)) bytes | false ↦ None ]
    ]

-- a first digit from 1 to 9, then up to 7 more
unfoldable pub number : List ℕ → Option Number
number [] = None
number (b ∷ bytes) = elim (leb 49 b && leb b 57) [ true ↦ number_from 7 (b - 48) bytes | false ↦ None ]

unfoldable pub all_zero : List ℕ → Bool
all_zero [] = true
all_zero (b ∷ bytes) = eqb b 0 && all_zero bytes

abbrev pub then_bytes : Option (List ℕ) → (List ℕ → Option Label) → Option Label
then_bytes None f = None
then_bytes (Some bytes) f = f bytes

abbrev pub then_number : Option Number → (ℕ → List ℕ → Option Label) → Option Label
then_number None f = None
then_number (Some n) f = f n.value n.rest

-- "within the limits, then zero bytes to the page's end"
abbrev pub legal_if : Bool → Label → Option Label
legal_if true l = Some l
legal_if false l = None

-- the label that a page is, if it is one
unfoldable pub decode_label : List ℕ → Option Label
decode_label page =
    then_bytes (after cache_line page) λ bytes.
    then_bytes (after layout_line bytes) λ bytes.
    then_bytes (after slots_key bytes) λ bytes.
    then_number (number bytes) λ slots bytes.
    then_bytes (after blocks_key bytes) λ bytes.
    then_number (number bytes) λ blocks bytes.
    legal_if (within_limits (label_of slots blocks) && all_zero bytes) (label_of slots blocks)
