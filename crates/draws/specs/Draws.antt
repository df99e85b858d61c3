-- The draws of a load (document 02, N10).
use Rattle.std.specs.Prelude.{ℕ, zero, suc, ◌*◌, ◌/◌, ◌%◌, ◌^◌, List, [], ◌++◌}
use Rattle.std.specs.Int.Bits.{bit_xor}
use Rattle.pages.specs.Words.{le_bytes}
use Rattle.layout.specs.declared.Block.{Block}
use Rattle.draws.specs.declared.Kind.{Kind}
use Rattle.draws.specs.declared.Kind.TheVariants.{Write, Fetch, LookUp, Flush}

-- "State s is 32 bits": shifted left it is "cut to 32 bits"
abbrev pub left : ℕ → ℕ → ℕ
left k s = (s * 2 ^ k) % 2 ^ 32

abbrev pub right : ℕ → ℕ → ℕ
right k s = s / 2 ^ k

-- "each draw does s = s xor (s shifted left 13), s = s xor (s shifted right 17), s = s xor (s shifted left 5)"
abbrev pub first : ℕ → ℕ
first s = bit_xor s (left 13 s)

abbrev pub second : ℕ → ℕ
second s = bit_xor s (right 17 s)

abbrev pub third : ℕ → ℕ
third s = bit_xor s (left 5 s)

unfoldable pub drawn : ℕ → ℕ
drawn s = third (second (first s))

-- "The draw modulo 4 picks write, fetch, look-up or flush (0 to 3)"
abbrev pub kind_at : ℕ → Kind
kind_at zero = Write
kind_at (suc zero) = Fetch
kind_at (suc (suc zero)) = LookUp
kind_at (suc (suc (suc n))) = Flush

abbrev pub kind_of : ℕ → Kind
kind_of s = kind_at (s % 4)

-- "draw / 4 modulo blocks is the block": P1's box has 8
abbrev pub block_of : ℕ → Block
block_of s = record { 0 = s / 4 % 8 }

-- n times the same bytes
unfoldable pub copies : ℕ → List ℕ → List ℕ
copies zero w = []
copies (suc n) w = copies n w ++ w

-- "A landed page is the draw's 4 bytes, little-endian, repeated"
unfoldable pub draw_page : ℕ → List ℕ
draw_page s = copies 1024 (le_bytes 4 s)
