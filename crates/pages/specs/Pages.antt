-- Images as pages of 4,096 bytes (document 01, "The two images": "A page is 4,096 bytes").
use Rattle.std.specs.Prelude.{ℕ, ◌+◌, ◌-◌, ◌*◌, ◌≤◌, ◌<◌, ◌≡◌, List, ◌++◌, length, get_or, take, drop, replicate}

-- an image is a list of bytes; page i of it
unfoldable pub page_at : List ℕ → ℕ → List ℕ
page_at image i = take 4096 (drop (4096 * i) image)

-- the image with its page i replaced
unfoldable pub put_page : List ℕ → ℕ → List ℕ → List ℕ
put_page image i page = take (4096 * i) image ++ (page ++ drop 4096 (drop (4096 * i) image))

-- 4,096 zero bytes
unfoldable pub zero_page : List ℕ
zero_page = replicate 4096 0

-- a list with zeros after it up to n elements
unfoldable pub padded : ℕ → List ℕ → List ℕ
padded n l = l ++ replicate (n - length l) 0

-- page i lies within the image
abbrev pub Holds : List ℕ → ℕ → Type 0
Holds image i = 4096 * i + 4096 ≤ length image

-- 4,096 numbers, each a byte
pub record IsPage (page : List ℕ) : Type 0 where
  pub size : length page ≡ 4096
  pub bytes : (k : ℕ) → get_or page k 0 < 256

-- page i of the image `before` was cleared, and `after` came of it: the zero page stands there, and so each of its bytes
-- is zero (get_or gives 1 past the end of a list, where no byte is)
pub record Cleared (before after : List ℕ) (i : ℕ) : Type 0 where
  pub stored : after ≡ put_page before i zero_page
  pub every : (k : ℕ) → k < 4096 → get_or after (4096 * i + k) 1 ≡ 0
