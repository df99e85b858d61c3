-- Lines of a key and a number: what the listing and the load print.
use Rattle.std.specs.Prelude.{ℕ, List, [], ◌∷◌, ◌++◌}
use Rattle.layout.specs.LabelPage.{decimal}

-- a key, a number in decimal, and the byte after it: 10 ends a line, 32 a part of one
unfoldable pub field : List ℕ → ℕ → ℕ → List ℕ
field key n last = key ++ (decimal n ++ (last ∷ []))

-- `refused=`
abbrev pub refused_key : List ℕ
refused_key = 114 ∷ 101 ∷ 102 ∷ 117 ∷ 115 ∷ 101 ∷ 100 ∷ 61 ∷ []

-- "A refusal prints only `refused=N`" (document 01); "`refused=19` alone" (document 02, N10)
abbrev pub refusal_text : ℕ → List ℕ
refusal_text n = field refused_key n 10
