-- What a load comes to, counted and as lines (document 02, N10).
use Rattle.std.specs.Prelude.{ℕ, ◌+◌, Bool, true, false, List, [], ◌∷◌, ◌++◌}
use Rattle.fields.specs.Fields.{field}
use Rattle.load_text.specs.declared.Counts.{Counts}

-- "a refusal is counted and the run goes on"
abbrev pub counted : Bool → ℕ → ℕ
counted true n = n + 1
counted false n = n

-- The keys `seed=`, `draws=`, `refusals=`, `equal=`.
abbrev pub seed_key : List ℕ
seed_key = 115 ∷ 101 ∷ 101 ∷ 100 ∷ 61 ∷ []

abbrev pub draws_key : List ℕ
draws_key = 100 ∷ 114 ∷ 97 ∷ 119 ∷ 115 ∷ 61 ∷ []

abbrev pub refusals_key : List ℕ
refusals_key = 114 ∷ 101 ∷ 102 ∷ 117 ∷ 115 ∷ 97 ∷ 108 ∷ 115 ∷ 61 ∷ []

abbrev pub equal_key : List ℕ
equal_key = 101 ∷ 113 ∷ 117 ∷ 97 ∷ 108 ∷ 61 ∷ []

-- "seed, draws, refusals and equal as key=value lines"
unfoldable pub load_text : ℕ → ℕ → Counts → List ℕ
load_text seed draws c =
    field seed_key seed 10 ++ (field draws_key draws 10 ++ (field refusals_key c.refusals 10 ++ field equal_key c.equal 10))
