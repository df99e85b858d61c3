-- What an import's cost leaves of the numbers that are lent, and its result code.
use Rattle.std.specs.Prelude.{ℕ, List}
use Rattle.std.specs.Prelude.{Result, Ok, Err}
use Rattle.protocol.specs.declared.Refusal.{Refusal}
use Rattle.protocol.specs.Judge.{number_of}
use Rattle.protocol.specs.declared.Cost.{Cost}
use Rattle.protocol.specs.declared.Cost.TheVariants.{Counted, Met}

-- the lent numbers: copy-outs, metadata stores and data stores, and the number and the place of the refusal met
pub record CostNumbers : Type 0 where
  pub copies : ℕ
  pub metadata : ℕ
  pub landings : ℕ
  pub number : ℕ
  pub place : ℕ

pub record CCost : Type 0 where
  pub code : ℕ
  pub scratch : List ℕ
  pub numbers : CostNumbers

-- 0, or 113 where the run meets a refusal; a refusal of the question is its number
abbrev pub cost_code : Result Cost Refusal → ℕ
cost_code (Err r) = number_of r
cost_code (Ok (Counted counts)) = 0
cost_code (Ok (Met n place counts)) = 113

-- "0: the three counts set, number and place untouched; 113: all five set; a refusal: none"
abbrev pub numbers_after : Result Cost Refusal → CostNumbers → CostNumbers
numbers_after (Err r) before = before
numbers_after (Ok (Counted counts)) before = record {
  copies = counts.copies;
  metadata = counts.metadata;
  landings = counts.landings;
  number = before.number;
  place = before.place;
}
numbers_after (Ok (Met n place counts)) before = record {
  copies = counts.copies;
  metadata = counts.metadata;
  landings = counts.landings;
  number = n;
  place = place;
}

abbrev pub cost_after : Result Cost Refusal → List ℕ → CostNumbers → CCost
cost_after answer scratch before = record { code = cost_code answer; scratch = scratch; numbers = numbers_after answer before }
