-- The cost of an import for C, by words that are no record and by words that are one.
use Prim.Native.Nat.{ℕ}
use mathlib.Core.Path.{◌≡◌, sym, ap, ◌∙◌}
use mathlib.Core.Bool.{true, false}
use mathlib.Core.List.{List, []}
use Rattle.record.specs.declared.Record.{Record}
use Rattle.protocol.specs.declared.Cost.{Cost}
use Rattle.std.specs.Prelude.{Err}
use Rattle.std.specs.Prelude.{Result as OrRefused}
use Rattle.protocol.specs.declared.Refusal.{Refusal}
use Rattle.protocol.specs.declared.Refusal.TheVariants.{BadRecord}
use Rattle.protocol.specs.Cost.{CostLeft, cost_of}
use Rattle.c_record.specs.Words.{unpacked, is_record}
use Rattle.c_closing.specs.Counts.{CostNumbers, CCost, cost_after}
use Rattle.ferjulm.specs.Cost.{c_cost}

module _ (ssd hdd table words blocks : List ℕ) (caller : ℕ) (scratch : List ℕ) (before : CostNumbers) where
  pub no_cost : is_record words ≡ false → cost_after (Err BadRecord) scratch before ≡ c_cost ssd hdd table words blocks caller scratch before
  unfolding c_cost
  no_cost h = rw h

  -- what was handed out of an answer, with the scratch table that it came with
  pub on_cost : (r : Record) (answer : OrRefused Cost Refusal) (after : List ℕ) (z : CCost) → is_record words ≡ true → r ≡ unpacked words
      → record { answer = answer; scratch = after } ≡ cost_of ssd hdd table r blocks caller scratch → z ≡ cost_after answer [] before
      → record { code = z.code; scratch = after; numbers = z.numbers } ≡ c_cost ssd hdd table words blocks caller scratch before
  unfolding c_cost
  on_cost r answer after z h e p q =
      rw h ((λ i. record { code = (q i).code; scratch = after; numbers = (q i).numbers })
      ∙ ap (λ (c : CostLeft). cost_after c.answer c.scratch before) (p ∙ ap (λ (s : Record). cost_of ssd hdd table s blocks caller scratch) e))
