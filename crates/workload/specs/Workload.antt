-- The text that a load prints, for any input (document 02, N10: "The program prints seed, draws, refusals and equal as key=value lines").
use Rattle.std.specs.Prelude.{ℕ, List, Option, Some, None}
use Rattle.fields.specs.Fields.{refusal_text}
use Rattle.load_input.specs.declared.Input.{Input}
use Rattle.load_input.specs.LoadInput.{input_of}
use Rattle.load_run.specs.Runs.{begun, run_from, equal_to}
use Rattle.load_text.specs.declared.Counts.{Counts}
use Rattle.load_text.specs.LoadText.{load_text}

-- the draws that were refused, and the blocks that read as on the plain disk after the run
unfoldable pub counts_of : ℕ → ℕ → Counts
counts_of seed draws = let l = run_from draws seed begun in record { refusals = l.refusals; equal = equal_to 8 l.box l.plain }

-- "It refuses with 19 (`refused=19` alone), before any store"
abbrev pub text_by : Option Input → List ℕ
text_by None = refusal_text 19
text_by (Some i) = load_text i.seed i.draws (counts_of i.seed i.draws)

unfoldable pub workload_of : List ℕ → List ℕ
workload_of input = text_by (input_of input)
