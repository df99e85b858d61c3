-- What a load comes to, and its text.
use Prim.Native.Nat.{ℕ}
use mathlib.Core.Path.{◌≡◌, sym, ap, ◌∙◌}
use mathlib.Core.List.{List}
use lib.ListN.{replicate}
use Rattle.protocol.specs.Box.{Box}
use Rattle.protocol.specs.Events.{formatted}
use Rattle.fields.specs.Fields.{refusal_text}
use Rattle.load_input.specs.declared.Input.{Input}
use Rattle.std.specs.Prelude.{Option, None}
use Rattle.load_input.specs.LoadInput.{input_of, taken}
use Rattle.load_run.specs.Runs.{blank, Load, run_from, equal_to}
use Rattle.load_text.specs.declared.Counts.{Counts}
use Rattle.load_text.specs.LoadText.{load_text}
use Rattle.workload.specs.Workload.{counts_of, text_by, workload_of}

pub counts_are : (seed draws : ℕ) (x : Box) (l : Load) (e : ℕ) → x ≡ formatted 4 8 blank
    → l ≡ run_from draws seed (record { box = x; plain = replicate 32768 0; refusals = 0 }) → e ≡ equal_to 8 l.box l.plain
    → record { refusals = l.refusals; equal = e } ≡ counts_of seed draws
unfolding counts_of
counts_are seed draws x l e p q r =
    ap (λ (n : ℕ). record { refusals = l.refusals; equal = n }) r
    ∙ ap (λ (m : Load). record { refusals = m.refusals; equal = equal_to 8 m.box m.plain })
    (q ∙ ap (λ (y : Box). run_from draws seed (record { box = y; plain = replicate 32768 0; refusals = 0 })) p)

module _ (bytes : List ℕ) (i : Option Input) (e : i ≡ input_of bytes) where
  pub refused-text : i ≡ None → refusal_text 19 ≡ workload_of bytes
  unfolding workload_of
  refused-text h = ap text_by (sym h ∙ e)

  pub load_text_is : (seed draws : ℕ) (c : Counts) → i ≡ taken seed draws → c ≡ counts_of seed draws → load_text seed draws c ≡ workload_of bytes
  unfolding workload_of
  load_text_is seed draws c h q = ap (load_text seed draws) q ∙ ap text_by (sym h ∙ e)
