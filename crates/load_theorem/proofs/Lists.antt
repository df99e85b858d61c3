-- Worlds that the lists of demand 3 reach from P1's box, one event more at a time.
use Prim.Native.Nat.{ℕ}
use mathlib.Core.Path.{◌≡◌, refl, sym, ap, subst, ◌∙◌}
use mathlib.Core.Bool.{false}
use mathlib.Core.List.{List, [], ◌∷◌, ◌++◌}
use Rattle.std.specs.Prelude.{None}
use lib.ListN.{length, replicate, length-replicate}
use Rattle.layout.specs.declared.Label.{Label}
use Rattle.layout.specs.Places.{label_of, within_limits, meta_pages, meta_span, ssd_length}
use Rattle.protocol.specs.Reply.{refused}
use Rattle.protocol.specs.Box.{Result}
use Rattle.protocol.specs.Plan.{format}
use Rattle.protocol.specs.Judge.{lengths_test}
use Rattle.protocol.specs.Calls.{result_of}
use Rattle.protocol.specs.Events.{World, Event, apply, run, formatted, start_of, Fits, AllFit}
use Rattle.protocol.specs.Demand3.{Safe}
use Rattle.maintenance.specs.Format.{format_refusal}
use Rattle.maintenance.proofs.FormatLaws.{format-begins}
use Rattle.theorem.proofs.Demand3.{demand3}
use Rattle.load_run.specs.Runs.{blank_record, blank}

abbrev pub p1 : Label
p1 = label_of 4 8

-- P1's format is not refused
abbrev zeros : ℕ → List ℕ
zeros n = replicate n 0

blank-free : None ≡ format_refusal p1 (length (zeros 24576)) (length (zeros 32768)) (length (zeros 8))
unfolding within_limits lengths_test ssd_length meta_span meta_pages
blank-free =
    let a : 24576 ≡ length (zeros 24576) = sym (length-replicate {A = ℕ} 24576 0) in
    let b : 32768 ≡ length (zeros 32768) = sym (length-replicate {A = ℕ} 32768 0) in
    λ i. format_refusal p1 (a i) (b i) 8

pub blank-taken : refused (result_of (format 4 8) blank).said ≡ false
unfolding blank
blank-taken =
    sym (ap (λ (r : Result). refused r.said)
    (format-begins (zeros 24576) (zeros 32768) (zeros 8) blank_record 4 8 p1 refl (sym blank-free)))

abbrev pub start : World
start = start_of p1 (formatted 4 8 blank)

-- a list of demand 3 that leads to a world
pub record Reached (w : World) : Type 0 where
  pub events : List Event
  pub fit : AllFit events start
  pub leads : run events start ≡ w

run_last : (es : List Event) (e : Event) (w : World) → run (es ++ (e ∷ [])) w ≡ apply e (run es w)
unfolding run
run_last [] e w = refl
run_last (d ∷ es) e w = run_last es e (apply d w)

fit_last : (es : List Event) (e : Event) (w : World) → AllFit es w → Fits e (run es w) → AllFit (es ++ (e ∷ [])) w
unfolding run
fit_last [] e w f g = (g, tt)
fit_last (d ∷ es) e w f g = (f.0, fit_last es e (apply d w) f.1 g)

pub one_more : {w : World} (e : Event) → Fits e w → Reached w → Reached (apply e w)
one_more {w = w} e f r = record {
  events = r.events ++ (e ∷ []);
  fit = fit_last r.events e start r.fit (subst (Fits e) (sym r.leads) f);
  leads = run_last r.events e start ∙ ap (apply e) r.leads;
}

-- what demand 3 says of it
pub reached_safe : {w : World} → Reached w → Safe p1 w
reached_safe r = subst (Safe p1) r.leads (demand3 4 8 blank blank-taken r.events r.fit)
