use Rattle.std.proofs.Common.{rules, ◌≡◌, eqb, take}
use mathlib.Core.Path.{sym, ◌∙◌}
use Rattle.std.specs.Prelude.{count_by}
use Rattle.record.proofs.CallerLaws.{by_count}
use Rattle.record.proofs.window.open_by_import.Goals as goal

pub returns : goal.returns
returns c =
    let e : c.count.result ≡ count_by (λ x. eqb x 1) (take c.args.count c.args.callers) = search rules in
    e ∙ sym (by_count 1 (take c.args.count c.args.callers))
