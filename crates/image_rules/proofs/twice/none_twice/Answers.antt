use Rattle.std.proofs.Common.{◌≡◌, ◌∙◌, sym, ◌+◌, ◌*◌, arith}
use Rattle.std.proofs.lemmas.Grind.{div_ceil_times}
use Rattle.laws.proofs.refine.Metas.{length_metas}
use Rattle.protocol.specs.Recovery.{metas_of, stored_rows}
use Rattle.image_rules.proofs.TwiceLaws.{once_none, once_more, found_twice, once-all}
use Rattle.image_rules.proofs.twice.none_twice.Goals as goal

pub loop-k-init : goal.loop-k-init
loop-k-init c = once_none _

pub returns-then-not-range_once : goal.returns-then-not-range_once
returns-then-not-range_once c = found_twice _ _ (sym c.range_once.ensures ∙ c.if-not-range_once.true)

pub loop-k-preserved : goal.loop-k-preserved
loop-k-preserved c =
    let k = c.loop-k.k in
    let rows = stored_rows c.args.l (metas_of c.args.l c.args.ssd.now) in
    let e : 524288 * k + 524288 ≡ 524288 * (k + 1) = omega arith in
    rw e at (once_more (524288 * k) rows c.loop-k.invariant (sym c.range_once.ensures ∙ c.if-not-range_once.false))

pub returns : goal.returns
returns c =
    let k = c.loop-k.k in
    once-all c.args.l (metas_of c.args.l c.args.ssd.now) (524288 * k) (length_metas _ _) c.requires.ssd_value
    (omega (arith, c.div_ceil-ranges.ensures, div_ceil_times c.args.l.blocks 524288 (omega arith))) c.loop-k.invariant
