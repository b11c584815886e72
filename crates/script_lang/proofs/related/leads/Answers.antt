use Rattle.std.proofs.Common.{sym, true≢false, arith}
use Rattle.script_lang.proofs.PlaceLaws.{leads_other, leads_next, both_ways}
use Rattle.script_lang.proofs.related.leads.Goals as goal

pub returns-then-arrow-at : goal.returns-then-arrow-at
returns-then-arrow-at c = (
  λ f. absurd (true≢false (sym f)),
  λ all. absurd (leads_other c.args.quiver.now c.loop-place.at c.args.end c.args.arrows.now c.loop-place.place-index c.index-arrow.result.now c.loop-place-test.true c.index-arrow.ensures c.if-arrow-at.true (c.loop-place.invariant.1 all)),
)

pub loop-place-preserved : goal.loop-place-preserved
loop-place-preserved c =
    both_ways (leads_next c.args.quiver.now c.loop-place.at c.args.end c.args.arrows.now c.loop-place.place-index c.index-arrow.result.now c.loop-place-test.true (omega arith) c.index-arrow.ensures c.if-arrow-at.false)
    c.loop-place.invariant
