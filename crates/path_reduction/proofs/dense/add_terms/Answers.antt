use Rattle.path_reduction.proofs.DenseSteps.{holds_none, holds_more}
use Rattle.path_reduction.proofs.dense.add_terms.Goals as goal

pub loop-term-init : goal.loop-term-init
loop-term-init c = holds_none c.args.header.now c.args.space.now c.args.coefs.now c.requires.row c.requires.none

pub loop-term-preserved : goal.loop-term-preserved
loop-term-preserved c = holds_more c.args.header.now c.args.space.now c.args.terms.now c.loop-term.term-index c.place-place.result c.term-item.result c.loop-term.coefs c.add_at.new.coefs c.loop-term-test.true
    c.term-item.is c.place-place.ensures.inside c.place-place.ensures.there c.add_at.ensures c.loop-term.invariant
