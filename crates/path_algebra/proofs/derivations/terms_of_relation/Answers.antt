use Rattle.path_algebra.proofs.Derived.{one_term_more}
use Rattle.path_algebra.proofs.derivations.terms_of_relation.Goals as goal

pub loop-term-preserved : goal.loop-term-preserved
loop-term-preserved c = one_term_more c.args.header.now c.as_slice-term-items.result.now c.loop-term.term-index c.term-item.result c.loop-term.sum.items c.in_ok-sum.sum.items
    c.loop-term-test.true c.term-item.is c.loop-term.invariant c.in_ok-sum.ensures
