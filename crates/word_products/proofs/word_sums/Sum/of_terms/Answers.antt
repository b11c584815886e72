use Rattle.word_products.proofs.TermSums.{sum_begun, sum_step}
use Rattle.word_products.proofs.word_sums.Sum.of_terms.Goals as goal

pub loop-term-init : goal.loop-term-init
loop-term-init c = sum_begun _ c.args.rows.now.rows c.args.arrows c.args.bound c.args.like.now c.args.place c.clear.new.self _ _ c.clear.ensures

pub loop-term-preserved : goal.loop-term-preserved
loop-term-preserved c = sum_step c.clear.new.self.field c.args.rows.now.rows c.args.arrows c.args.bound c.args.like.now c.args.place c.args.terms.now c.loop-term.term-index c.term-item.result
    c.clear.new.self.width c.loop-term.self c.add_term.new.self c.loop-term-test.true c.term-item.is c.loop-term.invariant c.in_ok-add_term.ensures
