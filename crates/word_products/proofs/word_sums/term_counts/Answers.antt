use Rattle.word_products.proofs.TermSums.{counts-met, counts-apart, counts-long}
use Rattle.word_products.proofs.word_sums.term_counts.Goals as goal
use Rattle.std.proofs.Common.{arith}

pub returns-then-term-like : goal.returns-then-term-like
returns-then-term-like c = counts-met c.args.bound c.args.like.now c.args.term.now (omega (arith, c.len.ensures)) c.if-term-like.true

pub returns-else-term-like : goal.returns-else-term-like
returns-else-term-like c = counts-apart c.args.bound c.args.like.now c.args.term.now (omega (arith, c.len.ensures)) c.if-term-like.false

pub returns-else-len-bound : goal.returns-else-len-bound
returns-else-len-bound c = counts-long c.args.bound c.args.like.now c.args.term.now c.len.result c.len.ensures c.if-len-bound.false
