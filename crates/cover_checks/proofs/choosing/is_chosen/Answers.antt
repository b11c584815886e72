use Rattle.std.proofs.Common.{arith}
use Rattle.cover_checks.proofs.ChosenTerms.{chosen_more}
use Rattle.cover_checks.proofs.choosing.is_chosen.Goals as goal

pub loop-k-init : goal.loop-k-init
loop-k-init c = λ t i l. absurd (omega arith)

pub loop-k-preserved : goal.loop-k-preserved
loop-k-preserved c = λ t. chosen_more c.args.table.now.header c.args.table.now.words t c.args.a.now c.args.terms.now c.loop-k.k (c.loop-k.invariant t) (c.if-not-is_term_chosen.ensures t)

pub returns-then-not-is_term_chosen : goal.returns-then-not-is_term_chosen
returns-then-not-is_term_chosen c = λ t e. c.if-not-is_term_chosen.ensures t (e c.loop-k.k (omega arith))

pub returns : goal.returns
returns c = λ t k l. c.loop-k.invariant t k (omega arith)
