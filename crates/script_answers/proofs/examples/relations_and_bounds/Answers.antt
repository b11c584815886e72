use Rattle.script_answers.proofs.Loops.{relation_one, bound_one, long_terms, bound_zero}
use Rattle.script_answers.proofs.examples.relations_and_bounds.Goals as goal

pub returns-clause-relations : goal.returns-clause-relations
returns-clause-relations c = relation_one

pub returns-clause-bounds : goal.returns-clause-bounds
returns-clause-bounds c = (bound_one, long_terms, bound_zero)
