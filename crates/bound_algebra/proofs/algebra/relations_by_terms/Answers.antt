use Rattle.bound_algebra.proofs.Relations.{relation_is}
use Rattle.bound_algebra.proofs.algebra.relations_by_terms.Goals as goal

pub returns-clause-count : goal.returns-clause-count
returns-clause-count c = λ h ok i l. (relation_is h ok i l).count

pub returns-clause-coefficient : goal.returns-clause-coefficient
returns-clause-coefficient c = λ h ok i l k m. (relation_is h ok i l).coefficient k m

pub returns-clause-path : goal.returns-clause-path
returns-clause-path c = λ h ok i l k m. (relation_is h ok i l).path k m
