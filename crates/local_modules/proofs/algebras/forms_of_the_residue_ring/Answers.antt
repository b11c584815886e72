use Rattle.local_modules.proofs.ResidueConditions.{commutes_residue, listed_residue}
use Rattle.local_modules.proofs.ResidueRanks.{frobenius_injective_rank, frobenius_line_rank, frobenius_of_ranks, listed_of_units}
use Rattle.local_modules.proofs.algebras.forms_of_the_residue_ring.Goals as goal

pub returns-clause-commutative : goal.returns-clause-commutative
returns-clause-commutative c = λ q A k I R h. commutes_residue A I R h.commutative

pub returns-clause-injective : goal.returns-clause-injective
returns-clause-injective c = λ q A k I R. frobenius_injective_rank A I R

pub returns-clause-line : goal.returns-clause-line
returns-clause-line c = λ q A k I R. frobenius_line_rank A I R

pub returns-clause-frobenius : goal.returns-clause-frobenius
returns-clause-frobenius c = λ q A k I R. frobenius_of_ranks A I R

pub returns-clause-units : goal.returns-clause-units
returns-clause-units c = λ q A k I R d. listed_residue A I R d

pub returns-clause-listed : goal.returns-clause-listed
returns-clause-listed c = λ q A k I R. listed_of_units A I R
