use Rattle.local_modules.proofs.SpanAlgebra.{matrix_algebra_of_span}
use Rattle.local_modules.proofs.Endomorphisms.{iso_of_unit, nilpotent_member, nilpotent_of_member}
use Rattle.local_modules.proofs.certificates.matrix_algebras.Goals as goal

pub returns-clause-of_span : goal.returns-clause-of_span
returns-clause-of_span c = λ q Q X m h s. matrix_algebra_of_span m h s

pub returns-clause-invertible : goal.returns-clause-invertible
returns-clause-invertible c = λ q Q X M. iso_of_unit M

pub returns-clause-nilpotent : goal.returns-clause-nilpotent
returns-clause-nilpotent c = λ q Q X M. nilpotent_member M

pub returns-clause-nilpotent_back : goal.returns-clause-nilpotent_back
returns-clause-nilpotent_back c = λ q Q X M. nilpotent_of_member M
