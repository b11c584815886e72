-- By the kernel, cleared at the pivots.
use Rattle.projectives.proofs.BasisModulo.{canonical, canonical_basis, canonical_reduced, basis_unique, basis_size, basis_by_size}
use Rattle.projectives.proofs.extension_bases.bases_modulo.Goals as goal

pub returns-clause-exists : goal.returns-clause-exists
returns-clause-exists c = λ q m n l C D z. (_, canonical C D z, canonical_basis C D z, canonical_reduced C D z)

pub returns-clause-once : goal.returns-clause-once
returns-clause-once c = λ q m n l e f C D E F b r d s. basis_unique C D E F b r d s

pub returns-clause-size : goal.returns-clause-size
returns-clause-size c = λ q m n l e C D z E b r. basis_size C D z E b.kills r b

pub returns-clause-by_size : goal.returns-clause-by_size
returns-clause-by_size c = λ q m n l e C D z E k r s. basis_by_size C D z E k r s
