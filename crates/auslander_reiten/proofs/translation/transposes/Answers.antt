-- By the cokernel of the transposed of d.
use Rattle.auslander_reiten.proofs.Translates.{transpose_exists, transpose_by, transposed_cokernel_module, transposed_cokernel_size}
use Rattle.auslander_reiten.proofs.TranslateUnique.{transposes_isomorphic}
use Rattle.auslander_reiten.proofs.translation.transposes.Goals as goal

pub returns-clause-exists : goal.returns-clause-exists
returns-clause-exists c = λ q A T M m. transpose_exists T M m

pub returns-clause-by_each_presentation : goal.returns-clause-by_each_presentation
returns-clause-by_each_presentation c = λ q A T k v h u M d e p. transpose_by T k v h u M d e p

pub returns-clause-modules : goal.returns-clause-modules
returns-clause-modules c = λ q A T k v h u M d e N r t. transposed_cokernel_module T k v h u d r t.cokernel

pub returns-clause-sizes : goal.returns-clause-sizes
returns-clause-sizes c = λ q A T k v h u M d e N r t w. transposed_cokernel_size T k v h u d r t.cokernel w

pub returns-clause-once : goal.returns-clause-once
returns-clause-once f = λ q A T k v h u l w m z M d c e b N N' p r s t. transposes_isomorphic T l w m z k v h u M e b d c r p t s
