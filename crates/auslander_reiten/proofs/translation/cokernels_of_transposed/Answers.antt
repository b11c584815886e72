-- By the cokernel with its co-reduced projection.
use Rattle.auslander_reiten.proofs.Translates.{transposed_cokernel, reduced_cokernel_once, transposed_cokernel_module, transposed_cokernel_size}
use Rattle.auslander_reiten.proofs.translation.cokernels_of_transposed.Goals as goal

pub returns-clause-exists : goal.returns-clause-exists
returns-clause-exists c = λ q A T k v h u d. transposed_cokernel T k v h u d

pub returns-clause-once : goal.returns-clause-once
returns-clause-once c = λ q Q X Y N N' f p r a s b t w. reduced_cokernel_once f p r a s b t w

pub returns-clause-modules : goal.returns-clause-modules
returns-clause-modules c = λ q A T k v h u d N p t. transposed_cokernel_module T k v h u d p t

pub returns-clause-sizes : goal.returns-clause-sizes
returns-clause-sizes c = λ q A T k v h u d N p t w. transposed_cokernel_size T k v h u d p t w
