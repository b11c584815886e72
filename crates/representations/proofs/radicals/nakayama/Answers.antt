-- By the powers of the radical; the second by the cokernel.
use Rattle.representations.proofs.Radical.{nakayama_zero, nakayama as reached_all}
use Rattle.representations.proofs.radicals.nakayama.Goals as goal

pub returns-clause-zero : goal.returns-clause-zero
returns-clause-zero c = λ q A X M h. nakayama_zero A M h

pub returns-clause-surjective : goal.returns-clause-surjective
returns-clause-surjective c = λ q A X Y M f h. reached_all A M f h
