-- The arrows that end at a vertex, one over the other.
use Rattle.representations.proofs.RadicalModule.{radical_in_basis, basis_in_radical}
use Rattle.representations.proofs.radicals.radical_module.Goals as goal

pub returns-clause-has : goal.returns-clause-has
returns-clause-has c = λ q Q X w x r. radical_in_basis r

pub returns-clause-is_had : goal.returns-clause-is_had
returns-clause-is_had c = λ q Q X w x s. basis_in_radical x s
