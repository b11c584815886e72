use Rattle.path_algebra.proofs.IdealLemmas.{IsInIdeal-add, IsInIdeal-mul, IsInIdeal_support, IsInIdeal-element}
use Rattle.path_algebra.proofs.laws.ideal_is_a_subspace.Goals as goal

pub returns-clause-sum : goal.returns-clause-sum
returns-clause-sum c = IsInIdeal-add

pub returns-clause-multiple : goal.returns-clause-multiple
returns-clause-multiple c = IsInIdeal-mul

pub returns-clause-support : goal.returns-clause-support
returns-clause-support c = IsInIdeal_support

pub returns-clause-elements : goal.returns-clause-elements
returns-clause-elements c = IsInIdeal-element
