use Rattle.path_basis.specs.Completing.{IsObstruction}
use Rattle.path_basis.proofs.Taken.{popped, left}
use Rattle.path_basis.proofs.obstructions.pop_least.Goals as goal

pub returns-clause-taken : goal.returns-clause-taken
returns-clause-taken c h all = popped (IsObstruction h) _ _ c.pop.result c.pop.ensures.permutation all

pub returns-clause-others : goal.returns-clause-others
returns-clause-others c h all = left _ (IsObstruction h) _ _ c.pop.result c.pop.ensures.permutation c.pop.ensures.unchanged all
