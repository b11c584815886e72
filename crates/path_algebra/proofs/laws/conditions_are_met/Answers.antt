use Rattle.path_algebra.proofs.ClausesNecessary.{meets_clauses}
use Rattle.path_algebra.proofs.laws.conditions_are_met.Goals as goal

pub returns : goal.returns
returns c = meets_clauses
