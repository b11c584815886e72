use Rattle.quiver_paths.proofs.PathLemmas.{IsPath-factor, IsFactor-itself, IsFactor-trans}
use Rattle.quiver_paths.proofs.laws.factors_are_paths.Goals as goal

pub returns : goal.returns
returns c = record { path = IsPath-factor; itself = IsFactor-itself; transitive = IsFactor-trans }
