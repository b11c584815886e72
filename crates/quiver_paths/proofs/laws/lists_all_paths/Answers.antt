use Rattle.quiver_paths.proofs.PathListLemmas.{lists_paths_below, lists_paths_once}
use Rattle.quiver_paths.proofs.laws.lists_all_paths.Goals as goal

pub returns : goal.returns
returns c = record { lists = λ Q t e. lists_paths_below Q e t; once = lists_paths_once }
