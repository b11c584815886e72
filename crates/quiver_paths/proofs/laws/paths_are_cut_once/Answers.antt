use Rattle.quiver_paths.proofs.PathLemmas.{cut, cut_once, begins_with_arrow, ends_with_arrow}
use Rattle.quiver_paths.proofs.laws.paths_are_cut_once.Goals as goal

pub returns : goal.returns
returns c = record { cut = cut; once = cut_once; first = begins_with_arrow; last = ends_with_arrow }
