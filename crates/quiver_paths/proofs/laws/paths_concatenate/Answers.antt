use Rattle.quiver_paths.proofs.PathLemmas.{IsPath-concat, path_length-concat, concat_assoc, concat-trivial_left, concat-trivial_right}
use Rattle.quiver_paths.proofs.laws.paths_concatenate.Goals as goal

pub returns : goal.returns
returns c =
    record {
      path = IsPath-concat;
      lengths = path_length-concat;
      associative = concat_assoc;
      trivial_before = concat-trivial_left;
      trivial_behind = concat-trivial_right;
    }
