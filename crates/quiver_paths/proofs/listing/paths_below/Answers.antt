use Rattle.std.proofs.Common.{sym, subst, List}
use Rattle.quiver_paths.specs.declared.Path.{Path}
use Rattle.quiver_paths.specs.PathList.{ListsPathsBelow}
use Rattle.quiver_paths.proofs.PathListLemmas.{lists_paths_below}
use Rattle.quiver_paths.proofs.listing.paths_below.Goals as goal

pub returns-clause-listed : goal.returns-clause-listed
returns-clause-listed c =
    let Q = c.args.quiver.now in
    let t = c.args.t in
    subst (λ (ps : List Path). ListsPathsBelow Q t ps) (sym c.in_ok-paths.ensures) (lists_paths_below Q c.requires.quiver.ends t)
