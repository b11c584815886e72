use Rattle.path_reduction.proofs.Walks.{walk_on_none}
use Rattle.path_reduction.proofs.short_paths.ShortPaths.walk_on.Goals as goal

pub returns-in-Some-clause-none : goal.returns-in-Some-clause-none
returns-in-Some-clause-none c = walk_on_none c.args.self.now c.args.place c.in-Some.at c.args.first.now c.args.second.now c.walk-in-Some.result c.in-Some.ensures.some c.walk-in-Some.ensures.none
